-- Placements of sheets with the same tasks in other windows, and of mirrors.
use Rattle.std.proofs.Common.{◌≡◌, ℕ, ◌+◌, ◌-◌, ◌<◌, ◌≤◌, refl, ap, ◌∙◌, arith}
use Rattle.std.proofs.lemmas.List.{length-map, get_or-map}
use Rattle.std.proofs.lemmas.Bool.Decides.{nat_tests}
use Rattle.model.specs.declared.entries.Entry.{Entry}
use Rattle.model.specs.Total.{total}
use Rattle.model.specs.Sheets.{Sheet, SoundEntry, Sound, Placement, count, entry, blank, demand_at, horizon, mirror, mirror_entry, mirror_entries}
use Rattle.model.proofs.Sums.{total_ext, total_le}
use Rattle.model.proofs.Same.{same_entry, same_sheets}

-- The same tasks, place by place, whatever the windows.
pub record SameTasks (s u : Sheet) : Type 0 where
  pub capacity : u.capacity ≡ s.capacity
  pub places : count u ≡ count s
  pub duration : (k : ℕ) → k < count s → (entry u k).duration ≡ (entry s k).duration
  pub demand : (k : ℕ) → k < count s → (entry u k).demand ≡ (entry s k).demand

pub placed_in : (s u : Sheet) (start : ℕ → ℕ) → SameTasks s u → Placement s start →
    ((k : ℕ) → k < count s → (entry u k).release ≤ start k) → ((k : ℕ) → k < count s → start k + (entry s k).duration ≤ (entry u k).deadline) →
    Placement u start
placed_in s u start same p low high =
    record {
      released = λ k l. low k (rw (← same.places) l);
      in_time = λ k l. let l' : k < count s = rw (← same.places) l in omega (arith, high k l', same.duration k l');
      within = λ t h.
          rw (same.capacity, same.places)
          (let e : total (count s) (λ k. demand_at (start k) t (entry u k)) ≡ total (count s) (λ k. demand_at (start k) t (entry s k)) =
          total_ext (count s) _ _ (λ k l. rw (same.duration k l, same.demand k l) refl) in
          omega (arith, p.within t h));
    }

module _ (s : Sheet) where
  pub mirror_count : count (mirror s) ≡ count s
  unfolding mirror_entries
  mirror_count = length-map s.entries mirror_entry

  pub mirror_at : (k : ℕ) → k < count s → entry (mirror s) k ≡ mirror_entry (entry s k)
  unfolding mirror_entries
  mirror_at k l = get_or-map mirror_entry s.entries k blank blank l

pub mirror_sound : (s : Sheet) → Sound s → Sound (mirror s)
mirror_sound s sound =
    record {
      some_capacity = sound.some_capacity;
      small_capacity = sound.small_capacity;
      few = omega (arith, mirror_count s, sound.few);
      each = λ k l. let l' : k < count s = rw (← mirror_count s) l in
          let good = sound.each k l' in rw (mirror_at s k l') (omega arith);
    }

-- a task that runs from s runs backwards from the horizon - (s + p)
backwards : (e : Entry) (s t : ℕ) → s + e.duration ≤ horizon →
    demand_at (horizon - (s + e.duration)) t (mirror_entry e) ≤ demand_at s (4031 - t) e
backwards e s t l = grind (arith, nat_tests)

pub mirror_placement : (s : Sheet) → Sound s → (start : ℕ → ℕ) → Placement s start →
    Placement (mirror s) (λ k. horizon - (start k + (entry s k).duration))
mirror_placement s sound start p =
    record {
      released = λ k l. let l' : k < count s = rw (← mirror_count s) l in
          rw (mirror_at s k l') (omega (arith, p.in_time k l'));
      in_time = λ k l. let l' : k < count s = rw (← mirror_count s) l in
          rw (mirror_at s k l') (omega (arith, p.in_time k l', p.released k l', sound.each k l'));
      within = λ t h.
          rw (mirror_count s)
          (let e : total (count s) (λ k. demand_at (horizon - (start k + (entry s k).duration)) t (entry (mirror s) k)) ≤
          total (count s) (λ k. demand_at (start k) (4031 - t) (entry s k)) =
          total_le (count s) _ _ (λ k l. rw (mirror_at s k l) (backwards (entry s k) (start k) t (omega (arith, p.in_time k l, sound.each k l)))) in
          omega (arith, p.within (4031 - t) (omega arith)));
    }

-- seen twice from the other end, an entry is itself
pub mirror_entry_twice : (c : ℕ) (e : Entry) → SoundEntry c e → mirror_entry (mirror_entry e) ≡ e
mirror_entry_twice c e good = same_entry (mirror_entry (mirror_entry e)) e (omega arith) (omega arith) refl refl

pub mirror_twice : (s : Sheet) → Sound s → mirror (mirror s) ≡ s
mirror_twice s sound =
    same_sheets (mirror (mirror s)) s refl (mirror_count (mirror s) ∙ mirror_count s)
    (λ k l.
    let l1 : k < count (mirror s) = rw (← mirror_count (mirror s)) l in
    let l2 : k < count s = rw (← mirror_count s) l1 in
    mirror_at (mirror s) k l1 ∙ ap mirror_entry (mirror_at s k l2) ∙ mirror_entry_twice s.capacity (entry s k) (sound.each k l2))

-- the placements of the mirror, read backwards, are placements of the sheet
pub mirror_placement_back : (s : Sheet) → Sound s → (start : ℕ → ℕ) → Placement (mirror s) start →
    Placement s (λ k. horizon - (start k + (entry s k).duration))
mirror_placement_back s sound start p =
    let back = rw (mirror_twice s sound) at (mirror_placement (mirror s) (mirror_sound s sound) start p) in
    record {
      released = λ k l. let d = ap (λ (e : Entry). e.duration) (mirror_at s k l) in omega (arith, back.released k l);
      in_time = λ k l. let d = ap (λ (e : Entry). e.duration) (mirror_at s k l) in omega (arith, back.in_time k l);
      within = λ t h.
          let e : total (count s) (λ k. demand_at (horizon - (start k + (entry s k).duration)) t (entry s k)) ≡
          total (count s) (λ k. demand_at (horizon - (start k + (entry (mirror s) k).duration)) t (entry s k)) =
          total_ext (count s) _ _ (λ k l. rw (mirror_at s k l) refl) in
          omega (arith, back.within t h);
    }
