-- Sheets with one deadline cut: their entries place by place, their limits and their placements.
use Rattle.std.proofs.Common.{◌≡◌, ℕ, ◌+◌, ◌<◌, ◌≤◌, ◌&&◌, leb, ◌⊎◌, set, sym, refl, ap, ◌∙◌, inl, inr, arith}
use Rattle.std.proofs.lemmas.List.{length-set, get_or-set_same, get_or-set_other, set-get_or, set_past}
use Rattle.std.proofs.lemmas.Bool.{cases_lt, cases_eq, cond-true, cond-false, and_from, and_left, and_right, le-leb, lt-leb}
use Rattle.model.specs.declared.entries.Entry.{Entry}
use Rattle.model.specs.Sheets.{Sheet, SoundEntry, Sound, Placement, count, entry, blank, work, end_at, cut_entry, cut_entries, cut}
use Rattle.model.proofs.Mirrors.{SameTasks, placed_in}

-- ---- one entry
module _ (d : ℕ) (e : Entry) where
  pub cut_entry_inside : e.release + e.duration ≤ d → d ≤ e.deadline → cut_entry d e ≡ end_at d e
  cut_entry_inside low high =
      cond-true (leb (e.release + e.duration) d && leb d e.deadline) (end_at d e) e
      (and_from (leb (e.release + e.duration) d) (leb d e.deadline) (le-leb (e.release + e.duration) d low) (le-leb d e.deadline high))

  pub cut_entry_early : d < e.release + e.duration → cut_entry d e ≡ e
  cut_entry_early l =
      cond-false (leb (e.release + e.duration) d && leb d e.deadline) (end_at d e) e
      (and_left (leb (e.release + e.duration) d) (leb d e.deadline) (lt-leb (e.release + e.duration) d l))

  pub cut_entry_late : e.deadline < d → cut_entry d e ≡ e
  cut_entry_late l =
      cond-false (leb (e.release + e.duration) d && leb d e.deadline) (end_at d e) e
      (and_right (leb (e.release + e.duration) d) (leb d e.deadline) (lt-leb d e.deadline l))

  -- whatever d is, the entry is cut there, or it stays as it is
  pub cut_entry_cases : ((e.release + e.duration ≤ d) × (d ≤ e.deadline) × (cut_entry d e ≡ end_at d e)) ⊎ (((d < e.release + e.duration) ⊎ (e.deadline < d)) × (cut_entry d e ≡ e))
  cut_entry_cases =
      elim (cases_lt d (e.release + e.duration)) [
        | inl l ↦ inr (inl l, cut_entry_early l)
        | inr low ↦ elim (cases_lt e.deadline d) [ inl l ↦ inr (inr l, cut_entry_late l) | inr high ↦ inl (low, high, cut_entry_inside low high) ]
      ]

  pub cut_entry_sound : (c : ℕ) → SoundEntry c e → SoundEntry c (cut_entry d e)
  cut_entry_sound c g = elim cut_entry_cases [ inl (low, high, is) ↦ rw is (omega arith) | inr (out, is) ↦ rw is g ]

-- a cut at its own deadline leaves an entry as it is
pub cut_entry_own : (e : Entry) → cut_entry e.deadline e ≡ e
cut_entry_own e = elim (cut_entry_cases e.deadline e) [ inl (low, high, is) ↦ is | inr (out, is) ↦ is ]

-- ---- the sheet, place by place
module _ (s : Sheet) (k d : ℕ) where
  pub cut_count : count (cut s k d) ≡ count s
  unfolding cut_entries
  cut_count = length-set s.entries k (cut_entry d (entry s k))

  pub cut_here : k < count s → entry (cut s k d) k ≡ cut_entry d (entry s k)
  unfolding cut_entries
  cut_here l = get_or-set_same s.entries k (cut_entry d (entry s k)) blank l

  pub cut_there : (j : ℕ) → (j ≡ k → ⊥) → entry (cut s k d) j ≡ entry s j
  unfolding cut_entries
  cut_there j other = get_or-set_other s.entries k j (cut_entry d (entry s k)) blank other

  -- where d lies in the range of a cut
  pub cut_inside : k < count s → (entry s k).release + (entry s k).duration ≤ d → d ≤ (entry s k).deadline → entry (cut s k d) k ≡ end_at d (entry s k)
  cut_inside l low high = cut_here l ∙ cut_entry_inside d (entry s k) low high

  -- a cut that leaves its entry as it is, or has none, leaves the sheet
  pub cut_same : cut_entry d (entry s k) ≡ entry s k → cut s k d ≡ s
  unfolding cut_entries
  cut_same is =
      ap (λ es. record { capacity = s.capacity; entries = es }) (ap (λ x. set s.entries k x) is ∙ set-get_or s.entries k blank)

  pub cut_past : count s ≤ k → cut s k d ≡ s
  unfolding cut_entries
  cut_past l = ap (λ es. record { capacity = s.capacity; entries = es }) (set_past s.entries k (cut_entry d (entry s k)) l)

  pub cut_early : d < (entry s k).release + (entry s k).duration → cut s k d ≡ s
  cut_early l = cut_same (cut_entry_early d (entry s k) l)

  pub cut_late : (entry s k).deadline < d → cut s k d ≡ s
  cut_late l = cut_same (cut_entry_late d (entry s k) l)

  -- each entry of the cut sheet, and its window inside the one that it had
  pub cut_at : (j : ℕ) → j < count s →
      ((entry (cut s k d) j).release ≡ (entry s j).release) × ((entry (cut s k d) j).deadline ≤ (entry s j).deadline)
      × ((entry (cut s k d) j).duration ≡ (entry s j).duration) × ((entry (cut s k d) j).demand ≡ (entry s j).demand)
      × (work (entry (cut s k d) j) ≡ work (entry s j))
  cut_at j l =
      elim (cases_eq j k) [
        | inl e ↦ rw e (let l' : k < count s = rw e at l in rw (cut_here l')
            (elim (cut_entry_cases d (entry s k)) [
              | inl (low, high, is) ↦ rw is (refl, high, refl, refl, refl)
              | inr (out, is) ↦ rw is (refl, omega arith, refl, refl, refl)
            ]))
        | inr other ↦ rw (cut_there j other) (refl, omega arith, refl, refl, refl)
      ]

  pub cut_tasks : SameTasks s (cut s k d)
  cut_tasks = record { capacity = refl; places = cut_count; duration = λ j l. (cut_at j l).2; demand = λ j l. (cut_at j l).3 }

  pub cut_sound : Sound s → Sound (cut s k d)
  cut_sound sound =
      record {
        some_capacity = sound.some_capacity;
        small_capacity = sound.small_capacity;
        few = omega (arith, cut_count, sound.few);
        each = λ j l.
            let l' : j < count s = rw (← cut_count) l in
            elim (cases_eq j k) [
              | inl e ↦ rw e (let here : k < count s = rw e at l' in rw (cut_here here) (cut_entry_sound d (entry s k) s.capacity (sound.each k here)))
              | inr other ↦ rw (cut_there j other) (sound.each j l')
            ];
      }

  -- a placement that ends the entry at place k by d is a placement of the cut
  pub cut_placement : (start : ℕ → ℕ) → Placement s start → k < count s → start k + (entry s k).duration ≤ d → Placement (cut s k d) start
  cut_placement start p here by =
      placed_in s (cut s k d) start cut_tasks p
      (λ j l. omega (arith, cut_at j l, p.released j l))
      (λ j l. elim (cases_eq j k) [
        | inl e ↦ rw e (rw (cut_here here)
            (elim (cut_entry_cases d (entry s k)) [ inl (low, high, is) ↦ rw is by | inr (out, is) ↦ rw is (p.in_time k here) ]))
        | inr other ↦ rw (cut_there j other) (p.in_time j l)
      ])

  -- and a placement of the cut is one of the sheet
  pub uncut_placement : (start : ℕ → ℕ) → Placement (cut s k d) start → Placement s start
  uncut_placement start p =
      placed_in (cut s k d) s start
      (record {
        capacity = refl;
        places = sym cut_count;
        duration = λ j l. sym (cut_at j (rw (← cut_count) l)).2;
        demand = λ j l. sym (cut_at j (rw (← cut_count) l)).3;
      }) p
      (λ j l. omega (arith, cut_at j (rw (← cut_count) l), p.released j l))
      (λ j l. omega (arith, cut_at j (rw (← cut_count) l), p.in_time j l))

-- a cut at the entry's own deadline changes nothing
pub cut_own : (s : Sheet) (k : ℕ) → cut s k (entry s k).deadline ≡ s
cut_own s k = cut_same s k (entry s k).deadline (cut_entry_own (entry s k))
