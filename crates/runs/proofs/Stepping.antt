-- What build, enter, withdraw and rebook keep.
use Rattle.std.proofs.Common.{◌≡◌, ℕ, suc, ◌<◌, ◌≤◌, List, [], ◌∷◌, ◌++◌, map, length, set, sym, refl, ap, ◌∙◌, inl, inr, arith}
use Rattle.std.specs.List.{remove}
use Rattle.std.proofs.lemmas.Bool.{cases_lt}
use Rattle.model.specs.declared.entries.Entry.{Entry}
use Rattle.model.specs.declared.rows.Pair.{Pair}
use Rattle.model.specs.declared.rows.Row.{Row}
use Rattle.model.specs.Changes.{reset, rebooked}
use Rattle.model.specs.Limits.{row_at}
use Rattle.model.specs.Sheets.{Placement, count, entry, demand_at}
use Rattle.model.specs.Total.{total}
use Rattle.model.proofs.Mirrors.{placed_in}
use Rattle.model.proofs.Sums.{total_ext}
use Rattle.board.specs.declared.bookings.Test.{Test}
use Rattle.board.specs.Calls.{Bookings, SoundBookings, Answer, Nothing, Wrong, row_of, anew, built, Builds, makes, too_small, too_large, Enters, adds, refuses, Withdraws, removes, Rebooks, moves, unfit}
use Rattle.board.specs.Calls as calls
use Rattle.board.proofs.Kept.{added_before, added_last, added_length}
use Rattle.runs.specs.Applying.{in_window, as_entered, at_present, entered_entries, present_entries}
use Rattle.runs.proofs.Boards.{entered_count, entered_at, present_count, present_at, tasks_present}

-- The placements of the windows as entered are placements of the present windows.
abbrev pub Placed : Bookings → Type 0
Placed b = (start : ℕ → ℕ) → Placement (as_entered b) start → Placement (at_present b) start

-- ---- build

pub built_sound : (capacity : ℕ) → 1 ≤ capacity → capacity ≤ 4095 → SoundBookings (built capacity)
built_sound capacity low high =
    record {
      some_capacity = low;
      small_capacity = high;
      few = omega arith;
      sound = record {
        named = λ k l. absurd (omega arith);
        sized = λ k l. absurd (omega arith);
        windowed = λ k l. absurd (omega arith);
        apart = λ j k o l. absurd (omega arith);
      };
    }

pub built_placed : (capacity : ℕ) → Placed (built capacity)
unfolding entered_entries present_entries
built_placed capacity start p = p

-- ---- enter

module _ (b : Bookings) (t : Test) where
  abbrev more : Bookings
  more = record { capacity = b.capacity; rows = b.rows ++ (row_of t ∷ []) }

  more_length : length more.rows ≡ suc (length b.rows)
  more_length = omega (arith, added_length b.rows (row_of t))

  more_new : (k : ℕ) → k ≡ length b.rows → row_at more.rows k ≡ row_of t
  more_new k e = ap (row_at more.rows) e ∙ added_last b.rows (row_of t)

  -- the rows before the last, placed as entered
  fewer : (start : ℕ → ℕ) → Placement (as_entered more) start → Placement (as_entered b) start
  unfolding total
  fewer start p =
      record {
        released = λ k l. let q = p.released k (omega (arith, entered_count more, entered_count b, more_length)) in rw (same k l) at q;
        in_time = λ k l. let q = p.in_time k (omega (arith, entered_count more, entered_count b, more_length)) in rw (same k l) at q;
        within = λ u h.
            let e : count (as_entered more) ≡ suc (count (as_entered b)) = omega (arith, entered_count more, entered_count b, more_length) in
            let q = rw e at (p.within u h) in
            let r : total (count (as_entered b)) (λ k. demand_at (start k) u (entry (as_entered more) k)) ≡
            total (count (as_entered b)) (λ k. demand_at (start k) u (entry (as_entered b) k)) =
            total_ext (count (as_entered b)) _ _ (λ k l. rw (same k l) refl) in
            omega arith;
      }
    where
      same : (k : ℕ) → k < count (as_entered b) → entry (as_entered more) k ≡ entry (as_entered b) k
      same k l =
          let l' : k < length b.rows = rw (← entered_count b) l in
          entered_at more k (omega (arith, more_length)) ∙ ap (λ (row : Row). in_window row row.entered) (added_before b.rows (row_of t) k l')
          ∙ sym (entered_at b k l')

  -- the windows of the rows before stay, and the last row's two windows are the same
  old_present : (k : ℕ) → k < length b.rows → entry (at_present more) k ≡ entry (at_present b) k
  old_present k l =
      present_at more k (omega (arith, more_length)) ∙ ap (λ (row : Row). in_window row row.present) (added_before b.rows (row_of t) k l)
      ∙ sym (present_at b k l)

  new_present : (k : ℕ) → k ≡ length b.rows → entry (at_present more) k ≡ entry (as_entered more) k
  new_present k e =
      present_at more k (omega (arith, more_length)) ∙ ap (λ (row : Row). in_window row row.present) (more_new k e)
      ∙ sym (ap (λ (row : Row). in_window row row.entered) (more_new k e)) ∙ sym (entered_at more k (omega (arith, more_length)))

  more_placed : Placed b → Placed more
  more_placed placed start p =
      let q = placed start (fewer start p) in
      placed_in (as_entered more) (at_present more) start (tasks_present more) p
      (λ k l. elim (cases_lt k (length b.rows)) [
        | inl old ↦ rw (old_present k old) (q.released k (rw (present_count b) old))
        | inr new ↦ rw (new_present k (omega (arith, more_length, entered_count more))) (p.released k l)
      ])
      (λ k l. elim (cases_lt k (length b.rows)) [
        | inl old ↦
            let h = q.in_time k (rw (present_count b) old) in
            let e = ap (λ (x : Entry). x.deadline) (old_present k old) in
            let d = ap (λ (x : Entry). x.duration) (old_present k old) in
            let d' = (tasks_present more).duration k l in
            omega arith
        | inr new ↦ rw (new_present k (omega (arith, more_length, entered_count more))) (p.in_time k l)
      ])

-- ---- withdraw and rebook

reset_same : (rows : List Row) → map (λ row. in_window row row.entered) (map reset rows) ≡ map (λ row. in_window row row.present) (map reset rows)
reset_same [] = refl
reset_same (row ∷ rows) = ap (λ es. in_window row row.entered ∷ es) (reset_same rows)

-- where every present window is the entered one, the two sheets are the same
anew_placed : (b : Bookings) (rows : List Row) → Placed (anew b rows)
unfolding entered_entries present_entries
anew_placed b rows start p =
    let e : as_entered (anew b rows) ≡ at_present (anew b rows) = ap (λ es. record { capacity = b.capacity; entries = es }) (reset_same rows) in
    rw e at p

-- ---- each call

module _ (b : Bookings) (sound : SoundBookings b) where
  pub building : {capacity : ℕ} {a : Answer} {c : Bookings} → Builds b capacity a c → SoundBookings c
  building {capacity} (makes low high) = built_sound capacity low high
  building (too_small h) = sound
  building (too_large h) = sound

module _ (b : Bookings) (placed : Placed b) where
  pub building_placed : {capacity : ℕ} {a : Answer} {c : Bookings} → Builds b capacity a c → Placed c
  building_placed {capacity} (makes low high) = built_placed capacity
  building_placed (too_small h) = placed
  building_placed (too_large h) = placed

  pub entering_placed : {t : Test} {a : Answer} {c : Bookings} → Enters b t a c → Placed c
  entering_placed {t} (adds none) = more_placed b t placed
  entering_placed (refuses w first) = placed

  pub withdrawing_placed : {pair : Pair} {a : Answer} {c : Bookings} → Withdraws b pair a c → Placed c
  withdrawing_placed (removes k at) = anew_placed b (remove b.rows k)
  withdrawing_placed (calls.Withdraws.unknown free) = placed

  pub rebooking_placed : {pair : Pair} {release deadline : ℕ} {a : Answer} {c : Bookings} → Rebooks b pair release deadline a c → Placed c
  rebooking_placed {release = release} {deadline = deadline} (moves k at fit) =
      anew_placed b (set b.rows k (rebooked (record { release = release; deadline = deadline }) (row_at b.rows k)))
  rebooking_placed (calls.Rebooks.unknown free) = placed
  rebooking_placed (unfit k at misfit) = placed
