-- What the calls answer on some small boards.
use Rattle.std.specs.Prelude.{◌≡◌, ℕ, ◌-◌, ◌*◌, ◌≤◌, List, [], ◌∷◌, None, Ok, Err}
use Rattle.model.specs.declared.intervals.Interval.{Interval}
use Rattle.model.specs.declared.rows.Row.{Row}
use Rattle.model.specs.declared.windows.Window.{Window}
use Rattle.model.specs.Changes.{narrowed}
use Rattle.model.specs.Energy.{energy}
use Rattle.model.specs.Sheets.{capacity_max}
use Rattle.board.specs.declared.answers.Effect.TheVariants.{Overfull, Squeezed, Narrowed, Quiet}
use Rattle.board.specs.declared.answers.Verdict.TheVariants as verdict
use Rattle.board.specs.declared.refusals.Refusal.TheVariants as refusal
use Rattle.board.specs.Calls.{Bookings, built, row_of}
use Rattle.timetable.specs.Meaning.{meaning_T}
use Rattle.elastic.specs.Meaning.{meaning_E}
use Rattle.shift.specs.Meaning.{meaning_S}
use Rattle.runs.specs.Applying.{at_present, Applies}
use Rattle.runs.specs.Sweeping.{application, SweepsTo}
use Rattle.runs.specs.Runs.{Rule, three, AppliesByLetter}

-- A window, and an interval.
abbrev pub window : ℕ → ℕ → Window
window release deadline = record { release = release; deadline = deadline }

abbrev pub interval : ℕ → ℕ → Interval
interval t1 t2 = record { t1 = t1; t2 = t2 }

-- A row newly entered in a window, with a duration and a demand; the bearer tells it from the others.
abbrev pub booked : ℕ → Window → ℕ → ℕ → Row
booked bearer w duration demand =
    row_of (record {
      pair = record { profile = 1; bearer = bearer };
      release = w.release;
      deadline = w.deadline;
      duration = duration;
      demand = demand;
    })

-- A board of a capacity with these rows.
abbrev pub board : ℕ → List Row → Bookings
board capacity rows = record { capacity = capacity; rows = rows }

-- ---- a board that S refuses and E does not

abbrev pub nested : ℕ → Bookings
nested duration = board 1 (booked 5 (window 0 6) 4 1 ∷ (booked 6 (window 1 5) duration 1 ∷ []))

-- ---- a board that E narrows

abbrev pub pushed : Bookings
pushed = board 1 (booked 5 (window 0 4) 2 1 ∷ (booked 6 (window 0 4) 1 1 ∷ (booked 7 (window 0 10) 2 1 ∷ [])))

abbrev pub pushed_after : Bookings
pushed_after =
    board 1 (booked 5 (window 0 4) 2 1 ∷ (booked 6 (window 0 4) 1 1 ∷ (narrowed (window 3 10) (booked 7 (window 0 10) 2 1) ∷ [])))

-- ---- a board that T narrows, where the capacity is 2

abbrev pub fixed : ℕ → Bookings
fixed capacity = board capacity (booked 5 (window 0 5) 4 2 ∷ (booked 6 (window 0 8) 2 1 ∷ []))

abbrev pub fixed_after : Bookings
fixed_after = board 2 (booked 5 (window 0 5) 4 2 ∷ (narrowed (window 4 8) (booked 6 (window 0 8) 2 1) ∷ []))

-- ---- a board without room for its second row

abbrev pub crammed : Bookings
crammed = board 2 (booked 5 (window 0 4) 4 2 ∷ (booked 6 (window 0 4) 1 1 ∷ []))

-- The table.
pub record MarkedFigures : Type 0 where
  -- a board without rows settles in one round, by any three rules
  pub empty : (capacity : ℕ) → 1 ≤ capacity → capacity ≤ capacity_max → (r1 r2 r3 : Rule) →
      SweepsTo (three r1 r2 r3) (built capacity) (record { verdict = verdict.Settled; rounds = 1 }) (built capacity)
  -- S tells 1, 5, where an energy of 5 stands against a room of 4; E has no evidence; and S has none where the second row lasts one slot
  pub shift_tells : Applies meaning_S (nested 2) (Overfull (interval 1 5)) (nested 2)
  pub shift_energy : energy (at_present (nested 2)) 1 5 ≡ 5
  pub shift_room : (nested 2).capacity * (5 - 1) ≡ 4
  pub elastic_silent : meaning_E.evidence (at_present (nested 2)) ≡ None
  pub shift_silent : meaning_S.evidence (at_present (nested 1)) ≡ None
  -- one apply of E narrows the third row to 3, 10; so does one by its letter, and the letter X (88) is refused
  pub elastic_narrows : Applies meaning_E pushed Narrowed pushed_after
  pub letter_narrows : AppliesByLetter 69 pushed (application meaning_E pushed Narrowed ∷ []) (Ok Narrowed) pushed_after
  pub letter_refused : AppliesByLetter 88 pushed [] (Err refusal.Letter) pushed
  -- a sweep of T, E and S narrows the same row, and settles in its second round
  pub sweep_settles : SweepsTo (meaning_T ∷ (meaning_E ∷ (meaning_S ∷ []))) pushed (record { verdict = verdict.Settled; rounds = 2 }) pushed_after
  -- one apply of T narrows the second row to 4, 8, and is quiet where there is one channel more
  pub table_narrows : Applies meaning_T (fixed 2) Narrowed fixed_after
  pub table_rests : Applies meaning_T (fixed 3) Quiet (fixed 3)
  -- E tells 0, 4, and T leaves row 1 short
  pub elastic_tells : Applies meaning_E crammed (Overfull (interval 0 4)) crammed
  pub table_squeezes : Applies meaning_T crammed (Squeezed 1) crammed
  -- a sweep of T, E and S ends there at once, by the letter of T
  pub sweep_fails : SweepsTo (meaning_T ∷ (meaning_E ∷ (meaning_S ∷ []))) crammed (record { verdict = verdict.Squeezed 84 1; rounds = 1 }) crammed
