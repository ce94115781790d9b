-- What comes of planning a campaign file on a board.
use Rattle.std.specs.Prelude.{ℕ, List, [], ◌∷◌, Ok, Err, Result}
use Rattle.model.specs.Rules.{Meaning}
use Rattle.board.specs.declared.answers.Swept.{Swept}
use Rattle.board.specs.Calls.{Bookings}
use Rattle.timetable.specs.Meaning.{meaning_T}
use Rattle.elastic.specs.Meaning.{meaning_E}
use Rattle.shift.specs.Meaning.{meaning_S}
use Rattle.campaign.specs.declared.faults.Fault.{Fault}
use Rattle.campaign.specs.Loads.{Loads}
use Rattle.runs.specs.Sweeping.{SweepsTo}
use Rattle.report.specs.declared.refusals.Refusal.{Refusal}
use Rattle.report.specs.Lines.{report_lines, fault_line}

-- The rules with which a plan is swept, in order: T, E and S.
abbrev pub TES : List Meaning
TES = meaning_T ∷ (meaning_E ∷ (meaning_S ∷ []))

-- A file is planned on a board that holds `before`; this is the text that answers it, and what the board then holds.
-- A file without a fault is loaded and swept, and the report says what is left; a file with a fault leaves the board as it was.
pub data Plans (file : List ℕ) (before : Bookings) : List ℕ → Bookings → Type 0 where
  planned : (loaded : Bookings) (swept : Swept) (after : Bookings) → Loads file before (Ok tt) loaded → SweepsTo TES loaded swept after →
      Plans file before (report_lines after swept) after
  faulted : (fault : Fault) → Loads file before (Err fault) before → Plans file before (fault_line fault) before

-- What a board holds after a plan whose text was written, or refused: a refused plan leaves the board as it was.
abbrev pub held_after : Result ℕ Refusal → Bookings → Bookings → Bookings
held_after (Ok n) before after = after
held_after (Err refusal) before after = before
