-- The lines of a report, as bytes.
use Rattle.std.specs.Prelude.{ℕ, List, [], ◌∷◌, ◌++◌, length, codes, decimal}
use Rattle.std.proofs.Math.Utf8.{encode}
use Rattle.model.specs.declared.intervals.Interval.{Interval}
use Rattle.model.specs.declared.rows.Row.{Row}
use Rattle.board.specs.declared.answers.Verdict.{Verdict}
use Rattle.board.specs.declared.answers.Verdict.TheVariants.{Settled, Overfull, Squeezed}
use Rattle.board.specs.declared.answers.Swept.{Swept}
use Rattle.board.specs.Calls.{Bookings}
use Rattle.campaign.specs.declared.faults.Fault.{Fault}
use Rattle.campaign.specs.Faults.{cause_number, cause_layer}

-- A number in base ten, and a space or the end of the line.
abbrev pub before_space : ℕ → List ℕ
before_space n = decimal n ++ codes " "

abbrev pub before_end : ℕ → List ℕ
before_end n = decimal n ++ codes "\n"

-- The first line: the capacity and the number of rows.
abbrev pub head_line : Bookings → List ℕ
head_line b = codes "C " ++ (before_space b.capacity ++ (codes "ROWS " ++ before_end (length b.rows)))

-- The line of a row: its profile, its bearer, and the release and the deadline of its present window.
abbrev pub row_line : Row → List ℕ
row_line row =
    before_space row.pair.profile
    ++ (before_space row.pair.bearer ++ (before_space row.present.release ++ before_end row.present.deadline))

-- The lines of rows, one after another.
unfoldable pub row_lines : List Row → List ℕ
row_lines [] = []
row_lines (row ∷ rows) = row_line row ++ row_lines rows

-- A board: its first line, and a line for each row.
abbrev pub board_lines : Bookings → List ℕ
board_lines b = head_line b ++ row_lines b.rows

-- The interval that a rule, told by its letter, has evidence against, and the bytes after it.
abbrev pub overfull_words : ℕ → Interval → List ℕ → List ℕ
overfull_words letter interval after =
    codes "OVERFULL " ++ (encode letter ++ (codes " " ++ (before_space interval.t1 ++ (decimal interval.t2 ++ after))))

-- The row that a rule, told by its letter, leaves too short, and the bytes after it.
abbrev pub squeezed_words : ℕ → ℕ → List ℕ → List ℕ
squeezed_words letter row after = codes "SQUEEZED " ++ (encode letter ++ (codes " " ++ (decimal row ++ after)))

-- How a sweep ended.
abbrev pub verdict_words : Verdict → List ℕ
verdict_words Settled = codes "SETTLED "
verdict_words (Overfull letter interval) = overfull_words letter interval (codes " ")
verdict_words (Squeezed letter row) = squeezed_words letter row (codes " ")

-- The line of a sweep's answer: how it ended, and its rounds.
abbrev pub verdict_line : Swept → List ℕ
verdict_line s = verdict_words s.verdict ++ before_end s.rounds

-- The report of a board and a sweep's answer.
abbrev pub report_lines : Bookings → Swept → List ℕ
report_lines b s = board_lines b ++ verdict_line s

-- The line of a fault: its number, its layer, the record and the byte.
abbrev pub fault_line : Fault → List ℕ
fault_line f =
    codes "REFUSED "
    ++ (before_space (cause_number f.cause) ++ (before_space (cause_layer f.cause) ++ (before_space f.«record» ++ before_end f.byte)))
