-- Apply: what one rule does to a board.
use Rattle.std.specs.Prelude.{◌≡◌, ℕ, ◌+◌, ◌-◌, ◌<◌, max, List, map, length, Some, None, Option}
use Rattle.model.specs.declared.entries.Entry.{Entry}
use Rattle.model.specs.declared.intervals.Interval.{Interval}
use Rattle.model.specs.declared.rows.Row.{Row}
use Rattle.model.specs.declared.windows.Window.{Window}
use Rattle.model.specs.Changes.{narrowed}
use Rattle.model.specs.Limits.{row_at}
use Rattle.model.specs.Rules.{Meaning}
use Rattle.model.specs.Sheets.{Sheet, entry, horizon, mirror}
use Rattle.board.specs.declared.answers.Effect.{Effect}
use Rattle.board.specs.declared.answers.Effect.TheVariants.{Overfull, Squeezed, Narrowed, Quiet}
use Rattle.board.specs.Calls.{Bookings}

-- ---- the two sheets of a board

-- A row as an entry with a window.
abbrev pub in_window : Row → Window → Entry
in_window row w = record { release = w.release; deadline = w.deadline; duration = row.duration; demand = row.demand }

-- The rows as entries in their windows as entered.
unfoldable pub entered_entries : List Row → List Entry
entered_entries rows = map (λ row. in_window row row.entered) rows

-- The rows as entries in their present windows.
unfoldable pub present_entries : List Row → List Entry
present_entries rows = map (λ row. in_window row row.present) rows

-- The sheet of a board's windows as entered.
abbrev pub as_entered : Bookings → Sheet
as_entered b = record { capacity = b.capacity; entries = entered_entries b.rows }

-- The sheet of a board's present windows.
abbrev pub at_present : Bookings → Sheet
at_present b = record { capacity = b.capacity; entries = present_entries b.rows }

-- ---- figures

-- The number answered, which is there for every entry of a sheet.
abbrev pub number : Option ℕ → ℕ
number (Some n) = n
number None = 0

-- A rule's figure for the entry at place k: the greater of its release and its earliest start.
abbrev pub figure : Meaning → Sheet → ℕ → ℕ
figure rule s k = max (entry s k).release (number (rule.earliest s k))

-- The window between the two figures of the entry at place k: the first from the sheet, the second from its mirror.
abbrev pub figures : Meaning → Sheet → ℕ → Window
figures rule s k = record { release = figure rule s k; deadline = horizon - figure rule (mirror s) k }

-- The two figures leave less than the duration.
abbrev pub Short : Meaning → Sheet → ℕ → Type 0
Short rule s k = (figures rule s k).deadline < (figures rule s k).release + (entry s k).duration

-- The two figures are the present window of the row at place k.
abbrev pub SameWindow : Meaning → Bookings → ℕ → Type 0
SameWindow rule b k = figures rule (at_present b) k ≡ (row_at b.rows k).present

-- ---- apply

-- An effect with its evidence told as an interval.
abbrev pub told_as : {V : Type 0} → (V → Interval) → Effect V → Effect Interval
told_as tell (Overfull v) = Overfull (tell v)
told_as tell (Squeezed k) = Squeezed k
told_as tell Narrowed = Narrowed
told_as tell Quiet = Quiet

-- The figures leave no row short.
abbrev pub NoneShort : Meaning → Bookings → Type 0
NoneShort rule b = (k : ℕ) → k < length b.rows → ¬ Short rule (at_present b) k

-- The board after has the rows of the one before, each with the window of its place, and all else the same.
pub record Writes (windows : ℕ → Window) (before after : Bookings) : Type 0 where
  pub capacity : after.capacity ≡ before.capacity
  pub places : length after.rows ≡ length before.rows
  pub each : (k : ℕ) → k < length before.rows → row_at after.rows k ≡ narrowed (windows k) (row_at before.rows k)

-- Apply answers the rule's evidence on the present windows. Where there is none, it answers the first row that the figures leave short;
-- else it gives each row its two figures, all from the windows as found, and says whether some window changed.
pub data Applies (rule : Meaning) (b : Bookings) : Effect Interval → Bookings → Type 0 where
  finds : (i : Interval) → rule.evidence (at_present b) ≡ Some i → Applies rule b (Overfull i) b
  squeezes : rule.evidence (at_present b) ≡ None → (k : ℕ) → k < length b.rows → Short rule (at_present b) k →
      ((j : ℕ) → j < k → ¬ Short rule (at_present b) j) → Applies rule b (Squeezed k) b
  narrows : rule.evidence (at_present b) ≡ None → NoneShort rule b → (k : ℕ) → k < length b.rows → ¬ SameWindow rule b k →
      (after : Bookings) → Writes (figures rule (at_present b)) b after → Applies rule b Narrowed after
  rests : rule.evidence (at_present b) ≡ None → NoneShort rule b → ((k : ℕ) → k < length b.rows → SameWindow rule b k) →
      Applies rule b Quiet b
