-- The entries that were copied are the first ones of the sheet.
use Rattle.std.proofs.Common.{◌≡◌, ◌-◌, ◌≤◌, length, take}
use Rattle.model.specs.Sheets.{count}
use Rattle.sheet.proofs.listing.list.Given as goal

abbrev pub invariant-loop-entry : goal.invariant-loop-entry
invariant-loop-entry g l =
    (length l.entries.items ≤ count (g.S.Sheet.meaning l.sheet)) × (l.entries.items ≡ take (length l.entries.items) (g.S.Sheet.meaning l.sheet).entries)

abbrev pub decreases-loop-entry : goal.decreases-loop-entry
decreases-loop-entry g l = count (g.S.Sheet.meaning l.sheet) - length l.entries.items
