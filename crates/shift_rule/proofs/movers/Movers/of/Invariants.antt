-- The places listed are those of the entries so far that have a slot to spare.
use Rattle.model.specs.Sheets.{entry}
use Rattle.sheet.specs.Listed.{meant}
use Rattle.shift_rule.specs.Leeways.{Spares}
use Rattle.shift_rule.proofs.Listing.{Listed}
use Rattle.shift_rule.proofs.movers.Movers.of.Given as goal

abbrev pub invariant-loop-place : goal.invariant-loop-place
invariant-loop-place l = Listed (λ j. Spares (entry (meant l.sheet) j)) l.places.items l.place
