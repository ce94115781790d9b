-- Every start lies between what it was and what is forced, and those of the places listed so far are no less than what is forced.
use Rattle.model.specs.Sheets.{count, entry}
use Rattle.shift_rule.specs.Forced.{start_after}
use Rattle.sheet.specs.Listed.{meant}
use Rattle.shift_rule.proofs.Raised.{Between, RaisedAt}
use Rattle.shift_rule.proofs.visits.raise.Given as goal

abbrev pub invariant-loop-place : goal.invariant-loop-place
invariant-loop-place l =
    Between (count (meant l.movers.sheet)) (λ j. start_after (entry (meant l.movers.sheet) j) l.t1 l.t2 l.slack) l.initial.starts l.starts
    × RaisedAt (λ j. start_after (entry (meant l.movers.sheet) j) l.t1 l.t2 l.slack) l.place-items l.place-index l.starts
