-- What comes of one application within a sweep, and of a round.
use Rattle.std.specs.Prelude.{List, Ok, Err, Result}
use Rattle.model.specs.declared.intervals.Interval.{Interval}
use Rattle.model.specs.Rules.{Meaning}
use Rattle.board.specs.declared.answers.Effect.{Effect}
use Rattle.board.specs.declared.answers.Effect.TheVariants as effect
use Rattle.board.specs.declared.answers.Verdict.{Verdict}
use Rattle.board.specs.Calls.{Bookings}
use Rattle.runs.specs.Applying.{Applies}
use Rattle.runs.specs.Sweeping.{Application, EndsWith, Passes, Breaks, AllQuiet}
use Rattle.sweep.specs.declared.changes.Change.{Change}
use Rattle.sweep.specs.declared.changes.Change.TheVariants.{Quiet, Narrowed}

-- One application: it ends the sweep with a verdict, or narrows, or is quiet.
abbrev pub Steps : Meaning → Bookings → Result Change Verdict → Bookings → Type 0
Steps rule b (Err v) c = (e : Effect Interval) × Applies rule b e c × EndsWith rule.letter e v
Steps rule b (Ok Narrowed) c = Applies rule b effect.Narrowed c
Steps rule b (Ok Quiet) c = Applies rule b effect.Quiet c

-- A round: it breaks off with a verdict; or it goes through, and not all were quiet; or it goes through, and all were quiet.
abbrev pub Rounds : List Meaning → Bookings → Result Change Verdict → Bookings → Type 0
Rounds rules b (Err v) c = (chain : List Application) × Breaks rules b chain v c
Rounds rules b (Ok Narrowed) c = (chain : List Application) × Passes rules b chain c × (¬ AllQuiet chain)
Rounds rules b (Ok Quiet) c = (chain : List Application) × Passes rules b chain c × AllQuiet chain
