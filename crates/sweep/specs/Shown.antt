-- The evidence that apply hands on.
use Rattle.std.specs.Prelude.{◌≡◌, Some, None, Option}
use Rattle.board.specs.declared.answers.Effect.{Effect}
use Rattle.board.specs.declared.answers.Effect.TheVariants.{Overfull, Squeezed, Narrowed, Quiet}

-- Overfull carries the evidence that the rule has, and any other effect comes where it has none.
abbrev pub ShowsEvidence : {V : Type 0} → Option V → Effect V → Type 0
ShowsEvidence o (Overfull v) = o ≡ Some v
ShowsEvidence o (Squeezed k) = o ≡ None
ShowsEvidence o Narrowed = o ≡ None
ShowsEvidence o Quiet = o ≡ None
