-- The first slot of the usage line above the capacity is the first interval that is crowded.
use Rattle.std.proofs.Common.{ℕ, List, Some, None, Option, refl, inl, inr, arith}
use Rattle.std.specs.Option.{option_map}
use Rattle.std.proofs.lemmas.Bool.{cases_lt, cases_eq}
use Rattle.model.specs.Sheets.{Sheet}
use Rattle.model.specs.Rules.{Named}
use Rattle.model.specs.TimeTable.{Crowded}
use Rattle.rules.specs.declared.slots.Slot.{Slot}
use Rattle.time_table_rule.specs.Lines.{UsageLine, FirstAbove}
use Rattle.time_table_rule.specs.Shown.{told}

pub named : (s : Sheet) (line : List ℕ) (o : Option Slot) → UsageLine s line → FirstAbove s.capacity line o → Named (Crowded s) (option_map told o)
named s line (Some f) is (above, before) = (
  record { inside = f.inside; one = refl; above = omega (arith, is.each f.at f.inside) },
  λ t1 t2 c.
      elim (cases_lt t1 f.at) [
        | inl l ↦ absurd (omega (arith, c.above, before t1 l, is.each t1 c.inside))
        | inr l ↦ elim (cases_eq f.at t1) [ inl e ↦ inr (e, omega (arith, c.one)) | inr other ↦ inl (omega arith) ]
      ],
)
named s line None is all = λ t1 t2 c. omega (arith, c.above, all t1 c.inside, is.each t1 c.inside)
