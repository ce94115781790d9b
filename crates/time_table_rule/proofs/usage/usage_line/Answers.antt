-- The line begins with zeros, and each entry raises its fixed part.
use Rattle.std.proofs.Common.{◌≡◌, ℕ, ◌<◌, cond, ◌&&◌, ltb, leb, sym, refl, ◌∙◌, arith}
use Rattle.std.proofs.lemmas.List.{get_or-replicate}
use Rattle.model.specs.Sheets.{count, entry}
use Rattle.model.specs.TimeTable.{fixed_at}
use Rattle.model.proofs.Sums.{total_none, total_more}
use Rattle.sheet.specs.Listed.{meant}
use Rattle.time_table_rule.proofs.Rooms.{used_small}
use Rattle.time_table_rule.proofs.usage.usage_line.Goals as goal

pub loop-e-init : goal.loop-e-init
loop-e-init c = (refl, λ t l. get_or-replicate 4032 t 0 0 l ∙ sym (total_none (λ k. fixed_at t (entry (meant c.args.sheet) k))))

pub raise-requires : goal.raise-requires
raise-requires c =
    let s = meant c.args.sheet in
    let i = c.loop-e.e-index in
    let here : i < count s = omega arith in
    let e = c.args.sheet.sound.each i here in
    let (long, each) = c.loop-e.invariant in
    (omega arith, λ t l. omega (arith, each t (omega arith), used_small s c.args.sheet.sound i t (omega arith)))

pub loop-e-preserved : goal.loop-e-preserved
loop-e-preserved c =
    let s = meant c.args.sheet in
    let i = c.loop-e.e-index in
    let (long, each) = c.loop-e.invariant in
    let own : (t : ℕ) → cond (leb c.from-from.result t && ltb t c.from-to.result) c.from.result 0 ≡ fixed_at t (entry s i) = λ t. cc in
    (omega arith, λ t l. omega (arith, c.raise.ensures t (omega arith), own t, each t l, total_more (λ k. fixed_at t (entry s k)) i))
