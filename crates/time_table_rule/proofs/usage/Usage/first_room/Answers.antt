-- A slot with room is seen, and one without moves the start past it.
use Rattle.std.proofs.Common.{◌≡◌, ℕ, ◌+◌, ◌-◌, ◌<◌, get_or, sym, subst, inr, arith}
use Rattle.model.specs.Sheets.{Sheet, count, entry, horizon}
use Rattle.model.specs.TimeTable.{fixed_at, usage, usage_of_others}
use Rattle.timetable.proofs.RuleT.{usage_split}
use Rattle.sheet.specs.Listed.{meant}
use Rattle.time_table_rule.specs.Rooms.{Seen}
use Rattle.time_table_rule.proofs.Rooms.{used_small, seen_room, seen_taken, seen_all}
use Rattle.time_table_rule.proofs.usage.Usage.first_room.Goals as goal
use Rattle.time_table_rule.proofs.usage.Usage.first_room.Goals.{then-beside-from+else-t-last, else-beside-from}

pub beside-requires : goal.beside-requires
beside-requires c =
    let u = c.args.self.now in
    let s = meant u.sheet in
    let sound = u.sheet.sound in
    let k = c.args.place in
    let t = c.loop-t.t in
    let here = c.requires in
    let e = sound.each k here in
    let inside : t < horizon = omega arith in
    let is : get_or u.line.now c.from.result 0 ≡ usage s t = rw c.from.ensures (u.used.each t inside) in
    let split = usage_split s k t here in
    (e.room, (omega arith, omega (arith, used_small s sound (count s) t (omega arith), sound.small_capacity)))

-- what stands in the line, less its own fixed part, is the usage of the others
others : (s : Sheet) (k t u : ℕ) → k < count s → u ≡ usage s t → u - fixed_at t (entry s k) ≡ usage_of_others s k t
others s k t u here e = omega (arith, usage_split s k t here)

pub returns-then-t-last : goal.returns-then-t-last
returns-then-t-last c =
    let u = c.args.self.now in
    let s = meant u.sheet in
    let sound = u.sheet.sound in
    let k = c.args.place in
    let t = c.loop-t.t in
    let here = c.requires in
    let e = sound.each k here in
    let inside : t < horizon = omega arith in
    let is : get_or u.line.now c.from.result 0 ≡ usage s t = rw c.from.ensures (u.used.each t inside) in
    let free = others s k t (get_or u.line.now c.from.result 0) here is in
    inr (seen_all s k c.loop-t.from t c.loop-t.invariant c.if-t-from.false (omega arith) (omega (arith, c.if-t-last.true)))

pub loop-t-preserved : goal.loop-t-preserved
loop-t-preserved c =
    let u = c.args.self.now in
    let s = meant u.sheet in
    let sound = u.sheet.sound in
    let k = c.args.place in
    let t = c.loop-t.t in
    let from = c.loop-t.from in
    let here = c.requires in
    let e = sound.each k here in
    let inside : t < horizon = omega arith in
    let is : get_or u.line.now c.from.result 0 ≡ usage s t = rw c.from.ensures (u.used.each t inside) in
    let free = others s k t (get_or u.line.now c.from.result 0) here is in
    let next : ℕ → Type 0 = λ f. Seen s k f (t + 1) in
    elim c.if-beside-from.branch [
      | then-beside-from+else-t-last w ↦
          subst next (sym w.from-is)
          (seen_taken s k from t c.loop-t.invariant c.if-t-from.false (omega (arith, w.if-beside-from.true)) (omega (arith, w.if-t-last.false)))
      | else-beside-from w ↦
          subst next (sym w.from-is)
          (seen_room s k from t c.loop-t.invariant c.if-t-from.false (omega (arith, w.if-beside-from.false)))
    ]
