-- A pair is overfull exactly where what is filled is more than all room up to its deadline.
use Rattle.std.proofs.Common.{◌≡◌, ℕ, ◌+◌, ◌*◌, ◌≤◌, ◌⊎◌, Some, sym, refl, subst, inl, inr, arith}
use Rattle.model.specs.declared.intervals.Interval.{Interval}
use Rattle.model.specs.Sheets.{Sheet, entry}
use Rattle.model.specs.Rules.{Named}
use Rattle.elastic.specs.Pushes.{filled}
use Rattle.elastic.proofs.Pushed.{over_filled, filled_over}
use Rattle.sheet.specs.Listed.{meant}
use Rattle.elastic_rule.specs.Tried.{OverfullBetween, Tried}
use Rattle.elastic_rule.proofs.Tried.{tried_over, tried_fits}
use Rattle.elastic_rule.proofs.queues.Queue.tried.Goals as goal
use Rattle.elastic_rule.proofs.queues.Queue.tried.Goals.{else-t1-t2-via-then-t1-t2+else-level-from, else-t1-t2-via-else-t1-t2}

not_over : (s : Sheet) (i j : ℕ) → (filled s (entry s i).release (entry s j).deadline ≤ s.capacity * (entry s j).deadline) ⊎ ((entry s j).deadline ≤ (entry s i).release) →
    (t1 t2 : ℕ) → ¬ OverfullBetween s i j t1 t2
not_over s i j way t1 t2 over =
    let f : filled s (entry s i).release (entry s j).deadline ≡ filled s t1 t2 = rw (over.release, over.deadline) refl in
    let r : s.capacity * (entry s j).deadline ≡ s.capacity * t2 = rw over.deadline refl in
    elim way [
      | inl fits ↦ omega (arith, over_filled s t1 t2 (omega (arith, over.ordered)) over.over)
      | inr late ↦ omega (arith, over.release, over.deadline, over.ordered)
    ]

pub returns-then-level-from : goal.returns-then-level-from
returns-then-level-from c =
    let s = meant c.args.self.now.sheet in
    let i = c.args.i in
    let j = c.args.j in
    let t1 = (entry s i).release in
    let t2 = (entry s j).deadline in
    let (here, (there, (level, named))) = c.requires in
    let room : c.from.result * c.from-then-t1-t2.result ≡ s.capacity * t2 = cc in
    let over : OverfullBetween s i j t1 t2 =
    record {
      release = refl;
      deadline = refl;
      ordered = c.if-t1-t2.true;
      over = filled_over s t1 t2 (omega (arith, c.if-t1-t2.true)) (omega (arith, c.if-level-from.true));
    } in
    subst (λ (x : Interval). Named (Tried s j (i + 1)) (Some x)) (sym c.first.ensures)
    (tried_over s j i there here c.args.before named (record { t1 = t1; t2 = t2 }) over)

pub returns-else-t1-t2 : goal.returns-else-t1-t2
returns-else-t1-t2 c =
    let s = meant c.args.self.now.sheet in
    let i = c.args.i in
    let j = c.args.j in
    let (here, (there, (level, named))) = c.requires in
    let way : (filled s (entry s i).release (entry s j).deadline ≤ s.capacity * (entry s j).deadline) ⊎ ((entry s j).deadline ≤ (entry s i).release) =
    elim c.else-t1-t2.branch [
      | else-t1-t2-via-then-t1-t2+else-level-from v ↦
          let room : v.from.result * v.from-then-t1-t2.result ≡ s.capacity * (entry s j).deadline = cc in inl (omega (arith, v.if-level-from.false))
      | else-t1-t2-via-else-t1-t2 v ↦ inr v.if-t1-t2.false
    ] in
    tried_fits s j i there here c.args.before named (not_over s i j way)
