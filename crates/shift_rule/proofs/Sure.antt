-- What is accounted for is so in one way only.
use Rattle.std.proofs.Common.{◌≡◌, ℕ, ◌+◌, ◌-◌, ◌<◌, ◌≤◌, ◌⊎◌, Some, None, Option, inl, inr, ap, arith}
use Rattle.std.proofs.Props.{props}
use Rattle.model.specs.declared.intervals.Interval.{Interval}
use Rattle.model.specs.Sheets.{Sheet, count, entry}
use Rattle.model.specs.Energy.{IsInterval, NegativeSlack, lack, ceiling}
use Rattle.model.specs.Rules.{NoLater}
use Rattle.shift_rule.specs.declared.pass.Survey.{Survey}
use Rattle.shift_rule.specs.Found.{start_in, LedBy, Accounted, AccountedFrom, AccountedTo}

apart_prop : {A B : Type 0} → IsProp A → IsProp B → ¬ (A × B) → IsProp (A ⊎ B)
apart_prop a b never (inl x) (inl y) = ap inl (a x y)
apart_prop a b never (inl x) (inr y) = absurd (never (x, y))
apart_prop a b never (inr x) (inl y) = absurd (never (y, x))
apart_prop a b never (inr x) (inr y) = ap inr (b x y)

NoLater-prop : (i : Interval) (t1 t2 : ℕ) → IsProp (NoLater i t1 t2)
NoLater-prop i t1 t2 =
    let sooner : IsProp (i.t1 < t1) = hlevel props in
    let same : IsProp ((i.t1 ≡ t1) × (i.t2 ≤ t2)) = hlevel props in
    apart_prop sooner same (λ (less, (e, _)). omega arith)

LedBy-prop : (o : Option Interval) (t1 t2 : ℕ) → IsProp (LedBy o t1 t2)
LedBy-prop (Some i) t1 t2 = NoLater-prop i t1 t2
LedBy-prop None t1 t2 = λ x y. absurd x

Accounted-prop : (s : Sheet) (v : Survey) (t1 t2 : ℕ) → IsProp (Accounted s v t1 t2)
Accounted-prop s v t1 t2 x y =
    let led : IsProp (LedBy v.first t1 t2) = LedBy-prop v.first t1 t2 in
    let negative_prop : IsProp (IsInterval t1 t2 → NegativeSlack s t1 t2 → LedBy v.first t1 t2) = hlevel (props, led) in
    let forced_prop : IsProp (IsInterval t1 t2 → ¬ NegativeSlack s t1 t2 → (k : ℕ) → k < count s → t2 < (entry s k).deadline →
    0 < lack s k t1 t2 → (t2 + ceiling (lack s k t1 t2) (entry s k).demand) - (entry s k).duration ≤ start_in v k) = hlevel props in
    λ i. record {
      negative = negative_prop x.negative y.negative i;
      forced = forced_prop x.forced y.forced i;
    }

pub From-prop : (s : Sheet) (v : Survey) (t1 : ℕ) → IsProp (AccountedFrom s v t1)
From-prop s v t1 = hlevel (props, Accounted-prop)

pub To-prop : (s : Sheet) (v : Survey) (t2 : ℕ) → IsProp (AccountedTo s v t2)
To-prop s v t2 = hlevel (props, Accounted-prop)
