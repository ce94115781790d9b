-- One entry after another in order of rising release.
use Rattle.std.proofs.Common.{◌≡◌, ℕ, ◌+◌, ◌-◌, ◌*◌, ◌<◌, ◌≤◌, max, ◌⊎◌, List, length, get_or, set, ap, ◌∙◌, inl, inr, arith, length-set}
use Rattle.std.proofs.lemmas.Bool.{cases_lt, cases_eq}
use Rattle.std.proofs.lemmas.Bool.Decides.{nat_tests}
use Rattle.model.specs.declared.entries.Entry.{Entry}
use Rattle.model.specs.Sheets.{Sheet, count, entry, rows_max}
use Rattle.model.specs.Energy.{work_inside, work_in}
use Rattle.model.proofs.Sums.{total_none, total_more, total_up}
use Rattle.model.proofs.Filling.{fill_more}
use Rattle.elastic.specs.Pushes.{filled, Fullest}
use Rattle.elastic_rule.specs.Orders.{Rising}
use Rattle.elastic_rule.specs.Levels.{Levels, Levelled, Highest}
use Rattle.elastic_rule.proofs.Ordering.{total_from}

early : (e : Entry) (t1 t2 : ℕ) → e.release < t1 → work_inside t1 t2 e ≡ 0
early e t1 t2 l = grind (arith, nat_tests)

late : (e : Entry) (t1 t2 : ℕ) → t1 ≤ e.release → work_inside t1 t2 e ≡ work_inside 0 t2 e
late e t1 t2 l = grind (arith, nat_tests)

-- the highest of one level more
pub highest_more : (levels : List ℕ) (p best top : ℕ) → Highest levels p best → top ≡ max best (get_or levels p 0) → Highest levels (p + 1) top
highest_more levels p best top is e =
    record {
      most = λ q b. elim (cases_eq q p) [
        | inl same ↦ let f = ap (λ (i : ℕ). get_or levels i 0) same in omega arith
        | inr other ↦ omega (arith, is.most q (omega arith))
      ];
      reached = elim (cases_lt (get_or levels p 0) best) [
        | inr le ↦ inr (p, omega arith, omega arith)
        | inl lt ↦ elim is.reached [
          | inl z ↦ absurd (omega arith)
          | inr (q, b, same) ↦ inr (q, omega arith, omega arith)
        ]
      ];
    }

module _ (s : Sheet) (t2 : ℕ) (rising : Rising s.entries) where
  -- ---- levels
  pub levelled_none : (levels : List ℕ) (work : ℕ) → length levels ≡ rows_max → work ≡ work_in s 0 t2 → Levelled s t2 levels 0 0 work work
  levelled_none levels work long e =
      record {
        long = long;
        stand = λ q l. absurd (omega arith);
        last = e;
        others = omega (arith, total_none (λ q. work_inside 0 t2 (entry s q)));
        past = λ q l. absurd (omega arith);
        ahead = λ q l m. omega arith;
      }

  module _ (levels : List ℕ) (p release inside rest : ℕ) (l : p < count s) (is : Levelled s t2 levels p release inside rest) where
    -- at a new release, what is left is what is inside
    rest_inside : release < (entry s p).release → rest ≡ work_in s (entry s p).release t2
    rest_inside new =
        let t1 = (entry s p).release in
        let split =
        total_from (count s) p (λ q. work_inside t1 t2 (entry s q)) (λ q. work_inside 0 t2 (entry s q)) (omega arith)
        (λ q b. early (entry s q) t1 t2 (omega (arith, is.past q b)))
        (λ q a b. late (entry s q) t1 t2 (rising p q a b)) in
        omega (arith, is.others)

    -- at the same release, it is what it was
    still_inside : (entry s p).release ≤ release → inside ≡ work_in s (entry s p).release t2
    still_inside old =
        let same : release ≡ (entry s p).release = omega (arith, is.ahead p (omega arith) l) in
        is.last ∙ ap (λ (r : ℕ). work_in s r t2) same

    -- and so it is kept
    pub now_inside : (now : ℕ) → ((release < (entry s p).release) × (now ≡ rest)) ⊎ (((entry s p).release ≤ release) × (now ≡ inside)) →
        now ≡ work_in s (entry s p).release t2
    now_inside now (inl (new, e)) = e ∙ rest_inside new
    now_inside now (inr (old, e)) = e ∙ still_inside old

    -- the work of an entry is among what is left
    pub rest_enough : work_inside 0 t2 (entry s p) ≤ rest
    rest_enough =
        let h : ℕ → ℕ = λ q. work_inside 0 t2 (entry s q) in
        omega (arith, is.others, total_more h p, total_up h (p + 1) (count s) (omega arith))

    pub levelled_more : (v now left : ℕ) → count s ≤ rows_max → now ≡ work_in s (entry s p).release t2 → v ≡ s.capacity * (entry s p).release + now →
        left ≡ rest - work_inside 0 t2 (entry s p) → Levelled s t2 (set levels p v) (p + 1) (entry s p).release now left
    levelled_more v now left few e1 e2 e3 =
        record {
          long = omega (arith, length-set levels p v, is.long);
          stand = fill_more (λ k x. x ≡ filled s (entry s k).release t2) levels p v (omega (arith, is.long)) is.stand (omega arith);
          last = e1;
          others = omega (arith, is.others, rest_enough, total_more (λ q. work_inside 0 t2 (entry s q)) p);
          past = λ q b. rising q p (omega arith) l;
          ahead = λ q a b. rising p q (omega arith) b;
        }

  -- ---- the highest level at a release no later
  module _ (levels : List ℕ) (stand : Levels s t2 (count s) levels) (p top : ℕ) (l : p < count s) (is : Highest levels (p + 1) top) where
    some : (q : ℕ) × (q < p + 1) × (top ≡ get_or levels q 0)
    some = elim is.reached [ inl z ↦ (p, omega arith, omega (arith, is.most p (omega arith))) | inr x ↦ x ]

    pub fullest : Fullest s (entry s p).release t2 (count s) top
    fullest =
        let (q, b, same) = some in
        record {
          most = λ i li le. elim (cases_lt p i) [
            | inr before ↦ omega (arith, stand i li, is.most i (omega arith))
            | inl after ↦
                let eq : (entry s i).release ≡ (entry s p).release = omega (arith, rising p i (omega arith) li) in
                let f : filled s (entry s i).release t2 ≡ filled s (entry s p).release t2 = ap (λ (x : ℕ). filled s x t2) eq in
                omega (arith, is.most p (omega arith), stand p l)
          ];
          reached = (q, omega arith, (rising q p (omega arith) l, omega (arith, stand q (omega arith))));
        }
