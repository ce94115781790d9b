-- Hall's condition on intervals gives a filling, one unit of work after another.
use Rattle.std.proofs.Common.{◌≡◌, ℕ, zero, suc, ◌+◌, ◌-◌, ◌*◌, ◌<◌, ◌≤◌, ◌⊎◌, sym, refl, ap, ◌∙◌, inl, inr, mul-le-mul_right, mul_comm, mul-zero, mul-one, mul-add, arith}
use Rattle.std.proofs.lemmas.Bool.{cases_lt, cases_eq}
use Rattle.model.specs.Total.{total}
use Rattle.model.proofs.Sums.{total_ext, total_le, total_add, total_zero, total_up, total_at, total_pick, total_is, is, below, last, below_suc}

-- 1 where the window r .. d lies inside a .. b, else 0
abbrev pub inside : ℕ → ℕ → ℕ → ℕ → ℕ
inside a b r d = 1 - ((a - r) + (d - b))

-- the work of the entries inside a .. b
abbrev pub load : ℕ → (ℕ → ℕ) → (ℕ → ℕ) → (ℕ → ℕ) → ℕ → ℕ → ℕ
load n r d w a b = total n (λ i. inside a b (r i) (d i) * w i)

abbrev pub Hall : ℕ → (ℕ → ℕ) → (ℕ → ℕ) → (ℕ → ℕ) → (ℕ → ℕ) → Type 0
Hall n r d w cap = (a b : ℕ) → a ≤ b → total a cap + load n r d w a b ≤ total b cap

pub record Filled (H n : ℕ) (r d w cap : ℕ → ℕ) : Type 0 where
  pub given : ℕ → ℕ → ℕ
  pub before : (i t : ℕ) → i < n → t < r i → given i t ≡ 0
  pub after : (i t : ℕ) → i < n → d i ≤ t → given i t ≡ 0
  pub whole : (i : ℕ) → i < n → total H (given i) ≡ w i
  pub within : (t : ℕ) → total n (λ i. given i t) ≤ cap t

-- an entry that has work left, with the latest release of those
pub record Latest (n : ℕ) (r w : ℕ → ℕ) : Type 0 where
  pub at : ℕ
  pub here : at < n
  pub some : 0 < w at
  pub latest : (j : ℕ) → j < n → 0 < w j → r j ≤ r at

pub pick : (n : ℕ) (r w : ℕ → ℕ) → (total n w ≡ 0) ⊎ Latest n r w
unfolding total
pick zero r w = inl refl
pick (suc n) r w =
    elim (pick n r w) [
      | inl e ↦
          elim (cases_lt 0 (w n)) [
            | inl p ↦
                inr (record {
                  at = n;
                  here = omega arith;
                  some = p;
                  latest = below_suc (λ j. 0 < w j → r j ≤ r n) n (λ j l q. absurd (omega (arith, total_at w n j l))) (λ q. omega arith);
                })
            | inr z ↦ inl (omega arith)
          ]
      | inr k ↦
          elim (cases_lt 0 (w n)) [
            | inl p ↦
                elim (cases_lt (r n) (r k.at)) [
                  | inl m ↦
                      inr (record {
                        at = k.at;
                        here = omega arith;
                        some = k.some;
                        latest = below_suc (λ j. 0 < w j → r j ≤ r k.at) n k.latest (λ q. omega arith);
                      })
                  | inr m ↦
                      inr (record {
                        at = n;
                        here = omega arith;
                        some = p;
                        latest = below_suc (λ j. 0 < w j → r j ≤ r n) n (λ j l q. omega (arith, k.latest j l q)) (λ q. omega arith);
                      })
                ]
            | inr z ↦
                inr (record {
                  at = k.at;
                  here = omega arith;
                  some = k.some;
                  latest = below_suc (λ j. 0 < w j → r j ≤ r k.at) n k.latest (λ q. omega arith);
                })
          ]
    ]

module _ (n : ℕ) (r d : ℕ → ℕ) where
  load_split : (w w' : ℕ → ℕ) (k : ℕ) → k < n → ((i : ℕ) → w i ≡ w' i + is k i) → (a b : ℕ)
      → load n r d w a b ≡ load n r d w' a b + inside a b (r k) (d k)
  load_split w w' k l h a b =
      let one : below k n ≡ 1 = omega arith in
      total_ext n _ _
      (λ i m. rw (h i) (mul-add (inside a b (r i) (d i)) (w' i) (is k i)))
      ∙ total_add n (λ i. inside a b (r i) (d i) * w' i) (λ i. inside a b (r i) (d i) * is k i)
      ∙ ap (λ x. load n r d w' a b + x)
      (total_pick n k (λ i. inside a b (r i) (d i)) ∙ (rw one (mul-one (inside a b (r k) (d k)))))

  load_up : (w : ℕ → ℕ) (a b c : ℕ) → b ≤ c → load n r d w a b ≤ load n r d w a c
  load_up w a b c l =
      total_le n _ _ (λ i m. mul-le-mul_right (w i) (omega arith))

  -- no work is released at a or later
  load_none : (w : ℕ → ℕ) (a b : ℕ) → ((i : ℕ) → i < n → 0 < w i → r i < a) → load n r d w a b ≡ 0
  load_none w a b h =
      total_ext n _ _
      (λ i m. elim (cases_lt 0 (w i)) [
        | inl p ↦ let l = h i m p in let z : inside a b (r i) (d i) ≡ 0 = omega arith in rw z (omega arith)
        | inr z ↦ let e : w i ≡ 0 = omega arith in rw e (mul-zero (inside a b (r i) (d i)))
      ])
      ∙ total_zero n

cap_split : (cap cap' : ℕ → ℕ) (t : ℕ) → ((k : ℕ) → cap k ≡ cap' k + is t k) → (a : ℕ) → total a cap ≡ total a cap' + below t a
cap_split cap cap' t h a =
    total_ext a _ _ (λ k _. h k) ∙ total_add a cap' (is t) ∙ ap (λ x. total a cap' + x) (total_is a t)

minus_one : (f : ℕ → ℕ) (k : ℕ) → 0 < f k → (i : ℕ) → f i ≡ (f i - is k i) + is k i
minus_one f k p i = elim (cases_eq k i) [ inl e ↦ omega (arith, ap f e) | inr ne ↦ omega arith ]

module _ (H n : ℕ) (r d : ℕ → ℕ) (ordered : (i : ℕ) → i < n → r i ≤ d i) (ends : (i : ℕ) → i < n → d i ≤ H) where
  -- one unit of the entry k in the slot t, the last free one of its window
  hall_step : (w w' cap cap' : ℕ → ℕ) (k t : ℕ) → k < n → ((i : ℕ) → w i ≡ w' i + is k i) → ((s : ℕ) → cap s ≡ cap' s + is t s)
      → ((j : ℕ) → j < n → 0 < w j → r j ≤ r k) → t < d k → total (suc t) cap ≡ total (d k) cap
      → Hall n r d w cap → Hall n r d w' cap'
  unfolding total
  hall_step w w' cap cap' k t kn hw hc latest td lastly hall a b ab =
      let sa = cap_split cap cap' t hc a in
      let sb = cap_split cap cap' t hc b in
      let lb = load_split n r d w w' k kn hw a b in
      let ab-holds = hall a b ab in
      elim (cases_lt t a) [
        | inl ta ↦ omega arith
        | inr at ↦
            elim (cases_lt t b) [
              | inr bt ↦ omega arith
              | inl tb ↦
                  let tt-more = hc t in
                  let s1 = total_up cap a t at in
                  let s2 = total_up cap (suc t) b tb in
                  elim (cases_lt (r k) a) [
                    | inl ra ↦
                        let z = load_none n r d w a b (λ i m p. omega (arith, latest i m p)) in
                        omega arith
                    | inr ar ↦
                        elim (cases_lt b (d k)) [
                          | inr db ↦ omega arith
                          | inl bd ↦
                              let ld = load_split n r d w w' k kn hw a (d k) in
                              let up = load_up n r d w' a b (d k) (omega arith) in
                              let ad = hall a (d k) (omega arith) in
                              omega arith
                        ]
                  ]
            ]
      ]

  extend : (w w' cap cap' : ℕ → ℕ) (k t : ℕ) → k < n → ((i : ℕ) → w i ≡ w' i + is k i) → ((s : ℕ) → cap s ≡ cap' s + is t s)
      → r k ≤ t → t < d k → Filled H n r d w' cap' → Filled H n r d w cap
  extend w w' cap cap' k t kn hw hc rt td f =
      let here : below k n ≡ 1 = omega arith in
      let soon : below t H ≡ 1 = omega (arith, ends k kn) in
      record {
        given = λ i s. f.given i s + is k i * is t s;
        before = λ i s l m. rw (f.before i s l m) (apart i s (elim (cases_eq k i) [ inl e ↦ inr (omega (arith, ap r e)) | inr ne ↦ inl (omega arith) ]));
        after = λ i s l m. rw (f.after i s l m) (apart i s (elim (cases_eq k i) [ inl e ↦ inr (omega (arith, ap d e)) | inr ne ↦ inl (omega arith) ]));
        whole = λ i l.
            total_add H (f.given i) (λ s. is k i * is t s)
            ∙ ap (λ x. total H (f.given i) + x) (total_pick H t (λ s. is k i) ∙ (rw soon (mul-one (is k i))))
            ∙ ap (λ x. x + is k i) (f.whole i l)
            ∙ sym (hw i);
        within = λ s.
            let e1 = total_add n (λ i. f.given i s) (λ i. is k i * is t s) in
            let e2 : total n (λ i. is k i * is t s) ≡ is t s =
            total_ext n _ _ (λ i l. mul_comm (is k i) (is t s))
            ∙ total_pick n k (λ i. is t s) ∙ (rw here (mul-one (is t s))) in
            let e3 = f.within s in
            omega (arith, hc s);
      }
    where
      apart : (i s : ℕ) → (is k i ≡ 0) ⊎ (is t s ≡ 0) → 0 + is k i * is t s ≡ 0
      apart i s (inl e) = rw e (omega arith)
      apart i s (inr e) = rw e (omega (arith, mul-zero (is k i)))

  pub fill : (N : ℕ) (w cap : ℕ → ℕ) → total n w ≡ N → Hall n r d w cap → Filled H n r d w cap
  fill zero w cap e hall =
      record {
        given = λ i t. 0;
        before = λ i t l m. refl;
        after = λ i t l m. refl;
        whole = λ i l. total_zero H ∙ (let z = total_at w n i l in omega arith);
        within = λ t. omega (arith, total_zero n);
      }
  fill (suc N) w cap e hall =
      elim (pick n r w) [
        | inl z ↦ absurd (omega arith)
        | inr p ↦
            let k : ℕ = p.at in
            let w' : ℕ → ℕ = λ i. w i - is k i in
            let hw = minus_one w k p.some in
            let fewer = cap_split w w' k hw n in
            let hk = hall (r k) (d k) (ordered k p.here) in
            let lk = load_split n r d w w' k p.here hw (r k) (d k) in
            let (t, td, tc, tl) = last cap (d k) (omega arith) in
            let cap' : ℕ → ℕ = λ s. cap s - is t s in
            let hc = minus_one cap t tc in
            let rt : r k ≤ t = elim (cases_lt t (r k)) [ inl l ↦ absurd (omega (arith, total_up cap (suc t) (r k) l)) | inr l ↦ l ] in
            let rest = fill N w' cap' (omega (arith, p.here)) (hall_step w w' cap cap' k t p.here hw hc p.latest td tl hall) in
            extend w w' cap cap' k t p.here hw hc rt td rest
      ]
