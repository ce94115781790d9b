-- Raising the starts of some places, one after the other.
use Rattle.std.proofs.Common.{◌≡◌, ℕ, ◌+◌, ◌<◌, ◌≤◌, max, ◌≢◌, List, length, get_or, set, sym, ap, subst, inl, inr, arith, below_more}
use Rattle.std.proofs.lemmas.List.{get_or-set_same, get_or-set_other}
use Rattle.std.proofs.lemmas.Bool.{cases_lt}

-- every start lies between what it was and what is forced
abbrev pub Between : ℕ → (ℕ → ℕ) → List ℕ → List ℕ → Type 0
Between n forced before after =
    (j : ℕ) → j < n → (get_or before j 0 ≤ get_or after j 0) × (get_or after j 0 ≤ max (get_or before j 0) (forced j))

-- the starts of the first q places are no less than what is forced
abbrev pub RaisedAt : (ℕ → ℕ) → List ℕ → ℕ → List ℕ → Type 0
RaisedAt forced places q after = (p : ℕ) → p < q → forced (get_or places p 0) ≤ get_or after (get_or places p 0) 0

module _ (forced : ℕ → ℕ) (xs : List ℕ) (k v : ℕ) (inside : k < length xs) (is : v ≡ max (get_or xs k 0) (forced k)) where
  up : (j : ℕ) → get_or xs j 0 ≤ get_or (set xs k v) j 0
  up j =
      elim (cases_lt j k) [
        | inl less ↦ let ne : j ≢ k = omega arith in omega (arith, get_or-set_other xs k j v 0 ne)
        | inr more ↦ elim (cases_lt k j) [
          | inl past ↦ let ne : j ≢ k = omega arith in omega (arith, get_or-set_other xs k j v 0 ne)
          | inr here ↦
              let e : j ≡ k = omega arith in
              rw e (omega (arith, get_or-set_same xs k v 0 inside))
        ]
      ]

  pub between_more : (n : ℕ) (before : List ℕ) → Between n forced before xs → Between n forced before (set xs k v)
  between_more n before old j l =
      let (low, high) = old j l in
      let rises = up j in
      elim (cases_lt j k) [
        | inl less ↦ let ne : j ≢ k = omega arith in let same = get_or-set_other xs k j v 0 ne in (omega arith, omega arith)
        | inr more ↦ elim (cases_lt k j) [
          | inl past ↦ let ne : j ≢ k = omega arith in let same = get_or-set_other xs k j v 0 ne in (omega arith, omega arith)
          | inr here ↦
              let e : j ≡ k = omega arith in
              let wants : forced j ≡ forced k = ap forced e in
              let was : get_or xs j 0 ≡ get_or xs k 0 = ap (λ (i : ℕ). get_or xs i 0) e in
              let same : get_or (set xs k v) j 0 ≡ v = subst (λ (i : ℕ). get_or (set xs k v) i 0 ≡ v) (sym e) (get_or-set_same xs k v 0 inside) in
              (omega arith, omega arith)
        ]
      ]

  pub raised_more : (places : List ℕ) (q : ℕ) → get_or places q 0 ≡ k → RaisedAt forced places q xs → RaisedAt forced places (q + 1) (set xs k v)
  raised_more places q at old =
      below_more (λ p. forced (get_or places p 0) ≤ get_or (set xs k v) (get_or places p 0) 0) q
      (λ p l. omega (arith, old p l, up (get_or places p 0)))
      (rw at (omega (arith, get_or-set_same xs k v 0 inside)))

-- a place whose start is no less already
pub raised_still : (forced : ℕ → ℕ) (places : List ℕ) (q : ℕ) (xs : List ℕ) → RaisedAt forced places q xs →
    forced (get_or places q 0) ≤ get_or xs (get_or places q 0) 0 → RaisedAt forced places (q + 1) xs
raised_still forced places q xs old here = below_more (λ p. forced (get_or places p 0) ≤ get_or xs (get_or places p 0) 0) q old here
