-- A function of numbers up to a bound, or of pairs of them, takes a greatest value.
use Rattle.std.proofs.Common.{◌≡◌, ℕ, zero, suc, ◌≤◌, ap, le_trans, arith}
use native.Mathlib.Decide.{dec_le, ℕ_discrete}

abbrev pub Largest : (ℕ → ℕ) → ℕ → Type 0
Largest f n = (a : ℕ) × (a ≤ n) × ((x : ℕ) → x ≤ n → f x ≤ f a)

pub largest : (f : ℕ → ℕ) (n : ℕ) → Largest f n
largest f zero = (0, omega arith, λ x h. let e : x ≡ 0 = omega arith in omega (arith, ap f e))
largest f (suc n) =
    let before = largest f n in
    elim (dec_le (f (suc n)) (f before.0)) [
      | yes h ↦ (
        before.0,
        omega arith,
        λ x l. elim (ℕ_discrete x (suc n)) [ yes e ↦ omega (arith, ap f e) | no d ↦ before.2 x (omega arith) ],
      )
      | no h ↦ (
        suc n,
        omega arith,
        λ x l. elim (ℕ_discrete x (suc n)) [
          | yes e ↦ omega (arith, ap f e)
          | no d ↦ let i : x ≤ n = omega arith in omega (arith, before.2 x i)
        ],
      )
    ]

abbrev pub LargestPair : (ℕ → ℕ → ℕ) → ℕ → Type 0
LargestPair f n = (a b : ℕ) × (a ≤ n) × (b ≤ n) × ((x y : ℕ) → x ≤ n → y ≤ n → f x y ≤ f a b)

pub largest_pair : (f : ℕ → ℕ → ℕ) (n : ℕ) → LargestPair f n
largest_pair f n =
    let row : (x : ℕ) → Largest (f x) n = λ x. largest (f x) n in
    let all : Largest (λ x. f x (row x).0) n = largest (λ x. f x (row x).0) n in
    (all.0, (row all.0).0, all.1, (row all.0).1, λ x y i j. le_trans ((row x).2 y j) (all.2 x i))
