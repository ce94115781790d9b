-- Quotients rounded up.
use Rattle.std.proofs.Common.{◌≡◌, ℕ, ◌+◌, ◌-◌, ◌*◌, ◌<◌, ◌≤◌, ap, inl, inr, mul-le-mul_left, arith}
use Rattle.std.specs.Int.{div_ceil}
use Rattle.std.proofs.lemmas.Grind.{div_ceil_times}
use Rattle.std.proofs.lemmas.Nat.{div_below, le-div}
use Rattle.std.proofs.lemmas.Bool.{cases_lt}
use Rattle.model.specs.Energy.{ceiling}

-- a quotient rounded up is enough, and one less is not
pub ceiling_up : (x c : ℕ) → 1 ≤ c → x ≤ c * ceiling x c
ceiling_up x c l =
    let q = ceiling x c in
    elim (cases_lt (c * q) x) [
      | inr h ↦ h
      | inl h ↦ absurd (omega (arith, le-div (q + 1) (x + (c - 1)) c l (omega arith)))
    ]

pub ceiling_near : (x c : ℕ) → 1 ≤ c → 0 < x → c * (ceiling x c - 1) < x
ceiling_near x c l some =
    let q = ceiling x c in
    elim (cases_lt (c * (q - 1)) x) [
      | inl h ↦ h
      | inr h ↦ elim (cases_lt 0 q) [
        | inl pos ↦
            let e : q ≡ (q - 1) + 1 = omega arith in
            let split : c * q ≡ c * ((q - 1) + 1) = ap (λ (y : ℕ). c * y) e in
            absurd (omega (arith, div_below (x + (c - 1)) c q l (omega arith)))
        | inr z ↦ let e : q - 1 ≡ 0 = omega arith in absurd (omega (arith, ap (λ (y : ℕ). c * y) e))
      ]
    ]

-- and so whatever is enough is no less
pub ceiling_least : (x c k : ℕ) → 1 ≤ c → x ≤ c * k → ceiling x c ≤ k
ceiling_least x c k l h =
    let below = div_below (x + (c - 1)) c (k + 1) l (omega (arith, h)) in omega arith

-- the library's quotient rounded up is ours
same_ceiling : (x c d e : ℕ) → d * c < x + c → x ≤ c * e → e ≤ d → d ≡ e
same_ceiling x c d e low up least =
    elim (cases_lt e d) [
      | inl l ↦ let more : c * (e + 1) ≤ c * d = mul-le-mul_left c (omega arith) in absurd (omega arith)
      | inr le ↦ omega arith
    ]

pub rounded_up : (x c : ℕ) → 1 ≤ c → div_ceil x c ≡ ceiling x c
rounded_up x c some =
    let (high, low) = div_ceil_times x c some in
    same_ceiling x c (div_ceil x c) (ceiling x c) low (ceiling_up x c some) (ceiling_least x c (div_ceil x c) some (omega (arith, high)))
