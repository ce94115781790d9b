-- The groups of a number, read one after another.
use Rattle.std.proofs.Common.{◌≡◌, ℕ, zero, suc, ◌+◌, ◌*◌, ◌%◌, ◌^◌, ◌<◌, ◌≤◌, cond, List, [], ◌∷◌, ◌++◌, length, get_or, take, Ok, Err, ap, ◌∙◌, inl, inr, mul-le-mul_right, mod-lt, mul_left_comm, arith}
use native.Mathlib.Nat.{pow-succ', pow-le-pow_right}
use Rattle.std.proofs.lemmas.List.{take_more, length-take-le}
use Rattle.std.proofs.lemmas.Bool.{lt-ltb, le-ltb, lt-leb, le-leb, cond-true, cond-false, cases_lt}
use Rattle.records.specs.declared.faults.NumberFault.TheVariants.{Ends, TooLong}
use Rattle.records.specs.Numbers.{value_of, announcing, number_at}

announcing_last : (b : ℕ) (s : List ℕ) → b < 128 → announcing (b ∷ s) ≡ 0
unfolding announcing
announcing_last b s h = ap (λ t. cond t 0 (announcing s + 1)) (lt-ltb b 128 h)

announcing_next : (b : ℕ) (s : List ℕ) → 128 ≤ b → announcing (b ∷ s) ≡ announcing s + 1
unfolding announcing
announcing_next b s h = ap (λ t. cond t 0 (announcing s + 1)) (le-ltb b 128 h)

-- the bytes that announce another are no more than there are
pub announcing_le : (s : List ℕ) → announcing s ≤ length s
unfolding announcing
announcing_le [] = omega arith
announcing_le (b ∷ s) = let h = announcing_le s in grind arith

-- where all before it announce another, and a byte does too, there is one more
pub announcing_more : (s : List ℕ) (i : ℕ) → i ≤ announcing s → i < length s → 128 ≤ get_or s i 0 → i + 1 ≤ announcing s
announcing_more [] i a h l = absurd (omega arith)
announcing_more (b ∷ s) zero a h l = omega (arith, announcing_next b s l)
announcing_more (b ∷ s) (suc i) a h l =
    elim (cases_lt b 128) [
      | inl p ↦ absurd (omega (arith, announcing_last b s p))
      | inr p ↦
          let e = announcing_next b s p in
          let r : i + 1 ≤ announcing s = announcing_more s i (omega arith) (omega arith) l in
          omega arith
    ]

-- where all before it announce another, and a byte does not, there are no more
pub announcing_here : (s : List ℕ) (i : ℕ) → i ≤ announcing s → i < length s → get_or s i 0 < 128 → announcing s ≡ i
announcing_here [] i a h l = absurd (omega arith)
announcing_here (b ∷ s) zero a h l = announcing_last b s l
announcing_here (b ∷ s) (suc i) a h l =
    elim (cases_lt b 128) [
      | inl p ↦ absurd (omega (arith, announcing_last b s p))
      | inr p ↦
          let e = announcing_next b s p in
          let r : announcing s ≡ i = announcing_here s i (omega arith) (omega arith) l in
          omega arith
    ]

value_push : (xs : List ℕ) (b : ℕ) → value_of (xs ++ b ∷ []) ≡ value_of xs + (b % 128) * 128 ^ length xs
unfolding value_of
value_push [] b = omega arith
value_push (x ∷ xs) b =
    let n = length xs in
    let r : b % 128 * 128 ^ suc n ≡ 128 * (b % 128 * 128 ^ n) = ap (λ w. b % 128 * w) (pow-succ' 128 n) ∙ mul_left_comm (b % 128) 128 (128 ^ n) in
    let v = value_push xs b in
    omega arith

-- one more group
pub value_more : (s : List ℕ) (i : ℕ) → i < length s → value_of (take (i + 1) s) ≡ value_of (take i s) + (get_or s i 0 % 128) * 128 ^ i
value_more s i h =
    ap value_of (take_more s i 0 h) ∙ value_push (take i s) (get_or s i 0) ∙ ap (λ n. value_of (take i s) + (get_or s i 0 % 128) * 128 ^ n) (length-take-le i s (omega arith))

-- the weight of a group that a number of at most four groups has
pub small_weight : (i : ℕ) → i < 4 → 128 ^ i ≤ 2097152
small_weight zero h = omega arith
small_weight (suc zero) h = omega arith
small_weight (suc (suc zero)) h = omega arith
small_weight (suc (suc (suc zero))) h = omega arith
small_weight (suc (suc (suc (suc n)))) h = absurd (omega arith)

-- a group adds to what is below its weight no more than to make the next
pub group_below : (v g b w : ℕ) → g ≡ b % 128 → v < w → v + g * w < 128 * w
group_below v g b w e h =
    let r : g ≤ 127 = omega (arith, mod-lt b {m = 128} (omega arith)) in
    omega (arith, mul-le-mul_right {m = g} {n = 127} w r)

-- what bytes write is below the weight of the next group
pub value_below : (w : List ℕ) → value_of w < 128 ^ length w
unfolding value_of
value_below [] = omega arith
value_below (b ∷ s) = omega (arith, value_below s, mod-lt b {m = 128} (omega arith), pow-succ' 128 (length s))

-- ---- what comes of a number

pub number_long : (n : ℕ) (s : List ℕ) → n ≤ announcing s → number_at n s ≡ Err TooLong
number_long n s h = cond-true _ _ _ (le-leb n (announcing s) h)

pub number_ends : (n : ℕ) (s : List ℕ) → announcing s < n → length s ≤ announcing s → number_at n s ≡ Err Ends
number_ends n s h e = cond-false _ _ _ (lt-leb n (announcing s) h) ∙ cond-true _ _ _ (le-leb (length s) (announcing s) e)

pub number_whole : (n : ℕ) (s : List ℕ) → announcing s < n → announcing s < length s →
    number_at n s ≡ Ok (value_of (take (announcing s + 1) s), announcing s + 1)
number_whole n s h e = cond-false _ _ _ (lt-leb n (announcing s) h) ∙ cond-false _ _ _ (lt-leb (length s) (announcing s) e)

-- a number has a byte, its bytes are no more than there are and than it may have, and it is below the weight of the group after the last
pub number_small : (n v k : ℕ) (s : List ℕ) → number_at n s ≡ Ok (v, k) → (1 ≤ k) × (k ≤ length s) × (k ≤ n) × (v < 128 ^ n)
number_small n v k s e =
    elim (cases_lt (announcing s) n) [
      | inr p ↦ let f = number_long n s p in let z : ◌≡◌ {A = ℕ} 0 1 = cc in absurd (omega arith)
      | inl p ↦
          elim (cases_lt (announcing s) (length s)) [
            | inr q ↦ let f = number_ends n s p q in let z : ◌≡◌ {A = ℕ} 0 1 = cc in absurd (omega arith)
            | inl q ↦
                let f = number_whole n s p q in
                let w = take (announcing s + 1) s in
                let g : ◌≡◌ {A = ℕ × ℕ} (v, k) (value_of w, announcing s + 1) = cc in
                let x : k ≡ announcing s + 1 = ap (λ p. p.1) g in
                let y : v ≡ value_of w = ap (λ p. p.0) g in
                let l : length w ≤ n = omega (arith, length-take-le (announcing s + 1) s (omega arith)) in
                let b : 128 ^ length w ≤ 128 ^ n = pow-le-pow_right {n = 128} (omega arith) l in
                (omega arith, omega arith, omega arith, omega (arith, value_below w))
          ]
    ]
