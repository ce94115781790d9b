-- What a range of numbers contains, and what it does not.
use Rattle.std.proofs.Common.{◌≡◌, ℕ, ◌<◌, ◌≤◌, ◌⊎◌, Bool, false, true, Some, inl, inr, is_le, nat_cmp, arith, rules}
use Rattle.std.proofs.lemmas.Bool.{cases_lt}
use Rattle.std.proofs.lemmas.Map.Keys.{le_from_is_le}
use Rattle.std.specs.declared.ops.RangeInclusive.{RangeInclusive}
use Rattle.std.specs.Range.{range_inclusive_start, range_inclusive_end, range_inclusive_exhausted, range_inclusive_contains, TellsInRangeInclusive}

at_most : (a b : ℕ) → a ≤ b → is_le (nat_cmp a b) ≡ true
at_most a b l = search rules

-- A range of the numbers a to b, from which none was taken.
abbrev pub Spans : RangeInclusive ℕ → ℕ → ℕ → Type 0
Spans r a b =
    record {
      start : range_inclusive_start r ≡ a;
      end : range_inclusive_end r ≡ b;
      exhausted : range_inclusive_exhausted r ≡ false;
    }

-- What it answers of a number.
abbrev pub Tells : RangeInclusive ℕ → ℕ → Bool → Type 0
Tells r x answer =
    record {
      value : answer ≡ range_inclusive_contains (λ a b. Some (nat_cmp a b)) r x;
      cases : TellsInRangeInclusive (λ a b. Some (nat_cmp a b)) (range_inclusive_start r) (range_inclusive_end r) x answer;
    }

-- What it does not contain lies before its first number or after its last.
pub outside : (r : RangeInclusive ℕ) (a b x : ℕ) → Spans r a b → Tells r x false → (x < a) ⊎ (b < x)
outside r a b x spans tells =
    elim (cases_lt x a) [
      | inl l ↦ inl l
      | inr from ↦
          elim (cases_lt b x) [
            | inl l ↦ inr l
            | inr to ↦
                let first = at_most (range_inclusive_start r) x (rw spans.start from) in
                let last = at_most x (range_inclusive_end r) (rw spans.end to) in
                let both = rw (first, spans.exhausted, last) at tells.value in cc
          ]
    ]

-- What it contains lies between them.
pub within : (r : RangeInclusive ℕ) (a b x : ℕ) → Spans r a b → Tells r x true → (a ≤ x) × (x ≤ b)
within r a b x spans tells =
    let first : range_inclusive_start r ≤ x = le_from_is_le _ _ tells.cases.0 in
    let last : x ≤ range_inclusive_end r = le_from_is_le _ _ tells.cases.1 in
    (omega arith, omega arith)
