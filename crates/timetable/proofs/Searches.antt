-- What a search upward finds.
use Rattle.std.proofs.Common.{◌≡◌, ℕ, zero, suc, ◌+◌, ◌<◌, ◌≤◌, Bool, true, false, inl, inr, arith}
use Rattle.std.proofs.lemmas.Bool.{cases_lt, cases_Bool}
use Rattle.timetable.specs.Meaning.{first_of}

-- the search stays within its numbers, passes over what fails, and stops at what passes
pub record Found (test : ℕ → Bool) (n many at : ℕ) : Type 0 where
  pub low : n ≤ at
  pub high : at ≤ n + many
  pub before : (j : ℕ) → n ≤ j → j < at → test j ≡ false
  pub here : at < n + many → test at ≡ true

pub found : (test : ℕ → Bool) (n many : ℕ) → Found test n many (first_of test n many)
unfolding first_of
found test n zero = record { low = omega arith; high = omega arith; before = λ j a b. absurd (omega arith); here = λ l. absurd (omega arith) }
found test n (suc many) =
    elim (cases_Bool (test n)) [
      | inl yes' ↦ rw yes' (record { low = omega arith; high = omega arith; before = λ j a b. absurd (omega arith); here = λ l. yes' })
      | inr no' ↦
          let f = found test (n + 1) many in
          rw no' (record {
            low = omega arith;
            high = omega arith;
            before = λ j a b. elim (cases_lt n j) [ inl l ↦ f.before j (omega arith) b | inr l ↦ let e : j ≡ n = omega arith in rw e no' ];
            here = λ l. f.here (omega arith);
          })
    ]
