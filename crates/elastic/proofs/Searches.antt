-- What the searches find: the smallest number, and the first.
use Rattle.std.proofs.Common.{◌≡◌, ℕ, zero, suc, ◌+◌, ◌<◌, ◌≤◌, min, Bool, true, false, cond, Some, None, Option, refl, inl, inr, add-one, arith}
use Rattle.std.proofs.lemmas.Bool.{cases_lt, cases_eq, cond_both, both_ways}
use Rattle.model.proofs.Sums.{below_suc}
use Rattle.elastic.specs.Meaning.{smaller, smallest, first_of}

-- Of f 0, .., f (n - 1) the smallest that passes the test, or none passes.
abbrev pub Smallest : ℕ → (ℕ → ℕ) → (ℕ → Bool) → Option ℕ → Type 0
Smallest n f test (Some m) = ((i : ℕ) × (i < n) × (f i ≡ m)) × (test m ≡ true) × ((i : ℕ) → i < n → test (f i) ≡ true → m ≤ f i)
Smallest n f test None = (i : ℕ) → i < n → test (f i) ≡ false

module _ (n : ℕ) (f : ℕ → ℕ) (test : ℕ → Bool) where
  passes : (o : Option ℕ) → Smallest n f test o → test (f n) ≡ true → Smallest (suc n) f test (Some (smaller (f n) o))
  passes None none t = (
    (n, omega arith, refl),
    t,
    below_suc (λ i. test (f i) ≡ true → f n ≤ f i) n (λ i l p. absurd (both_ways (test (f i)) (none i l) p)) (λ p. omega arith),
  )
  passes (Some m) (at, tm, low) t =
      elim (cases_lt m (f n)) [
        | inl l ↦
            let e : min (f n) m ≡ m = omega arith in
            rw e ((at.0, omega (arith, at.1), at.2), tm, below_suc (λ i. test (f i) ≡ true → m ≤ f i) n low (λ p. omega arith))
        | inr l ↦
            let e : min (f n) m ≡ f n = omega arith in
            rw e ((n, omega arith, refl), t, below_suc (λ i. test (f i) ≡ true → f n ≤ f i) n (λ i b p. omega (arith, low i b p)) (λ p. omega arith))
      ]

  fails : (o : Option ℕ) → Smallest n f test o → test (f n) ≡ false → Smallest (suc n) f test o
  fails None none t = below_suc (λ i. test (f i) ≡ false) n none t
  fails (Some m) (at, tm, low) t = (
    (at.0, omega (arith, at.1), at.2),
    tm,
    below_suc (λ i. test (f i) ≡ true → m ≤ f i) n low (λ p. absurd (both_ways (test (f n)) t p)),
  )

pub smallest_is : (n : ℕ) (f : ℕ → ℕ) (test : ℕ → Bool) → Smallest n f test (smallest n f test)
unfolding smallest
smallest_is zero f test = λ i l. absurd (omega arith)
smallest_is (suc n) f test =
    let before = smallest_is n f test in
    cond_both (test (f n)) (Some (smaller (f n) (smallest n f test))) (smallest n f test) (Smallest (suc n) f test)
    (passes n f test (smallest n f test) before) (fails n f test (smallest n f test) before)

-- the start and the step of a loop
pub smallest_none : (f : ℕ → ℕ) (test : ℕ → Bool) → smallest 0 f test ≡ None
unfolding smallest
smallest_none f test = refl

pub smallest_more : (n : ℕ) (f : ℕ → ℕ) (test : ℕ → Bool) →
    smallest (n + 1) f test ≡ cond (test (f n)) (Some (smaller (f n) (smallest n f test))) (smallest n f test)
unfolding smallest
smallest_more n f test = rw add-one refl

-- Of the n numbers from e on the first that passes the test, or e + n.
pub record First (n e : ℕ) (test : ℕ → Bool) (m : ℕ) : Type 0 where
  pub low : e ≤ m
  pub high : m ≤ e + n
  pub passed : (m < e + n) → test m ≡ true
  pub first : (j : ℕ) → e ≤ j → j < m → test j ≡ false

pub first_is : (n e : ℕ) (test : ℕ → Bool) → First n e test (first_of n e test)
unfolding first_of
first_is zero e test =
    record { low = omega arith; high = omega arith; passed = λ l. absurd (omega arith); first = λ j l m. absurd (omega arith) }
first_is (suc n) e test =
    cond_both (test e) e (first_of n (suc e) test) (First (suc n) e test)
    (λ t. record { low = omega arith; high = omega arith; passed = λ l. t; first = λ j l m. absurd (omega arith) })
    (λ t.
    let rest = first_is n (suc e) test in
    record {
      low = omega (arith, rest.low);
      high = omega (arith, rest.high);
      passed = λ l. rest.passed (omega arith);
      first = λ j l m. elim (cases_eq j e) [ inl same ↦ rw same t | inr other ↦ rest.first j (omega arith) m ];
    })
