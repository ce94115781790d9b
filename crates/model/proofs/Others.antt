-- A sum without one place.
use Rattle.std.proofs.Common.{◌≡◌, ℕ, zero, suc, ◌+◌, ◌<◌, ◌≤◌, cond, eqb, sym, refl, ap, inl, inr, arith}
use Rattle.std.proofs.lemmas.Bool.{cases_eq, eq-eqb, ne_eqb}
use Rattle.model.specs.Total.{total}
use Rattle.model.proofs.Sums.{total_ext, total_le}

-- f, and 0 at place k
abbrev pub without : ℕ → (ℕ → ℕ) → ℕ → ℕ
without k f j = cond (eqb j k) 0 (f j)

pub without_else : (k : ℕ) (f : ℕ → ℕ) (j : ℕ) → ¬ (j ≡ k) → without k f j ≡ f j
without_else k f j d = rw (ne_eqb j k d) refl

pub without_here : (k : ℕ) (f : ℕ → ℕ) → without k f k ≡ 0
without_here k f = rw (eq-eqb k k refl) refl

-- the sum without a place and the value there make the sum
pub total_without : (n k : ℕ) (f : ℕ → ℕ) → k < n → total n (without k f) + f k ≡ total n f
unfolding total
total_without zero k f l = absurd (omega arith)
total_without (suc n) k f l =
    elim (cases_eq k n) [
      | inl e ↦
          let same : total n (without k f) ≡ total n f = total_ext n _ _ (λ i b. without_else k f i (omega arith)) in
          let here : without k f n ≡ 0 = rw e (without_here n f) in
          omega (arith, ap f e)
      | inr d ↦
          let there = without_else k f n (λ e. d (sym e)) in
          omega (arith, total_without n k f (omega arith))
    ]

pub without_le : (n k : ℕ) (f g : ℕ → ℕ) → ((j : ℕ) → j < n → f j ≤ g j) → total n (without k f) ≤ total n (without k g)
without_le n k f g h =
    total_le n _ _ (λ j l. elim (cases_eq j k) [
      | inl e ↦ rw e (omega (arith, without_here k f))
      | inr d ↦ omega (arith, without_else k f j d, without_else k g j d, h j l)
    ])
