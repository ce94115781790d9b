-- A loop that writes one value after another at its place.
use Rattle.std.proofs.Common.{◌≡◌, ℕ, ◌+◌, ◌<◌, ◌≢◌, List, length, get_or, set, sym, subst, inl, inr, arith}
use Rattle.std.proofs.lemmas.Bool.{cases_lt}
use Rattle.std.proofs.lemmas.List.{get_or-set_same, get_or-set_other}

-- What stands at each place below i, and at i, stands at each place below i + 1.
pub fill_on : {X : Type 0} (P : ℕ → X → Type 0) (d : X) (xs : List X) (i : ℕ) (v : X) → i < length xs →
    ((k : ℕ) → k < i → P k (get_or xs k d)) → P i v → (k : ℕ) → k < i + 1 → P k (get_or (set xs i v) k d)
fill_on P d xs i v l below here k h =
    elim (cases_lt k i) [
      | inl b ↦ let ne : k ≢ i = omega arith in subst (P k) (sym (get_or-set_other xs i k v d ne)) (below k b)
      | inr b ↦ let e : k ≡ i = omega arith in rw e (subst (P i) (sym (get_or-set_same xs i v d l)) here)
    ]

-- The same of numbers.
pub fill_more : (P : ℕ → ℕ → Type 0) (xs : List ℕ) (i v : ℕ) → i < length xs → ((k : ℕ) → k < i → P k (get_or xs k 0)) → P i v →
    (k : ℕ) → k < i + 1 → P k (get_or (set xs i v) k 0)
fill_more P xs i v = fill_on P 0 xs i v
