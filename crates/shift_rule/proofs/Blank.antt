-- An array that is made of one value has it at each place, and what stands past the last is the same.
use Rattle.std.proofs.Common.{◌≡◌, ℕ, zero, suc, get_or, replicate, refl}

pub same_everywhere : {A : Type 0} (a : A) (n k : ℕ) → get_or (replicate n a) k a ≡ a
same_everywhere a zero k = refl
same_everywhere a (suc n) zero = refl
same_everywhere a (suc n) (suc k) = same_everywhere a n k
