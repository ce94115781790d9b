-- Sums over places.
use Rattle.std.specs.Prelude.{ℕ, zero, suc, ◌+◌}

-- The sum of f 0, f 1, .., f (n - 1).
unfoldable pub total : ℕ → (ℕ → ℕ) → ℕ
total zero f = 0
total (suc n) f = total n f + f n
