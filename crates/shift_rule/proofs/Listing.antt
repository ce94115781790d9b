-- The places of entries with a slot to spare, listed one after the other.
use Rattle.std.proofs.Common.{◌≡◌, ℕ, ◌<◌, ◌≤◌, List, length, get_or}

-- the places listed are those, of the first k, with P
pub record Listed (P : ℕ → Type 0) (places : List ℕ) (k : ℕ) : Type 0 where
  pub few : length places ≤ k
  pub below : (q : ℕ) → q < length places → get_or places q 0 < k
  pub each : (j : ℕ) → j < k → P j → (q : ℕ) × (q < length places) × (get_or places q 0 ≡ j)
