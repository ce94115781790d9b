-- A text at the front of a buffer.
use Rattle.std.specs.Prelude.{◌≡◌, ℕ, ◌<◌, ◌≤◌, List, ◌++◌, length, drop, Ok, Err, Result}
use Rattle.report.specs.declared.refusals.Refusal.{Refusal}
use Rattle.report.specs.declared.refusals.Refusal.TheVariants.{Short}

-- The number of a refusal.
abbrev pub number_of : Refusal → ℕ
number_of Short = 18

-- A text is written at the front of a buffer, the bytes after it stay, and its length is answered;
-- it is refused exactly where the buffer is shorter than the text, and then the whole buffer stays.
abbrev pub Writes : List ℕ → List ℕ → Result ℕ Refusal → List ℕ → Type 0
Writes text before (Ok n) after = (n ≡ length text) × (n ≤ length before) × (after ≡ text ++ drop n before)
Writes text before (Err Short) after = (length before < length text) × (after ≡ before)
