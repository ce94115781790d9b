-- How a number is written: groups of seven bits, lowest first, one to a byte; a byte of 128 or more announces another group.
use Rattle.std.specs.Prelude.{ℕ, ◌+◌, ◌*◌, ◌%◌, cond, List, [], ◌∷◌, length, take, Ok, Err, Result, nat_le, nat_lt}
use Rattle.records.specs.declared.faults.NumberFault.{NumberFault}
use Rattle.records.specs.declared.faults.NumberFault.TheVariants.{Ends, TooLong}

-- The number that bytes write: the low seven bits of each, lowest group first.
unfoldable pub value_of : List ℕ → ℕ
value_of [] = 0
value_of (b ∷ s) = b % 128 + 128 * value_of s

-- How many bytes in a row, from the first on, announce another group.
unfoldable pub announcing : List ℕ → ℕ
announcing [] = 0
announcing (b ∷ s) = cond (nat_lt b 128) 0 (announcing s + 1)

-- The number of at most n groups at the front of a list, with its length in bytes. Its bytes are those that announce another group, and
-- one more. It is too long where its first n bytes all announce another; it ends too soon where the bytes give out before one that was announced.
abbrev pub number_at : ℕ → List ℕ → Result (ℕ × ℕ) NumberFault
number_at n s =
    cond (nat_le n (announcing s)) (Err TooLong)
    (cond (nat_le (length s) (announcing s)) (Err Ends)
    (Ok (value_of (take (announcing s + 1) s), announcing s + 1)))
