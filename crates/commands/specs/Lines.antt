-- A line of bytes: its words, and the numbers and letters that words write.
use Rattle.std.specs.Prelude.{ℕ, ◌^◌, cond, ◌&&◌, List, [], ◌∷◌, ◌++◌, length, Some, None, Option, ◌==◌, nat_lt}
use Rattle.std.specs.Str.Parse.{digits_value}
use Rattle.std.specs.Str.{all_ascii_digits, chars}

-- A word of a line: bytes without a space, one or more.
abbrev pub Word : Type 0
Word = List ℕ

-- A word that ends before other words; where it has no bytes it is none.
abbrev pub ended : Word → List Word → List Word
ended [] others = others
ended (b ∷ w) others = (b ∷ w) ∷ others

-- The words of a line whose first word has begun with the bytes w before it. A space ends a word.
unfoldable pub words_after : Word → List ℕ → List Word
words_after w [] = ended w []
words_after w (b ∷ line) = cond (b == 32) (ended w (words_after [] line)) (words_after (w ++ (b ∷ [])) line)

-- The words of a line, parted by spaces.
abbrev pub words : List ℕ → List Word
words line = words_after [] line

-- The number that a word writes: one digit or more and nothing else, in base ten, below 2 ^ 32.
abbrev pub number_of : Word → Option ℕ
number_of w = cond (all_ascii_digits w && (nat_lt 0 (length w) && nat_lt (digits_value 10 w) (2 ^ 32))) (Some (digits_value 10 w)) None

-- The only one of some characters.
abbrev pub only : List ℕ → Option ℕ
only [] = None
only (c ∷ []) = Some c
only (c ∷ (d ∷ cs)) = None

-- The letter that a word is: it has one character, in UTF-8.
abbrev pub letter_of : Word → Option ℕ
letter_of w = only (chars w)
