-- Worked figures: bytes and the numbers that they write.
use Rattle.std.specs.Prelude.{◌≡◌, [], ◌∷◌, Ok, Err}
use Rattle.records.specs.declared.faults.NumberFault.TheVariants.{TooLong}
use Rattle.records.specs.Numbers.{number_at}

-- C0 1F is 4032 in two bytes, 85 00 is 5 in two bytes, and 80 80 80 is too long.
abbrev pub WrittenFigures : Type 0
WrittenFigures =
    (number_at 3 (0xc0 ∷ 0x1f ∷ []) ≡ Ok (4032, 2))
    × (number_at 3 (0x85 ∷ 0x00 ∷ []) ≡ Ok (5, 2))
    × (number_at 3 (0x80 ∷ 0x80 ∷ 0x80 ∷ []) ≡ Err TooLong)
