-- The refusals by number.
use Rattle.std.specs.Prelude.{ℕ}
use Rattle.board.specs.declared.refusals.Refusal.{Refusal}
use Rattle.board.specs.declared.refusals.Refusal.TheVariants.{Capacity, Profile, Bearer, Duration, Demand, Window, Taken, Full, Unknown, Letter}

-- The number of a refusal. Where several reasons hold, the call is refused with the least.
abbrev pub number_of : Refusal → ℕ
number_of Capacity = 1
number_of Profile = 2
number_of Bearer = 3
number_of Duration = 4
number_of Demand = 5
number_of Window = 6
number_of Taken = 7
number_of Full = 8
number_of Unknown = 9
number_of Letter = 10
