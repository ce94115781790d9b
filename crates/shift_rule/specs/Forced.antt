-- The start that one interval forces on one entry, by the slack that all entries leave it.
use Rattle.std.specs.Prelude.{ℕ, ◌+◌, ◌-◌, ◌*◌, min, cond, ◌&&◌, nat_lt}
use Rattle.model.specs.declared.entries.Entry.{Entry}
use Rattle.model.specs.Energy.{left_part, held, ceiling}

-- What the interval lacks where the entry starts as early as it can: its demand in the slots that it does not hold anyway, less the slack.
abbrev pub lack_beside : Entry → ℕ → ℕ → ℕ → ℕ
lack_beside e t1 t2 slack = e.demand * (min (t2 - t1) (left_part e t1) - held e t1 t2) - slack

-- The start that the interval forces on the entry, and 0 where it forces none.
abbrev pub start_after : Entry → ℕ → ℕ → ℕ → ℕ
start_after e t1 t2 slack =
    cond (nat_lt t2 e.deadline && nat_lt 0 (lack_beside e t1 t2 slack)) ((t2 + ceiling (lack_beside e t1 t2 slack) e.demand) - e.duration) 0
