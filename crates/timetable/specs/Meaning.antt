-- T, the time table rule, as a computation.
use Rattle.std.specs.Prelude.{ℕ, zero, suc, ◌+◌, ◌-◌, Bool, cond, Some, None, Option, ◌==◌, nat_lt}
use Rattle.model.specs.declared.intervals.Interval.{Interval}
use Rattle.model.specs.Sheets.{Sheet, count, entry, horizon}
use Rattle.model.specs.Rules.{Meaning}
use Rattle.model.specs.TimeTable.{usage, usage_of_others}

-- The smallest of the `many` numbers from n on that passes a test, and n + many where none does.
unfoldable pub first_of : (ℕ → Bool) → ℕ → ℕ → ℕ
first_of test n zero = n
first_of test n (suc many) = cond (test n) n (first_of test (n + 1) many)

-- Whether the usage of slot t is above the capacity.
abbrev pub crowded? : Sheet → ℕ → Bool
crowded? s t = nat_lt s.capacity (usage s t)

-- The slot t, as the interval t, t + 1, where it is one of the horizon.
abbrev pub slot : ℕ → Option Interval
slot t = cond (nat_lt t horizon) (Some (record { t1 = t; t2 = t + 1 })) None

-- The first slot whose usage is above the capacity.
unfoldable pub first_crowded : Sheet → Option Interval
first_crowded s = slot (first_of (crowded? s) 0 horizon)

-- Whether the entry at place k does not fit in slot t beside the fixed parts of the others.
abbrev pub taken? : Sheet → ℕ → ℕ → Bool
taken? s k t = nat_lt s.capacity (usage_of_others s k t + (entry s k).demand)

-- Whether the entry at place k has room from slot n on: none of its slots is taken.
abbrev pub room? : Sheet → ℕ → ℕ → Bool
room? s k n = first_of (taken? s k) n (entry s k).duration == n + (entry s k).duration

-- The smallest start from r to d - p that has room, and d - p + 1 where none has.
unfoldable pub first_room : Sheet → ℕ → ℕ
first_room s k = first_of (room? s k) (entry s k).release (((entry s k).deadline - (entry s k).duration + 1) - (entry s k).release)

-- The earliest start of an entry that the sheet has.
abbrev pub earliest_T : Sheet → ℕ → Option ℕ
earliest_T s k = cond (nat_lt k (count s)) (Some (first_room s k)) None

-- T: letter T (84).
abbrev pub meaning_T : Meaning
meaning_T = record { letter = 84; evidence = first_crowded; earliest = earliest_T }
