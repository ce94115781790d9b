-- E, the elastic rule, as a definition that computes: what it answers on a small sheet can be read off.
use Rattle.std.specs.Prelude.{ℕ, zero, suc, ◌+◌, ◌-◌, ◌*◌, min, Bool, cond, not, ◌&&◌, is_some, Some, None, Option, nat_lt}
use Rattle.model.specs.declared.intervals.Interval.{Interval}
use Rattle.model.specs.Sheets.{Sheet, count, entry, cut}
use Rattle.model.specs.Energy.{work_in}
use Rattle.model.specs.Rules.{Meaning}

-- ---- the smallest and the first

-- The smaller of a number and of what was found before.
abbrev pub smaller : ℕ → Option ℕ → ℕ
smaller a (Some b) = min a b
smaller a None = a

-- The smallest of the numbers f 0, .., f (n - 1) that pass a test, if any does.
unfoldable pub smallest : ℕ → (ℕ → ℕ) → (ℕ → Bool) → Option ℕ
smallest zero f test = None
smallest (suc n) f test = cond (test (f n)) (Some (smaller (f n) (smallest n f test))) (smallest n f test)

-- The first of the n numbers from e on that passes a test, and e + n where none does.
unfoldable pub first_of : ℕ → ℕ → (ℕ → Bool) → ℕ
first_of zero e test = e
first_of (suc n) e test = cond (test e) e (first_of n (suc e) test)

-- ---- evidence

-- Whether the entries inside an interval have more work than there is room.
abbrev pub overfull : Sheet → ℕ → ℕ → Bool
overfull s t1 t2 = nat_lt t1 t2 && nat_lt (s.capacity * (t2 - t1)) (work_in s t1 t2)

-- The smallest deadline to which the interval from t1 is overfull.
unfoldable pub overfull_to : Sheet → ℕ → Option ℕ
overfull_to s t1 = smallest (count s) (λ k. (entry s k).deadline) (overfull s t1)

-- The smallest release from which some interval is overfull.
unfoldable pub overfull_from : Sheet → Option ℕ
overfull_from s = smallest (count s) (λ k. (entry s k).release) (λ t1. is_some (overfull_to s t1))

-- The interval from t1 to a deadline, where there is one.
abbrev pub interval_to : ℕ → Option ℕ → Option Interval
interval_to t1 (Some t2) = Some (record { t1 = t1; t2 = t2 })
interval_to t1 None = None

-- The interval from a release, where there is one, to the smallest deadline to which it is overfull.
abbrev pub interval_from : Sheet → Option ℕ → Option Interval
interval_from s (Some t1) = interval_to t1 (overfull_to s t1)
interval_from s None = None

-- The first overfull interval: the one of smallest release, then of smallest deadline.
unfoldable pub evidence_E : Sheet → Option Interval
evidence_E s = interval_from s (overfull_from s)

-- ---- earliest starts

-- Whether no interval of the sheet is overfull.
abbrev pub clear : Sheet → Bool
clear s = not (is_some (overfull_from s))

-- The smallest deadline, from the earliest end of the entry at place k to its deadline, to which it can be cut so that no interval is overfull.
-- The deadline itself need not be tried: that cut is the sheet.
unfoldable pub smallest_deadline : Sheet → ℕ → ℕ
smallest_deadline s k =
    first_of ((entry s k).deadline - ((entry s k).release + (entry s k).duration)) ((entry s k).release + (entry s k).duration) (λ e. clear (cut s k e))

-- The earliest start of the entry at place k: the smallest deadline minus the duration, and the release where the sheet is overfull.
unfoldable pub earliest_E : Sheet → ℕ → Option ℕ
earliest_E s k =
    cond (nat_lt k (count s)) (Some (cond (clear s) (smallest_deadline s k - (entry s k).duration) (entry s k).release)) None

-- E, whose letter has the code 69.
abbrev pub meaning_E : Meaning
meaning_E = record { letter = 69; evidence = evidence_E; earliest = earliest_E }
