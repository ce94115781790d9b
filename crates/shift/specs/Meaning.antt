-- S, the shift rule, as a computation.
use Rattle.std.specs.Prelude.{ℕ, ◌+◌, ◌-◌, ◌*◌, max, Bool, cond, ◌&&◌, ◌||◌, List, [], ◌∷◌, ◌++◌, Some, None, Option, ◌==◌, nat_le, nat_lt}
use Rattle.model.specs.declared.entries.Entry.{Entry}
use Rattle.model.specs.declared.intervals.Interval.{Interval}
use Rattle.model.specs.Sheets.{Sheet, count, entry, horizon}
use Rattle.model.specs.Energy.{energy, lack, ceiling}
use Rattle.model.specs.Rules.{Meaning}

-- ---- the list of candidates

-- The slots from t1 to before t2.
abbrev pub from_to : ℕ → ℕ → Interval
from_to t1 t2 = record { t1 = t1; t2 = t2 }

-- From t1 to each end point of an entry, and to the partner of t1 in its window.
abbrev pub from_start : ℕ → Entry → List Interval
from_start t1 e =
    from_to t1 e.deadline ∷
    (from_to t1 (e.release + e.duration) ∷ (from_to t1 (e.deadline - e.duration) ∷ (from_to t1 ((e.release + e.deadline) - t1) ∷ [])))

-- From the partner of t2 in the window of an entry to t2; empty where the partner would lie before slot 0.
abbrev pub to_end : ℕ → Entry → Interval
to_end t2 e = from_to (cond (nat_le t2 (e.release + e.deadline)) ((e.release + e.deadline) - t2) t2) t2

-- What the start points and the end points of one entry make with another entry, or with itself.
abbrev pub made_by : Entry → Entry → List Interval
made_by a b =
    from_start a.release b ++
    (from_start (a.deadline - a.duration) b ++
    (from_start (a.release + a.duration) b ++
    (to_end a.deadline b ∷ (to_end (a.release + a.duration) b ∷ (to_end (a.deadline - a.duration) b ∷ [])))))

-- The lists that a function makes of the entries, one after the other.
unfoldable pub gather : (Entry → List Interval) → List Entry → List Interval
gather f [] = []
gather f (e ∷ es) = f e ++ gather f es

-- Every candidate of the sheet, and some that are no interval.
unfoldable pub candidates : Sheet → List Interval
candidates s = gather (λ a. gather (made_by a) s.entries) s.entries

-- Whether t1 < t2 ≤ 4032.
abbrev pub interval? : Interval → Bool
interval? i = nat_lt i.t1 i.t2 && nat_le i.t2 horizon

-- ---- evidence

-- Whether the energies are more than the room.
abbrev pub negative? : Sheet → Interval → Bool
negative? s i = interval? i && nat_lt (s.capacity * (i.t2 - i.t1)) (energy s i.t1 i.t2)

-- Whether i comes no later than j, by start and then by end.
abbrev pub no_later? : Interval → Interval → Bool
no_later? i j = nat_lt i.t1 j.t1 || (i.t1 == j.t1 && nat_le i.t2 j.t2)

-- The first of i and of what was found beside it.
abbrev pub sooner : Interval → Option Interval → Option Interval
sooner i (Some j) = Some (cond (no_later? i j) i j)
sooner i None = Some i

-- The first, by start and then by end, of the intervals that pass a test.
unfoldable pub first_that : (Interval → Bool) → List Interval → Option Interval
first_that test [] = None
first_that test (i ∷ is) = cond (test i) (sooner i (first_that test is)) (first_that test is)

-- The first candidate of negative slack.
unfoldable pub first_negative : Sheet → Option Interval
first_negative s = first_that (negative? s) (candidates s)

-- ---- earliest starts

-- Whether an interval forces an end on the entry at place k.
abbrev pub forces? : Sheet → ℕ → Interval → Bool
forces? s k i = interval? i && (nat_lt i.t2 (entry s k).deadline && nat_lt 0 (lack s k i.t1 i.t2))

-- The start that an interval forces on the entry at place k, and 0 where it forces none.
abbrev pub forced_start : Sheet → ℕ → Interval → ℕ
forced_start s k i =
    cond (forces? s k i) ((i.t2 + ceiling (lack s k i.t1 i.t2) (entry s k).demand) - (entry s k).duration) 0

-- The greatest of n and of the values of a list.
unfoldable pub greatest : (Interval → ℕ) → ℕ → List Interval → ℕ
greatest f n [] = n
greatest f n (i ∷ is) = max (f i) (greatest f n is)

-- The greatest of the release and of all starts that are forced; the release where there is evidence.
abbrev pub start_beside : Option Interval → Sheet → ℕ → ℕ
start_beside (Some i) s k = (entry s k).release
start_beside None s k = greatest (forced_start s k) (entry s k).release (candidates s)

-- The earliest start of an entry that the sheet has.
unfoldable pub earliest_S : Sheet → ℕ → Option ℕ
earliest_S s k = cond (nat_lt k (count s)) (Some (start_beside (first_negative s) s k)) None

-- S: letter S (83).
abbrev pub meaning_S : Meaning
meaning_S = record { letter = 83; evidence = first_negative; earliest = earliest_S }
