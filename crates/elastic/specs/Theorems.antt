-- What is proved of elastic schedules, of mirrors and of E.
use Rattle.std.specs.Prelude.{◌≡◌, ℕ, ◌+◌, ◌-◌, ◌<◌, ◌≤◌, ◌↔◌, Some, None}
use Rattle.model.specs.declared.intervals.Interval.{Interval}
use Rattle.model.specs.Sheets.{Sheet, Sound, Placement, NoPlacement, Elastic, CanEndBy, CanBeginFrom, Tight, count, entry, demand_at, horizon, mirror, cut}
use Rattle.model.specs.Energy.{NowhereOverfull}
use Rattle.model.specs.Rules.{Meaning, Lawful}
use Rattle.model.specs.Elastic.{SmallestDeadline, IsE}
use Rattle.elastic.specs.Meaning.{meaning_E}

-- ---- E

-- The definition that computes is E, and every meaning that is E keeps the law of rules.
abbrev pub EKeepsTheLaw : Type 0
EKeepsTheLaw = IsE meaning_E × ((rule : Meaning) → IsE rule → Lawful rule)

-- E has evidence only for a sheet without an elastic schedule, and a sheet for which it has none has an elastic schedule.
abbrev pub EIsExact : Type 0
EIsExact = (rule : Meaning) → IsE rule → (s : Sheet) → Sound s →
    ((i : Interval) → rule.evidence s ≡ Some i → ¬ Elastic s) × (rule.evidence s ≡ None → Elastic s)

-- Some elastic schedule ends the entry by its smallest deadline, and none ends it by any smaller one from its earliest end on.
abbrev pub SmallestIsFirst : Type 0
SmallestIsFirst = (s : Sheet) → Sound s → (k : ℕ) → k < count s → (e : ℕ) → SmallestDeadline s k e →
    CanEndBy s k e × ((d : ℕ) → (entry s k).release + (entry s k).duration ≤ d → d < e → ¬ CanEndBy s k d)

-- A deadline later than one that leaves no interval overfull, up to the entry's own, leaves none overfull.
abbrev pub LaterIsEnough : Type 0
LaterIsEnough = (s : Sheet) → Sound s → (k : ℕ) → k < count s → (e d : ℕ) →
    (entry s k).release + (entry s k).duration ≤ e → e ≤ d → d ≤ (entry s k).deadline → NowhereOverfull (cut s k e) → NowhereOverfull (cut s k d)

-- What E finds is the smallest deadline in both senses: no elastic schedule does better, and every later deadline does.
abbrev pub EFindsTheSmallestDeadline : Type 0
EFindsTheSmallestDeadline = SmallestIsFirst × LaterIsEnough

-- Where E has no evidence, and neither on the sheet nor on its mirror an earliest start past a release, elastic schedules reach both
-- ends of every window.
abbrev pub SettledWindowsAreTight : Type 0
SettledWindowsAreTight = (rule : Meaning) → IsE rule → (s : Sheet) → Sound s → rule.evidence s ≡ None →
    ((k n : ℕ) → k < count s → rule.earliest s k ≡ Some n → n ≤ (entry s k).release) →
    ((k n : ℕ) → k < count s → rule.earliest (mirror s) k ≡ Some n → n ≤ (entry (mirror s) k).release) → Tight s

-- ---- mirrors and cuts

-- Starts read backwards: seen from the other end of time, an entry begins where it ended.
abbrev pub backwards : Sheet → (ℕ → ℕ) → ℕ → ℕ
backwards s start k = horizon - (start k + (entry s k).duration)

-- The placements of the mirror are the placements read backwards, and read backwards twice a placement is itself.
pub record MirrorsPlacements (s : Sheet) : Type 0 where
  pub there : (start : ℕ → ℕ) → Placement s start → Placement (mirror s) (backwards s start)
  pub back : (start : ℕ → ℕ) → Placement (mirror s) start → Placement s (backwards s start)
  pub twice : (start : ℕ → ℕ) → Placement s start → (k : ℕ) → k < count s → backwards s (backwards s start) k ≡ start k

-- A sheet and its mirror have elastic schedules together; who can end by t on one can begin from the horizon - t on the other.
pub record MirrorsSchedules (s : Sheet) : Type 0 where
  pub both : Elastic (mirror s) ↔ Elastic s
  pub ends : (k t : ℕ) → CanEndBy (mirror s) k t ↔ CanBeginFrom s k (horizon - t)
  pub begins : (k t : ℕ) → CanBeginFrom (mirror s) k t ↔ CanEndBy s k (horizon - t)

-- Mirrors keep placements and schedules; mirroring twice changes nothing, nor does a cut at the entry's own deadline.
abbrev pub MirrorsKeep : Type 0
MirrorsKeep = (s : Sheet) → Sound s →
    MirrorsPlacements s × MirrorsSchedules s × (mirror (mirror s) ≡ s) × ((k : ℕ) → cut s k (entry s k).deadline ≡ s)

-- ---- placements

-- Every placement is an elastic schedule, which gives each entry its demand in the slots in which it runs.
abbrev pub PlacementsAreElastic : Type 0
PlacementsAreElastic = (s : Sheet) → Sound s → (start : ℕ → ℕ) → Placement s start →
    (f : Elastic s) × ((k t : ℕ) → k < count s → f.given k t ≡ demand_at (start k) t (entry s k))

-- Some sheet has a placement, some sheet has an elastic schedule and no placement, and some sheet has no elastic schedule.
abbrev pub SomeFitAndSomeDoNot : Type 0
SomeFitAndSomeDoNot =
    ((s : Sheet) × Sound s × ((start : ℕ → ℕ) × Placement s start))
    × ((s : Sheet) × Sound s × Elastic s × NoPlacement s)
    × ((s : Sheet) × Sound s × (¬ Elastic s) × NoPlacement s)
