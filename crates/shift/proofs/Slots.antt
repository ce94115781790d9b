-- The slots that one entry holds in an interval, and how they change as the interval grows.
use Rattle.std.proofs.Common.{◌≡◌, ℕ, ◌+◌, ◌-◌, ◌*◌, ◌<◌, ◌≤◌, min, arith}
use Rattle.model.specs.declared.entries.Entry.{Entry}
use Rattle.model.specs.Energy.{held, left_part, Starts, Ends, Partners}

-- Where the end stands at no point of the entry, what it holds is convex in the end; and so of the start, and of both.
pub end_convex : (e : Entry) (t1 t2 : ℕ) → e.release + e.duration ≤ e.deadline → t1 < t2 → ¬ Ends t2 e → ¬ Partners t1 t2 e →
    2 * held e t1 t2 ≤ held e t1 (t2 + 1) + held e t1 (t2 - 1)
end_convex e t1 t2 room o n x = grind arith

pub start_convex : (e : Entry) (t1 t2 : ℕ) → e.release + e.duration ≤ e.deadline → 0 < t1 → t1 < t2 → ¬ Starts t1 e → ¬ Partners t1 t2 e →
    2 * held e t1 t2 ≤ held e (t1 - 1) t2 + held e (t1 + 1) t2
start_convex e t1 t2 room z o m x = grind arith

pub both_convex : (e : Entry) (t1 t2 : ℕ) → e.release + e.duration ≤ e.deadline → 0 < t1 → t1 + 2 ≤ t2 → ¬ Starts t1 e → ¬ Ends t2 e →
    2 * held e t1 t2 ≤ held e (t1 - 1) (t2 + 1) + held e (t1 + 1) (t2 - 1)
both_convex e t1 t2 room z o m n = grind arith

-- An entry that holds a single slot, neither end of which is a point of it, holds the slots on both sides too.
pub single_triple : (e : Entry) (t1 t2 : ℕ) → e.release + e.duration ≤ e.deadline → 0 < t1 → t2 ≡ t1 + 1 → ¬ Starts t1 e → ¬ Ends t2 e →
    3 * held e t1 t2 ≤ held e (t1 - 1) (t2 + 1)
single_triple e t1 t2 room z o m n = grind arith

-- Slots after the deadline, or before the release, hold nothing.
pub end_idle : (e : Entry) (t1 t2 : ℕ) → e.release + e.duration ≤ e.deadline → e.deadline < t2 → held e t1 t2 ≤ held e t1 (t2 - 1)
end_idle e t1 t2 room o = omega arith

pub start_idle : (e : Entry) (t1 t2 : ℕ) → e.release + e.duration ≤ e.deadline → t1 < e.release → held e t1 t2 ≤ held e (t1 + 1) t2
start_idle e t1 t2 room o = omega arith

pub held_none : (e : Entry) (t1 t2 : ℕ) → t2 ≤ t1 → held e t1 t2 ≡ 0
held_none e t1 t2 o = omega arith

-- What an entry holds is at most what it runs where it starts as early as it can, and that is at most its duration.
pub held_early : (e : Entry) (t1 t2 : ℕ) → held e t1 t2 ≤ min (t2 - t1) (left_part e t1)
held_early e t1 t2 = omega arith

pub early_within : (e : Entry) (t1 t2 : ℕ) → min (t2 - t1) (left_part e t1) ≤ e.duration
early_within e t1 t2 = omega arith

-- The slots that starting early takes beyond those held fit between t2 and the deadline.
pub early_after : (e : Entry) (t1 t2 : ℕ) → t2 < e.deadline → (min (t2 - t1) (left_part e t1) - held e t1 t2) + t2 ≤ e.deadline
early_after e t1 t2 l = omega arith
