-- Intervals, overfull intervals, energies and candidates.
use Rattle.std.specs.Prelude.{◌≡◌, ℕ, ◌+◌, ◌-◌, ◌*◌, ◌/◌, ◌<◌, ◌≤◌, min, cond, ◌&&◌, ◌⊎◌, ◌==◌, nat_le}
use Rattle.model.specs.declared.entries.Entry.{Entry}
use Rattle.model.specs.Total.{total}
use Rattle.model.specs.Sheets.{Sheet, count, entry, horizon, work}

-- t1 and t2 are an interval, which covers the slots t1 to t2 - 1.
pub record IsInterval (t1 t2 : ℕ) : Type 0 where
  pub ordered : t1 < t2
  pub inside : t2 ≤ horizon

-- P holds of some entry of the sheet.
abbrev pub SomeEntry : Sheet → (Entry → Type 0) → Type 0
SomeEntry s P = (k : ℕ) × (k < count s) × P (entry s k)

-- ---- overfull intervals

-- The work of an entry whose window lies inside an interval, else 0.
abbrev pub work_inside : ℕ → ℕ → Entry → ℕ
work_inside t1 t2 e = cond (nat_le t1 e.release && nat_le e.deadline t2) (work e) 0

-- The work of all entries whose windows lie inside an interval.
abbrev pub work_in : Sheet → ℕ → ℕ → ℕ
work_in s t1 t2 = total (count s) (λ k. work_inside t1 t2 (entry s k))

-- From some release t1 to some deadline t2 the entries inside have more work than there is room.
pub record Overfull (s : Sheet) (t1 t2 : ℕ) : Type 0 where
  pub opens : SomeEntry s (λ e. e.release ≡ t1)
  pub closes : SomeEntry s (λ e. e.deadline ≡ t2)
  pub ordered : t1 < t2
  pub over : s.capacity * (t2 - t1) < work_in s t1 t2

-- No interval of the sheet is overfull.
abbrev pub NowhereOverfull : Sheet → Type 0
NowhereOverfull s = (t1 t2 : ℕ) → ¬ Overfull s t1 t2

-- ---- energies

-- The slots that an entry runs from t1 on where it starts as early as it can.
abbrev pub left_part : Entry → ℕ → ℕ
left_part e t1 = e.duration - (t1 - e.release)

-- The slots that an entry runs before t2 where it ends as late as it can.
abbrev pub right_part : Entry → ℕ → ℕ
right_part e t2 = e.duration - (e.deadline - t2)

-- The slots of an interval that an entry takes in any placement: the least of the length, the left part and the right part.
abbrev pub held : Entry → ℕ → ℕ → ℕ
held e t1 t2 = min (t2 - t1) (min (left_part e t1) (right_part e t2))

-- The energy of an entry in an interval.
unfoldable pub energy_of : Entry → ℕ → ℕ → ℕ
energy_of e t1 t2 = e.demand * held e t1 t2

-- The energies of all entries in an interval.
abbrev pub energy : Sheet → ℕ → ℕ → ℕ
energy s t1 t2 = total (count s) (λ k. energy_of (entry s k) t1 t2)

-- An interval has negative slack: the energies are more than the room.
abbrev pub NegativeSlack : Sheet → ℕ → ℕ → Type 0
NegativeSlack s t1 t2 = s.capacity * (t2 - t1) < energy s t1 t2

-- Some interval, candidate or not, has negative slack.
abbrev pub NegativeSomewhere : Sheet → Type 0
NegativeSomewhere s = (t1 t2 : ℕ) × IsInterval t1 t2 × NegativeSlack s t1 t2

-- ---- candidates

-- t is where an entry can start, must have started, or can first have ended.
abbrev pub Starts : ℕ → Entry → Type 0
Starts t e = (t ≡ e.release) ⊎ (t ≡ e.deadline - e.duration) ⊎ (t ≡ e.release + e.duration)

-- t is where an entry must have ended, can first end, or must have started.
abbrev pub Ends : ℕ → Entry → Type 0
Ends t e = (t ≡ e.deadline) ⊎ (t ≡ e.release + e.duration) ⊎ (t ≡ e.deadline - e.duration)

-- t1 and t2 lie symmetrically in an entry's window.
abbrev pub Partners : ℕ → ℕ → Entry → Type 0
Partners t1 t2 e = t1 + t2 ≡ e.release + e.deadline

abbrev pub StartPoint : Sheet → ℕ → Type 0
StartPoint s t = SomeEntry s (Starts t)

abbrev pub EndPoint : Sheet → ℕ → Type 0
EndPoint s t = SomeEntry s (Ends t)

abbrev pub PartnerPoints : Sheet → ℕ → ℕ → Type 0
PartnerPoints s t1 t2 = SomeEntry s (Partners t1 t2)

-- A candidate is an interval from a start point to an end point, or with one of them and its partner in some entry's window.
pub record Candidate (s : Sheet) (t1 t2 : ℕ) : Type 0 where
  pub interval : IsInterval t1 t2
  pub points : (StartPoint s t1 × EndPoint s t2) ⊎ (StartPoint s t1 × PartnerPoints s t1 t2) ⊎ (EndPoint s t2 × PartnerPoints s t1 t2)

-- No interval has a greater excess of energy over room than t1, t2.
abbrev pub LeastSlack : Sheet → ℕ → ℕ → Type 0
LeastSlack s t1 t2 = (u1 u2 : ℕ) → IsInterval u1 u2 → energy s u1 u2 + s.capacity * (t2 - t1) ≤ energy s t1 t2 + s.capacity * (u2 - u1)

-- ---- ends that an interval forces

-- The energies in an interval of all entries but the one at place k.
abbrev pub energy_of_others : Sheet → ℕ → ℕ → ℕ → ℕ
energy_of_others s k t1 t2 = total (count s) (λ j. cond (j == k) 0 (energy_of (entry s j) t1 t2))

-- What an interval lacks where the entry at place k starts as early as it can; 0 where it lacks nothing.
abbrev pub lack : Sheet → ℕ → ℕ → ℕ → ℕ
lack s k t1 t2 = (energy_of_others s k t1 t2 + (entry s k).demand * min (t2 - t1) (left_part (entry s k) t1)) - s.capacity * (t2 - t1)

-- A quotient rounded up.
abbrev pub ceiling : ℕ → ℕ → ℕ
ceiling x c = (x + (c - 1)) / c

-- A candidate t1, t2 that closes before the deadline of the entry at place k forces it to end no earlier than `end`.
pub record ForcedEnd (s : Sheet) (k end : ℕ) : Type 0 where
  pub t1 : ℕ
  pub t2 : ℕ
  pub candidate : Candidate s t1 t2
  pub closes : t2 < (entry s k).deadline
  pub short : 0 < lack s k t1 t2
  pub past : end ≡ t2 + ceiling (lack s k t1 t2) (entry s k).demand
