-- T and its law.
use Rattle.std.proofs.Common.{◌≡◌, ℕ, ◌+◌, ◌-◌, ◌<◌, ◌≤◌, true, false, ◌⊎◌, Some, None, Option, refl, ap, ◌∙◌, inl, inr, arith}
use Rattle.std.proofs.lemmas.Bool.Decides.{nat_tests}
use Rattle.std.proofs.lemmas.Bool.{cases_lt, cases_eq, lt-ltb, le-ltb, ltb-true, ltb-false, eqb-true, eqb-false}
use Rattle.model.specs.declared.entries.Entry.{Entry}
use Rattle.model.specs.declared.intervals.Interval.{Interval}
use Rattle.model.specs.Total.{total}
use Rattle.model.specs.Sheets.{Sheet, Sound, Placement, count, entry, horizon, demand_at}
use Rattle.model.specs.Rules.{Meaning, Lawful, Named}
use Rattle.model.specs.TimeTable.{fixed_at, usage, usage_of_others, Crowded, RoomAt, FirstRoom, NoRoom, IsT}
use Rattle.model.proofs.Sums.{total_le}
use Rattle.model.proofs.Search.{named_unique}
use Rattle.timetable.specs.Meaning.{first_of, crowded?, slot, first_crowded, taken?, room?, first_room, meaning_T}
use Rattle.timetable.specs.Theorems.{TKeepsTheLaw}
use Rattle.model.proofs.Others.{without, total_without, without_le}
use Rattle.timetable.proofs.Searches.{Found, found}

-- ---- the usage of others

-- the usage is that of the others and the entry's own
pub usage_split : (s : Sheet) (k t : ℕ) → k < count s → usage_of_others s k t + fixed_at t (entry s k) ≡ usage s t
usage_split s k t l = total_without (count s) k (λ j. fixed_at t (entry s j)) l

pub others_by_usage : (s : Sheet) (k t : ℕ) → k < count s → usage_of_others s k t ≡ usage s t - fixed_at t (entry s k)
others_by_usage s k t l = let e = usage_split s k t l in omega arith

-- ---- what a placement uses

-- an entry runs in its fixed part wherever it starts
fixed_runs : (e : Entry) (start t : ℕ) → e.release ≤ start → start + e.duration ≤ e.deadline → fixed_at t e ≤ demand_at start t e
fixed_runs e start t low high = grind (arith, nat_tests)

runs_there : (e : Entry) (start t : ℕ) → start ≤ t → t < start + e.duration → demand_at start t e ≡ e.demand
runs_there e start t low high = grind (arith, nat_tests)

module _ (s : Sheet) (start : ℕ → ℕ) (p : Placement s start) where
  usage_fits : (t : ℕ) → t < horizon → usage s t ≤ s.capacity
  usage_fits t h =
      let le : usage s t ≤ total (count s) (λ k. demand_at (start k) t (entry s k)) =
      total_le (count s) _ _ (λ k l. fixed_runs (entry s k) (start k) t (p.released k l) (p.in_time k l)) in
      omega (arith, p.within t h)

  -- an entry has room where a placement starts it
  room_there : Sound s → (k : ℕ) → k < count s → RoomAt s k (start k)
  room_there sound k l t low high =
      let runs : ℕ → ℕ = λ j. demand_at (start j) t (entry s j) in
      let le : usage_of_others s k t ≤ total (count s) (without k runs) =
      without_le (count s) k (λ j. fixed_at t (entry s j)) runs
      (λ j b. fixed_runs (entry s j) (start j) t (p.released j b) (p.in_time j b)) in
      let whole = total_without (count s) k runs l in
      let here : runs k ≡ (entry s k).demand = runs_there (entry s k) (start k) t low high in
      let inside : t < horizon = omega (arith, p.in_time k l, sound.each k l) in
      omega (arith, p.within t inside)

-- ---- every meaning that is T keeps the law
module _ (rule : Meaning) (is : IsT rule) where
  crowded : (s : Sheet) → Sound s → (i : Interval) → rule.evidence s ≡ Some i → Crowded s i.t1 i.t2
  crowded s sound i e = let f = rw e at (is.named s sound) in f.0

  inside : (s : Sheet) → Sound s → (k : ℕ) → k < count s → (n : ℕ) → FirstRoom s k n ⊎ NoRoom s k n → n ≤ horizon
  inside s sound k l n r =
      let each = sound.each k l in
      elim r [ inl first ↦ omega arith | inr none ↦ omega arith ]

  no_sooner : (s : Sheet) → Sound s → (start : ℕ → ℕ) → Placement s start → (k : ℕ) → k < count s → (n : ℕ) →
      FirstRoom s k n ⊎ NoRoom s k n → n ≤ start k
  no_sooner s sound start p k l n r =
      let room = room_there s start p sound k l in
      let low = p.released k l in
      let high = p.in_time k l in
      elim (cases_lt (start k) n) [
        | inr le ↦ le
        | inl lt ↦ elim r [
          | inl first ↦ absurd (first.smallest (start k) low lt room)
          | inr none ↦ absurd (none.nowhere (start k) low (omega arith) room)
        ]
      ]

  pub lawful_T : Lawful rule
  lawful_T =
      record {
        proper = record {
          tells = λ s sound i e. let c = crowded s sound i e in record { ordered = omega arith; inside = omega arith };
          present = λ s sound k l. let (n, r, e) = is.start s sound k l in (n, e, inside s sound k l n r);
          absent = is.absent;
        };
        refutes = λ s sound i e start p. let c = crowded s sound i e in omega (arith, usage_fits s start p i.t1 c.inside);
        never_before = λ s sound none start p k n l e.
            let (m, r, e') = is.start s sound k l in
            let same : n ≡ m = cc in
            omega (arith, no_sooner s sound start p k l m r);
      }

-- ---- the computation is T
crowded_false : (s : Sheet) (t : ℕ) → crowded? s t ≡ false → usage s t ≤ s.capacity
crowded_false s t e = ltb-false s.capacity (usage s t) e

module _ (s : Sheet) where
  at_slot : (t : ℕ) → Found (crowded? s) 0 horizon t → Named (Crowded s) (slot t)
  at_slot t f =
      elim (cases_lt t horizon) [
        | inl l ↦
            rw (lt-ltb t horizon l)
            ((
              record { inside = l; one = refl; above = ltb-true s.capacity (usage s t) (f.here (omega arith)) },
              λ t1 t2 c.
                  elim (cases_lt t1 t) [
                    | inl b ↦ absurd (omega (arith, c.above, crowded_false s t1 (f.before t1 (omega arith) b)))
                    | inr b ↦ elim (cases_eq t t1) [ inl e ↦ inr (e, omega (arith, c.one)) | inr d ↦ inl (omega arith) ]
                  ],
            ))
        | inr l ↦
            rw (le-ltb t horizon l)
            (λ t1 t2 c. omega (arith, c.above, crowded_false s t1 (f.before t1 (omega arith) (omega (arith, c.inside)))))
      ]

  named_T : Named (Crowded s) (first_crowded s)
  unfolding first_crowded
  named_T = at_slot (first_of (crowded? s) 0 horizon) (found (crowded? s) 0 horizon)

module _ (s : Sheet) (k : ℕ) where
  room_true : (n : ℕ) → room? s k n ≡ true → RoomAt s k n
  room_true n e t low high =
      let f = found (taken? s k) n (entry s k).duration in
      let end : first_of (taken? s k) n (entry s k).duration ≡ n + (entry s k).duration = eqb-true _ _ e in
      ltb-false s.capacity (usage_of_others s k t + (entry s k).demand) (f.before t low (omega arith))

  room_false : (n : ℕ) → room? s k n ≡ false → ¬ RoomAt s k n
  room_false n e room =
      let f = found (taken? s k) n (entry s k).duration in
      let at = first_of (taken? s k) n (entry s k).duration in
      let short : ¬ (at ≡ n + (entry s k).duration) = eqb-false _ _ e in
      let within : at < n + (entry s k).duration = omega arith in
      let taken = ltb-true s.capacity (usage_of_others s k at + (entry s k).demand) (f.here within) in
      omega (arith, room at f.low within)

  starts_T : (entry s k).release + (entry s k).duration ≤ (entry s k).deadline → FirstRoom s k (first_room s k) ⊎ NoRoom s k (first_room s k)
  unfolding first_room
  starts_T wide =
      let many = ((entry s k).deadline - (entry s k).duration + 1) - (entry s k).release in
      let f = found (room? s k) (entry s k).release many in
      let n = first_of (room? s k) (entry s k).release many in
      elim (cases_lt n ((entry s k).release + many)) [
        | inl l ↦ inl (record {
          released = f.low;
          in_time = omega arith;
          room = room_true n (f.here l);
          smallest = λ m low high. room_false m (f.before m low high);
        })
        | inr l ↦ inr (record {
          past = omega arith;
          nowhere = λ m low high. room_false m (f.before m low (omega arith));
        })
      ]

  pub present_T : k < count s → meaning_T.earliest s k ≡ Some (first_room s k)
  present_T l = rw (lt-ltb k (count s) l) refl

  pub absent_T : count s ≤ k → meaning_T.earliest s k ≡ None
  absent_T l = rw (le-ltb k (count s) l) refl

pub is_T : IsT meaning_T
is_T =
    record {
      named = λ s sound. named_T s;
      start = λ s sound k l. (first_room s k, starts_T s k (sound.each k l).room, present_T s k l);
      absent = λ s sound k l. absent_T s k l;
    }

pub t_keeps_the_law : TKeepsTheLaw
t_keeps_the_law = (is_T, lawful_T)

-- ---- whoever finds the answers has found T's

pub evidence_is_T : (s : Sheet) (o : Option Interval) → Named (Crowded s) o → meaning_T.evidence s ≡ o
evidence_is_T s o n = named_unique (Crowded s) (first_crowded s) o (named_T s) n

-- there is one smallest start
pub room_unique : (s : Sheet) (k m n : ℕ) → FirstRoom s k m ⊎ NoRoom s k m → FirstRoom s k n ⊎ NoRoom s k n → m ≡ n
room_unique s k m n (inl a) (inl b) =
    elim (cases_lt m n) [
      | inl l ↦ absurd (b.smallest m a.released l a.room)
      | inr l ↦ elim (cases_lt n m) [ inl g ↦ absurd (a.smallest n b.released g b.room) | inr g ↦ omega arith ]
    ]
room_unique s k m n (inl a) (inr b) = absurd (b.nowhere m a.released a.in_time a.room)
room_unique s k m n (inr a) (inl b) = absurd (a.nowhere n b.released b.in_time b.room)
room_unique s k m n (inr a) (inr b) = omega (arith, a.past, b.past)

pub start_is_T : (s : Sheet) → Sound s → (k : ℕ) → k < count s → (n : ℕ) → FirstRoom s k n ⊎ NoRoom s k n → meaning_T.earliest s k ≡ Some n
start_is_T s sound k l n r =
    present_T s k l ∙ ap Some (room_unique s k (first_room s k) n (starts_T s k (sound.each k l).room) r)

-- where the whole usage leaves room from the release on, the entry stays
pub stays_T : (s : Sheet) → Sound s → (k : ℕ) → k < count s →
    ((t : ℕ) → (entry s k).release ≤ t → t < (entry s k).release + (entry s k).duration → usage s t + (entry s k).demand ≤ s.capacity) →
    FirstRoom s k (entry s k).release
stays_T s sound k l room =
    record {
      released = omega arith;
      in_time = omega (arith, sound.each k l);
      room = λ t low high. omega (arith, usage_split s k t l, room t low high);
      smallest = λ m low high. absurd (omega arith);
    }
