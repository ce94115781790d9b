-- One slot after another, for a search of room.
use Rattle.std.proofs.Common.{ℕ, ◌+◌, ◌-◌, ◌*◌, ◌<◌, ◌≤◌, refl, inl, inr, mul-le-mul_left, arith}
use Rattle.std.proofs.lemmas.Bool.{cases_lt, cases_eq}
use Rattle.std.proofs.lemmas.Bool.Decides.{nat_tests}
use Rattle.model.specs.declared.entries.Entry.{Entry}
use Rattle.model.specs.Total.{total}
use Rattle.model.specs.Sheets.{Sheet, Sound, count, entry, rows_max}
use Rattle.model.specs.TimeTable.{fixed_at, usage_of_others, RoomAt, NoRoom}
use Rattle.model.proofs.Bounds.{total_most}
use Rattle.time_table_rule.specs.Rooms.{Seen}

-- a fixed part uses no more than the demand
pub fixed_most : (e : Entry) (t : ℕ) → fixed_at t e ≤ e.demand
fixed_most e t = grind (arith, nat_tests)

-- 64 entries of 4095 channels, and fewer of the first n
pub used_small : (s : Sheet) → Sound s → (n t : ℕ) → n ≤ count s → total n (λ k. fixed_at t (entry s k)) ≤ 262080
used_small s sound n t l =
    let each : total n (λ k. fixed_at t (entry s k)) ≤ 4095 * n =
    total_most n 4095 _ (λ k b. omega (arith, fixed_most (entry s k) t, sound.each k (omega arith), sound.small_capacity)) in
    let less : n ≤ rows_max = omega (arith, sound.few) in
    let few : 4095 * n ≤ 4095 * rows_max = mul-le-mul_left 4095 less in
    omega arith

module _ (s : Sheet) (k from t : ℕ) (seen : Seen s k from t) (short : t < from + (entry s k).duration) where
  -- a slot with room
  pub seen_room : usage_of_others s k t + (entry s k).demand ≤ s.capacity → Seen s k from (t + 1)
  seen_room fits =
      record {
        released = seen.released;
        in_time = seen.in_time;
        ahead = omega (arith, seen.ahead);
        near = omega arith;
        room = λ u low high. elim (cases_eq u t) [ inl e ↦ rw e fits | inr other ↦ seen.room u low (omega arith) ];
        none = seen.none;
      }

  module _ (taken : s.capacity < usage_of_others s k t + (entry s k).demand) where
    -- no start up to a slot without room has room
    passed : (m : ℕ) → (entry s k).release ≤ m → m < t + 1 → ¬ RoomAt s k m
    passed m low high room =
        elim (cases_lt m from) [
          | inl before ↦ seen.none m low before room
          | inr after ↦ omega (arith, room t (omega arith) (omega arith))
        ]

    -- a slot without room
    pub seen_taken : t < (entry s k).deadline - (entry s k).duration → Seen s k (t + 1) (t + 1)
    seen_taken more =
        record {
          released = omega (arith, seen.released, seen.ahead);
          in_time = omega arith;
          ahead = omega arith;
          near = omega arith;
          room = λ u low high. absurd (omega arith);
          none = passed;
        }

    -- and no start is left
    pub seen_all : (entry s k).deadline - (entry s k).duration ≤ t → NoRoom s k ((entry s k).deadline - (entry s k).duration + 1)
    seen_all last = record { past = refl; nowhere = λ m low high. passed m low (omega arith) }
