-- The energies on ramps are those of the entries.
use Rattle.std.proofs.Common.{◌≡◌, ℕ, zero, suc, ◌+◌, ◌-◌, ◌*◌, ◌<◌, ◌≤◌, min, ◌≢◌, length, get_or, set, sym, refl, ap, ◌∙◌, inl, inr, mul-le-mul_left, arith, length-set}
use Rattle.std.proofs.lemmas.List.{get_or-set_same, get_or-set_other}
use Rattle.std.proofs.lemmas.Bool.{cases_lt}
use Rattle.model.specs.declared.entries.Entry.{Entry}
use Rattle.model.specs.Total.{total}
use Rattle.model.specs.Sheets.{Sheet, entry, rows_max}
use Rattle.model.specs.Energy.{left_part, right_part, held, energy_of}
use Rattle.model.proofs.Sums.{total_ext, total_none, total_more}
use Rattle.shift.proofs.Energies.{energy_is}
use Rattle.shift_rule.specs.declared.ramps.Slopes.{Slopes}
use Rattle.shift_rule.specs.Ramps.{climb, climbed, Low}

-- ---- one entry
held_from : (e : Entry) (t1 t2 : ℕ) → e.release + e.duration ≤ e.deadline → t1 < t2 →
    min ((t2 - t1) - ((e.deadline - e.duration) - t1)) (left_part e t1) ≡ held e t1 t2
held_from e t1 t2 room l = grind arith

held_to : (e : Entry) (t1 t2 : ℕ) → e.release + e.duration ≤ e.deadline → t1 < t2 →
    min ((t2 - t1) - (t2 - (e.release + e.duration))) (right_part e t2) ≡ held e t1 t2
held_to e t1 t2 room l = grind arith

pub rise_from : (e : Entry) (t1 t2 : ℕ) → e.release + e.duration ≤ e.deadline → t1 < t2 →
    e.demand * min ((t2 - t1) - ((e.deadline - e.duration) - t1)) (left_part e t1) ≡ energy_of e t1 t2
rise_from e t1 t2 room l = ap (λ (n : ℕ). e.demand * n) (held_from e t1 t2 room l) ∙ sym (energy_is e t1 t2)

pub rise_to : (e : Entry) (t1 t2 : ℕ) → e.release + e.duration ≤ e.deadline → t1 < t2 →
    e.demand * min ((t2 - t1) - (t2 - (e.release + e.duration))) (right_part e t2) ≡ energy_of e t1 t2
rise_to e t1 t2 room l = ap (λ (n : ℕ). e.demand * n) (held_to e t1 t2 room l) ∙ sym (energy_is e t1 t2)

-- ---- sums of ramps
pub climbed_none : (r : Slopes) → r.count ≡ 0 → (far : ℕ) → climbed r far ≡ 0
unfolding climbed
climbed_none r e far = ap (λ (n : ℕ). total n (climb r far)) e ∙ total_none (climb r far)

pub low_none : (r : Slopes) → r.count ≡ 0 → (length r.offsets ≡ rows_max) × (length r.lengths ≡ rows_max) × (length r.demands ≡ rows_max) →
    ((k : ℕ) → get_or r.demands k 0 ≡ 0) → Low r 0
low_none r e many idle =
    record {
      past = λ k _. idle k;
      few = omega arith;
      places = many;
      summed = omega arith;
      topped = λ far. omega (arith, climbed_none r e far);
      low = λ k l. absurd (omega arith);
    }

-- past the last ramp nothing climbs, so that more places give the same sum
pub climb_past : (r : Slopes) (top : ℕ) → Low r top → (far k : ℕ) → r.count ≤ k → climb r far k ≡ 0
climb_past r top low far k l =
    omega (arith, ap (λ (c : ℕ). c * min (far - get_or r.offsets k 0) (get_or r.lengths k 0)) (low.past k l))

past_idle : (r : Slopes) (top : ℕ) → Low r top → (far m : ℕ) → total (r.count + m) (climb r far) ≡ total r.count (climb r far)
past_idle r top low far zero = ap (λ (n : ℕ). total n (climb r far)) (omega arith)
past_idle r top low far (suc m) =
    let e : r.count + suc m ≡ (r.count + m) + 1 = omega arith in
    ap (λ (n : ℕ). total n (climb r far)) e
    ∙ omega (arith, total_more (climb r far) (r.count + m), climb_past r top low far (r.count + m) (omega arith), past_idle r top low far m)

pub climbed_is : (r : Slopes) (far : ℕ) → climbed r far ≡ total r.count (climb r far)
unfolding climbed
climbed_is r far = refl

pub climbed_by : (r : Slopes) (top : ℕ) → Low r top → (far n : ℕ) → r.count ≤ n → climbed r far ≡ total n (climb r far)
climbed_by r top low far n more =
    let e : r.count + (n - r.count) ≡ n = omega arith in
    climbed_is r far ∙ sym (past_idle r top low far (n - r.count)) ∙ ap (λ (m : ℕ). total m (climb r far)) e

-- one ramp more, at the next place
module _ (r : Slopes) (top : ℕ) (low : Low r top) (room : r.count < rows_max) (offset long demand : ℕ) where
  abbrev more : Slopes
  more =
      record {
        count = r.count + 1;
        offsets = set r.offsets r.count offset;
        lengths = set r.lengths r.count long;
        demands = set r.demands r.count demand;
      }

  before : (far k : ℕ) → k < r.count → climb more far k ≡ climb r far k
  before far k l =
      let ne : k ≢ r.count = omega arith in
      let o = get_or-set_other r.offsets r.count k offset 0 ne in
      let p = get_or-set_other r.lengths r.count k long 0 ne in
      let c = get_or-set_other r.demands r.count k demand 0 ne in
      cc

  here : (far : ℕ) → climb more far r.count ≡ demand * min (far - offset) long
  here far =
      let (a, b, d) = low.places in
      let o = get_or-set_same r.offsets r.count offset 0 (omega arith) in
      let p = get_or-set_same r.lengths r.count long 0 (omega arith) in
      let c = get_or-set_same r.demands r.count demand 0 (omega arith) in
      cc

  pub climbed_more : (far : ℕ) → climbed more far ≡ climbed r far + demand * min (far - offset) long
  climbed_more far =
      let last = total_more (climb more far) r.count in
      let rest = total_ext r.count (climb more far) (climb r far) (before far) in
      omega (arith, climbed_is more far, climbed_is r far, here far)

  pub low_more : demand * long ≤ 16511040 → Low more (top + demand * long)
  low_more small =
      let (a, b, d) = low.places in
      record {
        few = omega arith;
        past = λ k l.
            let ne : k ≢ r.count = omega arith in
            omega (arith, get_or-set_other r.demands r.count k demand 0 ne, low.past k (omega arith));
        summed = omega (arith, low.summed);
        topped = λ far.
            let less : min (far - offset) long ≤ long = omega arith in
            omega (arith, climbed_more far, low.topped far, mul-le-mul_left demand less);
        places = (length-set r.offsets r.count offset ∙ a, length-set r.lengths r.count long ∙ b, length-set r.demands r.count demand ∙ d);
        low = λ k l. elim (cases_lt k r.count) [
          | inl under ↦
              let ne : k ≢ r.count = omega arith in
              let p = get_or-set_other r.lengths r.count k long 0 ne in
              let c = get_or-set_other r.demands r.count k demand 0 ne in
              rw (c, p) (low.low k under)
          | inr over ↦
              let e : k ≡ r.count = omega arith in
              let p = get_or-set_same r.lengths r.count long 0 (omega arith) in
              let c = get_or-set_same r.demands r.count demand 0 (omega arith) in
              rw (e, c, p) small
        ];
      }

-- ---- all entries

-- the ramps of the first i entries, at the intervals that have a side
abbrev pub Added : Sheet → (ℕ → ℕ → Type 0) → ℕ → Slopes → Type 0
Added s has i r = (t1 t2 : ℕ) → has t1 t2 → t1 < t2 → climbed r (t2 - t1) ≡ total i (λ k. energy_of (entry s k) t1 t2)

pub added_none : (s : Sheet) (has : ℕ → ℕ → Type 0) (r : Slopes) → r.count ≡ 0 → Added s has 0 r
added_none s has r e t1 t2 _ _ = climbed_none r e (t2 - t1) ∙ sym (total_none (λ k. energy_of (entry s k) t1 t2))

pub added_more : (s : Sheet) (has : ℕ → ℕ → Type 0) (i : ℕ) (r w : Slopes) (one : ℕ → ℕ) → Added s has i r →
    ((t1 t2 : ℕ) → has t1 t2 → t1 < t2 → one (t2 - t1) ≡ energy_of (entry s i) t1 t2) → ((far : ℕ) → climbed w far ≡ climbed r far + one far) →
    Added s has (i + 1) w
added_more s has i r w one old here climbs t1 t2 h l =
    omega (arith, climbs (t2 - t1), old t1 t2 h l, here t1 t2 h l, total_more (λ k. energy_of (entry s k) t1 t2) i)
