-- A placement is an elastic schedule.
use Rattle.std.proofs.Common.{◌≡◌, ℕ, ◌+◌, ◌-◌, ◌*◌, min, ◌&&◌, ltb, leb, sym, refl, ap, ◌∙◌, inl, inr, mul_comm, mul-zero, arith}
use Rattle.std.proofs.lemmas.Bool.{cond_both, and_parts, and_cases, leb-true, leb-false, ltb-true, ltb-false}
use Rattle.model.specs.declared.entries.Entry.{Entry}
use Rattle.model.specs.Sheets.{Sheet, Sound, Elastic, Placement, entry, horizon, demand_at}
use Rattle.elastic.specs.Theorems.{PlacementsAreElastic}
use Rattle.model.proofs.Sums.{total_ext, total_scale, total_between, between}

pub channels : (at t : ℕ) (e : Entry) → demand_at at t e ≡ e.demand * between at (at + e.duration) t
channels at t e =
    cond_both (leb at t && ltb t (at + e.duration)) e.demand 0 (λ x. x ≡ e.demand * between at (at + e.duration) t)
    (λ runs.
    let p = and_parts (leb at t) (ltb t (at + e.duration)) runs in
    let one : between at (at + e.duration) t ≡ 1 = omega (arith, leb-true at t p.0, ltb-true t (at + e.duration) p.1) in
    rw one (omega arith))
    (λ rests.
    let none : between at (at + e.duration) t ≡ 0 =
    elim (and_cases (leb at t) (ltb t (at + e.duration)) rests)
    [ inl q ↦ omega (arith, leb-false at t q) | inr q ↦ omega (arith, ltb-false t (at + e.duration) q) ] in
    rw none (sym (mul-zero e.demand)))

pub demand_none : (at t : ℕ) (e : Entry) → between at (at + e.duration) t ≡ 0 → demand_at at t e ≡ 0
demand_none at t e z = channels at t e ∙ (rw z (mul-zero e.demand))

unfoldable pub placed_elastic : (s : Sheet) → Sound s → (start : ℕ → ℕ) → Placement s start → Elastic s
placed_elastic s good start p =
    record {
      given = λ i t. demand_at (start i) t (entry s i);
      before = λ i t l m. demand_none (start i) t (entry s i) (omega (arith, p.released i l));
      after = λ i t l m. demand_none (start i) t (entry s i) (omega (arith, p.in_time i l));
      whole = λ i l.
          let e : Entry = entry s i in
          let at : ℕ = start i in
          let long : min (at + e.duration) horizon - at ≡ e.duration = omega (arith, p.in_time i l, (good.each i l).within) in
          total_ext horizon (λ t. demand_at at t e) (λ t. e.demand * between at (at + e.duration) t) (λ t m. channels at t e)
          ∙ total_scale horizon e.demand (between at (at + e.duration))
          ∙ ap (λ x. e.demand * x) (total_between horizon at (at + e.duration) ∙ long)
          ∙ mul_comm e.demand e.duration;
      within = p.within;
    }

pub placements_are_elastic : PlacementsAreElastic
unfolding placed_elastic
placements_are_elastic s sound start p = (placed_elastic s sound start p, λ k t l. refl)
