-- Elastic schedules of mirrors.
use Rattle.std.proofs.Common.{◌≡◌, ℕ, suc, ◌+◌, ◌-◌, ◌*◌, ◌<◌, ◌≤◌, sym, refl, ◌∙◌, inl, inr, mul-le-mul_right, mul-zero, arith}
use Rattle.std.proofs.lemmas.Bool.{cases_lt}
use Rattle.model.specs.Total.{total}
use Rattle.model.specs.Sheets.{Sheet, Sound, Elastic, count, entry, work, horizon, mirror}
use Rattle.model.proofs.Sums.{total_ext, total_scale, total_reverse, below}
use Rattle.model.proofs.Mirrors.{mirror_count, mirror_at, mirror_sound, mirror_twice, mirror_placement, mirror_placement_back}
use Rattle.model.proofs.Cuts.{cut_own}
use Rattle.elastic.specs.Theorems.{MirrorsSchedules, MirrorsKeep}
use Rattle.elastic.proofs.Hall.{Filled}
use Rattle.elastic.proofs.Exact.{to_filled, from_filled}

-- time run backwards, over H slots
mirrored : (H n n' : ℕ) (r d w r' d' w' : ℕ → ℕ) (C : ℕ) → n' ≡ n
    → ((i : ℕ) → i < n → (r' i + d i ≡ H) × (d' i + r i ≡ H) × (w' i ≡ w i))
    → Filled H n r d w (λ t. C) → Filled H n' r' d' w' (λ t. C)
mirrored H n n' r d w r' d' w' C same turned f =
    record {
      given = λ i t. below t H * f.given i (H - suc t);
      before = λ i t l m.
          let h = turned i (omega arith) in
          rw (f.after i (H - suc t) (omega arith) (omega arith)) (mul-zero (below t H));
      after = λ i t l m.
          let h = turned i (omega arith) in
          elim (cases_lt t H) [
            | inl k ↦ rw (f.before i (H - suc t) (omega arith) (omega arith)) (mul-zero (below t H))
            | inr k ↦ let z : below t H ≡ 0 = omega arith in rw z (omega arith)
          ];
      whole = λ i l.
          total_ext H (λ t. below t H * f.given i (H - suc t)) (λ t. f.given i (H - suc t))
          (λ t m. let o : below t H ≡ 1 = omega arith in rw o (omega arith))
          ∙ total_reverse H (f.given i) ∙ f.whole i (omega arith) ∙ sym (turned i (omega arith)).2;
      within = λ t.
          let e1 = total_scale n (below t H) (λ i. f.given i (H - suc t)) in
          let e2 : below t H * total n (λ i. f.given i (H - suc t)) ≤ 1 * total n (λ i. f.given i (H - suc t)) =
          mul-le-mul_right (total n (λ i. f.given i (H - suc t))) (omega arith) in
          rw same (omega (arith, f.within (H - suc t)));
    }

module _ (s : Sheet) (good : Sound s) where
  mirror_window : (i : ℕ) → i < count s
      → ((entry (mirror s) i).release + (entry s i).deadline ≡ horizon) × ((entry (mirror s) i).deadline + (entry s i).release ≡ horizon)
      × (work (entry (mirror s) i) ≡ work (entry s i))
  mirror_window i l =
      let g = good.each i l in
      rw (mirror_at s i l) (omega arith, omega arith, refl)

  pub mirror_there : Elastic s → Elastic (mirror s)
  mirror_there f =
      from_filled (mirror s)
      (mirrored horizon (count s) (count (mirror s)) (λ i. (entry s i).release) (λ i. (entry s i).deadline) (λ i. work (entry s i))
      (λ i. (entry (mirror s) i).release) (λ i. (entry (mirror s) i).deadline) (λ i. work (entry (mirror s) i)) s.capacity
      (mirror_count s) mirror_window (to_filled s good f))

  pub mirror_back : Elastic (mirror s) → Elastic s
  mirror_back f =
      from_filled s
      (mirrored horizon (count (mirror s)) (count s) (λ i. (entry (mirror s) i).release) (λ i. (entry (mirror s) i).deadline)
      (λ i. work (entry (mirror s) i)) (λ i. (entry s i).release) (λ i. (entry s i).deadline) (λ i. work (entry s i)) s.capacity
      (sym (mirror_count s))
      (λ i l. let h = mirror_window i (omega (arith, mirror_count s)) in (omega arith, omega arith, sym h.2))
      (to_filled (mirror s) (mirror_sound s good) f))

  there_given : (f : Elastic s) (k u : ℕ) → (mirror_there f).given k u ≡ below u horizon * f.given k (horizon - suc u)
  unfolding mirror_there mirrored from_filled to_filled
  there_given f k u = refl

  back_given : (f : Elastic (mirror s)) (k u : ℕ) → (mirror_back f).given k u ≡ below u horizon * f.given k (horizon - suc u)
  unfolding mirror_back mirrored from_filled to_filled
  back_given f k u = refl

  -- nothing is given where nothing was at the other end, nor past the horizon
  nothing : (g g' : ℕ → ℕ) (u : ℕ) → g' u ≡ below u horizon * g (horizon - suc u) → (u < horizon → g (horizon - suc u) ≡ 0) → g' u ≡ 0
  nothing g g' u turned none =
      elim (cases_lt u horizon) [
        | inl l ↦ turned ∙ (rw (none l) (mul-zero (below u horizon)))
        | inr l ↦ let z : below u horizon ≡ 0 = omega arith in turned ∙ (rw z (omega arith))
      ]

  pub mirrors_schedules : MirrorsSchedules s
  mirrors_schedules =
      record {
        both = (mirror_back, mirror_there);
        ends = λ k t. (
          (λ h. (mirror_back h.0, λ u l. nothing (h.0.given k) ((mirror_back h.0).given k) u (back_given h.0 k u) (λ i. h.1 (horizon - suc u) (omega arith)))),
          (λ h. (mirror_there h.0, λ u l. nothing (h.0.given k) ((mirror_there h.0).given k) u (there_given h.0 k u) (λ i. h.1 (horizon - suc u) (omega arith)))),
        );
        begins = λ k t. (
          (λ h. (mirror_back h.0, λ u l. nothing (h.0.given k) ((mirror_back h.0).given k) u (back_given h.0 k u) (λ i. h.1 (horizon - suc u) (omega arith)))),
          (λ h. (mirror_there h.0, λ u l. nothing (h.0.given k) ((mirror_there h.0).given k) u (there_given h.0 k u) (λ i. h.1 (horizon - suc u) (omega arith)))),
        );
      }

pub mirrors_keep : MirrorsKeep
mirrors_keep s sound = (
  record {
    there = mirror_placement s sound;
    back = mirror_placement_back s sound;
    twice = λ start p k l. omega (arith, p.in_time k l, sound.each k l);
  },
  mirrors_schedules s sound,
  mirror_twice s sound,
  cut_own s,
)
