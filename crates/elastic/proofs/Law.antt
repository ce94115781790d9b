-- Every meaning that is E is exact, keeps the law of rules, and where it has nothing to say leaves tight windows.
use Rattle.std.proofs.Common.{◌≡◌, ℕ, ◌+◌, ◌-◌, ◌<◌, ◌≤◌, ◌⊎◌, Some, None, Option, refl, ap, ◌∙◌, inl, inr, arith}
use Rattle.std.proofs.lemmas.Bool.{cases_lt}
use Rattle.model.specs.declared.entries.Entry.{Entry}
use Rattle.model.specs.declared.intervals.Interval.{Interval}
use Rattle.model.specs.Sheets.{Sheet, Sound, Placement, CanEndBy, count, entry, horizon, mirror, cut}
use Rattle.model.specs.Energy.{IsInterval, Overfull, NowhereOverfull}
use Rattle.model.specs.Rules.{Meaning, Lawful, Named}
use Rattle.model.specs.Elastic.{SmallestDeadline, IsE}
use Rattle.model.proofs.Search.{named_unique}
use Rattle.model.proofs.Mirrors.{mirror_count, mirror_at, mirror_sound}
use Rattle.model.proofs.Cuts.{cut_sound, cut_placement}
use Rattle.elastic.specs.Meaning.{meaning_E}
use Rattle.elastic.specs.Theorems.{EKeepsTheLaw, EIsExact, SettledWindowsAreTight}
use Rattle.elastic.proofs.Exact.{not_overfull, elastic}
use Rattle.elastic.proofs.Placed.{placed_elastic}
use Rattle.elastic.proofs.Mirrored.{mirror_there, mirrors_schedules}
use Rattle.elastic.proofs.Deadlines.{end_by, smallest_unique}
use Rattle.elastic.proofs.IsE.{is_E}

some_or_none : {A : Type 0} (o : Option A) → ((a : A) × (o ≡ Some a)) ⊎ (o ≡ None)
some_or_none (Some a) = inl (a, refl)
some_or_none None = inr refl

-- an overfull interval lies inside the horizon
pub in_horizon : (s : Sheet) → Sound s → (t1 t2 : ℕ) → Overfull s t1 t2 → IsInterval t1 t2
in_horizon s sound t1 t2 o = record { ordered = o.ordered; inside = omega (arith, o.closes.2, sound.each o.closes.0 o.closes.1) }

module _ (rule : Meaning) (is : IsE rule) where
  pub nowhere_if_none : (s : Sheet) → Sound s → rule.evidence s ≡ None → NowhereOverfull s
  nowhere_if_none s sound none = rw none at (is.named s sound)

  pub overfull_if_some : (s : Sheet) → Sound s → (i : Interval) → rule.evidence s ≡ Some i → Overfull s i.t1 i.t2
  overfull_if_some s sound i e = let named = rw e at (is.named s sound) in named.0

  pub none_if_nowhere : (s : Sheet) → Sound s → NowhereOverfull s → rule.evidence s ≡ None
  none_if_nowhere s sound none =
      elim (some_or_none (rule.evidence s)) [ inl (i, e) ↦ absurd (none i.t1 i.t2 (overfull_if_some s sound i e)) | inr e ↦ e ]

  -- and then none on the mirror either
  pub none_on_mirror : (s : Sheet) → Sound s → rule.evidence s ≡ None → rule.evidence (mirror s) ≡ None
  none_on_mirror s sound none =
      none_if_nowhere (mirror s) (mirror_sound s sound)
      (not_overfull (mirror s) (mirror_sound s sound) (mirror_there s sound (elastic s sound (nowhere_if_none s sound none))))

  never_E : (s : Sheet) → Sound s → rule.evidence s ≡ None → (start : ℕ → ℕ) → Placement s start → (k n : ℕ) → k < count s → rule.earliest s k ≡ Some n → n ≤ start k
  never_E s sound none start p k n l e =
      let (d, sm, eq) = is.start s sound (nowhere_if_none s sound none) k l in
      let same : n ≡ d - (entry s k).duration = cc in
      elim (cases_lt (start k + (entry s k).duration) d) [
        | inr h ↦ omega arith
        | inl h ↦
            let d' = start k + (entry s k).duration in
            let low : (entry s k).release + (entry s k).duration ≤ d' = omega (arith, p.released k l) in
            let good = cut_sound s k d' sound in
            let q = cut_placement s k d' start p l (omega arith) in
            absurd (sm.smallest d' low h (not_overfull (cut s k d') good (placed_elastic (cut s k d') good start q)))
      ]

  present_E : (s : Sheet) → Sound s → (k : ℕ) → k < count s → (n : ℕ) × (rule.earliest s k ≡ Some n) × (n ≤ horizon)
  present_E s sound k l =
      let g = sound.each k l in
      elim (some_or_none (rule.evidence s)) [
        | inl (i, e) ↦ ((entry s k).release, is.stays s sound (λ none. none i.t1 i.t2 (overfull_if_some s sound i e)) k l, omega arith)
        | inr none ↦
            let (d, sm, eq) = is.start s sound (nowhere_if_none s sound none) k l in
            (d - (entry s k).duration, eq, omega (arith, sm.high))
      ]

  pub lawful_E : Lawful rule
  lawful_E =
      record {
        proper = record {
          tells = λ s sound i e. in_horizon s sound i.t1 i.t2 (overfull_if_some s sound i e);
          present = present_E;
          absent = is.absent;
        };
        refutes = λ s sound i e start p. not_overfull s sound (placed_elastic s sound start p) i.t1 i.t2 (overfull_if_some s sound i e);
        never_before = never_E;
      }

  -- an entry whose earliest start is its release can end at its earliest end
  end_soonest : (s : Sheet) → Sound s → NowhereOverfull s → (k : ℕ) → k < count s → ((n : ℕ) → rule.earliest s k ≡ Some n → n ≤ (entry s k).release) →
      CanEndBy s k ((entry s k).release + (entry s k).duration)
  end_soonest s sound none k l h =
      let (e, sm, eq) = is.start s sound none k l in
      let h' = h (e - (entry s k).duration) eq in
      let same : e ≡ (entry s k).release + (entry s k).duration = omega (arith, sm.low) in
      let d = (entry s k).release + (entry s k).duration in
      let enough : NowhereOverfull (cut s k d) = rw same at sm.enough in
      end_by s k d l (omega arith) (omega (arith, sound.each k l)) sound enough

pub e_keeps_the_law : EKeepsTheLaw
e_keeps_the_law = (is_E, lawful_E)

pub e_is_exact : EIsExact
e_is_exact rule is s sound = (
  λ i e f. not_overfull s sound f i.t1 i.t2 (overfull_if_some rule is s sound i e),
  λ none. elastic s sound (nowhere_if_none rule is s sound none),
)

pub settled_windows_are_tight : SettledWindowsAreTight
settled_windows_are_tight rule is s sound none here there k l =
    let clear = nowhere_if_none rule is s sound none in
    let good = mirror_sound s sound in
    let clear' = nowhere_if_none rule is (mirror s) good (none_on_mirror rule is s sound none) in
    let l' : k < count (mirror s) = rw (mirror_count s) l in
    let m = mirror_at s k l in
    let r = ap (λ (x : Entry). x.release) m in
    let p = ap (λ (x : Entry). x.duration) m in
    let g = sound.each k l in
    let t = (entry (mirror s) k).release + (entry (mirror s) k).duration in
    let back : CanEndBy (mirror s) k t = end_soonest rule is (mirror s) good clear' k l' (λ n e. there k n l e) in
    let turned = ((mirrors_schedules s sound).ends k t).0 back in
    (end_soonest rule is s sound clear k l (λ n e. here k n l e), (turned.0, λ u h. turned.1 u (omega arith)))

-- ---- what E answers is pinned: for code that finds it as it likes
pub evidence_is : (s : Sheet) (o : Option Interval) → Sound s → Named (Overfull s) o → meaning_E.evidence s ≡ o
evidence_is s o sound named = named_unique (Overfull s) (meaning_E.evidence s) o (is_E.named s sound) named

pub earliest_is : (s : Sheet) (k e : ℕ) → Sound s → k < count s → NowhereOverfull s → SmallestDeadline s k e →
    meaning_E.earliest s k ≡ Some (e - (entry s k).duration)
earliest_is s k e sound l none sm =
    let (d, sm', eq) = is_E.start s sound none k l in
    eq ∙ ap (λ x. Some (x - (entry s k).duration)) (smallest_unique s k d e sm' sm)

pub earliest_stays : (s : Sheet) (k t1 t2 : ℕ) → Sound s → k < count s → Overfull s t1 t2 → meaning_E.earliest s k ≡ Some (entry s k).release
earliest_stays s k t1 t2 sound l over = is_E.stays s sound (λ none. none t1 t2 over) k l

pub earliest_absent : (s : Sheet) (k : ℕ) → Sound s → count s ≤ k → meaning_E.earliest s k ≡ None
earliest_absent s k sound l = is_E.absent s sound k l
