-- A sheet with a placement, one with an elastic schedule and no placement, and one with neither.
use Rattle.std.proofs.Common.{◌≡◌, ℕ, zero, suc, ◌+◌, ◌<◌, ◌≤◌, [], ◌∷◌, Some, None, refl, arith, lit<}
use Rattle.std.proofs.lemmas.Bool.Decides.{nat_tests}
use Rattle.model.specs.declared.entries.Entry.{Entry}
use Rattle.model.specs.Total.{total}
use Rattle.model.specs.Sheets.{Sheet, Sound, SoundEntry, Placement, NoPlacement, Elastic, entry, demand_at, cut_entries}
use Rattle.model.specs.Energy.{Overfull, NowhereOverfull}
use Rattle.model.proofs.Sums.{below_suc}
use Rattle.elastic.specs.Meaning.{smallest, first_of, overfull_to, overfull_from, evidence_E, smallest_deadline, earliest_E, meaning_E}
use Rattle.elastic.specs.Theorems.{SomeFitAndSomeDoNot}
use Rattle.elastic.proofs.Exact.{not_overfull, elastic}
use Rattle.elastic.proofs.Placed.{placed_elastic}
use Rattle.elastic.proofs.IsE.{nowhere_if_clear}

-- what holds of the first place and of the second holds of both
both : (P : ℕ → Type 0) → P 0 → P 1 → (k : ℕ) → k < 2 → P k
both P p q = below_suc P 1 (below_suc P 0 (λ k l. absurd (omega arith)) p) q

-- a task of two slots with one slot to spare
abbrev long : Entry
long = record { release = 0; deadline = 3; duration = 2; demand = 1 }

-- a task that can only run in slot 1
abbrev fixed : Entry
fixed = record { release = 1; deadline = 2; duration = 1; demand = 1 }

abbrev sheet : ℕ → Entry → Entry → Sheet
sheet c e f = record { capacity = c; entries = e ∷ f ∷ [] }

sound : (c : ℕ) (e f : Entry) → 1 ≤ c → c ≤ 4095 → SoundEntry c e → SoundEntry c f → Sound (sheet c e f)
sound c e f low high ge gf =
    record { some_capacity = low; small_capacity = high; few = omega arith; each = both (λ k. SoundEntry c (entry (sheet c e f) k)) ge gf }

-- ---- two channels are enough for both
fits : Sound (sheet 2 long fixed)
fits = sound 2 long fixed (omega arith) (omega arith) (omega arith) (omega arith)

starts : ℕ → ℕ
starts zero = 0
starts (suc k) = 1

at_most : (at t : ℕ) → (demand_at at t long ≤ 1) × (demand_at at t fixed ≤ 1)
at_most at t = (grind (arith, nat_tests), grind (arith, nat_tests))

placed : Placement (sheet 2 long fixed) starts
unfolding total starts
placed =
    record {
      released = both (λ k. (entry (sheet 2 long fixed) k).release ≤ starts k) (omega arith) (omega arith);
      in_time = both (λ k. starts k + (entry (sheet 2 long fixed) k).duration ≤ (entry (sheet 2 long fixed) k).deadline) (omega arith) (omega arith);
      within = λ t h. omega (arith, (at_most 0 t).0, (at_most 1 t).1);
    }

-- ---- with one, the long task would have to be broken
broken : Sound (sheet 1 long fixed)
broken = sound 1 long fixed (omega arith) (omega arith) (omega arith) (omega arith)

none_overfull : NowhereOverfull (sheet 1 long fixed)
unfolding overfull_from overfull_to smallest total
none_overfull = nowhere_if_clear (sheet 1 long fixed) refl

meet : (a b : ℕ) → a + 2 ≤ 3 → 1 ≤ b → b + 1 ≤ 2 → 2 ≤ demand_at a 1 long + demand_at b 1 fixed
meet a b la lb hb = grind (arith, nat_tests)

no_placement : NoPlacement (sheet 1 long fixed)
unfolding total
no_placement start p =
    omega (arith, p.within 1 (omega arith), meet (start 0) (start 1) (p.in_time 0 (omega arith)) (p.released 1 (omega arith)) (p.in_time 1 (omega arith)))

-- ---- and two that can only run in slot 1 do not fit at all
crowded : Sound (sheet 1 fixed fixed)
crowded = sound 1 fixed fixed (omega arith) (omega arith) (omega arith) (omega arith)

over : Overfull (sheet 1 fixed fixed) 1 2
unfolding total
over = record { opens = (0, lit< tt, refl); closes = (0, lit< tt, refl); ordered = lit< tt; over = lit< tt }

no_schedule : ¬ Elastic (sheet 1 fixed fixed)
no_schedule f = not_overfull (sheet 1 fixed fixed) crowded f 1 2 over

pub some_fit_and_some_do_not : SomeFitAndSomeDoNot
some_fit_and_some_do_not = (
  (sheet 2 long fixed, fits, (starts, placed)),
  (sheet 1 long fixed, broken, elastic (sheet 1 long fixed) broken none_overfull, no_placement),
  (sheet 1 fixed fixed, crowded, no_schedule, λ start p. no_schedule (placed_elastic (sheet 1 fixed fixed) crowded start p)),
)

-- ---- what E answers on them can be read off
evidence_crowded : meaning_E.evidence (sheet 1 fixed fixed) ≡ Some (record { t1 = 1; t2 = 2 })
unfolding evidence_E overfull_from overfull_to smallest total
evidence_crowded = refl

evidence_broken : meaning_E.evidence (sheet 1 long fixed) ≡ None
unfolding evidence_E overfull_from overfull_to smallest total
evidence_broken = refl

-- the long task needs slots 0 and 2: its smallest deadline is 3
earliest_broken : meaning_E.earliest (sheet 1 long fixed) 0 ≡ Some 1
unfolding earliest_E smallest_deadline first_of overfull_from overfull_to smallest total cut_entries
earliest_broken = refl
