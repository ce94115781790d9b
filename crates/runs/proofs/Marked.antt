-- The answers on some small boards, by computation.
use Rattle.std.proofs.Common.{◌≡◌, ℕ, zero, suc, ◌+◌, ◌<◌, ◌≤◌, [], ◌∷◌, Some, None, sym, refl, ap, ◌∙◌, inl, inr, arith}
use Rattle.model.specs.declared.windows.Window.{Window}
use Rattle.model.specs.Changes
use Rattle.model.specs.Energy.{energy, energy_of}
use Rattle.model.specs.Limits.{row_at}
use Rattle.model.specs.Rules.{Meaning}
use Rattle.model.specs.Sheets.{Placement, entry, mirror_entries, cut_entries}
use Rattle.model.specs.Total.{total}
use Rattle.board.specs.declared.answers.Effect.TheVariants.{Squeezed, Narrowed, Quiet}
use Rattle.board.specs.declared.answers.Verdict.TheVariants.{Settled}
use Rattle.board.specs.Calls.{Bookings, built}
use Rattle.timetable.specs.Meaning.{meaning_T, first_of, first_crowded, first_room}
use Rattle.elastic.specs.Meaning.{meaning_E, smallest, overfull_to, overfull_from, evidence_E, smallest_deadline, earliest_E}
use Rattle.elastic.specs.Meaning as elastic
use Rattle.shift.specs.Meaning.{meaning_S, gather, candidates, first_that, first_negative, greatest, earliest_S}
use Rattle.runs.specs.Applying.{present_entries, at_present, figures, Short, SameWindow, Applies, finds, squeezes, narrows, rests}
use Rattle.runs.specs.Sweeping.{SweepsTo, settles, again, fails, done, then, here, at_squeezed, after_narrowed, after_quiet}
use Rattle.runs.specs.Runs.{Rule, names_E, named, unnamed}
use Rattle.runs.specs.Figures.{window, interval, nested, pushed, pushed_after, fixed, fixed_after, crammed, MarkedFigures}
use Rattle.runs.proofs.RuleFigures.{some_or_none}
use Rattle.runs.proofs.Boards.{present_sound}
use Rattle.runs.proofs.Stepping.{built_sound}

-- ---- places

of_two : (P : ℕ → Type 0) → P 0 → P 1 → (k : ℕ) → k < 2 → P k
of_two P p0 p1 zero l = p0
of_two P p0 p1 (suc zero) l = p1
of_two P p0 p1 (suc (suc k)) l = absurd (omega arith)

of_three : (P : ℕ → Type 0) → P 0 → P 1 → P 2 → (k : ℕ) → k < 3 → P k
of_three P p0 p1 p2 zero l = p0
of_three P p0 p1 p2 (suc zero) l = p1
of_three P p0 p1 p2 (suc (suc zero)) l = p2
of_three P p0 p1 p2 (suc (suc (suc k))) l = absurd (omega arith)

-- figures with room for the duration leave a row as long as it is
wide : (rule : Meaning) (b : Bookings) (k : ℕ) (w : Window) → figures rule (at_present b) k ≡ w →
    w.release + (entry (at_present b) k).duration ≤ w.deadline → ¬ Short rule (at_present b) k
wide rule b k w e room short =
    let r = ap (λ (x : Window). x.release) e in
    let d = ap (λ (x : Window). x.deadline) e in
    omega arith

-- ---- S

shift_found : meaning_S.evidence (at_present (nested 2)) ≡ Some (interval 1 5)
unfolding present_entries gather candidates first_that first_negative total energy_of
shift_found = refl

shift_none : meaning_S.evidence (at_present (nested 1)) ≡ None
unfolding present_entries gather candidates first_that first_negative total energy_of
shift_none = refl

shift_energy : energy (at_present (nested 2)) 1 5 ≡ 5
unfolding present_entries total energy_of
shift_energy = refl

-- ---- E

elastic_none : meaning_E.evidence (at_present (nested 2)) ≡ None
unfolding present_entries smallest overfull_to overfull_from evidence_E total
elastic_none = refl

elastic_found : meaning_E.evidence (at_present crammed) ≡ Some (interval 0 4)
unfolding present_entries smallest overfull_to overfull_from evidence_E total
elastic_found = refl

pushed_none : meaning_E.evidence (at_present pushed) ≡ None
unfolding present_entries smallest overfull_to overfull_from evidence_E total
pushed_none = refl

pushed_0 : figures meaning_E (at_present pushed) 0 ≡ window 0 4
unfolding present_entries mirror_entries cut_entries smallest elastic.first_of overfull_to overfull_from evidence_E smallest_deadline earliest_E total
pushed_0 = refl

pushed_1 : figures meaning_E (at_present pushed) 1 ≡ window 0 4
unfolding present_entries mirror_entries cut_entries smallest elastic.first_of overfull_to overfull_from evidence_E smallest_deadline earliest_E total
pushed_1 = refl

pushed_2 : figures meaning_E (at_present pushed) 2 ≡ window 3 10
unfolding present_entries mirror_entries cut_entries smallest elastic.first_of overfull_to overfull_from evidence_E smallest_deadline earliest_E total
pushed_2 = refl

elastic_narrows : Applies meaning_E pushed Narrowed pushed_after
unfolding present_entries
elastic_narrows =
    narrows pushed_none
    (of_three (λ k. ¬ Short meaning_E (at_present pushed) k) (wide meaning_E pushed 0 _ pushed_0 (omega arith)) (wide meaning_E pushed 1 _ pushed_1 (omega arith)) (wide meaning_E pushed 2 _ pushed_2 (omega arith)))
    2 (omega arith)
    (λ same. let e = ap (λ (x : Window). x.release) (sym pushed_2 ∙ same) in omega arith) pushed_after
    (record { capacity = refl; places = refl; each = of_three (λ k. row_at pushed_after.rows k ≡ Changes.narrowed (figures meaning_E (at_present pushed) k) (row_at pushed.rows k)) (ap (λ (w : Window). Changes.narrowed w (row_at pushed.rows 0)) (sym pushed_0)) (ap (λ (w : Window). Changes.narrowed w (row_at pushed.rows 1)) (sym pushed_1)) (ap (λ (w : Window). Changes.narrowed w (row_at pushed.rows 2)) (sym pushed_2)) })

-- ---- T

fixed_none : meaning_T.evidence (at_present (fixed 2)) ≡ None
unfolding present_entries first_of first_crowded total
fixed_none = refl

fixed_0 : figures meaning_T (at_present (fixed 2)) 0 ≡ window 0 5
unfolding present_entries mirror_entries first_of first_crowded first_room total
fixed_0 = refl

fixed_1 : figures meaning_T (at_present (fixed 2)) 1 ≡ window 4 8
unfolding present_entries mirror_entries first_of first_crowded first_room total
fixed_1 = refl

table_narrows : Applies meaning_T (fixed 2) Narrowed fixed_after
unfolding present_entries
table_narrows =
    narrows fixed_none
    (of_two (λ k. ¬ Short meaning_T (at_present (fixed 2)) k) (wide meaning_T (fixed 2) 0 _ fixed_0 (omega arith)) (wide meaning_T (fixed 2) 1 _ fixed_1 (omega arith)))
    1 (omega arith)
    (λ same. let e = ap (λ (x : Window). x.release) (sym fixed_1 ∙ same) in omega arith) fixed_after
    (record { capacity = refl; places = refl; each = of_two (λ k. row_at fixed_after.rows k ≡ Changes.narrowed (figures meaning_T (at_present (fixed 2)) k) (row_at (fixed 2).rows k)) (ap (λ (w : Window). Changes.narrowed w (row_at (fixed 2).rows 0)) (sym fixed_0)) (ap (λ (w : Window). Changes.narrowed w (row_at (fixed 2).rows 1)) (sym fixed_1)) })

roomy_none : meaning_T.evidence (at_present (fixed 3)) ≡ None
unfolding present_entries first_of first_crowded total
roomy_none = refl

roomy_0 : figures meaning_T (at_present (fixed 3)) 0 ≡ window 0 5
unfolding present_entries mirror_entries first_of first_crowded first_room total
roomy_0 = refl

roomy_1 : figures meaning_T (at_present (fixed 3)) 1 ≡ window 0 8
unfolding present_entries mirror_entries first_of first_crowded first_room total
roomy_1 = refl

table_rests : Applies meaning_T (fixed 3) Quiet (fixed 3)
unfolding present_entries
table_rests =
    rests roomy_none
    (of_two (λ k. ¬ Short meaning_T (at_present (fixed 3)) k) (wide meaning_T (fixed 3) 0 _ roomy_0 (omega arith)) (wide meaning_T (fixed 3) 1 _ roomy_1 (omega arith)))
    (of_two (λ k. SameWindow meaning_T (fixed 3) k) roomy_0 roomy_1)

crammed_none : meaning_T.evidence (at_present crammed) ≡ None
unfolding present_entries first_of first_crowded total
crammed_none = refl

crammed_0 : figures meaning_T (at_present crammed) 0 ≡ window 0 4
unfolding present_entries mirror_entries first_of first_crowded first_room total
crammed_0 = refl

crammed_1 : figures meaning_T (at_present crammed) 1 ≡ window 4 0
unfolding present_entries mirror_entries first_of first_crowded first_room total
crammed_1 = refl

table_squeezes : Applies meaning_T crammed (Squeezed 1) crammed
unfolding present_entries
table_squeezes =
    squeezes crammed_none 1 (omega arith)
    (let r = ap (λ (x : Window). x.release) crammed_1 in
    let d = ap (λ (x : Window). x.deadline) crammed_1 in
    omega arith)
    (λ j l. let e : j ≡ 0 = omega arith in rw e (wide meaning_T crammed 0 _ crammed_0 (omega arith)))

-- ---- a sweep

first_T_none : meaning_T.evidence (at_present pushed) ≡ None
unfolding present_entries first_of first_crowded total
first_T_none = refl

first_T_0 : figures meaning_T (at_present pushed) 0 ≡ window 0 4
unfolding present_entries mirror_entries first_of first_crowded first_room total
first_T_0 = refl

first_T_1 : figures meaning_T (at_present pushed) 1 ≡ window 0 4
unfolding present_entries mirror_entries first_of first_crowded first_room total
first_T_1 = refl

first_T_2 : figures meaning_T (at_present pushed) 2 ≡ window 0 10
unfolding present_entries mirror_entries first_of first_crowded first_room total
first_T_2 = refl

first_T : Applies meaning_T pushed Quiet pushed
unfolding present_entries
first_T =
    rests first_T_none
    (of_three (λ k. ¬ Short meaning_T (at_present pushed) k) (wide meaning_T pushed 0 _ first_T_0 (omega arith)) (wide meaning_T pushed 1 _ first_T_1 (omega arith)) (wide meaning_T pushed 2 _ first_T_2 (omega arith)))
    (of_three (λ k. SameWindow meaning_T pushed k) first_T_0 first_T_1 first_T_2)

first_S_none : meaning_S.evidence (at_present pushed_after) ≡ None
unfolding present_entries gather candidates first_that first_negative total energy_of
first_S_none = refl

first_S_0 : figures meaning_S (at_present pushed_after) 0 ≡ window 0 4
unfolding present_entries mirror_entries gather candidates first_that first_negative greatest earliest_S total energy_of
first_S_0 = refl

first_S_1 : figures meaning_S (at_present pushed_after) 1 ≡ window 0 4
unfolding present_entries mirror_entries gather candidates first_that first_negative greatest earliest_S total energy_of
first_S_1 = refl

first_S_2 : figures meaning_S (at_present pushed_after) 2 ≡ window 3 10
unfolding present_entries mirror_entries gather candidates first_that first_negative greatest earliest_S total energy_of
first_S_2 = refl

first_S : Applies meaning_S pushed_after Quiet pushed_after
unfolding present_entries
first_S =
    rests first_S_none
    (of_three (λ k. ¬ Short meaning_S (at_present pushed_after) k) (wide meaning_S pushed_after 0 _ first_S_0 (omega arith)) (wide meaning_S pushed_after 1 _ first_S_1 (omega arith)) (wide meaning_S pushed_after 2 _ first_S_2 (omega arith)))
    (of_three (λ k. SameWindow meaning_S pushed_after k) first_S_0 first_S_1 first_S_2)

second_T_none : meaning_T.evidence (at_present pushed_after) ≡ None
unfolding present_entries first_of first_crowded total
second_T_none = refl

second_T_0 : figures meaning_T (at_present pushed_after) 0 ≡ window 0 4
unfolding present_entries mirror_entries first_of first_crowded first_room total
second_T_0 = refl

second_T_1 : figures meaning_T (at_present pushed_after) 1 ≡ window 0 4
unfolding present_entries mirror_entries first_of first_crowded first_room total
second_T_1 = refl

second_T_2 : figures meaning_T (at_present pushed_after) 2 ≡ window 3 10
unfolding present_entries mirror_entries first_of first_crowded first_room total
second_T_2 = refl

second_T : Applies meaning_T pushed_after Quiet pushed_after
unfolding present_entries
second_T =
    rests second_T_none
    (of_three (λ k. ¬ Short meaning_T (at_present pushed_after) k) (wide meaning_T pushed_after 0 _ second_T_0 (omega arith)) (wide meaning_T pushed_after 1 _ second_T_1 (omega arith)) (wide meaning_T pushed_after 2 _ second_T_2 (omega arith)))
    (of_three (λ k. SameWindow meaning_T pushed_after k) second_T_0 second_T_1 second_T_2)

second_E_none : meaning_E.evidence (at_present pushed_after) ≡ None
unfolding present_entries smallest overfull_to overfull_from evidence_E total
second_E_none = refl

second_E_0 : figures meaning_E (at_present pushed_after) 0 ≡ window 0 4
unfolding present_entries mirror_entries cut_entries smallest elastic.first_of overfull_to overfull_from evidence_E smallest_deadline earliest_E total
second_E_0 = refl

second_E_1 : figures meaning_E (at_present pushed_after) 1 ≡ window 0 4
unfolding present_entries mirror_entries cut_entries smallest elastic.first_of overfull_to overfull_from evidence_E smallest_deadline earliest_E total
second_E_1 = refl

second_E_2 : figures meaning_E (at_present pushed_after) 2 ≡ window 3 10
unfolding present_entries mirror_entries cut_entries smallest elastic.first_of overfull_to overfull_from evidence_E smallest_deadline earliest_E total
second_E_2 = refl

second_E : Applies meaning_E pushed_after Quiet pushed_after
unfolding present_entries
second_E =
    rests second_E_none
    (of_three (λ k. ¬ Short meaning_E (at_present pushed_after) k) (wide meaning_E pushed_after 0 _ second_E_0 (omega arith)) (wide meaning_E pushed_after 1 _ second_E_1 (omega arith)) (wide meaning_E pushed_after 2 _ second_E_2 (omega arith)))
    (of_three (λ k. SameWindow meaning_E pushed_after k) second_E_0 second_E_1 second_E_2)

sweep_settles : SweepsTo (meaning_T ∷ (meaning_E ∷ (meaning_S ∷ []))) pushed (record { verdict = Settled; rounds = 2 }) pushed_after
sweep_settles = (
  _,
  again (then first_T after_quiet (then elastic_narrows after_narrowed (then first_S after_quiet done)))
      (λ quiet. let e = quiet.1.0 in let z : ◌≡◌ {A = ℕ} 0 1 = cc in omega arith)
      (settles (then second_T after_quiet (then second_E after_quiet (then first_S after_quiet done))) (refl, (refl, (refl, tt)))),
)

-- ---- a board without rows

empty_placed : (capacity : ℕ) → Placement (at_present (built capacity)) (λ k. 0)
unfolding present_entries total
empty_placed capacity =
    record { released = λ k l. absurd (omega arith); in_time = λ k l. absurd (omega arith); within = λ t h. omega arith }

empty_rests : (capacity : ℕ) → 1 ≤ capacity → capacity ≤ 4095 → (r : Rule) → Applies r.means (built capacity) Quiet (built capacity)
empty_rests capacity low high r =
    elim (some_or_none (r.means.evidence (at_present (built capacity)))) [
      | inl (i, found) ↦
          absurd (r.lawful.refutes _ (present_sound (built capacity) (built_sound capacity low high)) i found (λ k. 0) (empty_placed capacity))
      | inr none ↦ rests none (λ k l. absurd (omega arith)) (λ k l. absurd (omega arith))
    ]

pub marked_figures : MarkedFigures
marked_figures =
    record {
      empty = λ capacity low high r1 r2 r3.
          let quiet = empty_rests capacity low high in
          (_, settles (then (quiet r1) after_quiet (then (quiet r2) after_quiet (then (quiet r3) after_quiet done))) (refl, (refl, (refl, tt))));
      shift_tells = finds (interval 1 5) shift_found;
      shift_energy = shift_energy;
      shift_room = refl;
      elastic_silent = elastic_none;
      shift_silent = shift_none;
      elastic_narrows = elastic_narrows;
      letter_narrows = named names_E elastic_narrows;
      letter_refused = unnamed (λ rule x. elim x [ ]);
      sweep_settles = sweep_settles;
      table_narrows = table_narrows;
      table_rests = table_rests;
      elastic_tells = finds (interval 0 4) elastic_found;
      table_squeezes = table_squeezes;
      sweep_fails = (_, fails (here table_squeezes (at_squeezed 1)));
    }
