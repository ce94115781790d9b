-- Elastic schedules of sheets with one deadline cut: an entry can end by a deadline if and only if the cut there is nowhere overfull.
use Rattle.std.proofs.Common.{◌≡◌, ℕ, ◌+◌, ◌<◌, ◌≤◌, sym, ap, ◌∙◌, inl, inr, arith}
use Rattle.std.proofs.lemmas.Bool.{cases_eq, cases_order}
use Rattle.model.specs.declared.entries.Entry.{Entry}
use Rattle.model.specs.Sheets.{Sheet, Sound, Elastic, CanEndBy, count, entry, cut}
use Rattle.model.specs.Energy.{NowhereOverfull}
use Rattle.model.specs.Elastic.{SmallestDeadline}
use Rattle.model.proofs.Cuts.{cut_count, cut_inside, cut_there, cut_at, cut_sound}
use Rattle.elastic.specs.Theorems.{SmallestIsFirst, LaterIsEnough, EFindsTheSmallestDeadline}
use Rattle.elastic.proofs.Exact.{not_overfull, elastic}

module _ (s : Sheet) (k d : ℕ) (here : k < count s) (low : (entry s k).release + (entry s k).duration ≤ d) (high : d ≤ (entry s k).deadline) where
  -- a schedule of the cut sheet is one of the sheet
  unfoldable pub uncut : Elastic (cut s k d) → Elastic s
  uncut f =
      record {
        given = f.given;
        before = λ j t l m. f.before j t (rw (cut_count s k d) l) (omega (arith, cut_at s k d j l));
        after = λ j t l m. f.after j t (rw (cut_count s k d) l) (omega (arith, cut_at s k d j l));
        whole = λ j l. f.whole j (rw (cut_count s k d) l) ∙ (cut_at s k d j l).4;
        within = λ t l. rw (cut_count s k d) at (f.within t l);
      }

  pub uncut_ends : Elastic (cut s k d) → CanEndBy s k d
  unfolding uncut
  uncut_ends f = (uncut f, λ u l. f.after k u (rw (cut_count s k d) here) (let e = ap (λ (x : Entry). x.deadline) (cut_inside s k d here low high) in omega arith))

  -- and a schedule that ends the entry by d is one of the cut sheet
  pub cut_ends : CanEndBy s k d → Elastic (cut s k d)
  cut_ends (f, early) =
      record {
        given = f.given;
        before = λ j t l m. let l' : j < count s = rw (← cut_count s k d) l in f.before j t l' (omega (arith, cut_at s k d j l'));
        after = λ j t l m.
            elim (cases_eq j k) [
              | inl e ↦ rw e (early t (let at = ap (λ (x : Entry). x.deadline) (cut_inside s k d here low high) in let m' = rw e at m in omega arith))
              | inr other ↦ f.after j t (rw (← cut_count s k d) l) (rw (cut_there s k d j other) at m)
            ];
        whole = λ j l. let l' : j < count s = rw (← cut_count s k d) l in f.whole j l' ∙ sym (cut_at s k d j l').4;
        within = λ t l. rw (cut_count s k d) (f.within t l);
      }

  pub end_by : Sound s → NowhereOverfull (cut s k d) → CanEndBy s k d
  end_by sound none = uncut_ends (elastic (cut s k d) (cut_sound s k d sound) none)

  pub nowhere_if_ends : Sound s → CanEndBy s k d → NowhereOverfull (cut s k d)
  nowhere_if_ends sound can = not_overfull (cut s k d) (cut_sound s k d sound) (cut_ends can)

pub smallest_is_first : SmallestIsFirst
smallest_is_first s sound k here e is = (
  end_by s k e here is.low is.high sound is.enough,
  λ d low less can. is.smallest d low less (nowhere_if_ends s k d here low (omega (arith, is.high)) sound can),
)

pub later_is_enough : LaterIsEnough
later_is_enough s sound k here e d low later high none =
    let (f, early) = end_by s k e here low (omega arith) sound none in
    nowhere_if_ends s k d here (omega arith) high sound (f, λ u l. early u (omega arith))

pub e_finds_the_smallest_deadline : EFindsTheSmallestDeadline
e_finds_the_smallest_deadline = (smallest_is_first, later_is_enough)

-- there is one smallest deadline only
pub smallest_unique : (s : Sheet) (k e e' : ℕ) → SmallestDeadline s k e → SmallestDeadline s k e' → e ≡ e'
smallest_unique s k e e' is is' =
    elim (cases_order e e') [
      | inl same ↦ same
      | inr (inl l) ↦ absurd (is'.smallest e is.low l is.enough)
      | inr (inr l) ↦ absurd (is.smallest e' is'.low l is'.enough)
    ]
