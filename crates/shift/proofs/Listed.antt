-- The list of candidates has every candidate, and nothing else that is an interval.
use Rattle.std.proofs.Common.{◌≡◌, ℕ, ◌+◌, ◌-◌, ◌<◌, ◌≤◌, Bool, true, false, ◌⊎◌, List, [], ◌∷◌, ◌++◌, Some, None, Option, sym, refl, ◌∙◌, inl, inr, arith}
use Rattle.std.specs.List.{AllByRecursion}
use Rattle.std.proofs.ByRecursion.{All-append, All-get_or, All-from_get_or, All-weaker}
use Rattle.std.proofs.lemmas.Bool.Decides.{nat_tests}
use Rattle.std.proofs.lemmas.Bool.{cases_lt, cond_both, false≢true}
use Rattle.model.specs.declared.entries.Entry.{Entry}
use Rattle.model.specs.declared.intervals.Interval.{Interval}
use Rattle.model.specs.Sheets.{Sheet, count, entry, blank}
use Rattle.model.specs.Energy.{IsInterval, Starts, Ends, Partners, StartPoint, EndPoint, Candidate}
use Rattle.model.specs.Rules.{NoLater}
use Rattle.shift.specs.Meaning.{from_start, to_end, made_by, gather, candidates, no_later?, sooner, first_that, greatest}

-- ---- gathered lists
all_split : (P : Interval → Type 0) (xs ys : List Interval) → AllByRecursion P (xs ++ ys) → AllByRecursion P xs × AllByRecursion P ys
all_split P [] ys h = (tt, h)
all_split P (x ∷ xs) ys h = let (front, back) = all_split P xs ys h.1 in ((h.0, front), back)

all_gather : (P : Interval → Type 0) (f : Entry → List Interval) (es : List Entry) → AllByRecursion (λ e. AllByRecursion P (f e)) es → AllByRecursion P (gather f es)
unfolding gather
all_gather P f [] h = tt
all_gather P f (e ∷ es) h = All-append P (f e) (gather f es) h.0 (all_gather P f es h.1)

gather_all : (P : Interval → Type 0) (f : Entry → List Interval) (es : List Entry) → AllByRecursion P (gather f es) → AllByRecursion (λ e. AllByRecursion P (f e)) es
unfolding gather
gather_all P f [] h = tt
gather_all P f (e ∷ es) h = let (front, back) = all_split P (f e) (gather f es) h in (front, gather_all P f es back)

-- ---- every candidate is made by a pair of entries

-- P holds of the intervals of a list.
abbrev pub HoldsOn : (ℕ → ℕ → Type 0) → List Interval → Type 0
HoldsOn P = AllByRecursion (λ i. P i.t1 i.t2)

module _ (P : ℕ → ℕ → Type 0) (b : Entry) where
  at_end : (t1 : ℕ) → HoldsOn P (from_start t1 b) → (t2 : ℕ) → Ends t2 b → P t1 t2
  at_end t1 h t2 (inl e) = rw e h.0
  at_end t1 h t2 (inr (inl e)) = rw e h.1.0
  at_end t1 h t2 (inr (inr e)) = rw e h.1.1.0

  at_partner : (t1 : ℕ) → HoldsOn P (from_start t1 b) → (t2 : ℕ) → Partners t1 t2 b → P t1 t2
  at_partner t1 h t2 e =
      let is : t2 ≡ (b.release + b.deadline) - t1 = omega arith in
      rw is h.1.1.1.0

  from_partner : (t1 t2 : ℕ) → P (to_end t2 b).t1 t2 → Partners t1 t2 b → P t1 t2
  from_partner t1 t2 h e =
      let is : (to_end t2 b).t1 ≡ t1 = grind (arith, nat_tests) in
      rw is at h

-- What the end points of one entry make with another; with its earliest end as a start; and with its latest start.
abbrev by_ends : Entry → Entry → List Interval
by_ends a b = to_end a.deadline b ∷ (to_end (a.release + a.duration) b ∷ (to_end (a.deadline - a.duration) b ∷ []))

abbrev by_third : Entry → Entry → List Interval
by_third a b = from_start (a.release + a.duration) b ++ by_ends a b

abbrev by_second : Entry → Entry → List Interval
by_second a b = from_start (a.deadline - a.duration) b ++ by_third a b

module _ (P : ℕ → ℕ → Type 0) (a b : Entry) where
  -- P holds of what each point makes.
  record ByPoint : Type 0 where
    first : HoldsOn P (from_start a.release b)
    second : HoldsOn P (from_start (a.deadline - a.duration) b)
    third : HoldsOn P (from_start (a.release + a.duration) b)
    ends : HoldsOn P (by_ends a b)

  by_point : HoldsOn P (made_by a b) → ByPoint
  by_point h =
      let (first, two) = all_split (λ i. P i.t1 i.t2) (from_start a.release b) (by_second a b) h in
      let (second, three) = all_split (λ i. P i.t1 i.t2) (from_start (a.deadline - a.duration) b) (by_third a b) two in
      let (third, ends) = all_split (λ i. P i.t1 i.t2) (from_start (a.release + a.duration) b) (by_ends a b) three in
      record { first = first; second = second; third = third; ends = ends }

  from_starts : HoldsOn P (made_by a b) → (t1 : ℕ) → Starts t1 a → HoldsOn P (from_start t1 b)
  from_starts h t1 (inl e) = rw e (by_point h).first
  from_starts h t1 (inr (inl e)) = rw e (by_point h).second
  from_starts h t1 (inr (inr e)) = rw e (by_point h).third

  to_ends : HoldsOn P (made_by a b) → (t2 : ℕ) → Ends t2 a → P (to_end t2 b).t1 t2
  to_ends h t2 (inl e) = rw e (by_point h).ends.0
  to_ends h t2 (inr (inl e)) = rw e (by_point h).ends.1.0
  to_ends h t2 (inr (inr e)) = rw e (by_point h).ends.1.1.0

-- what holds of all that pairs of entries make holds of every candidate
pub by_pairs : (s : Sheet) (P : ℕ → ℕ → Type 0) →
    ((i j : ℕ) → i < count s → j < count s → HoldsOn P (made_by (entry s i) (entry s j))) → (t1 t2 : ℕ) → Candidate s t1 t2 → P t1 t2
by_pairs s P h t1 t2 c =
    elim c.points [
      | inl ((i, li, st), (j, lj, en)) ↦ at_end P (entry s j) t1 (from_starts P (entry s i) (entry s j) (h i j li lj) t1 st) t2 en
      | inr (inl ((i, li, st), (j, lj, pa))) ↦
          at_partner P (entry s j) t1 (from_starts P (entry s i) (entry s j) (h i j li lj) t1 st) t2 pa
      | inr (inr ((i, li, en), (j, lj, pa))) ↦ from_partner P (entry s j) t1 t2 (to_ends P (entry s i) (entry s j) (h i j li lj) t2 en) pa
    ]

-- what holds of all that are listed holds of every candidate
pub by_list : (s : Sheet) (P : ℕ → ℕ → Type 0) → HoldsOn P (candidates s) → (t1 t2 : ℕ) → Candidate s t1 t2 → P t1 t2
unfolding candidates
by_list s P h =
    by_pairs s P (λ i j li lj.
    let row : HoldsOn P (gather (made_by (entry s i)) s.entries) =
    All-get_or (λ a. HoldsOn P (gather (made_by a) s.entries)) s.entries i blank li
    (gather_all (λ v. P v.t1 v.t2) (λ a. gather (made_by a) s.entries) s.entries h) in
    All-get_or (λ b. HoldsOn P (made_by (entry s i) b)) s.entries j blank lj
    (gather_all (λ v. P v.t1 v.t2) (made_by (entry s i)) s.entries row))

-- ---- what pairs of entries make are candidates, where they are intervals
module _ (s : Sheet) where
  abbrev pub CandidateIf : ℕ → ℕ → Type 0
  CandidateIf t1 t2 = IsInterval t1 t2 → Candidate s t1 t2

  pub start_made : (t1 : ℕ) → StartPoint s t1 → (j : ℕ) → j < count s → HoldsOn CandidateIf (from_start t1 (entry s j))
  start_made t1 st j l = (
    λ i. record { interval = i; points = inl (st, (j, l, inl refl)) },
    (
      λ i. record { interval = i; points = inl (st, (j, l, inr (inl refl))) },
      (
        λ i. record { interval = i; points = inl (st, (j, l, inr (inr refl))) },
        (λ i. record { interval = i; points = inr (inl (st, (j, l, omega arith))) }, tt),
      ),
    ),
  )

  pub end_made : (t2 : ℕ) → EndPoint s t2 → (j : ℕ) → j < count s → CandidateIf (to_end t2 (entry s j)).t1 t2
  end_made t2 en j l i =
      let before = i.ordered in
      let partners : Partners (to_end t2 (entry s j)).t1 t2 (entry s j) = grind (arith, nat_tests) in
      record { interval = i; points = inr (inr (en, (j, l, partners))) }

  pub pair_made : (i j : ℕ) → i < count s → j < count s → HoldsOn CandidateIf (made_by (entry s i) (entry s j))
  pair_made i j li lj =
      let a = entry s i in
      let b = entry s j in
      All-append (λ v. CandidateIf v.t1 v.t2) (from_start a.release b) (by_second a b) (start_made a.release (i, li, inl refl) j lj)
      (All-append (λ v. CandidateIf v.t1 v.t2) (from_start (a.deadline - a.duration) b) (by_third a b) (start_made (a.deadline - a.duration) (i, li, inr (inl refl)) j lj)
      (All-append (λ v. CandidateIf v.t1 v.t2) (from_start (a.release + a.duration) b) (by_ends a b) (start_made (a.release + a.duration) (i, li, inr (inr refl)) j lj) (
        end_made a.deadline (i, li, inl refl) j lj,
        (
          end_made (a.release + a.duration) (i, li, inr (inl refl)) j lj,
          (end_made (a.deadline - a.duration) (i, li, inr (inr refl)) j lj, tt),
        ),
      )))

  pub listed_candidates : HoldsOn CandidateIf (candidates s)
  unfolding candidates
  listed_candidates =
      all_gather (λ v. CandidateIf v.t1 v.t2) (λ a. gather (made_by a) s.entries) s.entries
      (All-from_get_or _ s.entries blank (λ i li.
      all_gather (λ v. CandidateIf v.t1 v.t2) (made_by (entry s i)) s.entries
      (All-from_get_or _ s.entries blank (λ j lj. pair_made i j li lj))))

-- ---- the first of a list
pub no_later_true : (i j : Interval) → no_later? i j ≡ true → NoLater i j.t1 j.t2
no_later_true i j e = grind (arith, nat_tests)

pub no_later_false : (i j : Interval) → no_later? i j ≡ false → NoLater j i.t1 i.t2
no_later_false i j e = grind (arith, nat_tests)

pub no_later_itself : (i : Interval) → NoLater i i.t1 i.t2
no_later_itself i = inr (refl, omega arith)

pub no_later_on : (i j v : Interval) → NoLater i j.t1 j.t2 → NoLater j v.t1 v.t2 → NoLater i v.t1 v.t2
no_later_on i j v (inl a) (inl b) = inl (omega arith)
no_later_on i j v (inl a) (inr b) = inl (omega arith)
no_later_on i j v (inr a) (inl b) = inl (omega arith)
no_later_on i j v (inr a) (inr b) = inr (omega arith, omega arith)

module _ (test : Interval → Bool) (P : Interval → Type 0) where
  -- The first of those that pass has P, and none that passes comes before it; or none passes.
  abbrev pub FirstIn : List Interval → Option Interval → Type 0
  FirstIn is (Some i) = P i × AllByRecursion (λ j. test j ≡ true → NoLater i j.t1 j.t2) is
  FirstIn is None = AllByRecursion (λ j. ¬ (test j ≡ true)) is

  beside : (i : Interval) (is : List Interval) (o : Option Interval) → P i → FirstIn is o → FirstIn (i ∷ is) (sooner i o)
  beside i is None p f = (p, (λ e. no_later_itself i, All-weaker _ _ (λ j n e. absurd (n e)) is f))
  beside i is (Some j) p f =
      cond_both (no_later? i j) i j (λ v. FirstIn (i ∷ is) (Some v))
      (λ e. (p, (λ t. no_later_itself i, All-weaker _ _ (λ v n t. no_later_on i j v (no_later_true i j e) (n t)) is f.1)))
      (λ e. (f.0, (λ t. no_later_false i j e, f.1)))

  passed_over : (i : Interval) (is : List Interval) (o : Option Interval) → test i ≡ false → FirstIn is o → FirstIn (i ∷ is) o
  passed_over i is None e f = (λ t. false≢true (sym e ∙ t), f)
  passed_over i is (Some j) e f = (f.0, (λ t. absurd (false≢true (sym e ∙ t)), f.1))

  pub first_in : (is : List Interval) → AllByRecursion (λ i. test i ≡ true → P i) is → FirstIn is (first_that test is)
  unfolding first_that
  first_in [] h = tt
  first_in (i ∷ is) h =
      let rest = first_in is h.1 in
      cond_both (test i) (sooner i (first_that test is)) (first_that test is) (FirstIn (i ∷ is))
      (λ e. beside i is (first_that test is) (h.0 e) rest) (λ e. passed_over i is (first_that test is) e rest)

-- ---- the greatest of a list
module _ (f : Interval → ℕ) (n : ℕ) where
  pub greatest_low : (is : List Interval) → n ≤ greatest f n is
  unfolding greatest
  greatest_low [] = omega arith
  greatest_low (i ∷ is) = omega (arith, greatest_low is)

  pub greatest_above : (is : List Interval) → AllByRecursion (λ i. f i ≤ greatest f n is) is
  unfolding greatest
  greatest_above [] = tt
  greatest_above (i ∷ is) = (omega arith, All-weaker _ _ (λ j l. omega arith) is (greatest_above is))

  pub greatest_reached : (Q : Interval → Type 0) (is : List Interval) → AllByRecursion Q is →
      (greatest f n is ≡ n) ⊎ ((i : Interval) × Q i × (greatest f n is ≡ f i))
  unfolding greatest
  greatest_reached Q [] h = inl refl
  greatest_reached Q (i ∷ is) h =
      elim (cases_lt (greatest f n is) (f i)) [
        | inl l ↦ inr (i, h.0, omega arith)
        | inr l ↦ elim (greatest_reached Q is h.1) [
          | inl e ↦ inl (omega arith)
          | inr (j, q, e) ↦ inr (j, q, omega arith)
        ]
      ]
