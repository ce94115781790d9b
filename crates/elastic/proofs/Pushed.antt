-- The smallest deadline of an entry is the end to which full intervals push it.
use Rattle.std.proofs.Common.{◌≡◌, ℕ, zero, suc, ◌+◌, ◌-◌, ◌*◌, ◌<◌, ◌≤◌, max, ◌⊎◌, Some, sym, refl, ap, ◌∙◌, inl, inr, mul_comm, mul-le-mul_left, mul-one, mul-add, arith}
use native.Mathlib.Decide.{dec_le, dec_lt}
use Rattle.std.proofs.lemmas.Bool.{cases_lt, cases_eq}
use Rattle.std.proofs.lemmas.Bool.Decides.{nat_tests}
use Rattle.model.specs.declared.entries.Entry.{Entry}
use Rattle.model.specs.Total.{total}
use Rattle.model.specs.Sheets.{Sheet, Sound, count, entry, work, end_at, cut}
use Rattle.model.specs.Energy.{NowhereOverfull, work_inside, work_in, ceiling}
use Rattle.model.specs.Elastic.{SmallestDeadline}
use Rattle.model.proofs.Sums.{total_ext, total_le, total_add, total_pick, total_zero, is, below}
use Rattle.model.proofs.Search.{least}
use Rattle.model.proofs.Ceilings.{ceiling_up, ceiling_near}
use Rattle.model.proofs.Cuts.{cut_count, cut_inside, cut_there, cut_at, cut_sound, cut_own}
use Rattle.elastic.specs.Pushes.{filled, Fullest, Pushes, PushedBy, PushesGiveTheSmallestDeadline}
use Rattle.elastic.specs.Meaning.{meaning_E}
use Rattle.elastic.proofs.Exact.{find, everywhere}
use Rattle.elastic.proofs.Law.{earliest_is}

-- one place more
plus_one : (n k w : ℕ) (f : ℕ → ℕ) → k < n → total n (λ j. f j + w * is k j) ≡ total n f + w
plus_one n k w f l =
    let one : below k n ≡ 1 = omega arith in
    total_add n f (λ j. w * is k j) ∙ ap (λ x. total n f + x) (total_pick n k (λ j. w) ∙ (rw one (mul-one w)))

-- ---- overfull intervals by what is filled
module _ (s : Sheet) (t1 t2 : ℕ) (ordered : t1 ≤ t2) where
  room_after : s.capacity * (t2 - t1) + s.capacity * t1 ≡ s.capacity * t2
  room_after =
      let e : t2 ≡ (t2 - t1) + t1 = omega arith in
      sym (ap (λ x. s.capacity * x) e ∙ mul-add s.capacity (t2 - t1) t1)

  -- the work inside is more than the room if and only if what is filled is more than all room up to t2
  pub over_filled : s.capacity * (t2 - t1) < work_in s t1 t2 → s.capacity * t2 < filled s t1 t2
  over_filled l = omega (arith, room_after)

  pub filled_over : s.capacity * t2 < filled s t1 t2 → s.capacity * (t2 - t1) < work_in s t1 t2
  filled_over l = omega (arith, room_after)

pub nowhere_by_filled : (s : Sheet) →
    ((i j : ℕ) → i < count s → j < count s → (entry s i).release < (entry s j).deadline →
    filled s (entry s i).release (entry s j).deadline ≤ s.capacity * (entry s j).deadline) → NowhereOverfull s
nowhere_by_filled s fits t1 t2 over =
    let (i, li, ei) = over.opens in
    let (j, lj, ej) = over.closes in
    let h = rw (ei, ej) at (fits i j li lj (rw (ei, ej) over.ordered)) in
    omega (arith, over_filled s t1 t2 (omega (arith, over.ordered)) over.over)

-- ---- the work inside an interval of a cut
module _ (s : Sheet) (k d : ℕ) (here : k < count s) (low : (entry s k).release + (entry s k).duration ≤ d) (high : d ≤ (entry s k).deadline) where
  -- where the cut entry is inside both times or neither time
  cut_work_same : (t1 t2 : ℕ) → ((entry s k).release < t1) ⊎ (t2 < d) ⊎ ((entry s k).deadline ≤ t2) → work_in (cut s k d) t1 t2 ≤ work_in s t1 t2
  cut_work_same t1 t2 alike =
      rw (cut_count s k d)
      (total_le (count s) _ _ (λ j l. elim (cases_eq j k) [
        | inl e ↦ rw e (rw (cut_inside s k d here low high) (own alike))
        | inr other ↦ rw (cut_there s k d j other) (omega arith)
      ]))
    where
      own : ((entry s k).release < t1) ⊎ (t2 < d) ⊎ ((entry s k).deadline ≤ t2) → work_inside t1 t2 (end_at d (entry s k)) ≤ work_inside t1 t2 (entry s k)
      own (inl l) = grind (arith, nat_tests)
      own (inr (inl l)) = grind (arith, nat_tests)
      own (inr (inr l)) = grind (arith, nat_tests)

  cut_work_most : (t1 t2 : ℕ) → work_in (cut s k d) t1 t2 ≤ work_in s t1 t2 + work (entry s k)
  cut_work_most t1 t2 =
      let w = work (entry s k) in
      let up : total (count s) (λ j. work_inside t1 t2 (entry (cut s k d) j)) ≤ total (count s) (λ j. work_inside t1 t2 (entry s j) + w * is k j) =
      total_le (count s) _ _ (λ j l. elim (cases_eq j k) [
        | inl e ↦
            let one : is k k ≡ 1 = omega arith in
            rw e (rw (cut_inside s k d here low high) (rw one own))
        | inr other ↦ rw (cut_there s k d j other) (omega arith)
      ]) in
      rw (cut_count s k d) (omega (arith, plus_one (count s) k w (λ j. work_inside t1 t2 (entry s j)) here))
    where
      own : work_inside t1 t2 (end_at d (entry s k)) ≤ work_inside t1 t2 (entry s k) + work (entry s k) * 1
      own = grind (arith, nat_tests)

  cut_work_least : (t1 t t2 : ℕ) → t1 ≤ (entry s k).release → t < (entry s k).deadline → t ≤ t2 → d ≤ t2 →
      work_in s t1 t + work (entry s k) ≤ work_in (cut s k d) t1 t2
  cut_work_least t1 t t2 l1 l2 l3 l4 =
      let w = work (entry s k) in
      let up : total (count s) (λ j. work_inside t1 t (entry s j) + w * is k j) ≤ total (count s) (λ j. work_inside t1 t2 (entry (cut s k d) j)) =
      total_le (count s) _ _ (λ j l. elim (cases_eq j k) [
        | inl e ↦
            let one : is k k ≡ 1 = omega arith in
            rw e (rw (cut_inside s k d here low high) (rw one own))
        | inr other ↦
            let none : is k j ≡ 0 = omega arith in
            rw (cut_there s k d j other) (rw none (others (entry s j)))
      ]) in
      rw (cut_count s k d) (omega (arith, plus_one (count s) k w (λ j. work_inside t1 t (entry s j)) here))
    where
      own : work_inside t1 t (entry s k) + work (entry s k) * 1 ≤ work_inside t1 t2 (end_at d (entry s k))
      own = grind (arith, nat_tests)

      others : (e : Entry) → work_inside t1 t e + work (entry s k) * 0 ≤ work_inside t1 t2 e
      others e = grind (arith, nat_tests)

-- ---- the last deadline inside an interval
last_deadline : (s : Sheet) → Sound s → (t1 t2 : ℕ) →
    (work_in s t1 t2 ≡ 0) ⊎ ((j : ℕ) × (j < count s) × ((entry s j).deadline ≤ t2) × (work_in s t1 (entry s j).deadline ≡ work_in s t1 t2))
last_deadline s sound t1 zero =
    inl (total_ext (count s) _ _ (λ j l. nothing (entry s j) (omega (arith, sound.each j l))) ∙ total_zero (count s))
  where
    nothing : (e : Entry) → 0 < e.deadline → work_inside t1 0 e ≡ 0
    nothing e l = grind (arith, nat_tests)
last_deadline s sound t1 (suc t2) =
    elim (find (count s) (λ j. (entry s j).deadline) (suc t2)) [
      | inl (j, l, e) ↦ inr (j, l, omega arith, ap (work_in s t1) e)
      | inr none ↦
          let same : work_in s t1 t2 ≡ work_in s t1 (suc t2) = total_ext (count s) _ _ (λ j l. less (entry s j) (none j l)) in
          elim (last_deadline s sound t1 t2) [
            | inl z ↦ inl (sym same ∙ z)
            | inr (j, l, le, e) ↦ inr (j, l, omega arith, e ∙ same)
          ]
    ]
  where
    less : (e : Entry) → (e.deadline ≡ suc t2 → ⊥) → work_inside t1 t2 e ≡ work_inside t1 (suc t2) e
    less e other = grind (arith, nat_tests)

-- ---- pushes and smallest deadlines
module _ (s : Sheet) (sound : Sound s) (none : NowhereOverfull s) (k : ℕ) (here : k < count s) where
  -- what is filled up to the deadline at place j, with the work of the entry
  abbrev total_at : ℕ → ℕ → ℕ
  total_at i j = filled s (entry s i).release (entry s j).deadline + work (entry s k)

  work_fits : (t1 t2 : ℕ) → t1 + (entry s k).duration ≤ t2 → work (entry s k) ≤ s.capacity * (t2 - t1)
  work_fits t1 t2 l =
      let g = sound.each k here in
      let a : (entry s k).duration * (entry s k).demand ≤ (entry s k).duration * s.capacity = mul-le-mul_left (entry s k).duration g.fits in
      let b : s.capacity * (entry s k).duration ≤ s.capacity * (t2 - t1) = mul-le-mul_left s.capacity (omega arith) in
      omega (arith, mul_comm (entry s k).duration s.capacity)

  -- where all that is filled fits, the cut is nowhere overfull
  enough : (e : ℕ) → (entry s k).release + (entry s k).duration ≤ e → e ≤ (entry s k).deadline →
      ((i j : ℕ) → i < count s → j < count s → Pushes s k i j → total_at i j ≤ s.capacity * e) → NowhereOverfull (cut s k e)
  enough e low high far t1 t2 over =
      let C = s.capacity in
      let (i, li', ei') = over.opens in
      let li : i < count s = rw (← cut_count s k e) li' in
      let ri : (entry s i).release ≡ t1 = sym (cut_at s k e i li).0 ∙ ei' in
      let more = over.over in
      let fits = everywhere s sound none t1 t2 in
      elim (cases_lt (entry s k).release t1) [
        | inl l ↦ omega (arith, cut_work_same s k e here low high t1 t2 (inl l))
        | inr l1 ↦ elim (cases_lt t2 e) [
          | inl l ↦ omega (arith, cut_work_same s k e here low high t1 t2 (inr (inl l)))
          | inr l2 ↦ elim (cases_lt t2 (entry s k).deadline) [
            | inr l ↦ omega (arith, cut_work_same s k e here low high t1 t2 (inr (inr l)))
            | inl l3 ↦
                let most = cut_work_most s k e here low high t1 t2 in
                elim (last_deadline s sound t1 t2) [
                  | inl z ↦ omega (arith, work_fits t1 t2 (omega arith))
                  | inr (j, lj, dj, same) ↦
                      let D = (entry s j).deadline in
                      let f : filled s (entry s i).release D ≡ filled s t1 D = ap (λ x. filled s x D) ri in
                      let whole = room_after s t1 t2 (omega arith) in
                      elim (cases_lt (C * D) (total_at i j)) [
                        | inl push ↦
                            let by = far i j li lj (record { release = omega arith; deadline = omega arith; over = push }) in
                            let up : C * e ≤ C * t2 = mul-le-mul_left C l2 in
                            omega arith
                        | inr fit ↦ let up : C * D ≤ C * t2 = mul-le-mul_left C dj in omega arith
                      ]
                ]
          ]
        ]
      ]

  -- a cut that leaves room has room for what is filled
  must : (d : ℕ) → (entry s k).release + (entry s k).duration ≤ d → d ≤ (entry s k).deadline → NowhereOverfull (cut s k d) →
      (i j : ℕ) → i < count s → Pushes s k i j → total_at i j ≤ s.capacity * d
  must d low high clear i j li push =
      let C = s.capacity in
      let t1 = (entry s i).release in
      let D = (entry s j).deadline in
      let before = push.release in
      let least = cut_work_least s k d here low high t1 D in
      elim (cases_lt d D) [
        | inl l ↦
            let h = everywhere (cut s k d) (cut_sound s k d sound) clear t1 D in
            let h' = least D before push.deadline (omega arith) (omega arith) in
            absurd (omega (arith, room_after s t1 D (omega arith), push.over))
        | inr l ↦
            let h = everywhere (cut s k d) (cut_sound s k d sound) clear t1 d in
            let h' = least d before push.deadline l (omega arith) in
            omega (arith, room_after s t1 d (omega arith))
      ]

  smaller_factor : (C a b : ℕ) → C * a < C * b → a < b
  smaller_factor C a b l = elim (cases_lt a b) [ inl h ↦ h | inr h ↦ absurd (omega (arith, mul-le-mul_left C h)) ]

  -- no push goes past the deadline
  pub pushed_in_time : (n e : ℕ) → n ≤ count s → PushedBy s k n e → e ≤ (entry s k).deadline
  pushed_in_time n e ln is =
      let g = sound.each k here in
      elim is.near [
        | inl same ↦ omega arith
        | inr (i, j, li, lj, push, last) ↦
            let own = (entry s k).deadline in
            let clear : NowhereOverfull (cut s k own) = rw (cut_own s k) none in
            let h = must own g.room (omega arith) clear i j li push in
            let less = smaller_factor s.capacity (e - 1) own (omega arith) in
            omega arith
      ]

  pub pushed_smallest : (e : ℕ) → PushedBy s k (count s) e → SmallestDeadline s k e
  pushed_smallest e is =
      let high = pushed_in_time (count s) e (omega arith) is in
      record {
        low = is.low;
        high = high;
        enough = enough e is.low high is.far;
        smallest = λ d low less clear.
            elim is.near [
              | inl same ↦ omega arith
              | inr (i, j, li, lj, push, last) ↦
                  let h = must d low (omega arith) clear i j li push in
                  let up : s.capacity * d ≤ s.capacity * (e - 1) = mul-le-mul_left s.capacity (omega arith) in
                  omega arith
            ];
      }

  -- a push for which e - 1 is too small
  abbrev Short : ℕ → ℕ → ℕ → Type 0
  Short e i j = Pushes s k i j × (s.capacity * (e - 1) < total_at i j)

  short? : (e i j : ℕ) → Dec (Short e i j)
  short? e i j =
      elim (dec_le (entry s i).release (entry s k).release) [
        | no h ↦ no (λ q. h q.0.release)
        | yes l1 ↦ elim (dec_lt (entry s j).deadline (entry s k).deadline) [
          | no h ↦ no (λ q. h q.0.deadline)
          | yes l2 ↦ elim (dec_lt (s.capacity * (entry s j).deadline) (total_at i j)) [
            | no h ↦ no (λ q. h q.0.over)
            | yes l3 ↦ elim (dec_lt (s.capacity * (e - 1)) (total_at i j)) [
              | no h ↦ no (λ q. h q.1)
              | yes l4 ↦ yes (record { release = l1; deadline = l2; over = l3 }, l4)
            ]
          ]
        ]
      ]

  abbrev ShortRow : ℕ → ℕ → Type 0
  ShortRow e i = (j : ℕ) × (j < count s) × Short e i j

  short_row? : (e i : ℕ) → Dec (ShortRow e i)
  short_row? e i = elim (least (Short e i) (short? e i) (count s)) [ inl (j, l, q, low) ↦ yes (j, l, q) | inr never ↦ no (λ h. never h.0 h.1 h.2) ]

  pub smallest_pushed : (e : ℕ) → SmallestDeadline s k e → PushedBy s k (count s) e
  smallest_pushed e is =
      record {
        low = is.low;
        far = λ i j li lj push. must e is.low is.high is.enough i j li push;
        near =
            elim (cases_lt ((entry s k).release + (entry s k).duration) e) [
              | inr l ↦ inl (omega (arith, is.low))
              | inl l ↦
                  elim (least (ShortRow e) (short_row? e) (count s)) [
                    | inl (i, li, (j, lj, q), low) ↦ inr (i, j, li, lj, q.0, q.1)
                    | inr never ↦
                        absurd (is.smallest (e - 1) (omega arith) (omega arith)
                        (enough (e - 1) (omega arith) (omega (arith, is.high)) (λ i j li lj push.
                        elim (cases_lt (s.capacity * (e - 1)) (total_at i j)) [
                          | inl short ↦ absurd (never i li (j, lj, (push, short)))
                          | inr fits ↦ fits
                        ])))
                  ]
            ];
      }

pub pushes_give_the_smallest_deadline : PushesGiveTheSmallestDeadline
pushes_give_the_smallest_deadline s sound none k here e = (pushed_smallest s sound none k here e, smallest_pushed s sound none k here e)

-- ---- one release after another, for a loop over them
module _ (s : Sheet) (r t2 : ℕ) where
  pub fullest_first : (k : ℕ) → k < count s → (entry s k).release ≤ r → Fullest s r t2 0 (filled s (entry s k).release t2)
  fullest_first k l le = record { most = λ i li h. absurd (omega arith); reached = (k, l, (le, refl)) }

  module _ (n b : ℕ) (full : Fullest s r t2 n b) where
    pub fullest_skip : r < (entry s n).release → Fullest s r t2 (n + 1) b
    fullest_skip l =
        record {
          most = λ i li h. elim (cases_eq i n) [ inl same ↦ absurd (let h' = rw same at h in omega arith) | inr other ↦ full.most i (omega arith) h ];
          reached = full.reached;
        }

    pub fullest_more : n < count s → (entry s n).release ≤ r → Fullest s r t2 (n + 1) (max b (filled s (entry s n).release t2))
    fullest_more ln l =
        let f = filled s (entry s n).release t2 in
        let most : (i : ℕ) → i < n + 1 → (entry s i).release ≤ r → filled s (entry s i).release t2 ≤ max b f =
        λ i li h. elim (cases_eq i n) [ inl same ↦ rw same (omega arith) | inr other ↦ omega (arith, full.most i (omega arith) h) ] in
        elim (cases_lt b f) [
          | inl less ↦ let m : max b f ≡ f = omega arith in record { most = most; reached = rw m (n, ln, (l, refl)) }
          | inr more ↦ let m : max b f ≡ b = omega arith in record { most = most; reached = rw m full.reached }
        ]

-- ---- one deadline after another, for a loop over them
module _ (s : Sheet) (k : ℕ) where
  pub pushed_none : PushedBy s k 0 ((entry s k).release + (entry s k).duration)
  pushed_none = record { low = omega arith; far = λ i j li lj push. absurd (omega arith); near = inl refl }

  module _ (n e : ℕ) (is : PushedBy s k n e) where
    -- a deadline that pushes to nowhere past e
    pub pushed_on : ((i : ℕ) → i < count s → Pushes s k i n → filled s (entry s i).release (entry s n).deadline + work (entry s k) ≤ s.capacity * e) →
        PushedBy s k (n + 1) e
    pushed_on h =
        record {
          low = is.low;
          far = λ i j li lj push. elim (cases_eq j n) [
            | inl same ↦ let push' = rw same at push in rw same (h i li push')
            | inr other ↦ is.far i j li (omega arith) push
          ];
          near = elim is.near [ inl same ↦ inl same | inr (i, j, li, lj, push, last) ↦ inr (i, j, li, omega arith, push, last) ];
        }

    -- the deadline is not before the entry's own
    pub pushed_beyond : (entry s k).deadline ≤ (entry s n).deadline → PushedBy s k (n + 1) e
    pushed_beyond l = pushed_on (λ i li push. absurd (omega (arith, push.deadline)))

    module _ (b : ℕ) (full : Fullest s (entry s k).release (entry s n).deadline (count s) b) where
      -- there is room before the deadline
      pub pushed_not : b + work (entry s k) ≤ s.capacity * (entry s n).deadline → PushedBy s k (n + 1) e
      pushed_not l = pushed_on (λ i li push. absurd (omega (arith, push.over, full.most i li push.release)))

      -- there is none: the entry ends no sooner than what is filled does
      pub pushed_past : 1 ≤ s.capacity → (entry s n).deadline < (entry s k).deadline → s.capacity * (entry s n).deadline < b + work (entry s k) →
          PushedBy s k (n + 1) (max e (ceiling (b + work (entry s k)) s.capacity))
      pushed_past some before over =
          let C = s.capacity in
          let x = b + work (entry s k) in
          let end = ceiling x C in
          let up = ceiling_up x C some in
          let near = ceiling_near x C some (omega arith) in
          elim (cases_lt e end) [
            | inr l ↦
                let m : max e end ≡ e = omega arith in
                let more : C * end ≤ C * e = mul-le-mul_left C l in
                rw m (pushed_on (λ i li push. omega (arith, full.most i li push.release)))
            | inl l ↦
                let m : max e end ≡ end = omega arith in
                let more : C * e ≤ C * end = mul-le-mul_left C (omega arith) in
                let (i, li, (li2, same)) = full.reached in
                rw m
                (record {
                  low = omega (arith, is.low);
                  far = λ i j li lj push. elim (cases_eq j n) [
                    | inl same ↦ rw same (omega (arith, full.most i li push.release))
                    | inr other ↦ omega (arith, is.far i j li (omega arith) push)
                  ];
                  near = inr (i, n, li, omega arith, record { release = li2; deadline = before; over = omega arith }, omega arith);
                })
          ]

-- what E answers where all deadlines have pushed the entry to e
pub earliest_pushed : (s : Sheet) (k e : ℕ) → Sound s → k < count s → NowhereOverfull s → PushedBy s k (count s) e →
    meaning_E.earliest s k ≡ Some (e - (entry s k).duration)
earliest_pushed s k e sound here none is = earliest_is s k e sound here none (pushed_smallest s sound none k here e is)
