-- Build, enter, withdraw and rebook have an answer on every board within the limits, and one only.
use Rattle.std.proofs.Common.{◌≡◌, ℕ, ◌+◌, ◌<◌, ◌≤◌, ◌⊎◌, List, [], ◌∷◌, length, get_or, set, Ok, Err, sym, refl, ap, ◌∙◌, subst, inl, inr, arith}
use native.Mathlib.Decide.{dec_le, dec_lt, ℕ_discrete}
use Rattle.std.specs.List.{remove}
use Rattle.std.proofs.lemmas.Bool.{cases_lt, cases_order}
use Rattle.model.specs.declared.rows.Pair.{Pair}
use Rattle.model.specs.declared.rows.Row.{Row}
use Rattle.model.specs.Changes.{rebooked}
use Rattle.model.specs.Limits.{row_at, Apart}
use Rattle.model.proofs.Search.{least}
use Rattle.board.specs.declared.bookings.Test.{Test}
use Rattle.board.specs.declared.refusals.Refusal.{Refusal}
use Rattle.board.specs.declared.refusals.Refusal.TheVariants.{Capacity, Profile, Bearer, Duration, Demand, Window, Taken, Full, Unknown, Letter}
use Rattle.board.specs.Refusals.{number_of}
use Rattle.board.specs.Calls.{Bookings, SoundBookings, Answer, Nothing, First, Wrong, pair, instant, long, idle, greedy, window, taken, full, profile, bearer_low, bearer_high, Misfit, late, tight, StandsAt, Free, Builds, makes, too_small, too_large, Enters, adds, refuses, Withdraws, removes, Rebooks, moves, unfit}
use Rattle.board.specs.Calls as calls
use Rattle.board.proofs.Judging.{number_small}

-- What has an answer and leaves a board, one of each only.
pub record One (Answers : Answer → Bookings → Type 0) : Type 0 where
  pub answer : Answer
  pub left : Bookings
  pub made : Answers answer left
  pub only : (a : Answer) (c : Bookings) → Answers a c → (a ≡ answer) × (c ≡ left)

-- ---- build

build_same : (b : Bookings) (n : ℕ) {a a' : Answer} {c c' : Bookings} → Builds b n a c → Builds b n a' c' → (a ≡ a') × (c ≡ c')
build_same b n (makes low high) (makes low' high') = (refl, refl)
build_same b n (makes low high) (too_small h') = absurd (omega arith)
build_same b n (makes low high) (too_large h') = absurd (omega arith)
build_same b n (too_small h) (makes low' high') = absurd (omega arith)
build_same b n (too_small h) (too_small h') = (refl, refl)
build_same b n (too_small h) (too_large h') = (refl, refl)
build_same b n (too_large h) (makes low' high') = absurd (omega arith)
build_same b n (too_large h) (too_small h') = (refl, refl)
build_same b n (too_large h) (too_large h') = (refl, refl)

pub build_once : (b : Bookings) (n : ℕ) → One (Builds b n)
build_once b n =
    elim (cases_lt n 1) [
      | inl l ↦ record { answer = Err Capacity; left = b; made = too_small l; only = λ a c x. build_same b n x (too_small l) }
      | inr low ↦ elim (cases_lt 4095 n) [
        | inl l ↦ record { answer = Err Capacity; left = b; made = too_large l; only = λ a c x. build_same b n x (too_large l) }
        | inr high ↦
            record { answer = Ok tt; left = record { capacity = n; rows = [] }; made = makes low high; only = λ a c x. build_same b n x (makes low high) }
      ]
    ]

-- ---- finding a pair

pair? : (p q : Pair) → Dec (p ≡ q)
pair? p q =
    elim (ℕ_discrete p.profile q.profile) [
      | no h ↦ no (λ e. h (ap (λ (x : Pair). x.profile) e))
      | yes e1 ↦ elim (ℕ_discrete p.bearer q.bearer) [
        | no h ↦ no (λ e. h (ap (λ (x : Pair). x.bearer) e))
        | yes e2 ↦ yes (λ z. record { profile = e1 z; bearer = e2 z })
      ]
    ]

find : (p : Pair) (rows : List Row) → ((k : ℕ) × StandsAt p rows k) ⊎ Free p rows
find p rows =
    elim (least (λ k. (row_at rows k).pair ≡ p) (λ k. pair? (row_at rows k).pair p) (length rows)) [
      | inl (k, l, e, first) ↦ inl (k, record { inside = l; named = e })
      | inr none ↦ inr (λ k at. none k at.inside at.named)
    ]

-- a pair stands at one place only
one_place : (p : Pair) (rows : List Row) → Apart rows → (j k : ℕ) → StandsAt p rows j → StandsAt p rows k → j ≡ k
one_place p rows apart j k x y =
    elim (cases_order j k) [
      | inl e ↦ e
      | inr (inl l) ↦ absurd (apart j k l y.inside (x.named ∙ sym y.named))
      | inr (inr l) ↦ absurd (apart k j l x.inside (y.named ∙ sym x.named))
    ]

-- ---- enter

-- a refusal is known by its number
abbrev by_number : ℕ → Refusal
by_number n =
    get_or (Letter ∷ (Capacity ∷ (Profile ∷ (Bearer ∷ (Duration ∷ (Demand ∷ (Window ∷ (Taken ∷ (Full ∷ (Unknown ∷ [])))))))))) n Letter

numbered : (w : Refusal) → by_number (number_of w) ≡ w
numbered Capacity = refl
numbered Profile = refl
numbered Bearer = refl
numbered Duration = refl
numbered Demand = refl
numbered Window = refl
numbered Taken = refl
numbered Full = refl
numbered Unknown = refl
numbered Letter = refl

first_unique : (P : Refusal → Type 0) (v w : Refusal) → First P v → First P w → v ≡ w
first_unique P v w x y =
    let e : number_of v ≡ number_of w = omega (arith, x.least w y.wrong, y.least v x.wrong) in
    sym (numbered v) ∙ ap by_number e ∙ numbered w

-- of what can be decided, nothing is wrong or something comes first
first? : (P : Refusal → Type 0) → ((w : Refusal) → Dec (P w)) → Nothing P ⊎ ((w : Refusal) × First P w)
first? P p? =
    elim (least (λ n. (w : Refusal) × (number_of w ≡ n) × P w) at 11) [
      | inl (n, l, (w, e, p), low) ↦
          inr (
            w,
            record {
              wrong = p;
              least = λ v q. elim (cases_lt (number_of v) n) [ inl less ↦ absurd (low (number_of v) less (v, refl, q)) | inr h ↦ omega arith ];
            },
          )
      | inr none ↦
          inl (λ w p. elim (cases_lt (number_of w) 11) [ inl l ↦ none (number_of w) l (w, refl, p) | inr h ↦ number_small w h ])
    ]
  where
    at : (n : ℕ) → Dec ((w : Refusal) × (number_of w ≡ n) × P w)
    at n =
        elim (ℕ_discrete (number_of (by_number n)) n) [
          | no h ↦ no (λ x. h (ap number_of (sym (ap by_number x.1) ∙ numbered x.0) ∙ x.1))
          | yes e ↦ elim (p? (by_number n)) [
            | yes p ↦ yes (by_number n, e, p)
            | no h ↦ no (λ x. h (subst P (sym (numbered x.0) ∙ ap by_number x.1) x.2))
          ]
        ]

either? : {A B : Type 0} → Dec A → Dec B → Dec (A ⊎ B)
either? (yes a) b = yes (inl a)
either? (no na) (yes b) = yes (inr b)
either? (no na) (no nb) = no (λ x. elim x [ inl a ↦ na a | inr b ↦ nb b ])

module _ (b : Bookings) (t : Test) where
  -- the reasons by the refusal
  abbrev Reason : Refusal → Type 0
  Reason Capacity = ⊥
  Reason Profile = 255 < t.pair.profile
  Reason Bearer = (t.pair.bearer < 5) ⊎ (15 < t.pair.bearer)
  Reason Duration = (t.duration < 1) ⊎ (4032 < t.duration)
  Reason Demand = (t.demand < 1) ⊎ (b.capacity < t.demand)
  Reason Window = (4032 < t.deadline) ⊎ (t.deadline < t.release + t.duration)
  Reason Taken = (k : ℕ) × StandsAt t.pair b.rows k
  Reason Full = 64 ≤ length b.rows
  Reason Unknown = ⊥
  Reason Letter = ⊥

  reason : (w : Refusal) → Wrong b t w → Reason w
  reason w (pair v (profile h)) = h
  reason w (pair v (bearer_low h)) = inl h
  reason w (pair v (bearer_high h)) = inr h
  reason w (instant h) = inl h
  reason w (long h) = inr h
  reason w (idle h) = inl h
  reason w (greedy h) = inr h
  reason w (window (late h)) = inl h
  reason w (window (tight h)) = inr h
  reason w (taken k at) = (k, at)
  reason w (full h) = h

  wrong : (w : Refusal) → Reason w → Wrong b t w
  wrong Capacity h = absurd h
  wrong Profile h = pair Profile (profile h)
  wrong Bearer (inl h) = pair Bearer (bearer_low h)
  wrong Bearer (inr h) = pair Bearer (bearer_high h)
  wrong Duration (inl h) = instant h
  wrong Duration (inr h) = long h
  wrong Demand (inl h) = idle h
  wrong Demand (inr h) = greedy h
  wrong Window (inl h) = window (late h)
  wrong Window (inr h) = window (tight h)
  wrong Taken (k, at) = taken k at
  wrong Full h = full h
  wrong Unknown h = absurd h
  wrong Letter h = absurd h

  reason? : (w : Refusal) → Dec (Reason w)
  reason? Capacity = no (λ h. h)
  reason? Profile = dec_lt 255 t.pair.profile
  reason? Bearer = either? (dec_lt t.pair.bearer 5) (dec_lt 15 t.pair.bearer)
  reason? Duration = either? (dec_lt t.duration 1) (dec_lt 4032 t.duration)
  reason? Demand = either? (dec_lt t.demand 1) (dec_lt b.capacity t.demand)
  reason? Window = either? (dec_lt 4032 t.deadline) (dec_lt t.deadline (t.release + t.duration))
  reason? Taken = elim (find t.pair b.rows) [ inl at ↦ yes at | inr free ↦ no (λ x. free x.0 x.1) ]
  reason? Full = dec_le 64 (length b.rows)
  reason? Unknown = no (λ h. h)
  reason? Letter = no (λ h. h)

  judged : Nothing (Wrong b t) ⊎ ((w : Refusal) × First (Wrong b t) w)
  judged = first? (Wrong b t) (λ w. elim (reason? w) [ yes h ↦ yes (wrong w h) | no h ↦ no (λ x. h (reason w x)) ])

enter_same : (b : Bookings) (t : Test) {a a' : Answer} {c c' : Bookings} → Enters b t a c → Enters b t a' c' → (a ≡ a') × (c ≡ c')
enter_same b t (adds none) (adds none') = (refl, refl)
enter_same b t (adds none) (refuses w first) = absurd (none w first.wrong)
enter_same b t (refuses w first) (adds none) = absurd (none w first.wrong)
enter_same b t (refuses w first) (refuses v first') = (ap Err (first_unique (Wrong b t) w v first first'), refl)

pub enter_once : (b : Bookings) (t : Test) → One (Enters b t)
enter_once b t =
    elim (judged b t) [
      | inl none ↦ record { answer = _; left = _; made = adds none; only = λ a c x. enter_same b t x (adds none) }
      | inr (w, first) ↦ record { answer = _; left = _; made = refuses w first; only = λ a c x. enter_same b t x (refuses w first) }
    ]

-- ---- withdraw and rebook

module _ (b : Bookings) (sound : SoundBookings b) (p : Pair) where
  withdraw_same : {a a' : Answer} {c c' : Bookings} → Withdraws b p a c → Withdraws b p a' c' → (a ≡ a') × (c ≡ c')
  withdraw_same (removes k at) (removes k' at') =
      (refl, ap (λ j. calls.anew b (remove b.rows j)) (one_place p b.rows sound.sound.apart k k' at at'))
  withdraw_same (removes k at) (calls.Withdraws.unknown free) = absurd (free k at)
  withdraw_same (calls.Withdraws.unknown free) (removes k at) = absurd (free k at)
  withdraw_same (calls.Withdraws.unknown free) (calls.Withdraws.unknown free') = (refl, refl)

  pub withdraw_once : One (Withdraws b p)
  withdraw_once =
      elim (find p b.rows) [
        | inl (k, at) ↦ record { answer = _; left = _; made = removes k at; only = λ a c x. withdraw_same x (removes k at) }
        | inr free ↦
            record { answer = _; left = _; made = calls.Withdraws.unknown free; only = λ a c x. withdraw_same x (calls.Withdraws.unknown free) }
      ]

  module _ (release deadline : ℕ) where
    misfit? : (duration : ℕ) → Dec (Misfit duration release deadline)
    misfit? duration =
        elim (cases_lt 4032 deadline) [
          | inl l ↦ yes (late l)
          | inr in_time ↦ elim (cases_lt deadline (release + duration)) [ inl l ↦ yes (tight l) | inr room ↦ no (fits in_time room) ]
        ]
      where
        fits : deadline ≤ 4032 → release + duration ≤ deadline → Misfit duration release deadline → ⊥
        fits in_time room (late h) = omega arith
        fits in_time room (tight h) = omega arith

    abbrev moved : ℕ → Bookings
    moved j = calls.anew b (set b.rows j (rebooked (record { release = release; deadline = deadline }) (row_at b.rows j)))

    misfit_at : (j k : ℕ) → j ≡ k → Misfit (row_at b.rows j).duration release deadline → Misfit (row_at b.rows k).duration release deadline
    misfit_at j k e m = rw e at m

    rebook_same : {a a' : Answer} {c c' : Bookings} → Rebooks b p release deadline a c → Rebooks b p release deadline a' c' → (a ≡ a') × (c ≡ c')
    rebook_same (moves k at fit) (moves k' at' fit') = (refl, ap moved (one_place p b.rows sound.sound.apart k k' at at'))
    rebook_same (moves k at fit) (calls.Rebooks.unknown free) = absurd (free k at)
    rebook_same (moves k at fit) (unfit k' at' misfit) =
        absurd (fit (misfit_at k' k (one_place p b.rows sound.sound.apart k' k at' at) misfit))
    rebook_same (calls.Rebooks.unknown free) (moves k at fit) = absurd (free k at)
    rebook_same (calls.Rebooks.unknown free) (calls.Rebooks.unknown free') = (refl, refl)
    rebook_same (calls.Rebooks.unknown free) (unfit k at misfit) = absurd (free k at)
    rebook_same (unfit k at misfit) (moves k' at' fit) =
        absurd (fit (misfit_at k k' (one_place p b.rows sound.sound.apart k k' at at') misfit))
    rebook_same (unfit k at misfit) (calls.Rebooks.unknown free) = absurd (free k at)
    rebook_same (unfit k at misfit) (unfit k' at' misfit') = (refl, refl)

    pub rebook_once : One (Rebooks b p release deadline)
    rebook_once =
        elim (find p b.rows) [
          | inr free ↦ record { answer = _; left = _; made = calls.Rebooks.unknown free; only = λ a c x. rebook_same x (calls.Rebooks.unknown free) }
          | inl (k, at) ↦ elim (misfit? (row_at b.rows k).duration) [
            | yes misfit ↦ record { answer = _; left = _; made = unfit k at misfit; only = λ a c x. rebook_same x (unfit k at misfit) }
            | no fit ↦ record { answer = _; left = _; made = moves k at fit; only = λ a c x. rebook_same x (moves k at fit) }
          ]
        ]
