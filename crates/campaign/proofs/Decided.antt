-- Of what may come of a call on the board, of a record and of a file, one thing does.
use Rattle.std.proofs.Common.{◌≡◌, ℕ, zero, suc, ◌+◌, ◌<◌, ◌≤◌, ◌⊎◌, List, length, Ok, Err, refl, ap, inl, inr, arith}
use Rattle.std.proofs.lemmas.Bool.{cases_lt, cases_eq}
use Rattle.model.specs.declared.rows.Pair.{Pair}
use Rattle.model.specs.declared.rows.Row.{Row}
use Rattle.board.specs.declared.bookings.Test.{Test}
use Rattle.board.specs.declared.refusals.Refusal.{Refusal}
use Rattle.board.specs.declared.refusals.Refusal.TheVariants.{Capacity, Profile, Bearer, Duration, Demand, Window, Taken, Full}
use Rattle.model.specs.Limits.{row_at}
use Rattle.board.specs.Calls.{Bookings, Builds, makes, too_small, too_large, built, profile, bearer_low, bearer_high, StandsAt, Free, late, tight, pair, instant, long, idle, greedy, window, taken, full, Enters, adds, refuses}
use Rattle.records.specs.declared.faults.Misread.{Misread}
use Rattle.records.specs.Records.{Spot, Reading, Said, start, note, test, number_here, record_here}
use Rattle.campaign.specs.declared.faults.Fault.{Fault}
use Rattle.campaign.specs.declared.faults.Cause.TheVariants as cause
use Rattle.campaign.specs.Loads.{unread_in, fault_in, asked_by, Heads, heads, BadHeader, no_capacity, bad_capacity, no_count, too_many, Booked, noted, tested, BadRecord, unread, refused, Front, none, more, BadFront, at_record, whole, header, body, left_over}
use Rattle.campaign.specs.Outcomes.{SomeOutcome}
use Rattle.board.proofs.Judging.{least_wrong, number_small}

-- ---- build

pub build_decided : (b : Bookings) (n : ℕ) → Builds b n (Ok tt) (built n) ⊎ Builds b n (Err Capacity) b
build_decided b n =
    elim (cases_lt n 1) [
      | inl l ↦ inr (too_small l)
      | inr l ↦ elim (cases_lt 4095 n) [ inl h ↦ inr (too_large h) | inr h ↦ inl (makes l h) ]
    ]

-- ---- enter

same_pair : (x y : Pair) → x.profile ≡ y.profile → x.bearer ≡ y.bearer → x ≡ y
same_pair x y e f = λ i. record { profile = e i; bearer = f i }

-- Whether the row at a place has a pair.
stands_or_not : (x : Pair) (rows : List Row) (k : ℕ) → k < length rows → StandsAt x rows k ⊎ (¬ StandsAt x rows k)
stands_or_not x rows k l =
    elim (cases_eq (row_at rows k).pair.profile x.profile) [
      | inr n ↦ inr (λ s. n (ap (λ (y : Pair). y.profile) s.named))
      | inl e ↦
          elim (cases_eq (row_at rows k).pair.bearer x.bearer) [
            | inr n ↦ inr (λ s. n (ap (λ (y : Pair). y.bearer) s.named))
            | inl f ↦ inl (record { inside = l; named = same_pair (row_at rows k).pair x e f })
          ]
    ]

-- Whether one of the first n rows has a pair.
stands_below : (x : Pair) (rows : List Row) (n : ℕ) → n ≤ length rows → ((k : ℕ) × StandsAt x rows k) ⊎ ((k : ℕ) → k < n → ¬ StandsAt x rows k)
stands_below x rows zero l = inr (λ k h s. omega arith)
stands_below x rows (suc n) l =
    elim (stands_below x rows n (omega arith)) [
      | inl s ↦ inl s
      | inr before ↦
          elim (stands_or_not x rows n (omega arith)) [
            | inl s ↦ inl (n, s)
            | inr here ↦
                inr (λ k h s.
                elim (cases_lt k n) [
                  | inl b ↦ before k b s
                  | inr b ↦ let e : k ≡ n = omega arith in here (rw e at s)
                ])
          ]
    ]

-- Whether a row has a pair.
free_or_not : (x : Pair) (rows : List Row) → ((k : ℕ) × StandsAt x rows k) ⊎ Free x rows
free_or_not x rows =
    elim (stands_below x rows (length rows) (omega arith)) [
      | inl s ↦ inl s
      | inr before ↦ inr (λ k s. before k s.inside s)
    ]

-- What enter does.
abbrev pub Entry : Bookings → Test → Type 0
Entry b t = ((c : Bookings) × Enters b t (Ok tt) c) ⊎ ((w : Refusal) × Enters b t (Err w) b)

pub enter_decided : (b : Bookings) (t : Test) → Entry b t
enter_decided b t =
    elim (cases_lt 255 t.pair.profile) [
      | inl x ↦ inr (Profile, refuses Profile (record { wrong = (pair Profile (profile x)); least = least_wrong 2 b t (λ l. absurd (omega arith)) (λ l. absurd (omega arith)) (λ l. absurd (omega arith)) (λ l. absurd (omega arith)) (λ l. absurd (omega arith)) (λ l. absurd (omega arith)) (λ l. absurd (omega arith)) (λ l. absurd (omega arith)) (λ l. absurd (omega arith)) (λ l. absurd (omega arith)) (λ l. absurd (omega arith)) }))
      | inr p ↦
          elim (cases_lt t.pair.bearer 5) [
            | inl x ↦ inr (Bearer, refuses Bearer (record { wrong = (pair Bearer (bearer_low x)); least = least_wrong 3 b t (λ l. p) (λ l. absurd (omega arith)) (λ l. absurd (omega arith)) (λ l. absurd (omega arith)) (λ l. absurd (omega arith)) (λ l. absurd (omega arith)) (λ l. absurd (omega arith)) (λ l. absurd (omega arith)) (λ l. absurd (omega arith)) (λ l. absurd (omega arith)) (λ l. absurd (omega arith)) }))
            | inr bl ↦
                elim (cases_lt 15 t.pair.bearer) [
                  | inl x ↦ inr (Bearer, refuses Bearer (record { wrong = (pair Bearer (bearer_high x)); least = least_wrong 3 b t (λ l. p) (λ l. absurd (omega arith)) (λ l. absurd (omega arith)) (λ l. absurd (omega arith)) (λ l. absurd (omega arith)) (λ l. absurd (omega arith)) (λ l. absurd (omega arith)) (λ l. absurd (omega arith)) (λ l. absurd (omega arith)) (λ l. absurd (omega arith)) (λ l. absurd (omega arith)) }))
                  | inr bh ↦
                      elim (cases_lt t.duration 1) [
                        | inl x ↦ inr (Duration, refuses Duration (record { wrong = (instant x); least = least_wrong 4 b t (λ l. p) (λ l. bl) (λ l. bh) (λ l. absurd (omega arith)) (λ l. absurd (omega arith)) (λ l. absurd (omega arith)) (λ l. absurd (omega arith)) (λ l. absurd (omega arith)) (λ l. absurd (omega arith)) (λ l. absurd (omega arith)) (λ l. absurd (omega arith)) }))
                        | inr dl ↦
                            elim (cases_lt 4032 t.duration) [
                              | inl x ↦ inr (Duration, refuses Duration (record { wrong = (long x); least = least_wrong 4 b t (λ l. p) (λ l. bl) (λ l. bh) (λ l. absurd (omega arith)) (λ l. absurd (omega arith)) (λ l. absurd (omega arith)) (λ l. absurd (omega arith)) (λ l. absurd (omega arith)) (λ l. absurd (omega arith)) (λ l. absurd (omega arith)) (λ l. absurd (omega arith)) }))
                              | inr dh ↦
                                  elim (cases_lt t.demand 1) [
                                    | inl x ↦ inr (Demand, refuses Demand (record { wrong = (idle x); least = least_wrong 5 b t (λ l. p) (λ l. bl) (λ l. bh) (λ l. dl) (λ l. dh) (λ l. absurd (omega arith)) (λ l. absurd (omega arith)) (λ l. absurd (omega arith)) (λ l. absurd (omega arith)) (λ l. absurd (omega arith)) (λ l. absurd (omega arith)) }))
                                    | inr cl ↦
                                        elim (cases_lt b.capacity t.demand) [
                                          | inl x ↦ inr (Demand, refuses Demand (record { wrong = (greedy x); least = least_wrong 5 b t (λ l. p) (λ l. bl) (λ l. bh) (λ l. dl) (λ l. dh) (λ l. absurd (omega arith)) (λ l. absurd (omega arith)) (λ l. absurd (omega arith)) (λ l. absurd (omega arith)) (λ l. absurd (omega arith)) (λ l. absurd (omega arith)) }))
                                          | inr ch ↦
                                              elim (cases_lt 4032 t.deadline) [
                                                | inl x ↦ inr (Window, refuses Window (record { wrong = (window (late x)); least = least_wrong 6 b t (λ l. p) (λ l. bl) (λ l. bh) (λ l. dl) (λ l. dh) (λ l. cl) (λ l. ch) (λ l. absurd (omega arith)) (λ l. absurd (omega arith)) (λ l. absurd (omega arith)) (λ l. absurd (omega arith)) }))
                                                | inr wl ↦
                                                    elim (cases_lt t.deadline (t.release + t.duration)) [
                                                      | inl x ↦ inr (Window, refuses Window (record { wrong = (window (tight x)); least = least_wrong 6 b t (λ l. p) (λ l. bl) (λ l. bh) (λ l. dl) (λ l. dh) (λ l. cl) (λ l. ch) (λ l. absurd (omega arith)) (λ l. absurd (omega arith)) (λ l. absurd (omega arith)) (λ l. absurd (omega arith)) }))
                                                      | inr wh ↦
                                                          elim (free_or_not t.pair b.rows) [
                                                            | inl x ↦ inr (Taken, refuses Taken (record { wrong = (taken x.0 x.1); least = least_wrong 7 b t (λ l. p) (λ l. bl) (λ l. bh) (λ l. dl) (λ l. dh) (λ l. cl) (λ l. ch) (λ l. wl) (λ l. wh) (λ l. absurd (omega arith)) (λ l. absurd (omega arith)) }))
                                                            | inr f ↦
                                                                elim (cases_lt 63 (length b.rows)) [
                                                                  | inl x ↦ inr (Full, refuses Full (record { wrong = (full (omega arith)); least = least_wrong 8 b t (λ l. p) (λ l. bl) (λ l. bh) (λ l. dl) (λ l. dh) (λ l. cl) (λ l. ch) (λ l. wl) (λ l. wh) (λ l. f) (λ l. absurd (omega arith)) }))
                                                                  | inr m0 ↦
                                                                      let m : length b.rows < 64 = omega arith in
                                                                      inl (_, adds (λ w x. number_small w (least_wrong 11 b t (λ l. p) (λ l. bl) (λ l. bh) (λ l. dl) (λ l. dh) (λ l. cl) (λ l. ch) (λ l. wl) (λ l. wh) (λ l. f) (λ l. m) w x)))
                                                                ]
                                                          ]
                                                    ]
                                              ]
                                        ]
                                  ]
                            ]
                      ]
                ]
          ]
    ]

-- ---- records and files

-- What was read, or the fault.
read_or_not : {A : Type 0} (r : Reading A) → ((x : A × Spot) × (r ≡ Ok x)) ⊎ ((e : Misread) × (r ≡ Err e))
read_or_not (Ok x) = inl (x, refl)
read_or_not (Err e) = inr (e, refl)

-- What the record at p does.
abbrev Next : ℕ → Spot → Bookings → Type 0
Next n p b = ((q : Spot) × (c : Bookings) × Booked p b q c) ⊎ ((f : Fault) × BadRecord n p b f)

said_decided : (n : ℕ) (p : Spot) (b : Bookings) (x : Said) (q : Spot) → record_here p ≡ Ok (x, q) → Next n p b
said_decided n p b (note text at) q h = inl (q, b, noted text at q h)
said_decided n p b (test fields label at) q h =
    elim (enter_decided b (asked_by fields)) [
      | inl c ↦ inl (q, c.0, tested fields label at q c.0 h c.1)
      | inr w ↦ inr (fault_in n (cause.Board w.0) p, refused fields label at q w.0 h w.1)
    ]

record_decided : (n : ℕ) (p : Spot) (b : Bookings) → Next n p b
record_decided n p b =
    elim (read_or_not (record_here p)) [
      | inl x ↦ said_decided n p b x.0.0 x.0.1 x.1
      | inr e ↦ inr (unread_in n e.0, unread e.0 e.1)
    ]

-- What the records from p on do.
abbrev Rows : ℕ → Spot → Bookings → Type 0
Rows count p b = ((q : Spot) × (c : Bookings) × Front p b count q c) ⊎ ((f : Fault) × BadFront p b count f)

later : (p : Spot) (b : Bookings) (n : ℕ) (f : Fault) → BadFront p b n f → BadFront p b (suc n) f
later p b n f (at_record k q c _ x l y) = at_record k q c f x (omega arith) y

rows_decided : (count : ℕ) (p : Spot) (b : Bookings) → Rows count p b
rows_decided zero p b = inl (p, b, none)
rows_decided (suc n) p b =
    elim (rows_decided n p b) [
      | inr w ↦ inr (w.0, later p b n w.0 w.1)
      | inl x ↦
          elim (record_decided (suc n) x.0 x.1) [
            | inl y ↦ inl (y.0, y.1, more n x.0 y.0 x.1 y.1 x.2 y.2)
            | inr w ↦ inr (w.0, at_record n x.0 x.1 w.0 x.2 (omega arith) w.1)
          ]
    ]

-- What the header at p does.
abbrev Header : Spot → Bookings → Type 0
Header p before = ((n : ℕ) × (q : Spot) × (b : Bookings) × Heads p before n q b) ⊎ ((f : Fault) × BadHeader p before f)

count_decided : (p m : Spot) (before : Bookings) (n : ℕ) → number_here p ≡ Ok (n, m) → Builds before n (Ok tt) (built n) → Header p before
count_decided p m before n h x =
    elim (read_or_not (number_here m)) [
      | inr e ↦ inr (unread_in 0 e.0, no_count n m (built n) e.0 h x e.1)
      | inl y ↦
          elim (cases_lt 128 y.0.0) [
            | inl l ↦ inr (fault_in 0 cause.TooManyRecords m, too_many n y.0.0 m y.0.1 (built n) h x y.1 l)
            | inr l ↦ inl (y.0.0, y.0.1, built n, heads n y.0.0 m y.0.1 (built n) h x y.1 l)
          ]
    ]

header_decided : (p : Spot) (before : Bookings) → Header p before
header_decided p before =
    elim (read_or_not (number_here p)) [
      | inr e ↦ inr (unread_in 0 e.0, no_capacity e.0 e.1)
      | inl x ↦
          elim (build_decided before x.0.0) [
            | inl y ↦ count_decided p x.0.1 before x.0.0 x.1 y
            | inr y ↦ inr (fault_in 0 (cause.Board Capacity) p, bad_capacity x.0.0 x.0.1 Capacity x.1 y)
          ]
    ]

pub some_outcome : SomeOutcome
some_outcome file before =
    elim (header_decided (start file) before) [
      | inr w ↦ (Err w.0, before, header w.0 w.1)
      | inl h ↦
          elim (rows_decided h.0 h.1 h.2) [
            | inr w ↦ (Err w.0, before, body h.0 h.1 h.2 w.0 h.3 w.1)
            | inl x ↦
                elim (cases_lt 0 (length x.0.rest)) [
                  | inl l ↦ (Err (fault_in h.0 cause.LeftOver x.0), before, left_over h.0 h.1 x.0 h.2 x.1 h.3 x.2 l)
                  | inr l ↦ (Ok tt, x.1, whole h.0 h.1 x.0 h.2 x.1 h.3 x.2 (omega arith))
                ]
          ]
    ]
