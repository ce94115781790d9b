-- Two ways to load a file are one.
use Rattle.std.proofs.Common.{◌≡◌, ℕ, suc, ◌<◌, List, length, Ok, Err, sym, refl, ap, ◌∙◌, subst, inl, inr, arith}
use Rattle.std.proofs.lemmas.Bool.{cases_order}
use Rattle.board.specs.declared.refusals.Refusal.{Refusal}
use Rattle.board.specs.Calls.{Bookings, Answer, Builds, Enters}
use Rattle.records.specs.declared.records.Fields.{Fields}
use Rattle.records.specs.Records.{Spot, start, note, test, number_here, record_here}
use Rattle.campaign.specs.declared.faults.Fault.{Fault}
use Rattle.campaign.specs.declared.faults.Cause.TheVariants as cause
use Rattle.campaign.specs.Loads.{unread_in, fault_in, asked_by, Heads, heads, BadHeader, no_capacity, bad_capacity, no_count, too_many, Booked, noted, tested, BadRecord, unread, refused, Front, none, more, BadFront, at_record, whole, header, body, left_over}
use Rattle.campaign.specs.Outcomes.{OneOutcome}
use Rattle.campaign.proofs.Single.{same_read, same_fault, read_or_fault, note_or_test, same_fields, same_build, same_enter}

obeyed_or_refused : (w : Refusal) → ◌≡◌ {A = Answer} (Ok tt) (Err w) → ⊥
obeyed_or_refused w h = let z : ◌≡◌ {A = ℕ} 0 1 = cc in omega arith

refused_for : (v w : Refusal) → ◌≡◌ {A = Answer} (Err v) (Err w) → v ≡ w
refused_for v w h = cc

-- ---- one record

module _ (p : Spot) (b : Bookings) where
  -- Two readings of a test at p have the same numbers.
  entered : (f g : Fields) (l m : List ℕ) (i j : ℕ) (q r : Spot) (c d : Bookings) (s t : Answer) →
      record_here p ≡ Ok (test f l i, q) → record_here p ≡ Ok (test g m j, r) → Enters b (asked_by f) s c → Enters b (asked_by g) t d →
      (q ≡ r) × (s ≡ t) × (c ≡ d)
  entered f g l m i j q r c d s t h k x y =
      let e = same_read (record_here p) (test f l i) (test g m j) q r h k in
      let o = same_enter b c d (asked_by g) s t (subst (λ (z : Fields). Enters b (asked_by z) s c) (same_fields f g l m i j e.0) x) y in
      (e.1, o.0, o.1)

  -- A reading of a note and one of a test.
  noted_or_tested : (text label : List ℕ) (f : Fields) (i j : ℕ) (q r : Spot) → record_here p ≡ Ok (note text i, q) → record_here p ≡ Ok (test f label j, r) → ⊥
  noted_or_tested text label f i j q r h k =
      note_or_test text label f i j (same_read (record_here p) (note text i) (test f label j) q r h k).0

  same_booked : (q r : Spot) (c d : Bookings) → Booked p b q c → Booked p b r d → (q ≡ r) × (c ≡ d)
  same_booked q r c d (noted t i _ h) (noted u j _ k) = ((same_read (record_here p) (note t i) (note u j) q r h k).1, refl)
  same_booked q r c d (noted t i _ h) (tested f l j _ _ k x) = absurd (noted_or_tested t l f i j q r h k)
  same_booked q r c d (tested f l j _ _ k x) (noted t i _ h) = absurd (noted_or_tested t l f i j r q h k)
  same_booked q r c d (tested f l i _ _ h x) (tested g m j _ _ k y) =
      let e = entered f g l m i j q r c d (Ok tt) (Ok tt) h k x y in
      (e.0, e.2)

  booked_or_bad : (n : ℕ) (q : Spot) (c : Bookings) (w : Fault) → Booked p b q c → BadRecord n p b w → ⊥
  booked_or_bad n q c w (noted t i _ h) (unread e k) = read_or_fault (record_here p) (note t i, q) e h k
  booked_or_bad n q c w (noted t i _ h) (refused f l j r v k x) = noted_or_tested t l f i j q r h k
  booked_or_bad n q c w (tested f l i _ _ h x) (unread e k) = read_or_fault (record_here p) (test f l i, q) e h k
  booked_or_bad n q c w (tested f l i _ _ h x) (refused g m j r v k y) =
      obeyed_or_refused v (entered f g l m i j q r c b (Ok tt) (Err v) h k x y).1

  same_bad_record : (n : ℕ) (v w : Fault) → BadRecord n p b v → BadRecord n p b w → v ≡ w
  same_bad_record n v w (unread d h) (unread e k) = ap (unread_in n) (same_fault (record_here p) d e h k)
  same_bad_record n v w (unread d h) (refused f l i q x k y) = absurd (read_or_fault (record_here p) (test f l i, q) d k h)
  same_bad_record n v w (refused f l i q x k y) (unread d h) = absurd (read_or_fault (record_here p) (test f l i, q) d k h)
  same_bad_record n v w (refused f l i q x h y) (refused g m j r z k u) =
      ap (λ (a : Refusal). fault_in n (cause.Board a) p) (refused_for x z (entered f g l m i j q r b b (Err x) (Err z) h k y u).1)

-- ---- records in a row

booked_from : (p q r : Spot) (b c d : Bookings) → p ≡ q → b ≡ c → Booked p b r d → Booked q c r d
booked_from p q r b c d e f x = subst (λ (z : Bookings). Booked q z r d) f (subst (λ (z : Spot). Booked z b r d) e x)

bad_from : (n : ℕ) (p q : Spot) (b c : Bookings) (w : Fault) → p ≡ q → b ≡ c → BadRecord n p b w → BadRecord n q c w
bad_from n p q b c w e f x = subst (λ (z : Bookings). BadRecord n q z w) f (subst (λ (z : Spot). BadRecord n z b w) e x)

module _ (p : Spot) (b : Bookings) where
  same_front : (k : ℕ) (q r : Spot) (c d : Bookings) → Front p b k q c → Front p b k r d → (q ≡ r) × (c ≡ d)
  same_front k q r c d none none = (refl, refl)
  same_front k q r c d (more i s _ u _ f x) (more _ t _ v _ g y) =
      let e = same_front i s t u v f g in
      same_booked t v q r c d (booked_from s t q u v c e.0 e.1 x) y

  -- The first k records of more, and the one after them.
  record Part (k : ℕ) : Type 0 where
    spot : Spot
    held : Bookings
    next : Spot
    then_held : Bookings
    front : Front p b k spot held
    booked : Booked spot held next then_held

  part : (k n : ℕ) (q : Spot) (c : Bookings) → Front p b n q c → k < n → Part k
  part k n q c none h = absurd (omega arith)
  part k n q c (more i s _ u _ f x) h =
      elim (cases_order k i) [
        | inl e ↦ record { spot = s; held = u; next = q; then_held = c; front = subst (λ (j : ℕ). Front p b j s u) (sym e) f; booked = x }
        | inr (inl l) ↦ part k i s u f l
        | inr (inr l) ↦ absurd (omega arith)
      ]

  -- A record that is wrong is not among those that stand in a row.
  not_among : (k n m : ℕ) (q r : Spot) (c d : Bookings) (w : Fault) → Front p b k q c → BadRecord m q c w → Front p b n r d → k < n → ⊥
  not_among k n m q r c d w f x g h =
      let y = part k n r d g h in
      let e = same_front k y.spot q y.held c y.front f in
      booked_or_bad q c m y.next y.then_held w
      (booked_from y.spot q y.next y.held c y.then_held e.0 e.1 y.booked) x

  front_or_bad : (n : ℕ) (q : Spot) (c : Bookings) (w : Fault) → Front p b n q c → BadFront p b n w → ⊥
  front_or_bad n q c w f (at_record k r d _ g l x) = not_among k n (suc k) r q d c w g x f l

  same_bad_front : (n : ℕ) (v w : Fault) → BadFront p b n v → BadFront p b n w → v ≡ w
  same_bad_front n v w (at_record i q c _ f h x) (at_record j r d _ g k y) =
      elim (cases_order i j) [
        | inl e ↦
            let s = same_front j q r c d (subst (λ (z : ℕ). Front p b z q c) e f) g in
            same_bad_record r d (suc j) v w (bad_from (suc j) q r c d v s.0 s.1 (subst (λ (z : ℕ). BadRecord (suc z) q c v) e x)) y
        | inr (inl l) ↦ absurd (not_among i j (suc i) q r c d v f x g l)
        | inr (inr l) ↦ absurd (not_among j i (suc j) r q d c w g y f l)
      ]

-- ---- the header

module _ (p : Spot) (before : Bookings) where
  -- Two readings of a capacity at p, and what is built of them.
  built : (n m : ℕ) (q r : Spot) (c d : Bookings) (s t : Answer) → number_here p ≡ Ok (n, q) → number_here p ≡ Ok (m, r) →
      Builds before n s c → Builds before m t d → (q ≡ r) × (s ≡ t) × (c ≡ d)
  built n m q r c d s t h k x y =
      let e = same_read (number_here p) n m q r h k in
      let o = same_build before c d m s t (subst (λ (z : ℕ). Builds before z s c) e.0 x) y in
      (e.1, o.0, o.1)

  built_or_refused : (n m : ℕ) (q r : Spot) (c d : Bookings) (w : Refusal) → number_here p ≡ Ok (n, q) → number_here p ≡ Ok (m, r) →
      Builds before n (Ok tt) c → Builds before m (Err w) d → ⊥
  built_or_refused n m q r c d w h k x y = obeyed_or_refused w (built n m q r c d (Ok tt) (Err w) h k x y).1

  same_heads : (n m : ℕ) (q r : Spot) (c d : Bookings) → Heads p before n q c → Heads p before m r d → (n ≡ m) × (q ≡ r) × (c ≡ d)
  same_heads n m q r c d (heads i _ s _ _ h x k l) (heads j _ t _ _ h' x' k' l') =
      let e = built i j s t c d (Ok tt) (Ok tt) h h' x x' in
      let o = same_read (number_here t) n m q r (subst (λ (z : Spot). number_here z ≡ Ok (n, q)) e.0 k) k' in
      (o.0, o.1, e.2)

  heads_or_bad : (n : ℕ) (q : Spot) (c : Bookings) (w : Fault) → Heads p before n q c → BadHeader p before w → ⊥
  heads_or_bad n q c w (heads i _ s _ _ h x k l) (no_capacity e h') = read_or_fault (number_here p) (i, s) e h h'
  heads_or_bad n q c w (heads i _ s _ _ h x k l) (bad_capacity j t v h' x') = built_or_refused i j s t c before v h h' x x'
  heads_or_bad n q c w (heads i _ s _ _ h x k l) (no_count j t d e h' x' k') =
      let o = built i j s t c d (Ok tt) (Ok tt) h h' x x' in
      read_or_fault (number_here t) (n, q) e (subst (λ (z : Spot). number_here z ≡ Ok (n, q)) o.0 k) k'
  heads_or_bad n q c w (heads i _ s _ _ h x k l) (too_many j m t r d h' x' k' l') =
      let o = built i j s t c d (Ok tt) (Ok tt) h h' x x' in
      let e = (same_read (number_here t) n m q r (subst (λ (z : Spot). number_here z ≡ Ok (n, q)) o.0 k) k').0 in
      omega arith

  same_bad_header : (v w : Fault) → BadHeader p before v → BadHeader p before w → v ≡ w
  same_bad_header v w (no_capacity d h) (no_capacity e k) = ap (unread_in 0) (same_fault (number_here p) d e h k)
  same_bad_header v w (no_capacity d h) (bad_capacity j t u k x) = absurd (read_or_fault (number_here p) (j, t) d k h)
  same_bad_header v w (no_capacity d h) (no_count j t c e k x y) = absurd (read_or_fault (number_here p) (j, t) d k h)
  same_bad_header v w (no_capacity d h) (too_many j m t r c k x y l) = absurd (read_or_fault (number_here p) (j, t) d k h)
  same_bad_header v w (bad_capacity j t u k x) (no_capacity d h) = absurd (read_or_fault (number_here p) (j, t) d k h)
  same_bad_header v w (bad_capacity i s a h x) (bad_capacity j t u k y) =
      ap (λ (z : Refusal). fault_in 0 (cause.Board z) p) (refused_for a u (built i j s t before before (Err a) (Err u) h k x y).1)
  same_bad_header v w (bad_capacity i s a h x) (no_count j t c e k y z) = absurd (built_or_refused j i t s c before a k h y x)
  same_bad_header v w (bad_capacity i s a h x) (too_many j m t r c k y z l) = absurd (built_or_refused j i t s c before a k h y x)
  same_bad_header v w (no_count j t c e k x y) (no_capacity d h) = absurd (read_or_fault (number_here p) (j, t) d k h)
  same_bad_header v w (no_count j t c e k y z) (bad_capacity i s a h x) = absurd (built_or_refused j i t s c before a k h y x)
  same_bad_header v w (no_count i s c d h x k) (no_count j t c' e h' x' k') =
      let o = built i j s t c c' (Ok tt) (Ok tt) h h' x x' in
      ap (unread_in 0) (same_fault (number_here t) d e (subst (λ (z : Spot). number_here z ≡ Err d) o.0 k) k')
  same_bad_header v w (no_count i s c d h x k) (too_many j m t r c' h' x' k' l') =
      let o = built i j s t c c' (Ok tt) (Ok tt) h h' x x' in
      absurd (read_or_fault (number_here t) (m, r) d k' (subst (λ (z : Spot). number_here z ≡ Err d) o.0 k))
  same_bad_header v w (too_many j m t r c k x y l) (no_capacity d h) = absurd (read_or_fault (number_here p) (j, t) d k h)
  same_bad_header v w (too_many j m t r c k y z l) (bad_capacity i s a h x) = absurd (built_or_refused j i t s c before a k h y x)
  same_bad_header v w (too_many j m t r c' h' x' k' l') (no_count i s c d h x k) =
      let o = built i j s t c c' (Ok tt) (Ok tt) h h' x x' in
      absurd (read_or_fault (number_here t) (m, r) d k' (subst (λ (z : Spot). number_here z ≡ Err d) o.0 k))
  same_bad_header v w (too_many i n s q c h x k l) (too_many j m t r c' h' x' k' l') =
      ap (fault_in 0 cause.TooManyRecords) (built i j s t c c' (Ok tt) (Ok tt) h h' x x').0

-- ---- the file

front_from : (n m : ℕ) (p q r : Spot) (b c d : Bookings) → n ≡ m → p ≡ q → b ≡ c → Front p b n r d → Front q c m r d
front_from n m p q r b c d i e f x =
    subst (λ (z : ℕ). Front q c z r d) i (subst (λ (z : Bookings). Front q z n r d) f (subst (λ (z : Spot). Front z b n r d) e x))

bad_front_from : (n m : ℕ) (p q : Spot) (b c : Bookings) (w : Fault) → n ≡ m → p ≡ q → b ≡ c → BadFront p b n w → BadFront q c m w
bad_front_from n m p q b c w i e f x =
    subst (λ (z : ℕ). BadFront q c z w) i (subst (λ (z : Bookings). BadFront q z n w) f (subst (λ (z : Spot). BadFront z b n w) e x))

module _ (file : List ℕ) (before : Bookings) where
  -- Two headers, and the records after each.
  same_rows : (n m : ℕ) (p q r s : Spot) (b c d e : Bookings) → Heads (start file) before n p b → Heads (start file) before m q c →
      Front p b n r d → Front q c m s e → (n ≡ m) × (r ≡ s) × (d ≡ e)
  same_rows n m p q r s b c d e h k f g =
      let o = same_heads (start file) before n m p q b c h k in
      let x = same_front q c m r s d e (front_from n m p q r b c d o.0 o.1 o.2 f) g in
      (o.0, x.0, x.1)

  rows_or_bad : (n m : ℕ) (p q r : Spot) (b c d : Bookings) (w : Fault) → Heads (start file) before n p b → Heads (start file) before m q c →
      Front p b n r d → BadFront q c m w → ⊥
  rows_or_bad n m p q r b c d w h k f g =
      let o = same_heads (start file) before n m p q b c h k in
      front_or_bad q c m r d w (front_from n m p q r b c d o.0 o.1 o.2 f) g

pub one_outcome : OneOutcome
one_outcome file z a b r s (whole n p q c _ h f e) (whole m t u d _ k g o) = (refl, (same_rows file z n m p t q u c d a b h k f g).2)
one_outcome file z a b r s (whole n p q c _ h f e) (header w x) = absurd (heads_or_bad (start file) z n p c w h x)
one_outcome file z a b r s (whole n p q c _ h f e) (body m t d w k x) = absurd (rows_or_bad file z n m p t q c d a w h k f x)
one_outcome file z a b r s (whole n p q c _ h f e) (left_over m t u d v k g o) =
    let x = ap (λ (y : Spot). length y.rest) (same_rows file z n m p t q u c d a v h k f g).1 in
    absurd (omega arith)
one_outcome file z a b r s (header w x) (whole n p q c _ h f e) = absurd (heads_or_bad (start file) z n p c w h x)
one_outcome file z a b r s (header v x) (header w y) = (ap Err (same_bad_header (start file) z v w x y), refl)
one_outcome file z a b r s (header w x) (body m t d v k y) = absurd (heads_or_bad (start file) z m t d w k x)
one_outcome file z a b r s (header w x) (left_over m t u d v k g o) = absurd (heads_or_bad (start file) z m t d w k x)
one_outcome file z a b r s (body m t d w k x) (whole n p q c _ h f e) = absurd (rows_or_bad file z n m p t q c d b w h k f x)
one_outcome file z a b r s (body m t d v k y) (header w x) = absurd (heads_or_bad (start file) z m t d w k x)
one_outcome file z a b r s (body n p c v h x) (body m q d w k y) =
    let o = same_heads (start file) z n m p q c d h k in
    (ap Err (same_bad_front q d m v w (bad_front_from n m p q c d v o.0 o.1 o.2 x) y), refl)
one_outcome file z a b r s (body m t d w k x) (left_over n p q c v h f e) = absurd (rows_or_bad file z n m p t q c d v w h k f x)
one_outcome file z a b r s (left_over m t u d v k g o) (whole n p q c _ h f e) =
    let x = ap (λ (y : Spot). length y.rest) (same_rows file z n m p t q u c d b v h k f g).1 in
    absurd (omega arith)
one_outcome file z a b r s (left_over m t u d v k g o) (header w x) = absurd (heads_or_bad (start file) z m t d w k x)
one_outcome file z a b r s (left_over n p q c v h f e) (body m t d w k x) = absurd (rows_or_bad file z n m p t q c d v w h k f x)
one_outcome file z a b r s (left_over n p q c v h f e) (left_over m t u d w k g o) =
    let x = same_rows file z n m p t q u c d v w h k f g in
    (ap (λ (y : ℕ). Err (fault_in y cause.LeftOver q)) x.0 ∙ ap (λ (y : Spot). Err (fault_in m cause.LeftOver y)) x.1, refl)
