-- What stands at a spot, from what its parts are.
use Rattle.std.proofs.Common.{◌≡◌, ℕ, ◌<◌, ◌≤◌, eqb, ltb, List, length, take, Ok, Err, ◌∙◌, arith}
use Rattle.std.proofs.lemmas.Bool.{lt-ltb, le-ltb, eq-eqb, ne_eqb, cond-true, cond-false}
use Rattle.records.specs.declared.faults.Misread.{Misread}
use Rattle.records.specs.declared.faults.RecordFault.TheVariants.{Kind, LongText, TextPastEnd}
use Rattle.records.specs.declared.records.Fields.{Fields}
use Rattle.records.specs.Records.{Spot, note, test, past, fault_at, ◌then◌, number_here, text_here, fields_here, record_here}

-- ---- texts

pub text_unread : (p : Spot) (e : Misread) → number_here p ≡ Err e → text_here p ≡ Err e
unfolding text_here
text_unread p e h = rw h

pub text_long : (p q : Spot) (n : ℕ) → number_here p ≡ Ok (n, q) → 200 < n → text_here p ≡ fault_at LongText p
unfolding text_here
text_long p q n h l = rw h (cond-true (ltb 200 n) _ _ (lt-ltb 200 n l))

pub text_past : (p q : Spot) (n : ℕ) → number_here p ≡ Ok (n, q) → n ≤ 200 → length q.rest < n → text_here p ≡ fault_at TextPastEnd p
unfolding text_here
text_past p q n h l s = rw h (cond-false (ltb 200 n) _ _ (le-ltb 200 n l) ∙ cond-true (ltb (length q.rest) n) _ _ (lt-ltb (length q.rest) n s))

pub text_whole : (p q : Spot) (n : ℕ) → number_here p ≡ Ok (n, q) → n ≤ 200 → n ≤ length q.rest → text_here p ≡ Ok (take n q.rest, past n q)
unfolding text_here
text_whole p q n h l s = rw h (cond-false (ltb 200 n) _ _ (le-ltb 200 n l) ∙ cond-false (ltb (length q.rest) n) _ _ (le-ltb (length q.rest) n s))

-- ---- the six numbers of a test

pub fields_1 : (p : Spot) (e : Misread) →
    number_here p ≡ Err e →
    fields_here p ≡ Err e
unfolding fields_here
fields_1 p e h = rw h

pub fields_2 : (p p1 : Spot) (a : ℕ) (e : Misread) →
    number_here p ≡ Ok (a, p1) → number_here p1 ≡ Err e →
    fields_here p ≡ Err e
unfolding fields_here
fields_2 p p1 a e h i = rw (h, i)

pub fields_3 : (p p1 p2 : Spot) (a b : ℕ) (e : Misread) →
    number_here p ≡ Ok (a, p1) → number_here p1 ≡ Ok (b, p2) → number_here p2 ≡ Err e →
    fields_here p ≡ Err e
unfolding fields_here
fields_3 p p1 p2 a b e h i j = rw (h, i, j)

pub fields_4 : (p p1 p2 p3 : Spot) (a b c : ℕ) (e : Misread) →
    number_here p ≡ Ok (a, p1) → number_here p1 ≡ Ok (b, p2) → number_here p2 ≡ Ok (c, p3) →
    number_here p3 ≡ Err e →
    fields_here p ≡ Err e
unfolding fields_here
fields_4 p p1 p2 p3 a b c e h i j k = rw (h, i, j, k)

pub fields_5 : (p p1 p2 p3 p4 : Spot) (a b c d : ℕ) (e : Misread) →
    number_here p ≡ Ok (a, p1) → number_here p1 ≡ Ok (b, p2) → number_here p2 ≡ Ok (c, p3) →
    number_here p3 ≡ Ok (d, p4) → number_here p4 ≡ Err e →
    fields_here p ≡ Err e
unfolding fields_here
fields_5 p p1 p2 p3 p4 a b c d e h i j k l = rw (h, i, j, k, l)

pub fields_6 : (p p1 p2 p3 p4 p5 : Spot) (a b c d f : ℕ) (e : Misread) →
    number_here p ≡ Ok (a, p1) → number_here p1 ≡ Ok (b, p2) → number_here p2 ≡ Ok (c, p3) →
    number_here p3 ≡ Ok (d, p4) → number_here p4 ≡ Ok (f, p5) → number_here p5 ≡ Err e →
    fields_here p ≡ Err e
unfolding fields_here
fields_6 p p1 p2 p3 p4 p5 a b c d f e h i j k l m = rw (h, i, j, k, l, m)

pub fields_whole : (p p1 p2 p3 p4 p5 p6 : Spot) (a b c d f g : ℕ) →
    number_here p ≡ Ok (a, p1) → number_here p1 ≡ Ok (b, p2) → number_here p2 ≡ Ok (c, p3) →
    number_here p3 ≡ Ok (d, p4) → number_here p4 ≡ Ok (f, p5) → number_here p5 ≡ Ok (g, p6) →
    fields_here p ≡ Ok (record { profile = a; bearer = b; release = c; deadline = d; duration = f; demand = g }, p6)
unfolding fields_here
fields_whole p p1 p2 p3 p4 p5 p6 a b c d f g h i j k l m = rw (h, i, j, k, l, m)

-- ---- records

pub record_unread : (p : Spot) (e : Misread) → number_here p ≡ Err e → record_here p ≡ Err e
unfolding record_here
record_unread p e h = rw h

note_of : (p q : Spot) (k : ℕ) → number_here p ≡ Ok (k, q) → k ≡ 0 → record_here p ≡ (text_here q then λ text r. Ok (note text p.place, r))
unfolding record_here
note_of p q k h z = rw h (cond-true (eqb k 0) _ _ (eq-eqb k 0 z))

test_of : (p q : Spot) (k : ℕ) → number_here p ≡ Ok (k, q) → k ≡ 1 →
    record_here p ≡ (fields_here q then λ fields r. text_here r then λ label s. Ok (test fields label p.place, s))
unfolding record_here
test_of p q k h z = rw h (cond-false (eqb k 0) _ _ (ne_eqb k 0 (λ o. omega arith)) ∙ cond-true (eqb k 1) _ _ (eq-eqb k 1 z))

pub record_kind : (p q : Spot) (k : ℕ) → number_here p ≡ Ok (k, q) → (k ≡ 0 → ⊥) → (k ≡ 1 → ⊥) → record_here p ≡ fault_at Kind p
unfolding record_here
record_kind p q k h z o = rw h (cond-false (eqb k 0) _ _ (ne_eqb k 0 z) ∙ cond-false (eqb k 1) _ _ (ne_eqb k 1 o))

pub note_unread : (p q : Spot) (k : ℕ) (e : Misread) → number_here p ≡ Ok (k, q) → k ≡ 0 → text_here q ≡ Err e → record_here p ≡ Err e
note_unread p q k e h z t = note_of p q k h z ∙ rw t

pub note_whole : (p q r : Spot) (k : ℕ) (text : List ℕ) → number_here p ≡ Ok (k, q) → k ≡ 0 → text_here q ≡ Ok (text, r) → record_here p ≡ Ok (note text p.place, r)
note_whole p q r k text h z t = note_of p q k h z ∙ rw t

pub test_unread : (p q : Spot) (k : ℕ) (e : Misread) → number_here p ≡ Ok (k, q) → k ≡ 1 → fields_here q ≡ Err e → record_here p ≡ Err e
test_unread p q k e h z t = test_of p q k h z ∙ rw t

pub label_unread : (p q r : Spot) (k : ℕ) (fields : Fields) (e : Misread) → number_here p ≡ Ok (k, q) → k ≡ 1 → fields_here q ≡ Ok (fields, r) →
    text_here r ≡ Err e → record_here p ≡ Err e
label_unread p q r k fields e h z t l = test_of p q k h z ∙ rw (t, l)

pub test_whole : (p q r s : Spot) (k : ℕ) (fields : Fields) (label : List ℕ) → number_here p ≡ Ok (k, q) → k ≡ 1 → fields_here q ≡ Ok (fields, r) →
    text_here r ≡ Ok (label, s) → record_here p ≡ Ok (test fields label p.place, s)
test_whole p q r s k fields label h z t l = test_of p q k h z ∙ rw (t, l)
