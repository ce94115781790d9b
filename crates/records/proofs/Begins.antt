-- A record that was read says the byte where it begins.
use Rattle.std.proofs.Common.{◌≡◌, ℕ, Bool, true, false, cond, eqb, List, Ok, Err, sym, refl, ap, ◌∙◌}
use Rattle.records.specs.declared.faults.RecordFault.TheVariants.{Kind}
use Rattle.records.specs.declared.records.Fields.{Fields}
use Rattle.records.specs.Records.{Spot, Reading, Said, note, test, fault_at, ◌then◌, number_here, text_here, fields_here, record_of, record_here}

-- The byte that a record says, or d where there is none.
abbrev begun : ℕ → Reading Said → ℕ
begun d (Ok (note text at, q)) = at
begun d (Ok (test fields label at, q)) = at
begun d (Err e) = d

at_note : (d : ℕ) (r : Reading (List ℕ)) → begun d (r then λ text q. Ok (note text d, q)) ≡ d
at_note d (Ok (text, q)) = refl
at_note d (Err e) = refl

at_label : (d : ℕ) (fields : Fields) (r : Reading (List ℕ)) → begun d (r then λ label q. Ok (test fields label d, q)) ≡ d
at_label d fields (Ok (label, q)) = refl
at_label d fields (Err e) = refl

at_test : (d : ℕ) (r : Reading Fields) → begun d (r then λ fields q. text_here q then λ label s. Ok (test fields label d, s)) ≡ d
at_test d (Ok (fields, q)) = at_label d fields (text_here q)
at_test d (Err e) = refl

at_kind : (p q : Spot) (a b : Bool) →
    begun p.place
    (cond a (text_here q then λ text r. Ok (note text p.place, r))
    (cond b (fields_here q then λ fields r. text_here r then λ label s. Ok (test fields label p.place, s)) (fault_at Kind p)))
    ≡ p.place
at_kind p q true b = at_note p.place (text_here q)
at_kind p q false true = at_test p.place (fields_here q)
at_kind p q false false = refl

at_number : (p : Spot) (r : Reading ℕ) → begun p.place (r then record_of p) ≡ p.place
at_number p (Ok (kind, q)) = at_kind p q (eqb kind 0) (eqb kind 1)
at_number p (Err e) = refl

pub test_begins : (p q : Spot) (fields : Fields) (label : List ℕ) (at : ℕ) → record_here p ≡ Ok (test fields label at, q) → at ≡ p.place
unfolding record_here
test_begins p q fields label at h = sym (ap (begun p.place) h) ∙ at_number p (number_here p)
