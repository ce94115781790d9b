-- What stands in a campaign file at a spot: numbers, texts and records, each with the spot after it, or a fault with its byte.
use Rattle.std.specs.Prelude.{ℕ, ◌+◌, cond, List, length, take, drop, Ok, Err, Result, ◌==◌, nat_lt}
use Rattle.records.specs.declared.faults.NumberFault.{NumberFault}
use Rattle.records.specs.declared.faults.RecordFault.{RecordFault}
use Rattle.records.specs.declared.faults.RecordFault.TheVariants.{Number, Kind, LongText, TextPastEnd}
use Rattle.records.specs.declared.faults.Misread.{Misread}
use Rattle.records.specs.declared.records.Fields.{Fields}
use Rattle.records.specs.Numbers.{number_at}

-- The most groups that a number of a file may have.
abbrev pub groups_max : ℕ
groups_max = 3

-- The most bytes that a text may have.
abbrev pub text_max : ℕ
text_max = 200

-- A spot in a file: how many bytes stand before it, and the bytes from there on.
pub record Spot : Type 0 where
  pub place : ℕ
  pub rest : List ℕ

-- The spot before the first byte.
abbrev pub start : List ℕ → Spot
start file = record { place = 0; rest = file }

-- The spot n bytes on.
abbrev pub past : ℕ → Spot → Spot
past n p = record { place = p.place + n; rest = drop n p.rest }

-- What comes of reading: what was read and the spot after it, or a fault.
abbrev pub Reading : Type 0 → Type 0
Reading A = Result (A × Spot) Misread

-- A fault at a spot.
abbrev pub fault_at : {A : Type 0} → RecordFault → Spot → Reading A
fault_at f p = Err (record { fault = f; byte = p.place })

infixr 20 ◌then◌
-- Reading something and, if it is there, going on from the spot after it.
abbrev pub ◌then◌ : {A B : Type 0} → Reading A → (A → Spot → Reading B) → Reading B
Ok r then go = go r.0 r.1
Err e then go = Err e

-- A number that was looked for at a spot.
abbrev pub numbered : Spot → Result (ℕ × ℕ) NumberFault → Reading ℕ
numbered p (Ok n) = Ok (n.0, past n.1 p)
numbered p (Err e) = fault_at (Number e) p

-- The number at a spot.
unfoldable pub number_here : Spot → Reading ℕ
number_here p = numbered p (number_at groups_max p.rest)

-- The n bytes of a text whose length began at p and ended at q.
abbrev pub text_of : Spot → ℕ → Spot → Reading (List ℕ)
text_of p n q =
    cond (nat_lt text_max n) (fault_at LongText p)
    (cond (nat_lt (length q.rest) n) (fault_at TextPastEnd p)
    (Ok (take n q.rest, past n q)))

-- The text at a spot: its length, then its bytes.
unfoldable pub text_here : Spot → Reading (List ℕ)
text_here p = number_here p then text_of p

-- The six numbers of a test at a spot.
unfoldable pub fields_here : Spot → Reading Fields
fields_here p =
    number_here p then λ profile p1.
    number_here p1 then λ bearer p2.
    number_here p2 then λ release p3.
    number_here p3 then λ deadline p4.
    number_here p4 then λ duration p5.
    number_here p5 then λ demand p6.
    Ok (record { profile = profile; bearer = bearer; release = release; deadline = deadline; duration = duration; demand = demand }, p6)

-- What a record says: its text, for a test the six numbers too, and the byte where it begins.
pub data Said : Type 0 where
  note : List ℕ → ℕ → Said
  test : Fields → List ℕ → ℕ → Said

-- What follows a record's kind, where the record begins at p and the kind ends at q.
abbrev pub record_of : Spot → ℕ → Spot → Reading Said
record_of p kind q =
    cond (kind == 0) (text_here q then λ text r. Ok (note text p.place, r))
    (cond (kind == 1) (fields_here q then λ fields r. text_here r then λ label s. Ok (test fields label p.place, s))
    (fault_at Kind p))

-- The record at a spot: kind 0 and a text is a note; kind 1, six numbers and a text is a test.
unfoldable pub record_here : Spot → Reading Said
record_here p = number_here p then record_of p
