-- What a call of a reader does.
use Rattle.std.specs.Prelude.{◌≡◌, Ok, Err, Result}
use Rattle.records.specs.declared.faults.Misread.{Misread}
use Rattle.records.specs.declared.reader.Reader.{Reader}
use Rattle.records.specs.declared.records.Record.{Record}
use Rattle.records.specs.declared.records.Record.TheVariants.{Note, Test}
use Rattle.records.specs.Records.{Spot, Reading, Said, note, test}

-- The spot where a reader stands.
abbrev pub spot : Reader → Spot
spot r = record { place = r.place; rest = r.rest.now }

-- What a record says, whose text is a part of the input.
abbrev pub said_by : Record → Said
said_by (Note text at) = note text.now at
said_by (Test fields label at) = test fields label.now at

-- What is no part of the input says itself.
abbrev pub itself : {A : Type 0} → A → A
itself a = a

-- A reader that stood at p answered r and, if it met no fault, stands at q: it answered with what stands at p and went past it, or with the fault there.
abbrev pub Takes : {A B : Type 0} → (A → B) → (Spot → Reading B) → Spot → Result A Misread → Spot → Type 0
Takes says here p (Ok a) q = here p ≡ Ok (says a, q)
Takes says here p (Err e) q = here p ≡ Err e

-- A reader that stood at p answered r and stands at q: it answered with what stands at p and went past it, or with the fault there and stayed.
abbrev pub Reads : {A B : Type 0} → (A → B) → (Spot → Reading B) → Spot → Result A Misread → Spot → Type 0
Reads says here p (Ok a) q = here p ≡ Ok (says a, q)
Reads says here p (Err e) q = (here p ≡ Err e) × (q ≡ p)
