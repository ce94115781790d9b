-- What a campaign file asks for: a capacity, and tests.
use Rattle.std.specs.Prelude.{◌≡◌, ℕ, suc, List, [], ◌∷◌, ◌++◌, length, Ok}
use Rattle.board.specs.declared.bookings.Test.{Test}
use Rattle.records.specs.declared.records.Fields.{Fields}
use Rattle.records.specs.Records.{Spot, start, number_here, record_here, note, test}
use Rattle.campaign.specs.Loads.{asked_by}

-- So many records stand in a row from p to a spot, and the tests among them, in their order, are these. Notes are passed over.
pub data TestsFrom (p : Spot) : ℕ → Spot → List Test → Type 0 where
  none : TestsFrom p 0 p []
  noted : (k : ℕ) (q r : Spot) (tests : List Test) (text : List ℕ) (at : ℕ) → TestsFrom p k q tests → record_here q ≡ Ok (note text at, r) →
      TestsFrom p (suc k) r tests
  tested : (k : ℕ) (q r : Spot) (tests : List Test) (fields : Fields) (label : List ℕ) (at : ℕ) → TestsFrom p k q tests →
      record_here q ≡ Ok (test fields label at, r) → TestsFrom p (suc k) r (tests ++ (asked_by fields ∷ []))

-- A file is a capacity, the number of its records, and the records, with nothing after them.
pub record AsksFor (file : List ℕ) (capacity : ℕ) (tests : List Test) : Type 0 where
  pub count : ℕ
  pub at_count : Spot
  pub at_records : Spot
  pub at_end : Spot
  pub first : number_here (start file) ≡ Ok (capacity, at_count)
  pub second : number_here at_count ≡ Ok (count, at_records)
  pub records : TestsFrom at_records count at_end tests
  pub whole : length at_end.rest ≡ 0
