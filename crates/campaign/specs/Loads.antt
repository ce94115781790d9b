-- What comes of loading a campaign file into a board.
use Rattle.std.specs.Prelude.{◌≡◌, ℕ, suc, ◌<◌, ◌≤◌, List, length, Ok, Err, Result}
use Rattle.board.specs.declared.bookings.Test.{Test}
use Rattle.board.specs.declared.refusals.Refusal.{Refusal}
use Rattle.board.specs.Calls.{Bookings, Builds, Enters}
use Rattle.records.specs.declared.faults.Misread.{Misread}
use Rattle.records.specs.declared.records.Fields.{Fields}
use Rattle.records.specs.Records.{Spot, start, number_here, record_here, note, test}
use Rattle.campaign.specs.declared.faults.Cause.{Cause}
use Rattle.campaign.specs.declared.faults.Cause.TheVariants as cause
use Rattle.campaign.specs.declared.faults.Fault.{Fault}

-- The most records that a file may have.
abbrev pub records_max : ℕ
records_max = 128

-- A fault of a record, 0 being the header, that was met in reading.
abbrev pub unread_in : ℕ → Misread → Fault
unread_in n m = record { cause = cause.Record m.fault; «record» = n; byte = m.byte }

-- A fault of a record at a byte.
abbrev pub fault_at : ℕ → Cause → ℕ → Fault
fault_at n why byte = record { cause = why; «record» = n; byte = byte }

-- A fault of a record at a spot.
abbrev pub fault_in : ℕ → Cause → Spot → Fault
fault_in n why p = record { cause = why; «record» = n; byte = p.place }

-- ---- the header

-- The header at p: a capacity, of which the board before is built as b, and the number of records that follow from q on.
pub data Heads (p : Spot) (before : Bookings) : ℕ → Spot → Bookings → Type 0 where
  heads : (capacity count : ℕ) (m q : Spot) (b : Bookings) → number_here p ≡ Ok (capacity, m) → Builds before capacity (Ok tt) b →
      number_here m ≡ Ok (count, q) → count ≤ records_max → Heads p before count q b

-- What is wrong with the header at p. The capacity is judged before the number of records is read.
pub data BadHeader (p : Spot) (before : Bookings) : Fault → Type 0 where
  no_capacity : (e : Misread) → number_here p ≡ Err e → BadHeader p before (unread_in 0 e)
  bad_capacity : (capacity : ℕ) (m : Spot) (w : Refusal) → number_here p ≡ Ok (capacity, m) → Builds before capacity (Err w) before →
      BadHeader p before (fault_in 0 (cause.Board w) p)
  no_count : (capacity : ℕ) (m : Spot) (b : Bookings) (e : Misread) → number_here p ≡ Ok (capacity, m) → Builds before capacity (Ok tt) b →
      number_here m ≡ Err e → BadHeader p before (unread_in 0 e)
  too_many : (capacity count : ℕ) (m q : Spot) (b : Bookings) → number_here p ≡ Ok (capacity, m) → Builds before capacity (Ok tt) b →
      number_here m ≡ Ok (count, q) → records_max < count → BadHeader p before (fault_in 0 cause.TooManyRecords m)

-- ---- records

-- The test that a record's numbers ask for.
abbrev pub asked_by : Fields → Test
asked_by f =
    record {
      pair = record { profile = f.profile; bearer = f.bearer };
      release = f.release;
      deadline = f.deadline;
      duration = f.duration;
      demand = f.demand;
    }

-- The record from p to q: a note leaves the board as it is, and a test is entered.
pub data Booked (p : Spot) (b : Bookings) : Spot → Bookings → Type 0 where
  noted : (text : List ℕ) (at : ℕ) (q : Spot) → record_here p ≡ Ok (note text at, q) → Booked p b q b
  tested : (fields : Fields) (label : List ℕ) (at : ℕ) (q : Spot) (c : Bookings) → record_here p ≡ Ok (test fields label at, q) →
      Enters b (asked_by fields) (Ok tt) c → Booked p b q c

-- What is wrong with the record at p, which is the n-th. A test is entered once all of it has been read.
pub data BadRecord (n : ℕ) (p : Spot) (b : Bookings) : Fault → Type 0 where
  unread : (e : Misread) → record_here p ≡ Err e → BadRecord n p b (unread_in n e)
  refused : (fields : Fields) (label : List ℕ) (at : ℕ) (q : Spot) (w : Refusal) → record_here p ≡ Ok (test fields label at, q) →
      Enters b (asked_by fields) (Err w) b → BadRecord n p b (fault_in n (cause.Board w) p)

-- So many records stand in a row from p to q, and turn a board that holds b into one that holds c.
pub data Front (p : Spot) (b : Bookings) : ℕ → Spot → Bookings → Type 0 where
  none : Front p b 0 p b
  more : (k : ℕ) (q r : Spot) (c d : Bookings) → Front p b k q c → Booked q c r d → Front p b (suc k) r d

-- Of the records from p on, as many as there should be, one is wrong and those before it are not.
pub data BadFront (p : Spot) (b : Bookings) (count : ℕ) : Fault → Type 0 where
  at_record : (k : ℕ) (q : Spot) (c : Bookings) (f : Fault) → Front p b k q c → k < count → BadRecord (suc k) q c f → BadFront p b count f

-- ---- the file

-- A file is loaded into a board that holds `before`; this is the answer, and what the board then holds. A file that has a fault leaves the board as it was.
pub data Loads (file : List ℕ) (before : Bookings) : Result (Unit {0}) Fault → Bookings → Type 0 where
  whole : (count : ℕ) (p q : Spot) (b after : Bookings) → Heads (start file) before count p b → Front p b count q after → length q.rest ≡ 0 →
      Loads file before (Ok tt) after
  header : (f : Fault) → BadHeader (start file) before f → Loads file before (Err f) before
  body : (count : ℕ) (p : Spot) (b : Bookings) (f : Fault) → Heads (start file) before count p b → BadFront p b count f → Loads file before (Err f) before
  left_over : (count : ℕ) (p q : Spot) (b c : Bookings) → Heads (start file) before count p b → Front p b count q c → 0 < length q.rest →
      Loads file before (Err (fault_in count cause.LeftOver q)) before

-- What a board holds once a fault has been made good.
abbrev pub held_after : Result (Unit {0}) Fault → Bookings → Bookings → Bookings
held_after (Ok u) before after = after
held_after (Err f) before after = before
