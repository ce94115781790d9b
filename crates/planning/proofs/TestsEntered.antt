-- A loaded board is made by entering the tests of the file.
use Rattle.std.proofs.Common.{◌≡◌, ℕ, suc, List, [], ◌∷◌, ◌++◌, map, length, Ok, sym, refl, ap, ◌∙◌, subst}
use Rattle.board.specs.declared.bookings.Test.{Test}
use Rattle.board.specs.Calls.{Bookings, row_of, Builds, makes, Enters, adds}
use Rattle.records.specs.Records.{Spot, start, number_here}
use Rattle.campaign.specs.Loads.{asked_by, Heads, heads, Booked, noted, tested, Front, none, more, whole}
use Rattle.runs.specs.Runs.{Event, Run, ends, next, Step, enters, Call, enter, Reply}
use Rattle.runs.specs.Sweeping.{Application}
use Rattle.planning.specs.Asked.{TestsFrom, AsksFor}
use Rattle.planning.specs.Asked as asked
use Rattle.planning.specs.Promise.{Entered, EveryLoadEntersTheTestsOfItsFile}

map_last : {A B : Type 0} (f : A → B) (xs : List A) (x : A) → map f (xs ++ (x ∷ [])) ≡ map f xs ++ (f x ∷ [])
map_last f [] x = refl
map_last f (y ∷ ys) x = ap (λ zs. f y ∷ zs) (map_last f ys x)

-- a run goes on with one more call
run_last : {b c d : Bookings} {call : Call} {chain : List Application} {reply : Reply} {events : List Event} → Run b events c → Step c call chain reply d →
    Run b (events ++ (record { before = c; call = call; applications = chain; reply = reply; after = d } ∷ [])) d
run_last ends step = next step ends
run_last (next first rest) step = next first (run_last rest step)

-- no test is entered yet
entered_none : (b c : Bookings) (n : ℕ) → Builds b n (Ok tt) c → Entered [] c
entered_none b c n (makes low high) =
    record { some_capacity = low; small_capacity = high; rows = refl; events = []; calls = refl; run = ends }

build_capacity : (b c : Bookings) (n : ℕ) → Builds b n (Ok tt) c → c.capacity ≡ n
build_capacity b c n (makes low high) = refl

enter_capacity : (b c : Bookings) (t : Test) → Enters b t (Ok tt) c → c.capacity ≡ b.capacity
enter_capacity b c t (adds fine) = refl

-- one more test is entered
entered_last : (tests : List Test) (t : Test) (b c : Bookings) → Entered tests b → Enters b t (Ok tt) c → Entered (tests ++ (t ∷ [])) c
entered_last tests t b c e (adds fine) =
    record {
      some_capacity = e.some_capacity;
      small_capacity = e.small_capacity;
      rows = ap (λ rows. rows ++ (row_of t ∷ [])) e.rows ∙ sym (map_last row_of tests t);
      events = _;
      calls =
          map_last (λ (x : Event). x.call) e.events _ ∙ ap (λ calls. calls ++ (enter t ∷ [])) e.calls ∙ sym (map_last (λ (x : Test). enter x) tests t);
      run = run_last e.run (enters (adds fine));
    }

-- The tests of some records are entered one after another into a board that holds b, and leave one that holds c.
record Filled (p : Spot) (b : Bookings) (k : ℕ) (q : Spot) (c : Bookings) : Type 0 where
  tests : List Test
  read : TestsFrom p k q tests
  entered : Entered tests c
  capacity : c.capacity ≡ b.capacity

filled_booked : (p : Spot) (b : Bookings) (k : ℕ) (q r : Spot) (c d : Bookings) → Filled p b k q c → Booked q c r d → Filled p b (suc k) r d
filled_booked p b k q r c d f (noted text at _ said) =
    record { tests = f.tests; read = asked.TestsFrom.noted k q r f.tests text at f.read said; entered = f.entered; capacity = f.capacity }
filled_booked p b k q r c d f (tested fields label at _ _ said added) =
    record {
      tests = f.tests ++ (asked_by fields ∷ []);
      read = asked.TestsFrom.tested k q r f.tests fields label at f.read said;
      entered = entered_last f.tests (asked_by fields) c d f.entered added;
      capacity = enter_capacity c d (asked_by fields) added ∙ f.capacity;
    }

filled_front : (p : Spot) (b : Bookings) → Entered [] b → (k : ℕ) (q : Spot) (c : Bookings) → Front p b k q c → Filled p b k q c
filled_front p b e k q c none = record { tests = []; read = asked.TestsFrom.none; entered = e; capacity = refl }
filled_front p b e k q c (more j m _ d _ front booked) = filled_booked p b j m q d c (filled_front p b e j m d front) booked

-- the header and the records after it
filled_file : (file : List ℕ) (before b loaded : Bookings) (count : ℕ) (p q : Spot) → Heads (start file) before count p b → Front p b count q loaded →
    length q.rest ≡ 0 → (tests : List Test) × AsksFor file loaded.capacity tests × Entered tests loaded
filled_file file before b loaded count p q (heads n _ m _ _ capacity made number few) front ended =
    let f = filled_front p b (entered_none before b n made) count q loaded front in (
      f.tests,
      record {
        count = count;
        at_count = m;
        at_records = p;
        at_end = q;
        first = subst (λ (c : ℕ). number_here (start file) ≡ Ok (c, m)) (sym (f.capacity ∙ build_capacity before b n made)) capacity;
        second = number;
        records = f.read;
        whole = ended;
      },
      f.entered,
    )

pub every_load_enters_the_tests : EveryLoadEntersTheTestsOfItsFile
every_load_enters_the_tests file before loaded (whole count p q b _ head front ended) = filled_file file before b loaded count p q head front ended
