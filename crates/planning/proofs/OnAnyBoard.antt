-- A file is planned in the same way on every board: it is loaded into a new one.
use Rattle.std.proofs.Common.{ℕ, List, Ok, Err}
use Rattle.board.specs.declared.refusals.Refusal.{Refusal}
use Rattle.board.specs.Calls.{Bookings, Builds, makes, too_small, too_large}
use Rattle.records.specs.Records.{Spot}
use Rattle.campaign.specs.declared.faults.Fault.{Fault}
use Rattle.campaign.specs.Loads.{Heads, heads, BadHeader, no_capacity, bad_capacity, no_count, too_many, Loads, whole, header, body, left_over}
use Rattle.planning.specs.Plans.{Plans, planned, faulted}

module _ (old new : Bookings) where
  built_on : (n : ℕ) (b : Bookings) → Builds old n (Ok tt) b → Builds new n (Ok tt) b
  built_on n b (makes low high) = makes low high

  refused_on : (n : ℕ) (w : Refusal) (b : Bookings) → Builds old n (Err w) b → Builds new n (Err w) new
  refused_on n w b (too_small l) = too_small l
  refused_on n w b (too_large l) = too_large l

  heads_on : (p q : Spot) (count : ℕ) (b : Bookings) → Heads p old count q b → Heads p new count q b
  heads_on p q count b (heads n _ m _ _ capacity made number few) = heads n count m q b capacity (built_on n b made) number few

  bad_header_on : (p : Spot) (f : Fault) → BadHeader p old f → BadHeader p new f
  bad_header_on p f (no_capacity e capacity) = no_capacity e capacity
  bad_header_on p f (bad_capacity n m w capacity made) = bad_capacity n m w capacity (refused_on n w old made)
  bad_header_on p f (no_count n m b e capacity made number) = no_count n m b e capacity (built_on n b made) number
  bad_header_on p f (too_many n count m q b capacity made number many) = too_many n count m q b capacity (built_on n b made) number many

  loaded_on : (file : List ℕ) (b : Bookings) → Loads file old (Ok tt) b → Loads file new (Ok tt) b
  loaded_on file b (whole count p q c _ head front end) = whole count p q c b (heads_on _ p count c head) front end

  faulted_on : (file : List ℕ) (f : Fault) (b : Bookings) → Loads file old (Err f) b → Loads file new (Err f) new
  faulted_on file f b (header _ bad) = header f (bad_header_on _ f bad)
  faulted_on file f b (body count p c _ head bad) = body count p c f (heads_on _ p count c head) bad
  faulted_on file f b (left_over count p q c d head front more) = left_over count p q c d (heads_on _ p count c head) front more

pub planned_on : (file : List ℕ) (old new : Bookings) (text : List ℕ) (after : Bookings) → Plans file old text after →
    (after : Bookings) × Plans file new text after
planned_on file old new text after (planned loaded swept _ loads sweeps) = (after, planned loaded swept after (loaded_on old new file loaded loads) sweeps)
planned_on file old new text after (faulted f loads) = (new, faulted f (faulted_on old new file f old loads))
