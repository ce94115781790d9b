-- The records before the number that is reached stand.
use Rattle.std.proofs.Common.{◌-◌, ◌≤◌}
use Rattle.board.specs.Held.{bookings}
use Rattle.records.specs.Reading.{spot}
use Rattle.campaign.specs.Loads.{Front}
use Rattle.campaign.proofs.entering.enter_records.Given as goal

abbrev pub invariant-loop-number : goal.invariant-loop-number
invariant-loop-number l =
    record {
      front : Front (spot l.initial.reader) (bookings l.initial.board) (l.number - 1) (spot l.reader) (bookings l.board);
      reached : l.number - 1 ≤ l.count;
    }
