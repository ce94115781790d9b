-- What was seen before t.
use Rattle.sheet.specs.Listed.{meant}
use Rattle.time_table_rule.specs.Rooms.{Seen}
use Rattle.time_table_rule.proofs.usage.Usage.first_room.Given as goal

abbrev pub invariant-loop-t : goal.invariant-loop-t
invariant-loop-t l = Seen (meant l.self.sheet) l.place l.from l.t
