use Rattle.std.proofs.Common.{◌≡◌, ◌^◌, ◌<◌, ◌≤◌, take}
use Rattle.records.specs.Numbers.{value_of, announcing}
use Rattle.records.proofs.numbers.number.Given as goal

abbrev pub invariant-loop-i : goal.invariant-loop-i
invariant-loop-i l =
    record {
      announced : l.i ≤ announcing l.input;
      read : l.value ≡ value_of (take l.i l.input);
      next : l.weight ≡ 128 ^ l.i;
      below : l.value < l.weight;
    }
