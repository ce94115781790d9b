-- What the sheet of present windows means.
use Rattle.std.specs.Prelude.{◌<◌, length}
use Rattle.std.proofs.Common.{arith}
use Rattle.model.specs.Sheets.{Sound}
use Rattle.board.specs.Calls.{Bookings}
use Rattle.runs.specs.Applying.{at_present}
use Rattle.runs.proofs.Boards.{present_count, present_at}
use Rattle.sweep.specs.declared.present.Present.{Present}

-- The capacity and the rows of which it is the sheet.
abbrev pub rows_of : Present → Bookings
rows_of s = record { capacity = s.capacity; rows = s.rows.now }

-- It is within the limits, since the rows are.
pub rows_sound : (s : Present) → Sound (at_present (rows_of s))
rows_sound s =
    let b = rows_of s in
    record {
      some_capacity = s.sound.some_capacity;
      small_capacity = s.sound.small_capacity;
      few = omega (arith, present_count b, s.sound.few);
      each = λ k l.
          let l' : k < length b.rows = rw (← present_count b) l in
          let size = s.sound.sound.sized k l' in
          let window = s.sound.sound.windowed k l' in
          rw (present_at b k l') (omega arith);
    }
