-- What a board, or a saved copy of one, holds.
use Rattle.board.specs.declared.boards.Board.{Board}
use Rattle.board.specs.declared.saved.Saved.{Saved}
use Rattle.board.specs.Calls.{Bookings}

-- The capacity and the rows of a board.
abbrev pub bookings : Board → Bookings
bookings b = record { capacity = b.capacity; rows = b.table }

-- The capacity and the rows that were saved.
abbrev pub kept : Saved → Bookings
kept s = record { capacity = s.capacity; rows = s.rows.items }
