-- Windows by place.
use Rattle.std.specs.Prelude.{ℕ, ◌+◌, ◌-◌, ◌<◌, max, List, slice_index_or}
use Rattle.model.specs.declared.entries.Entry.{Entry}
use Rattle.model.specs.declared.rows.Row.{Row}
use Rattle.model.specs.declared.windows.Window.{Window}
use Rattle.model.specs.Limits.{row_at}
use Rattle.model.specs.Sheets.{horizon}

-- What stands past the last window.
abbrev pub no_window : Window
no_window = record { release = 0; deadline = 0 }

-- The window at a place.
abbrev pub window_at : List Window → ℕ → Window
window_at windows k = slice_index_or windows k no_window

-- The window at place k leaves less than the duration of the row there.
abbrev pub TooShort : List Row → List Window → ℕ → Type 0
TooShort rows windows k = (window_at windows k).deadline < (window_at windows k).release + (row_at rows k).duration

-- The window of an entry between the later of its release and a start, and the same figure of its mirror, read backwards.
abbrev pub window_between : Entry → ℕ → ℕ → Window
window_between e start mirrored_start =
    record { release = max e.release start; deadline = horizon - max (horizon - e.deadline) mirrored_start }
