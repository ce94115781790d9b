-- The changes of one row.
use Rattle.model.specs.declared.windows.Window.{Window}
use Rattle.model.specs.declared.rows.Row.{Row}

-- A row whose present window is its entered one again.
abbrev pub reset : Row → Row
reset row =
    record { pair = row.pair; duration = row.duration; demand = row.demand; entered = row.entered; present = row.entered }

-- A row with a new window, as entered and as present.
abbrev pub rebooked : Window → Row → Row
rebooked w row = record { pair = row.pair; duration = row.duration; demand = row.demand; entered = w; present = w }

-- A row with a new present window.
abbrev pub narrowed : Window → Row → Row
narrowed w row =
    record { pair = row.pair; duration = row.duration; demand = row.demand; entered = row.entered; present = w }
