-- The sheet of some entries.
use Rattle.std.specs.Prelude.{ℕ, List}
use Rattle.model.specs.declared.entries.Entry.{Entry}
use Rattle.model.specs.Sheets.{Sheet}

-- The sheet of a capacity and entries.
abbrev pub sheet : ℕ → List Entry → Sheet
sheet capacity entries = record { capacity = capacity; entries = entries }
