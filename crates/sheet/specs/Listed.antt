-- What a list of entries holds.
use Rattle.std.specs.Prelude.{List}
use Rattle.model.specs.declared.entries.Entry.{Entry}
use Rattle.model.specs.Sheets.{Sheet}
use Rattle.sheet.specs.Entries.{sheet}
use Rattle.sheet.specs.declared.lists.List.{List as Places}
use Rattle.sheet.specs.declared.lists.Listed.{Listed}

-- The entries that stand in a list.
abbrev pub listed : Places → List Entry
listed l = l.entries.items

-- The sheet that a list keeps.
abbrev pub kept : Places → Sheet
kept l = sheet l.capacity (listed l)

-- The sheet that is lent.
abbrev pub meant : Listed → Sheet
meant l = sheet l.capacity l.entries.now
