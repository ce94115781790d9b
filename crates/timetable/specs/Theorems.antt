-- What is proved of T.
use Rattle.model.specs.Rules.{Meaning, Lawful}
use Rattle.model.specs.TimeTable.{IsT}
use Rattle.timetable.specs.Meaning.{meaning_T}

-- The computation is T, and whatever is T keeps the law of rules.
abbrev pub TKeepsTheLaw : Type 0
TKeepsTheLaw = IsT meaning_T × ((rule : Meaning) → IsT rule → Lawful rule)
