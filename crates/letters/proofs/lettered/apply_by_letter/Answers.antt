-- Each letter applies its rule, and any other is refused.
use Rattle.std.proofs.Common.{rules}
use Rattle.timetable.specs.Meaning.{meaning_T}
use Rattle.elastic.specs.Meaning.{meaning_E}
use Rattle.shift.specs.Meaning.{meaning_S}
use Rattle.board.specs.Held.{bookings}
use Rattle.runs.specs.Runs.{names_T, names_E, names_S}
use Rattle.letters.proofs.Named.{by_name, by_none}
use Rattle.letters.proofs.lettered.apply_by_letter.Goals as goal

pub returns-in-T : goal.returns-in-T
returns-in-T c = by_name c.args.letter 84 meaning_T (bookings c.args.board.now) (bookings c.apply.new.board) _ c.told.result c.in-T.is names_T c.apply.ensures.step c.told.ensures

pub returns-in-E : goal.returns-in-E
returns-in-E c = by_name c.args.letter 69 meaning_E (bookings c.args.board.now) (bookings c.apply-in-E.new.board) _ c.told-in-E.result c.in-E.is names_E c.apply-in-E.ensures.step c.told-in-E.ensures

pub returns-in-S : goal.returns-in-S
returns-in-S c = by_name c.args.letter 83 meaning_S (bookings c.args.board.now) (bookings c.apply-in-S.new.board) _ c.told-in-S.result c.in-S.is names_S c.apply-in-S.ensures.step c.told-in-S.ensures

pub returns-in_default : goal.returns-in_default
returns-in_default c = by_none c.args.letter (bookings c.args.board.now) (search rules) (search rules) (search rules)
