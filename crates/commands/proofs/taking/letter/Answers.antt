-- The first character is the letter, if none comes after it.
use Rattle.std.proofs.Common.{IsUtf8, is_some, sym, ap, ◌∙◌, rules}
use Rattle.std.specs.Str.Iter.{chars_rest}
use Rattle.commands.proofs.Written.{first_letter}
use Rattle.commands.proofs.taking.letter.Goals as goal

pub returns : goal.returns
returns c =
    let w = c.args.word.now in
    let u : IsUtf8 w = search rules in
    let steps = c.next-2.ensures.steps in
    c.then_some.ensures
    ∙ first_letter w (chars_rest c.next.new.self) c.in_ok-letter.letter c.is_none.result u
    (sym c.chars-chars.ensures.rest ∙ c.in_ok-letter.ensures.steps.0) (ap is_some (sym steps.2) ∙ c.is_none.ensures)
