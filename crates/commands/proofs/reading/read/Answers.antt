-- A line that is neither a note nor blank says what its words say.
use Rattle.std.proofs.Common.{◌≡◌, ℕ, List, ◌∷◌, Some, None, IsUtf8, MatchOption, Option, sym, ap, ◌∙◌, inl, inr, rules}
use Rattle.commands.specs.declared.commands.Command.{Command}
use Rattle.commands.specs.declared.commands.Line.{Line}
use Rattle.commands.specs.declared.commands.Line.TheVariants.{Unknown, Says}
use Rattle.commands.specs.Commands.{command_of, PassedOver, Reads}
use Rattle.commands.specs.Lines.{words}
use Rattle.commands.specs.Taking.{left}
use Rattle.commands.proofs.Parting.{blank_text, worded}
use Rattle.commands.proofs.reading.read.Goals as goal

-- A line that is not passed over is said by its words.
says : (line : List ℕ) (o : Option Command) (l : Line) → ¬ PassedOver line → IsUtf8 line → o ≡ command_of (words line) →
    MatchOption o (l ≡ Unknown) (λ command. l ≡ Says command) → Reads line l
says line None l kept text e h = rw h (kept, λ _. sym e)
says line (Some command) l kept text e h = rw h (kept, text, sym e)

pub returns-in_default : goal.returns-in_default
returns-in_default c =
    let line = c.args.line.now in
    let no_text = c.in_default.ensures.cases.0 in
    let kept : ¬ PassedOver line = λ p. elim p [ inl note ↦ c.if-is_note.ensures note | inr blank ↦ no_text (blank_text line blank) ] in
    (kept, λ text. absurd (no_text text))

pub returns : goal.returns
returns c =
    let line = c.args.line.now in
    let text = c.in-Ok.ensures.cases in
    let said : words line ≡ c.in-Some.name.now ∷ left c.word.new.self = ap words (sym text.0) ∙ c.in-Some.ensures in
    let kept : ¬ PassedOver line = λ p. elim p [ inl note ↦ c.if-is_note.ensures note | inr blank ↦ worded _ _ _ said blank ] in
    let named : c.command.result ≡ command_of (words line) = c.command.ensures ∙ sym (ap command_of said) in
    says line c.command.result c.map_or.result kept text.1 named (search rules)
