-- Each name gives its own command, and any other word none.
use Rattle.std.proofs.Common.{◌≡◌, Option, sym, ◌∙◌}
use Rattle.commands.specs.declared.commands.Command.{Command}
use Rattle.commands.specs.declared.words.Words.{Words}
use Rattle.commands.specs.Commands.{whole}
use Rattle.commands.specs.Taking.{left}
use Rattle.commands.proofs.Fronts.{none_there, one_there, enter_1, enter_2, enter_3, enter_4, enter_5, enter_whole, rebook_1, rebook_2, rebook_3, rebook_whole}
use Rattle.commands.proofs.Named.{named_build, named_enter, named_withdraw, named_rebook, named_place, named_apply, named_sweep, named_show, unnamed}
use Rattle.commands.proofs.reading.command.Goals as goal
use Rattle.commands.proofs.reading.command.Goals.{in-build+in_ok-number-in-build, in-enter+in_ok-pair-in-enter+in_ok-number-in-enter+in_ok-number-in-enter-2+in_ok-number-in-enter-3+in_ok-number-in-enter-4, in-withdraw+in_ok-pair-in-withdraw, in-rebook+in_ok-pair-in-rebook+in_ok-number-in-rebook+in_ok-number-in-rebook-2, in-place+in_ok-pair-in-place, in-apply+in_ok-letter-in-apply, in-sweep, in-show}

-- ---- something that is given is not there

pub returns-in_err-number-in-build : goal.returns-in_err-number-in-build
returns-in_err-number-in-build c =
    c.from_residual.ensures ∙ sym (named_build _ _ c.in-build.is ∙ none_there _ _ c.in_err-number-in-build.ensures)

pub returns-in_err-pair-in-enter : goal.returns-in_err-pair-in-enter
returns-in_err-pair-in-enter c =
    c.from_residual-in_err-pair-in-enter.ensures ∙ sym (named_enter _ _ c.in-enter.is ∙ enter_1 _ c.in_err-pair-in-enter.ensures)

pub returns-in_err-number-in-enter : goal.returns-in_err-number-in-enter
returns-in_err-number-in-enter c =
    c.from_residual-in_err-number-in-enter.ensures
    ∙ sym (named_enter _ _ c.in-enter.is ∙ enter_2 _ _ _ c.in_ok-pair-in-enter.ensures c.in_err-number-in-enter.ensures)

pub returns-in_err-number-in-enter-2 : goal.returns-in_err-number-in-enter-2
returns-in_err-number-in-enter-2 c =
    c.from_residual-in_err-number-in-enter-2.ensures
    ∙ sym (named_enter _ _ c.in-enter.is
    ∙ enter_3 _ _ _ _ _ c.in_ok-pair-in-enter.ensures c.in_ok-number-in-enter.ensures c.in_err-number-in-enter-2.ensures)

pub returns-in_err-number-in-enter-3 : goal.returns-in_err-number-in-enter-3
returns-in_err-number-in-enter-3 c =
    c.from_residual-in_err-number-in-enter-3.ensures
    ∙ sym (named_enter _ _ c.in-enter.is
    ∙ enter_4 _ _ _ _ _ _ _ c.in_ok-pair-in-enter.ensures c.in_ok-number-in-enter.ensures c.in_ok-number-in-enter-2.ensures
    c.in_err-number-in-enter-3.ensures)

pub returns-in_err-number-in-enter-4 : goal.returns-in_err-number-in-enter-4
returns-in_err-number-in-enter-4 c =
    c.from_residual-in_err-number-in-enter-4.ensures
    ∙ sym (named_enter _ _ c.in-enter.is
    ∙ enter_5 _ _ _ _ _ _ _ _ _ c.in_ok-pair-in-enter.ensures c.in_ok-number-in-enter.ensures c.in_ok-number-in-enter-2.ensures
    c.in_ok-number-in-enter-3.ensures c.in_err-number-in-enter-4.ensures)

pub returns-in_err-pair-in-withdraw : goal.returns-in_err-pair-in-withdraw
returns-in_err-pair-in-withdraw c =
    c.from_residual-in_err-pair-in-withdraw.ensures
    ∙ sym (named_withdraw _ _ c.in-withdraw.is ∙ none_there _ _ c.in_err-pair-in-withdraw.ensures)

pub returns-in_err-pair-in-rebook : goal.returns-in_err-pair-in-rebook
returns-in_err-pair-in-rebook c =
    c.from_residual-in_err-pair-in-rebook.ensures ∙ sym (named_rebook _ _ c.in-rebook.is ∙ rebook_1 _ c.in_err-pair-in-rebook.ensures)

pub returns-in_err-number-in-rebook : goal.returns-in_err-number-in-rebook
returns-in_err-number-in-rebook c =
    c.from_residual-in_err-number-in-rebook.ensures
    ∙ sym (named_rebook _ _ c.in-rebook.is ∙ rebook_2 _ _ _ c.in_ok-pair-in-rebook.ensures c.in_err-number-in-rebook.ensures)

pub returns-in_err-number-in-rebook-2 : goal.returns-in_err-number-in-rebook-2
returns-in_err-number-in-rebook-2 c =
    c.from_residual-in_err-number-in-rebook-2.ensures
    ∙ sym (named_rebook _ _ c.in-rebook.is
    ∙ rebook_3 _ _ _ _ _ c.in_ok-pair-in-rebook.ensures c.in_ok-number-in-rebook.ensures c.in_err-number-in-rebook-2.ensures)

pub returns-in_err-pair-in-place : goal.returns-in_err-pair-in-place
returns-in_err-pair-in-place c =
    c.from_residual-in_err-pair-in-place.ensures
    ∙ sym (named_place _ _ c.in-place.is ∙ none_there _ _ c.in_err-pair-in-place.ensures)

pub returns-in_err-letter-in-apply : goal.returns-in_err-letter-in-apply
returns-in_err-letter-in-apply c =
    c.from_residual-in_err-letter-in-apply.ensures
    ∙ sym (named_apply _ _ c.in-apply.is ∙ none_there _ _ c.in_err-letter-in-apply.ensures)

-- ---- no command has the name

pub returns-in_default : goal.returns-in_default
returns-in_default c =
    sym (unnamed c.args.name.now (left c.args.words) c.in_default.not-build c.in_default.not-enter c.in_default.not-withdraw
    c.in_default.not-rebook c.in_default.not-place c.in_default.not-apply c.in_default.not-sweep c.in_default.not-show)

-- ---- a command

-- The command is whole if no word is left after what it is given.
ended : (r n : Option Command) (a b : Command) (x y : Words) → r ≡ whole a (left x) → a ≡ b → x ≡ y → n ≡ whole b (left y) → r ≡ n
ended r n a b x y h p q e = cc

pub returns : goal.returns
returns c =
    let last = c.whole.ensures in
    elim c.match-name.branch [
      | in-build+in_ok-number-in-build w ↦
          ended _ _ _ _ _ _ last w.command-is w.words-is (named_build _ _ w.in-build.is ∙ one_there _ _ _ _ w.in_ok-number-in-build.ensures)
      | in-enter+in_ok-pair-in-enter+in_ok-number-in-enter+in_ok-number-in-enter-2+in_ok-number-in-enter-3+in_ok-number-in-enter-4 w ↦
          ended _ _ _ _ _ _ last w.command-is w.words-is (named_enter _ _ w.in-enter.is
          ∙ enter_whole _ _ _ _ _ _ _ _ _ _ _ w.in_ok-pair-in-enter.ensures w.in_ok-number-in-enter.ensures w.in_ok-number-in-enter-2.ensures
          w.in_ok-number-in-enter-3.ensures w.in_ok-number-in-enter-4.ensures)
      | in-withdraw+in_ok-pair-in-withdraw w ↦
          ended _ _ _ _ _ _ last w.command-is w.words-is (named_withdraw _ _ w.in-withdraw.is ∙ one_there _ _ _ _ w.in_ok-pair-in-withdraw.ensures)
      | in-rebook+in_ok-pair-in-rebook+in_ok-number-in-rebook+in_ok-number-in-rebook-2 w ↦
          ended _ _ _ _ _ _ last w.command-is w.words-is (named_rebook _ _ w.in-rebook.is
          ∙ rebook_whole _ _ _ _ _ _ _ w.in_ok-pair-in-rebook.ensures w.in_ok-number-in-rebook.ensures w.in_ok-number-in-rebook-2.ensures)
      | in-place+in_ok-pair-in-place w ↦
          ended _ _ _ _ _ _ last w.command-is w.words-is (named_place _ _ w.in-place.is ∙ one_there _ _ _ _ w.in_ok-pair-in-place.ensures)
      | in-apply+in_ok-letter-in-apply w ↦
          ended _ _ _ _ _ _ last w.command-is w.words-is (named_apply _ _ w.in-apply.is ∙ one_there _ _ _ _ w.in_ok-letter-in-apply.ensures)
      | in-sweep w ↦ ended _ _ _ _ _ _ last w.command-is w.words-is (named_sweep _ _ w.in-sweep.is)
      | in-show w ↦ ended _ _ _ _ _ _ last w.command-is w.words-is (named_show _ _ w.in-show.is)
    ]
