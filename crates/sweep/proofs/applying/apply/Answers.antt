-- The sheet means the board's present windows; what the code finds on it is what apply says.
use Rattle.std.proofs.Common.{◌≡◌, Option, sym, ap, ◌∙◌, rules}
use Rattle.board.specs.Calls.{Bookings}
use Rattle.board.specs.Held.{bookings}
use Rattle.runs.specs.Applying.{at_present, finds}
use Rattle.sweep.proofs.Applied.{squeezed, rested, fits, narrowed_so}
use Rattle.sweep.proofs.applying.apply.Goals as goal

-- what is shown of the sheet is shown of what the board holds
shown : {V : Type 0} (f : Bookings → Option V) (b d : Bookings) (v : Option V) → d ≡ b → f d ≡ v → f b ≡ v
shown f b d v held e = ap f (sym held) ∙ e

pub all_figures-windows-requires : goal.all_figures-windows-requires
all_figures-windows-requires g c = c.in-Ok.ensures.starts

pub returns-in-Err : goal.returns-in-Err
returns-in-Err g c =
    let rule = c.args.rule.now in
    let show = c.in-Err.ensures in
    record {
      step = finds _ (shown (λ x. (g.R.Rule.means rule).evidence (at_present x)) _ _ _ c.present-sheet.ensures show.told);
      evidence = shown (λ x. g.R.Rule.shows rule (at_present x)) _ _ _ c.present-sheet.ensures show.value;
    }

pub returns-in-Some : goal.returns-in-Some
returns-in-Some g c =
    let rule = c.args.rule.now in
    record {
      step = squeezed (g.R.Rule.means rule) (bookings c.args.board.now) _ c.present-sheet.ensures c.all_figures-windows.result c.all_figures-windows.ensures
          c.in-Ok.ensures.told c.rows.result.now c.rows.ensures c.in-Some.row c.in-Some.ensures;
      evidence = shown (λ x. g.R.Rule.shows rule (at_present x)) _ _ _ c.present-sheet.ensures c.in-Ok.ensures.value;
    }

pub returns-then-not-differ : goal.returns-then-not-differ
returns-then-not-differ g c =
    let rule = c.args.rule.now in
    record {
      step = rested (g.R.Rule.means rule) (bookings c.args.board.now) _ c.present-sheet.ensures c.all_figures-windows.result c.all_figures-windows.ensures
          c.rows.result.now c.rows.ensures c.in_default.ensures c.in-Ok.ensures.told c.rows-2.result.now c.rows-2.ensures c.if-not-differ.ensures;
      evidence = shown (λ x. g.R.Rule.shows rule (at_present x)) _ _ _ c.present-sheet.ensures c.in-Ok.ensures.value;
    }

pub write-requires : goal.write-requires
write-requires g c = (
  search rules,
  fits (g.R.Rule.means c.args.rule.now) (bookings c.args.board.now) _ c.present-sheet.ensures c.all_figures-windows.result c.all_figures-windows.ensures
      c.rows.result.now c.rows.ensures c.in_default.ensures c.args.board.now.sound,
)

pub returns : goal.returns
returns g c =
    let rule = c.args.rule.now in
    record {
      step = narrowed_so (g.R.Rule.means rule) (bookings c.args.board.now) _ c.present-sheet.ensures c.all_figures-windows.result c.all_figures-windows.ensures
          c.rows.result.now c.rows.ensures c.in_default.ensures c.in-Ok.ensures.told c.rows-2.result.now c.rows-2.ensures c.if-not-differ.ensures
          (bookings c.write.new.board) c.write.ensures;
      evidence = shown (λ x. g.R.Rule.shows rule (at_present x)) _ _ _ c.present-sheet.ensures c.in-Ok.ensures.value;
    }
