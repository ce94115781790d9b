-- At each refusal all that has a lesser number has been judged.
use Rattle.std.proofs.Common.{refl, inl, inr, arith}
use Rattle.std.proofs.lemmas.Result.{err_from_is_err_and}
use Rattle.board.specs.declared.refusals.Refusal.TheVariants.{Duration, Demand}
use Rattle.board.specs.Held.{bookings}
use Rattle.board.specs.Calls.{Wrong, instant, long, idle, greedy, window, taken, full}
use Rattle.board.proofs.Ranges.{outside, within}
use Rattle.board.proofs.Found.{found, missing}
use Rattle.board.proofs.Judging.{least_wrong, number_small, place_judges, pair_within, pair_wrong, fits_within}
use Rattle.board.proofs.boards.Board.judge.Goals as goal

pub returns-in_err-place : goal.returns-in_err-place
returns-in_err-place c =
    let p = err_from_is_err_and c.from_residual.result c.from_residual.ensures.1 in
    rw (p.1, p.2) (pair_wrong _ _ _ (place_judges _ _ c.in_err-place.ensures))

pub returns-then-not-contains : goal.returns-then-not-contains
returns-then-not-contains c =
    let named = pair_within _ (place_judges _ _ c.in_ok-place.ensures) in
    let wrong : Wrong (bookings c.args.self.now) c.args.test Duration =
    elim (outside _ _ _ _ c.new.ensures c.if-not-contains.ensures) [
      | inl low ↦ instant (omega arith)
      | inr high ↦ long (omega (arith, c.from.ensures))
    ] in
    record {
      wrong = wrong;
      least = least_wrong 4 (bookings c.args.self.now) c.args.test (λ l. named.0) (λ l. named.1) (λ l. named.2)
          (λ l. omega arith) (λ l. omega arith) (λ l. omega arith) (λ l. omega arith) (λ l. omega arith) (λ l. omega arith)
          (λ l. absurd (omega arith)) (λ l. omega arith);
    }

pub returns-then-not-contains-2 : goal.returns-then-not-contains-2
returns-then-not-contains-2 c =
    let named = pair_within _ (place_judges _ _ c.in_ok-place.ensures) in
    let lasts = within _ _ _ _ c.new.ensures c.if-not-contains.ensures in
    let wrong : Wrong (bookings c.args.self.now) c.args.test Demand =
    elim (outside _ _ _ _ c.new-2.ensures c.if-not-contains-2.ensures) [
      | inl low ↦ idle (omega arith)
      | inr high ↦ greedy (omega (arith, c.from-2.ensures))
    ] in
    record {
      wrong = wrong;
      least = least_wrong 5 (bookings c.args.self.now) c.args.test (λ l. named.0) (λ l. named.1) (λ l. named.2)
          (λ l. omega arith) (λ l. omega (arith, c.from.ensures)) (λ l. omega arith) (λ l. omega arith) (λ l. omega arith) (λ l. omega arith)
          (λ l. absurd (omega arith)) (λ l. omega arith);
    }

pub returns-in_err-entered : goal.returns-in_err-entered
returns-in_err-entered c =
    let named = pair_within _ (place_judges _ _ c.in_ok-place.ensures) in
    let lasts = within _ _ _ _ c.new.ensures c.if-not-contains.ensures in
    let takes = within _ _ _ _ c.new-2.ensures c.if-not-contains-2.ensures in
    let p = err_from_is_err_and c.from_residual-in_err-entered.result c.from_residual-in_err-entered.ensures.1 in
    rw (p.1, p.2, c.in_err-entered.ensures.1) (record {
      wrong = window c.in_err-entered.ensures.0;
      least = least_wrong 6 (bookings c.args.self.now) c.args.test (λ l. named.0) (λ l. named.1) (λ l. named.2)
          (λ l. omega arith) (λ l. omega (arith, c.from.ensures)) (λ l. omega arith) (λ l. omega (arith, c.from-2.ensures)) (λ l. omega arith) (λ l. omega arith)
          (λ l. absurd (omega arith)) (λ l. omega arith);
    })

pub returns-then-is_some : goal.returns-then-is_some
returns-then-is_some c =
    let named = pair_within _ (place_judges _ _ c.in_ok-place.ensures) in
    let lasts = within _ _ _ _ c.new.ensures c.if-not-contains.ensures in
    let takes = within _ _ _ _ c.new-2.ensures c.if-not-contains-2.ensures in
    let windowed = fits_within _ _ _ c.in_ok-entered.ensures.0 in
    let (k, at) = found _ _ c.find.result c.find.ensures c.if-is_some.ensures in
    record {
      wrong = taken k at;
      least = least_wrong 7 (bookings c.args.self.now) c.args.test (λ l. named.0) (λ l. named.1) (λ l. named.2)
          (λ l. omega arith) (λ l. omega (arith, c.from.ensures)) (λ l. omega arith) (λ l. omega (arith, c.from-2.ensures)) (λ l. windowed.0) (λ l. windowed.1)
          (λ l. absurd (omega arith)) (λ l. omega arith);
    }

pub returns-then-rows-ge-ROWS_MAX : goal.returns-then-rows-ge-ROWS_MAX
returns-then-rows-ge-ROWS_MAX c =
    let named = pair_within _ (place_judges _ _ c.in_ok-place.ensures) in
    let lasts = within _ _ _ _ c.new.ensures c.if-not-contains.ensures in
    let takes = within _ _ _ _ c.new-2.ensures c.if-not-contains-2.ensures in
    let windowed = fits_within _ _ _ c.in_ok-entered.ensures.0 in
    let free = missing _ _ c.find.result c.find.ensures c.if-is_some.ensures in
    record {
      wrong = full (rw c.rows.ensures at c.if-rows-ge-ROWS_MAX.true);
      least = least_wrong 8 (bookings c.args.self.now) c.args.test (λ l. named.0) (λ l. named.1) (λ l. named.2)
          (λ l. omega arith) (λ l. omega (arith, c.from.ensures)) (λ l. omega arith) (λ l. omega (arith, c.from-2.ensures)) (λ l. windowed.0) (λ l. windowed.1)
          (λ l. free) (λ l. absurd (omega arith));
    }

pub returns : goal.returns
returns c =
    let named = pair_within _ (place_judges _ _ c.in_ok-place.ensures) in
    let lasts = within _ _ _ _ c.new.ensures c.if-not-contains.ensures in
    let takes = within _ _ _ _ c.new-2.ensures c.if-not-contains-2.ensures in
    let windowed = fits_within _ _ _ c.in_ok-entered.ensures.0 in
    let free = missing _ _ c.find.result c.find.ensures c.if-is_some.ensures in
    let room = rw c.rows.ensures at c.if-rows-ge-ROWS_MAX.false in (
      λ w h. number_small w (least_wrong 11 (bookings c.args.self.now) c.args.test (λ l. named.0) (λ l. named.1) (λ l. named.2)
          (λ l. omega arith) (λ l. omega (arith, c.from.ensures)) (λ l. omega arith) (λ l. omega (arith, c.from-2.ensures)) (λ l. windowed.0) (λ l. windowed.1)
          (λ l. free) (λ l. room) w h),
      rw c.in_ok-entered.ensures.1 refl,
    )
