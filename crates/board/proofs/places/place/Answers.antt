-- A pair is refused with the least number of what is wrong with it.
use Rattle.std.proofs.Common.{inl, inr, arith}
use Rattle.board.specs.declared.refusals.Refusal.TheVariants.{Profile, Bearer}
use Rattle.board.specs.Calls.{stands, misnamed, WrongPair, profile, bearer_low, bearer_high}
use Rattle.board.proofs.Ranges.{outside, within}
use Rattle.board.proofs.Judging.{least_pair, number_small}
use Rattle.board.proofs.places.place.Goals as goal

pub returns-then-pair-gt-PROFILE_MAX : goal.returns-then-pair-gt-PROFILE_MAX
returns-then-pair-gt-PROFILE_MAX c =
    misnamed Profile (record {
      wrong = profile c.if-pair-gt-PROFILE_MAX.true;
      least = least_pair 2 c.args.pair (λ l. omega arith) (λ l. omega arith) (λ l. omega arith);
    })

pub returns-then-not-contains : goal.returns-then-not-contains
returns-then-not-contains c =
    let wrong : WrongPair c.args.pair Bearer =
    elim (outside _ _ _ _ c.new.ensures c.if-not-contains.ensures) [
      | inl low ↦ bearer_low (omega arith)
      | inr high ↦ bearer_high (omega arith)
    ] in
    misnamed Bearer (record {
      wrong = wrong;
      least = least_pair 3 c.args.pair (λ l. omega arith) (λ l. omega arith) (λ l. omega arith);
    })

pub returns : goal.returns
returns c =
    let bearer = within _ _ _ _ c.new.ensures c.if-not-contains.ensures in
    stands (λ w h. number_small w (least_pair 11 c.args.pair (λ l. omega arith) (λ l. omega arith) (λ l. omega arith) w h))
