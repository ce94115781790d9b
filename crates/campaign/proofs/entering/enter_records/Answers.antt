-- One record more stands at each turn, and as many as there should be at the end.
use Rattle.std.proofs.Common.{◌≡◌, ℕ, zero, suc, ◌+◌, ◌-◌, ◌≤◌, arith}
use Rattle.std.proofs.lemmas.Result.{err_from_is_err_and}
use Rattle.board.specs.Calls.{Bookings}
use Rattle.records.specs.Records.{Spot}
use Rattle.campaign.specs.declared.faults.Fault.{Fault}
use Rattle.campaign.specs.Loads.{Booked, BadRecord, Front, BadFront, none, more, at_record}
use Rattle.campaign.proofs.entering.enter_records.Goals as goal

-- The n-th record stands after those before it, or is the first that is wrong.
module _ (p : Spot) (b : Bookings) (q : Spot) (c : Bookings) where
  nth : (n : ℕ) (r : Spot) (d : Bookings) → 1 ≤ n → Front p b (n - 1) q c → Booked q c r d → Front p b n r d
  nth zero r d l front booked = absurd (omega arith)
  nth (suc k) r d l front booked =
      let e : suc k - 1 ≡ k = omega arith in more k q r c d (rw e at front) booked

  nth_wrong : (n count : ℕ) (f : Fault) → 1 ≤ n → n ≤ count → Front p b (n - 1) q c → BadRecord n q c f → BadFront p b count f
  nth_wrong zero count f l m front wrong = absurd (omega arith)
  nth_wrong (suc k) count f l m front wrong =
      let e : suc k - 1 ≡ k = omega arith in at_record k q c f (rw e at front) (omega arith) wrong

pub loop-number-init : goal.loop-number-init
loop-number-init c = record { front = none; reached = omega arith }

pub returns-in_err-enter_record : goal.returns-in_err-enter_record
returns-in_err-enter_record c =
    let p = err_from_is_err_and c.from_residual.result c.from_residual.ensures.1 in
    rw (p.1, p.2)
    (nth_wrong _ _ _ _ _ _ _ c.loop-number.auto.number c.loop-number-test.true c.loop-number.invariant.front c.in_err-enter_record.ensures)

pub loop-number-preserved : goal.loop-number-preserved
loop-number-preserved c =
    let n = c.loop-number.number in
    let e : n + 1 - 1 ≡ n = omega arith in
    record {
      front = rw e (nth _ _ _ _ _ _ _ c.loop-number.auto.number c.loop-number.invariant.front c.in_ok-enter_record.ensures);
      reached = omega arith;
    }

pub returns : goal.returns
returns c =
    let e : c.loop-number.number - 1 ≡ c.args.count = omega arith in
    rw e at c.loop-number.invariant.front

pub returns-in_ok-enter_record : goal.returns-in_ok-enter_record
returns-in_ok-enter_record c =
    let e : c.loop-number.number ≡ c.args.count = omega arith in
    rw e at (nth _ _ _ _ c.loop-number.number _ _ c.loop-number.auto.number c.loop-number.invariant.front c.in_ok-enter_record.ensures)
