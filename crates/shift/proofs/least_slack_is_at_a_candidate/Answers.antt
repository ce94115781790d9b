use Rattle.shift.proofs.LeastSlack.{least_slack_is_at_a_candidate}
use Rattle.shift.proofs.least_slack_is_at_a_candidate.Goals as goal

pub returns : goal.returns
returns c = least_slack_is_at_a_candidate
