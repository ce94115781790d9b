use Rattle.campaign.proofs.Decided.{some_outcome}
use Rattle.campaign.proofs.Determined.{one_outcome}
use Rattle.campaign.proofs.outcomes.one_outcome.Goals as goal

pub returns : goal.returns
returns c = record { some = some_outcome; single = one_outcome }
