use Rattle.elastic.proofs.Pushed.{pushes_give_the_smallest_deadline}
use Rattle.elastic.proofs.pushes_give_the_smallest_deadline.Goals as goal

pub returns : goal.returns
returns c = pushes_give_the_smallest_deadline
