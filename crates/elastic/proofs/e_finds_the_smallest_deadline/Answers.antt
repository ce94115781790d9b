use Rattle.elastic.proofs.Deadlines.{e_finds_the_smallest_deadline}
use Rattle.elastic.proofs.e_finds_the_smallest_deadline.Goals as goal

pub returns : goal.returns
returns c = e_finds_the_smallest_deadline
