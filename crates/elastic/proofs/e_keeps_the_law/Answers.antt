use Rattle.elastic.proofs.Law.{e_keeps_the_law}
use Rattle.elastic.proofs.e_keeps_the_law.Goals as goal

pub returns : goal.returns
returns c = e_keeps_the_law
