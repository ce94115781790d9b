use Rattle.runs.proofs.Marked.{marked_figures}
use Rattle.runs.proofs.marked_figures.Goals as goal

pub returns : goal.returns
returns c = marked_figures
