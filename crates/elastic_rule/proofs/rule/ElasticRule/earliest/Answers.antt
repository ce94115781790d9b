-- The earliest start is the one at its place, and there is none from the count upward.
use Rattle.std.proofs.Common.{rules}
use Rattle.elastic.specs.Meaning.{earliest_E}
use Rattle.elastic_rule.proofs.rule.ElasticRule.earliest.Goals as goal

pub returns : goal.returns
unfolding earliest_E
returns g c = search rules
