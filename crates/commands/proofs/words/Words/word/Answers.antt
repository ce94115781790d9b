-- The spaces before a word are passed over, and the next one ends it.
use Rattle.std.proofs.Common.{refl, arith}
use Rattle.std.proofs.lemmas.Str.Pattern.{split_parts}
use Rattle.commands.proofs.Parting.{trimmed, no_space, fronted}
use Rattle.commands.proofs.words.Words.word.Goals as goal

pub returns : goal.returns
returns c =
    let line = c.trim_start_matches-line.result in
    let cut = c.trim_start_matches-line.ensures.matches in
    let parts = split_parts 32 line.now c.split_once.result c.split_once.ensures.cases (omega arith) in
    let empty = rw c.unwrap_or.ensures at c.is_empty.ensures in
    rw c.then_some.ensures
    (rw c.unwrap_or.ensures
    (fronted c.args.self.now.rest.now line _ c.split_once.result c.is_empty.result refl
    (trimmed c.args.self.now.rest.now line.now cut.0.0 cut.0.1) (λ rest. no_space line.now rest cut.1) parts empty))
