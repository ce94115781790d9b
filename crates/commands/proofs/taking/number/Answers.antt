-- A sign is no number, and all else is read as its digits.
use Rattle.std.proofs.Common.{◌≡◌, ℕ, true, get_or, sym, ◌∙◌, arith}
use Rattle.std.proofs.lemmas.Str.Parse.{parse_plain}
use Rattle.std.proofs.lemmas.Str.Pattern.{starts_char}
use Rattle.commands.proofs.Written.{own, parsed, signed_word}
use Rattle.commands.proofs.taking.number.Goals as goal

pub returns-then-starts_with : goal.returns-then-starts_with
returns-then-starts_with c =
    let starts = starts_char 43 c.args.word.now c.starts_with.result c.starts_with.ensures.cases (omega arith) (omega arith) in
    sym (signed_word c.args.word.now (starts.0 c.if-starts_with.true))

pub returns : goal.returns
returns c =
    let w = c.args.word.now in
    let starts = starts_char 43 w c.starts_with.result c.starts_with.ensures.cases (omega arith) (omega arith) in
    let plain : ¬ (get_or w 0 0 ≡ 43) = λ e. let t : c.starts_with.result ≡ true = starts.1 e in let z : ◌≡◌ {A = ℕ} 0 1 = cc in omega arith in
    c.ok.ensures.value ∙ parsed w c.parse.result (parse_plain own 32 w c.parse.result c.parse.ensures.value.0 plain)
