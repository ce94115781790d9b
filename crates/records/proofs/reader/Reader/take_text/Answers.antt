use Rattle.std.proofs.Common.{arith}
use Rattle.std.proofs.lemmas.Result.{err_from_is_err_and}
use Rattle.records.proofs.Here.{text_unread, text_long, text_past, text_whole}
use Rattle.records.proofs.reader.Reader.take_text.Goals as goal

pub returns-in_err-count : goal.returns-in_err-count
returns-in_err-count c =
    let p = err_from_is_err_and c.from_residual.result c.from_residual.ensures.1 in
    rw (p.1, p.2) (text_unread _ _ c.in_err-count.ensures.exact)

pub returns-then-count-gt-TEXT_MAX : goal.returns-then-count-gt-TEXT_MAX
returns-then-count-gt-TEXT_MAX c = rw c.at.ensures (text_long _ _ _ c.in_ok-count.ensures.exact c.if-count-gt-TEXT_MAX.true)

pub returns-then-count-self : goal.returns-then-count-self
returns-then-count-self c = rw c.at-then-count-self.ensures (text_past _ _ _ c.in_ok-count.ensures.exact (omega arith) (omega arith))

pub returns : goal.returns
returns c =
    rw (c.pass.ensures.bytes, c.pass.ensures.moved)
    (text_whole _ _ _ c.in_ok-count.ensures.exact c.if-count-gt-TEXT_MAX.false c.if-count-self.false)
