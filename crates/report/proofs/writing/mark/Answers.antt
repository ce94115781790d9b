-- A character has at most four bytes.
use Rattle.std.proofs.Common.{ℕ, ◌≤◌, length, encode_utf8, ap, arith, lit<, length-append}
use Rattle.std.proofs.lemmas.Str.{len_utf8_bounds, length-encode}
use Rattle.report.proofs.writing.mark.Goals as goal

four_bytes : (c : ℕ) → length (encode_utf8 c) ≤ 4
four_bytes c = omega (arith, length-encode c, len_utf8_bounds c)

pub push-requires : goal.push-requires
push-requires c = (lit< tt, omega (arith, four_bytes c.args.letter))

pub push_str-requires : goal.push_str-requires
push_str-requires c =
    let grown = length-append c.args.text.now.bytes (encode_utf8 c.args.letter) in
    (lit< tt, omega (arith, four_bytes c.args.letter, ap length c.push.ensures.bytes, grown))

pub returns-clause-len : goal.returns-clause-len
returns-clause-len c =
    let grown = length-append c.args.text.now.bytes (encode_utf8 c.args.letter) in
    omega (arith, four_bytes c.args.letter, ap length c.push.ensures.bytes, grown)
