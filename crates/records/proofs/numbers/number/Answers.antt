use Rattle.std.proofs.Common.{◌≡◌, ℕ, ◌+◌, ◌*◌, ◌%◌, ◌^◌, ◌<◌, min, List, length, get_or, take, Ok, sym, refl, ap, ◌∙◌, add-one, arith}
use Rattle.std.proofs.lemmas.List.{length-take, get_or-take}
use native.Mathlib.Nat.{pow-succ'}
use Rattle.records.specs.Numbers.{value_of, announcing, number_at}
use Rattle.records.proofs.Groups.{announcing_le, announcing_more, announcing_here, value_more, small_weight, group_below, number_long, number_ends, number_whole}
use Rattle.records.proofs.numbers.number.Goals as goal

-- A byte of the front is one of the input, and one of the groups that a number may have.
in_front : (n m i : ℕ) (s : List ℕ) → m ≡ min n (length s) → i < length (take m s) →
    record { due : i < n; inside : i < length s; same : get_or (take m s) i 0 ≡ get_or s i 0 }
in_front n m i s e l =
    let t = length-take m s in record { due = omega arith; inside = omega arith; same = get_or-take m s i 0 (omega arith) }

pub loop-i-init : goal.loop-i-init
unfolding value_of
loop-i-init c = record { announced = omega arith; read = refl; next = refl; below = omega arith }

pub overflow_mul-value : goal.overflow_mul-value
overflow_mul-value c =
    let f = in_front _ _ _ _ c.min.ensures c.loop-i-test.true in
    let w = small_weight c.loop-i.i (omega arith) in
    let b = group_below _ _ _ _ c.from.ensures c.loop-i.invariant.below in
    omega arith

pub overflow_add-value : goal.overflow_add-value
overflow_add-value c =
    let f = in_front _ _ _ _ c.min.ensures c.loop-i-test.true in
    let w = small_weight c.loop-i.i (omega arith) in
    let b = group_below _ _ _ _ c.from.ensures c.loop-i.invariant.below in
    omega arith

pub returns-then-byte-lt128 : goal.returns-then-byte-lt128
returns-then-byte-lt128 c =
    let s = c.args.input.now in
    let i = c.loop-i.i in
    let f = in_front _ _ _ _ c.min.ensures c.loop-i-test.true in
    let a : announcing s ≡ i = announcing_here s i c.loop-i.invariant.announced f.inside (rw f.same at c.if-byte-lt128.true) in
    let byte : c.from.result ≡ get_or s i 0 % 128 = c.from.ensures ∙ ap (λ b. b % 128) f.same in
    let v : value_of (take (i + 1) s) ≡ c.loop-i.value + c.from.result * c.loop-i.weight =
    value_more s i f.inside ∙ rw (c.loop-i.invariant.read, c.loop-i.invariant.next, byte) refl in
    let e : number_at c.args.groups s ≡ Ok (value_of (take (announcing s + 1) s), announcing s + 1) = number_whole c.args.groups s (omega arith) (omega arith) in
    cc

pub overflow_mul-weight : goal.overflow_mul-weight
overflow_mul-weight c =
    let f = in_front _ _ _ _ c.min.ensures c.loop-i-test.true in
    let w = small_weight c.loop-i.i (omega arith) in
    omega arith

pub loop-i-preserved : goal.loop-i-preserved
loop-i-preserved c =
    let s = c.args.input.now in
    let i = c.loop-i.i in
    let f = in_front _ _ _ _ c.min.ensures c.loop-i-test.true in
    let w : c.loop-i.weight ≡ 128 ^ i = c.loop-i.invariant.next in
    let b = group_below _ _ _ _ c.from.ensures c.loop-i.invariant.below in
    let byte : c.from.result ≡ get_or s i 0 % 128 = c.from.ensures ∙ ap (λ b. b % 128) f.same in
    let p : 128 ^ (i + 1) ≡ 128 * 128 ^ i = ap (λ k. 128 ^ k) (add-one i) ∙ pow-succ' 128 i in
    record {
      announced = announcing_more s i c.loop-i.invariant.announced f.inside (rw f.same at c.if-byte-lt128.false);
      read = rw (c.loop-i.invariant.read, w, byte) (sym (value_more s i f.inside));
      next = omega arith;
      below = omega arith;
    }

pub returns-then-input-groups : goal.returns-then-input-groups
returns-then-input-groups c =
    let s = c.args.input.now in
    let t = length-take c.min.result s in
    let m = c.min.ensures in
    let a = announcing_le s in
    sym (number_ends c.args.groups s (omega arith) (omega arith))

pub returns-else-input-groups : goal.returns-else-input-groups
returns-else-input-groups c =
    let s = c.args.input.now in
    let t = length-take c.min.result s in
    let m = c.min.ensures in
    sym (number_long c.args.groups s (omega arith))
