-- The slots of the part are raised, and the others stay; a range that begins past its end raises none.
use Rattle.std.proofs.Common.{◌≡◌, ℕ, ◌+◌, ◌-◌, ◌<◌, ◌≤◌, List, ◌++◌, length, get_or, take, drop, ap, ◌∙◌, inl, inr, arith}
use borrow.Rule.Slice.PartMut.{mid_of, post_of, put_mid}
use Rattle.std.proofs.lemmas.Bool.{cases_lt}
use Rattle.std.proofs.lemmas.Bool.Decides.{nat_tests}
use Rattle.std.proofs.lemmas.List.{get_or-take, get_or-drop, get_or_append_left, get_or-append_right, length-take-le}
use Rattle.time_table_rule.proofs.usage.raise.Goals as goal

module _ (a k : ℕ) (xs ys : List ℕ) (fits : a + k ≤ length xs) (long : length ys ≡ k) where
  first : length (take a xs) ≡ a
  first = length-take-le a xs (omega arith)

  before : (t : ℕ) → t < a → get_or (put_mid a k xs ys) t 0 ≡ get_or xs t 0
  before t l = get_or_append_left (take a xs) (ys ++ post_of a k xs) 0 t (omega (arith, first)) ∙ get_or-take a xs t 0 l

  within : (t : ℕ) → a ≤ t → t < a + k → get_or (put_mid a k xs ys) t 0 ≡ get_or ys (t - a) 0
  within t low high =
      get_or-append_right (take a xs) (ys ++ post_of a k xs) a t 0 first low
      ∙ get_or_append_left ys (post_of a k xs) 0 (t - a) (omega arith)

  after : (t : ℕ) → a + k ≤ t → get_or (put_mid a k xs ys) t 0 ≡ get_or xs t 0
  after t low =
      let same : a + (k + ((t - a) - k)) ≡ t = omega arith in
      get_or-append_right (take a xs) (ys ++ post_of a k xs) a t 0 first (omega arith)
      ∙ get_or-append_right ys (post_of a k xs) k (t - a) 0 long (omega arith)
      ∙ get_or-drop k (drop a xs) ((t - a) - k) 0 ∙ get_or-drop a xs (k + ((t - a) - k)) 0 ∙ ap (λ n. get_or xs n 0) same

  part : (t : ℕ) → a ≤ t → t < a + k → get_or (mid_of a k xs) (t - a) 0 ≡ get_or xs t 0
  part t low high =
      let same : a + (t - a) ≡ t = omega arith in
      get_or-take k (drop a xs) (t - a) 0 (omega arith) ∙ get_or-drop a xs (t - a) 0 ∙ ap (λ n. get_or xs n 0) same

pub returns-after-loop-usage : goal.returns-after-loop-usage
returns-after-loop-usage c =
    let a = c.args.from in
    let k = c.args.to - c.args.from in
    let xs = c.args.line.now in
    let ys = c.loop-usage.usage-items in
    let fits : a + k ≤ length xs = omega arith in
    let long : length ys ≡ k = omega (arith, c.loop-usage.auto.usage-items) in
    λ t h. elim (cases_lt t a) [
      | inl l ↦ before a k xs ys fits long t l ∙ grind (arith, nat_tests)
      | inr l ↦ elim (cases_lt t (a + k)) [
        | inl m ↦
            let e = within a k xs ys fits long t l m in
            let p = part a k xs ys fits long t l m in
            let r = c.loop-usage.invariant (t - a) in
            let same : t - a < c.loop-usage.usage-index = omega arith in
            grind (arith, nat_tests)
        | inr m ↦ after a k xs ys fits long t m ∙ grind (arith, nat_tests)
      ]
    ]
