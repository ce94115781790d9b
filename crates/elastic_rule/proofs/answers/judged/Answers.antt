-- What a pass over the entries in order of release has found is true of the entries.
use Rattle.std.proofs.Common.{◌≡◌, ℕ, ◌-◌, ◌<◌, ◌≤◌, List, length, get_or, Some, None, sym, ap, ◌∙◌, subst, arith}
use Rattle.model.specs.declared.entries.Entry.{Entry}
use Rattle.model.specs.Sheets.{Sheet, Sound, count, entry, horizon}
use Rattle.model.specs.Energy.{Overfull, NowhereOverfull}
use Rattle.model.specs.Rules.{Named}
use Rattle.elastic.specs.Meaning.{meaning_E}
use Rattle.elastic.specs.Pushes.{PushedBy}
use Rattle.elastic.proofs.Pushed.{earliest_pushed, pushed_in_time}
use Rattle.sheet.specs.Entries.{sheet}
use Rattle.sheet.specs.Listed.{meant}
use Rattle.elastic_rule.specs.declared.passes.Pass.{Pass}
use Rattle.elastic_rule.specs.Orders.{ByRelease, Ordered, Arranged}
use Rattle.elastic_rule.specs.Passes.{Passed}
use Rattle.elastic_rule.proofs.Arranging.{same_overfull, same_pushed}
use Rattle.elastic_rule.proofs.Ordering.{somewhere}
use Rattle.elastic_rule.proofs.Tried.{tried_all}
use Rattle.elastic_rule.proofs.answers.judged.Goals as goal

-- each end lies from the duration to the horizon
abbrev Inside : Sheet → List ℕ → List ℕ → Type 0
Inside s order ends = (q : ℕ) → q < count s → ((entry s (get_or order q 0)).duration ≤ get_or ends q 0) × (get_or ends q 0 ≤ horizon)

-- each entry starts so that it ends there
abbrev Started : Sheet → List ℕ → List ℕ → List ℕ → Type 0
Started s order ends starts = (q : ℕ) → q < count s → get_or starts (get_or order q 0) 0 ≡ get_or ends q 0 - (entry s (get_or order q 0)).duration

module _ (capacity : ℕ) (entries : List Entry) (order : List ℕ) (rows : List Entry) (sorted : ByRelease entries (length entries) order)
    (arranged : Arranged entries order rows) (found : Pass) (passed : Passed (sheet capacity rows) (length rows) found) where
  abbrev s : Sheet
  s = sheet capacity entries

  named : Named (Overfull s) found.first
  named = same_overfull capacity entries order rows sorted arranged found.first (tried_all (sheet capacity rows) found.first passed.first)

  pushed : (q : ℕ) → q < count s → PushedBy s (get_or order q 0) (count s) (get_or found.ends q 0)
  pushed q l = same_pushed capacity entries order rows sorted arranged q l (get_or found.ends q 0) (passed.ends q (omega (arith, arranged.count)))

  module _ (sound : Sound s) (none : found.first ≡ None) where
    nowhere : NowhereOverfull s
    nowhere = subst (Named (Overfull s)) none named

    inside : Inside s order found.ends
    inside q l =
        let k = get_or order q 0 in
        let here = sorted.places.below q l in
        let in_time = pushed_in_time s sound nowhere k here (count s) (get_or found.ends q 0) (omega arith) (pushed q l) in
        (omega (arith, (pushed q l).low), omega (arith, sound.each k here))

    started : (starts : List ℕ) → Started s order found.ends starts → (k : ℕ) → k < count s → meaning_E.earliest s k ≡ Some (get_or starts k 0)
    started starts each k l =
        let (q, b, e) = somewhere (count s) order sorted.places k l in
        let here = earliest_pushed s (get_or order q 0) (get_or found.ends q 0) sound (sorted.places.below q b) nowhere (pushed q b) in
        subst (λ (i : ℕ). meaning_E.earliest s i ≡ Some (get_or starts i 0)) e (here ∙ ap Some (sym (each q b)))

-- the order is of the sheet's entries, and the entries that were passed are those, arranged
module _ (s s' : Sheet) (same : s' ≡ s) (order : List ℕ) where
  sorted_of : Ordered s'.entries order → ByRelease s.entries (length s.entries) order
  sorted_of ordered = let o : Ordered s.entries order = subst (λ (x : Sheet). Ordered x.entries order) same ordered in o.sorted

  lent : (rows rows' : List Entry) → rows' ≡ rows → Arranged s'.entries order rows → Arranged s.entries order rows'
  lent rows rows' e arranged = rw e (subst (λ (x : Sheet). Arranged x.entries order rows) same arranged)

pub starts-requires : goal.starts-requires
starts-requires c =
    let s = meant c.args.sheet in
    let s' = meant c.of-order.result.sheet in
    let same = c.of-order.ensures in
    let order = c.of-order.result.places.items in
    let rows = c.as_slice.result.now in
    let found = c.whole_pass-found.result in
    let passed = c.whole_pass-found.ensures in
    let inner =
    inside s.capacity s.entries order rows (sorted_of s s' same order c.of-order.result.ordered)
    (lent s s' same order _ rows c.as_slice.ensures.value c.arranged-rows.ensures) found passed c.args.sheet.sound c.in-None.is in
    (passed.places, subst (λ (x : Sheet). Inside x order found.ends) (sym same) inner)

pub returns-in-Some : goal.returns-in-Some
returns-in-Some c =
    let s = meant c.args.sheet in
    let s' = meant c.of-order.result.sheet in
    let same = c.of-order.ensures in
    let order = c.of-order.result.places.items in
    let rows = c.as_slice.result.now in
    subst (Named (Overfull s)) c.in-Some.is
    (
    named s.capacity s.entries order rows (sorted_of s s' same order c.of-order.result.ordered)
    (lent s s' same order _ rows c.as_slice.ensures.value c.arranged-rows.ensures) c.whole_pass-found.result c.whole_pass-found.ensures
    )

pub returns-in-None : goal.returns-in-None
returns-in-None c =
    let s = meant c.args.sheet in
    let s' = meant c.of-order.result.sheet in
    let same = c.of-order.ensures in
    let order = c.of-order.result.places.items in
    let rows = c.as_slice.result.now in
    let sorted = sorted_of s s' same order c.of-order.result.ordered in
    let arranged = lent s s' same order _ rows c.as_slice.ensures.value c.arranged-rows.ensures in
    let found = c.whole_pass-found.result in
    let passed = c.whole_pass-found.ensures in
    let starts = c.starts.result in
    let each : Started s order found.ends starts = subst (λ (x : Sheet). Started x order found.ends starts) same c.starts.ensures in (
      nowhere s.capacity s.entries order rows sorted arranged found passed c.args.sheet.sound c.in-None.is,
      started s.capacity s.entries order rows sorted arranged found passed c.args.sheet.sound c.in-None.is starts each,
    )
