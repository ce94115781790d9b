-- The highest level so far pushes an entry, and its own level tells whether its release opens an overfull interval.
use Rattle.std.proofs.Common.{◌≡◌, ◌+◌, ◌<◌, ◌≢◌, length, sym, ◌∙◌, subst, arith, length-set}
use Rattle.std.proofs.lemmas.List.{get_or-set_other}
use Rattle.model.specs.Sheets.{count, entry}
use Rattle.model.proofs.Filling.{fill_more}
use Rattle.elastic.specs.Pushes.{PushedBy}
use Rattle.sheet.specs.Listed.{meant}
use Rattle.elastic_rule.proofs.Positions.{highest_more, fullest}
use Rattle.elastic_rule.proofs.Tried.{tried_turn}
use Rattle.elastic_rule.proofs.queues.Queue.add_deadline.Goals as goal

pub pushed-requires : goal.pushed-requires
pushed-requires c =
    let s = meant c.args.self.now.sheet in
    let j = c.args.j in
    let k = c.loop-k.k in
    let rising = c.args.self.now.rising in
    let (there, passed) = c.requires in
    let inv = c.loop-k.invariant in
    let here : k < count s = omega arith in
    let levels = c.levels-levels.result in
    let top = c.max-highest.result in
    let level = highest_more levels k c.loop-k.highest top inv.level c.max-highest.ensures in (
      here,
      ((there, (fullest s (entry s j).deadline rising levels c.levels-levels.ensures k top here level, subst (PushedBy s k j) (sym (inv.others k (omega arith))) (passed.ends k here)))),
    )

pub loop-k-preserved : goal.loop-k-preserved
loop-k-preserved c =
    let s = meant c.args.self.now.sheet in
    let k = c.loop-k.k in
    let xs = c.loop-k.found.ends in
    let end = c.pushed.result in
    let sound = c.args.self.now.sheet.sound in
    let inv = c.loop-k.invariant in
    let lt : k < length xs = omega (arith, sound.few, inv.places) in
    record {
      places = omega (arith, length-set xs k end, inv.places);
      first = c.tried-found.ensures;
      level = highest_more c.levels-levels.result k c.loop-k.highest c.max-highest.result inv.level c.max-highest.ensures;
      ends = fill_more (λ i e. PushedBy s i (c.args.j + 1) e) xs k end lt inv.ends c.pushed.ensures;
      others = λ m l. let ne : m ≢ k = omega arith in get_or-set_other xs k m end 0 ne ∙ inv.others m (omega arith);
    }

pub returns : goal.returns
returns c =
    let s = meant c.args.self.now.sheet in
    let inv = c.loop-k.invariant in
    let all : c.loop-k.k ≡ count s = omega arith in
    record {
      places = inv.places;
      first = tried_turn s c.args.j c.loop-k.found.first (rw all at inv.first);
      ends = λ m l. inv.ends m (omega arith);
    }
