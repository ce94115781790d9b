-- The sum of what ends by t2 is the work inside.
use Rattle.std.proofs.Common.{◌≡◌, ◌<◌, rules, sym, arith}
use Rattle.std.specs.List.{sum_by}
use Rattle.model.specs.Sheets.{blank}
use Rattle.model.specs.Energy.{work_inside, work_in}
use Rattle.model.proofs.Bounds.{work_in_small}
use Rattle.sheet.specs.Listed.{meant}
use Rattle.elastic_rule.proofs.Ordering.{total_sum}
use Rattle.elastic_rule.proofs.queues.Queue.all_work_by.Goals as goal

pub sum-requires-clause-fits : goal.sum-requires-clause-fits
sum-requires-clause-fits c =
    let s = meant c.args.self.now.sheet in
    let is : sum_by (work_inside 0 c.args.t2) s.entries ≡ work_in s 0 c.args.t2 = sym (total_sum (work_inside 0 c.args.t2) blank s.entries) in
    let fits : sum_by (work_inside 0 c.args.t2) s.entries < 4294967296 = omega (arith, work_in_small s c.args.self.now.sheet.sound 0 c.args.t2) in
    search rules

pub returns : goal.returns
returns c =
    let s = meant c.args.self.now.sheet in
    let is : sum_by (work_inside 0 c.args.t2) s.entries ≡ work_in s 0 c.args.t2 = sym (total_sum (work_inside 0 c.args.t2) blank s.entries) in
    search rules
