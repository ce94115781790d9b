-- Four intervals, one after the other.
use Rattle.std.proofs.Common.{ℕ, ◌+◌, ◌-◌, get_or, refl, subst}
use Rattle.model.specs.Sheets.{entry}
use Rattle.shift.proofs.Listed.{start_made}
use Rattle.shift_rule.specs.Leeways.{no_reach}
use Rattle.shift_rule.specs.Found.{Accounted}
use Rattle.shift_rule.specs.Passes.{sheet_in, Told}
use Rattle.shift_rule.proofs.Onward.{then, onto, back, kept}
use Rattle.shift_rule.proofs.sides.StartSide.account.Goals as goal

pub visit-requires : goal.visit-requires
visit-requires c =
    record {
      enough = (c.args.pass.now.subject.now.known.around c.args.place c.requires.place).deadline;
      energies = λ l. c.requires.energies _ _ refl l;
      candidate = (start_made (sheet_in c.args.pass.now) c.args.self.now.at c.requires.fits c.args.place c.requires.place).0;
    }

pub visit_other-requires : goal.visit_other-requires
visit_other-requires c =
    let p = c.args.pass.now in
    let e = entry (sheet_in p) c.args.place in
    let t1 = c.args.self.now.at in
    let v1 = c.visit.new.self in
    let on1 = c.visit.ensures.onward in
    record {
      known = onto p v1 (λ s. Told s c.args.ramps.now.slopes (get_or p.subject.now.reaches c.args.place no_reach).early_end t1 (e.release + e.duration)) on1 (record {
        enough = (p.subject.now.known.around c.args.place c.requires.place).early_end;
        energies = λ l. c.requires.energies _ _ refl l;
        candidate = (start_made (sheet_in c.args.pass.now) c.args.self.now.at c.requires.fits c.args.place c.requires.place).1.0;
      });
      seen = onto p v1 (λ s. Accounted s v1.found t1 e.deadline) on1 c.visit.ensures.accounted;
    }

pub visit-requires-2 : goal.visit-requires-2
visit-requires-2 c =
    let p = c.args.pass.now in
    let e = entry (sheet_in p) c.args.place in
    let v1 = c.visit.new.self in
    let v2 = c.visit_other.new.self in
    let on2 = then p v1 v2 c.visit.ensures.onward c.visit_other.ensures.onward in
    onto p v2 (λ s. Told s c.args.ramps.now.slopes (get_or p.subject.now.reaches c.args.place no_reach).late_start c.args.self.now.at (e.deadline - e.duration)) on2 (record {
      enough = (p.subject.now.known.around c.args.place c.requires.place).late_start;
      energies = λ l. c.requires.energies _ _ refl l;
      candidate = (start_made (sheet_in c.args.pass.now) c.args.self.now.at c.requires.fits c.args.place c.requires.place).1.1.0;
    })

pub returns : goal.returns
returns c =
    let p = c.args.pass.now in
    let s = sheet_in p in
    let e = entry s c.args.place in
    let t1 = c.args.self.now.at in
    let t4 = c.opposite-last.result in
    let v1 = c.visit.new.self in
    let v2 = c.visit_other.new.self in
    let v3 = c.visit-2.new.self in
    let v4 = c.visit-3.new.self in
    let on1 = c.visit.ensures.onward in
    let on2 = then p v1 v2 on1 c.visit_other.ensures.onward in
    let on3 = then p v2 v3 on2 c.visit-2.ensures.onward in
    let on34 = c.visit-3.ensures.onward in
    let on24 = then v2 v3 v4 c.visit-2.ensures.onward on34 in
    let on14 = then v1 v2 v4 c.visit_other.ensures.onward on24 in
    let second = back p v1 (λ z. Accounted z v2.found t1 (e.release + e.duration)) on1 c.visit_other.ensures.accounted in
    let third = back p v2 (λ z. Accounted z v3.found t1 (e.deadline - e.duration)) on2 c.visit-2.ensures.accounted in
    let fourth = back p v3 (λ z. Accounted z v4.found t1 t4) on3 c.visit-3.ensures.accounted in
    record {
      onward = then p v1 v4 on1 on14;
      accounted = (
        kept p v1 v4 on1 on14 t1 e.deadline c.visit.ensures.accounted,
        (
          kept p v2 v4 on2 on24 t1 (e.release + e.duration) second,
          (
            kept p v3 v4 on3 on34 t1 (e.deadline - e.duration) third,
            (subst (λ (t : ℕ). Accounted s v4.found t1 t) c.opposite-last.ensures fourth, tt),
          ),
        ),
      );
    }
