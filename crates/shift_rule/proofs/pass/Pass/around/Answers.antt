-- Three starts and three ends, one after the other.
use Rattle.std.proofs.Common.{◌+◌, ◌-◌, get_or, refl, inl, inr}
use Rattle.model.specs.Sheets.{entry}
use Rattle.shift_rule.specs.Leeways.{no_reach}
use Rattle.shift_rule.specs.Found.{Accounted, AccountedFrom, AccountedTo, TheEnd}
use Rattle.shift_rule.specs.Passes.{sheet_in}
use Rattle.shift_rule.proofs.Onward.{then, onto, back, grown, from_still, to_still}
use Rattle.shift_rule.proofs.Made.{from_points}
use Rattle.shift_rule.proofs.pass.Pass.around.Goals as goal

pub close-requires : goal.close-requires
close-requires c =
    let p = c.args.self.now in
    let s = sheet_in p in
    let a = entry s c.args.place in
    let reach = get_or p.subject.now.reaches c.args.place no_reach in
    let known = p.subject.now.known.around c.args.place c.requires in
    let v1 = c.begin.new.self in
    let v2 = c.begin-2.new.self in
    let v3 = c.begin-3.new.self in
    let on1 = c.begin.ensures.onward in
    let on2 = then p v1 v2 on1 c.begin-2.ensures.onward in
    let on3 = then p v2 v3 on2 c.begin-3.ensures.onward in
    onto p v3 (λ z. TheEnd z a.deadline reach.deadline) on3 (record { enough = known.deadline; point = (c.args.place, c.requires, inl refl) })

pub close-requires-2 : goal.close-requires-2
close-requires-2 c =
    let p = c.args.self.now in
    let s = sheet_in p in
    let a = entry s c.args.place in
    let reach = get_or p.subject.now.reaches c.args.place no_reach in
    let known = p.subject.now.known.around c.args.place c.requires in
    let v1 = c.begin.new.self in
    let v2 = c.begin-2.new.self in
    let v3 = c.begin-3.new.self in
    let on1 = c.begin.ensures.onward in
    let on2 = then p v1 v2 on1 c.begin-2.ensures.onward in
    let on3 = then p v2 v3 on2 c.begin-3.ensures.onward in
    let v4 = c.close.new.self in
    let on4 = then p v3 v4 on3 c.close.ensures.onward in
    onto p v4 (λ z. TheEnd z (a.release + a.duration) reach.early_end) on4
    (record { enough = known.early_end; point = (c.args.place, c.requires, inr (inl refl)) })

pub close-requires-3 : goal.close-requires-3
close-requires-3 c =
    let p = c.args.self.now in
    let s = sheet_in p in
    let a = entry s c.args.place in
    let reach = get_or p.subject.now.reaches c.args.place no_reach in
    let known = p.subject.now.known.around c.args.place c.requires in
    let v1 = c.begin.new.self in
    let v2 = c.begin-2.new.self in
    let v3 = c.begin-3.new.self in
    let on1 = c.begin.ensures.onward in
    let on2 = then p v1 v2 on1 c.begin-2.ensures.onward in
    let on3 = then p v2 v3 on2 c.begin-3.ensures.onward in
    let v4 = c.close.new.self in
    let on4 = then p v3 v4 on3 c.close.ensures.onward in
    let v5 = c.close-2.new.self in
    let on5 = then p v4 v5 on4 c.close-2.ensures.onward in
    onto p v5 (λ z. TheEnd z (a.deadline - a.duration) reach.late_start) on5
    (record { enough = known.late_start; point = (c.args.place, c.requires, inr (inr refl)) })

pub returns : goal.returns
returns c =
    let p = c.args.self.now in
    let s = sheet_in p in
    let a = entry s c.args.place in
    let early = a.release + a.duration in
    let late = a.deadline - a.duration in
    let v1 = c.begin.new.self in
    let v2 = c.begin-2.new.self in
    let v3 = c.begin-3.new.self in
    let on1 = c.begin.ensures.onward in
    let on2 = then p v1 v2 on1 c.begin-2.ensures.onward in
    let on3 = then p v2 v3 on2 c.begin-3.ensures.onward in
    let v4 = c.close.new.self in
    let on4 = then p v3 v4 on3 c.close.ensures.onward in
    let v5 = c.close-2.new.self in
    let on5 = then p v4 v5 on4 c.close-2.ensures.onward in
    let v6 = c.close-3.new.self in
    let on56 = c.close-3.ensures.onward in
    let on46 = then v4 v5 v6 c.close-2.ensures.onward on56 in
    let on36 = then v3 v4 v6 c.close.ensures.onward on46 in
    let on26 = then v2 v3 v6 c.begin-3.ensures.onward on36 in
    let on16 = then v1 v2 v6 c.begin-2.ensures.onward on26 in
    let first = c.begin.ensures.accounted in
    let second = back p v1 (λ z. AccountedFrom z v2.found late) on1 c.begin-2.ensures.accounted in
    let third = back p v2 (λ z. AccountedFrom z v3.found early) on2 c.begin-3.ensures.accounted in
    let fourth = back p v3 (λ z. AccountedTo z v4.found a.deadline) on3 c.close.ensures.accounted in
    let fifth = back p v4 (λ z. AccountedTo z v5.found early) on4 c.close-2.ensures.accounted in
    let sixth = back p v5 (λ z. AccountedTo z v6.found late) on5 c.close-3.ensures.accounted in
    record {
      onward = then p v1 v6 on1 on16;
      accounted = λ j l.
          from_points (λ i. Accounted s v6.found i.t1 i.t2) a (entry s j)
          (from_still s v1.found v6.found (grown p v1 v6 on1 on16) a.release first j l)
          (from_still s v2.found v6.found (grown p v2 v6 on2 on26) late second j l)
          (from_still s v3.found v6.found (grown p v3 v6 on3 on36) early third j l)
          (to_still s v4.found v6.found (grown p v4 v6 on4 on46) a.deadline fourth j l)
          (to_still s v5.found v6.found (grown p v5 v6 on5 on56) early fifth j l)
          (sixth j l);
    }
