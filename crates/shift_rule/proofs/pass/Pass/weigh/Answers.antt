-- A candidate of negative slack may be the first; any other may raise starts.
use Rattle.std.proofs.Common.{◌≡◌, ◌-◌, ◌*◌, ◌≤◌, refl, length, arith}
use mathlib.Core.Logic.{∥∥₁_map}
use Rattle.model.specs.Sheets.{rows_max}
use Rattle.model.specs.Energy.{energy, Candidate, NegativeSlack}
use Rattle.shift_rule.specs.Passes.{sheet_in}
use Rattle.shift_rule.proofs.Gone.{gone_still}
use Rattle.shift_rule.proofs.Weighed.{released, whole, sooner_right, sooner_grows, wide_accounted, raised_right, raised_grows, raised_accounted}
use Rattle.shift_rule.proofs.pass.Pass.weigh.Goals as goal

pub invariant_of-self : goal.invariant_of-self
invariant_of-self c =
    let p = c.args.self.now in
    let s = sheet_in p in
    let t1 = c.args.t1 in
    let t2 = c.args.t2 in
    let candidate : Candidate s t1 t2 = c.requires.known.candidate c.requires.interval in
    let room : c.from.result * c.from-2.result ≡ s.capacity * (t2 - t1) = rw (c.from.ensures, c.from-2.ensures) refl in
    let over : NegativeSlack s t1 t2 = omega (arith, c.climbed-energy.ensures, c.requires.known.energies c.requires.interval.ordered) in
    let o = c.sooner-self.result in
    record {
      right = ∥∥₁_map p.right (λ r. sooner_right s p.found t1 t2 candidate o c.sooner-self.ensures over r);
      gone = ∥∥₁_map p.gone (λ g. gone_still s p.begun p.closed p.found _ (sooner_grows s p.found t1 t2 candidate o c.sooner-self.ensures over) g);
    }

pub raise-requires-clause-released : goal.raise-requires-clause-released
raise-requires-clause-released c =
    let p = c.args.self.now in
    released (sheet_in p) p.found p.right

pub invariant_of-self-then-room-energy-2 : goal.invariant_of-self-then-room-energy-2
invariant_of-self-then-room-energy-2 c =
    let p = c.args.self.now in
    let s = sheet_in p in
    let t1 = c.args.t1 in
    let t2 = c.args.t2 in
    let candidate : Candidate s t1 t2 = c.requires.known.candidate c.requires.interval in
    let energies = c.requires.known.energies c.requires.interval.ordered in
    let room : c.from.result * c.from-2.result ≡ s.capacity * (t2 - t1) = rw (c.from.ensures, c.from-2.ensures) refl in
    let slack = c.from.result * c.from-2.result - c.climbed-energy.result in
    let under : energy s t1 t2 ≤ s.capacity * (t2 - t1) = omega (arith, c.climbed-energy.ensures) in
    let is : slack ≡ s.capacity * (t2 - t1) - energy s t1 t2 = omega (arith, c.climbed-energy.ensures) in
    let many : length c.raise.new.starts ≡ rows_max = omega (arith, whole s p.found p.right) in
    record {
      right = ∥∥₁_map p.right (λ r. raised_right s p.found t1 t2 candidate slack under is c.raise.new.starts many c.raise.ensures r);
      gone = ∥∥₁_map p.gone (λ g. gone_still s p.begun p.closed p.found _ (raised_grows s p.found t1 t2 candidate slack under is c.raise.new.starts many c.raise.ensures) g);
    }

pub returns-then-room-energy-2-clause-accounted : goal.returns-then-room-energy-2-clause-accounted
returns-then-room-energy-2-clause-accounted c =
    let p = c.args.self.now in
    let s = sheet_in p in
    let t1 = c.args.t1 in
    let t2 = c.args.t2 in
    let candidate : Candidate s t1 t2 = c.requires.known.candidate c.requires.interval in
    let energies = c.requires.known.energies c.requires.interval.ordered in
    let room : c.from.result * c.from-2.result ≡ s.capacity * (t2 - t1) = rw (c.from.ensures, c.from-2.ensures) refl in
    let slack = c.from.result * c.from-2.result - c.climbed-energy.result in
    let under : energy s t1 t2 ≤ s.capacity * (t2 - t1) = omega (arith, c.climbed-energy.ensures) in
    let is : slack ≡ s.capacity * (t2 - t1) - energy s t1 t2 = omega (arith, c.climbed-energy.ensures) in
    let many : length c.raise.new.starts ≡ rows_max = omega (arith, whole s p.found p.right) in
    raised_accounted s p.found t1 t2 candidate slack under is c.raise.new.starts many c.raise.ensures

pub returns-else-room-energy-2-clause-accounted : goal.returns-else-room-energy-2-clause-accounted
returns-else-room-energy-2-clause-accounted c =
    let p = c.args.self.now in
    let s = sheet_in p in
    let t1 = c.args.t1 in
    let t2 = c.args.t2 in
    let energies = c.requires.known.energies c.requires.interval.ordered in
    let room : c.from.result * c.from-2.result ≡ s.capacity * (t2 - t1) = rw (c.from.ensures, c.from-2.ensures) refl in
    let slack = c.from.result * c.from-2.result - c.climbed-energy.result in
    let under : energy s t1 t2 ≤ s.capacity * (t2 - t1) = omega (arith, c.climbed-energy.ensures) in
    let is : slack ≡ s.capacity * (t2 - t1) - energy s t1 t2 = omega (arith, c.climbed-energy.ensures) in
    wide_accounted s p.found t1 t2 (c.requires.known.candidate c.requires.interval) slack under is p.subject.now.movers.sheet.sound
    (released s p.found p.right) c.args.reach c.requires.known.enough (omega arith)
