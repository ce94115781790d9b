-- What the rule answers on the mirror serves as the second figure, and each window is written at its place.
use Rattle.std.proofs.Common.{◌≡◌, ◌<◌, length, slice_index, sym, ap, ◌∙◌, arith, length-set}
use Rattle.model.specs.declared.entries.Entry.{Entry}
use Rattle.model.specs.declared.windows.Window.{Window}
use Rattle.model.specs.Sheets.{count, mirror}
use Rattle.model.proofs.At.{at_some, at_none}
use Rattle.model.proofs.Filling.{fill_on}
use Rattle.model.proofs.Mirrors.{mirror_count, mirror_sound}
use Rattle.runs.specs.Applying.{figures}
use Rattle.sweep.specs.Windows.{no_window, window_between}
use Rattle.sweep.proofs.Figured.{back, start_small, figured}
use Rattle.sweep.proofs.figuring.all_figures.Goals as goal
use Rattle.sweep.proofs.figuring.all_figures.Goals.{in-Some, in_default}

pub between-requires : goal.between-requires
between-requires g c =
    let s = g.S.Sheet.meaning c.args.sheet.now in
    let sound = g.S.Sheet.limits c.args.sheet.now in
    let rule = g.R.Rule.means c.args.rule.now in
    let i = c.loop-place.place in
    let ends = c.earliest_all-mirrored_starts in
    let h = at_some s i c.in-Some.e (sym c.in-Some.ensures) in
    let good = sound.each i h.0 in
    let d = ap (λ (e : Entry). e.deadline) h.1 in
    let m : i < count (mirror s) = omega (arith, mirror_count s, h.0) in (
      omega arith,
      start_small rule (g.R.Rule.proper c.args.rule.now) (mirror s) (mirror_sound s sound) i (slice_index ends.result i) m
          (back rule s _ ends.result (ap g.S.Sheet.meaning c.of-mirror.ensures) ends.ensures i h.0),
    )

pub loop-place-preserved : goal.loop-place-preserved
loop-place-preserved g c =
    let s = g.S.Sheet.meaning c.args.sheet.now in
    let rule = g.R.Rule.means c.args.rule.now in
    let i = c.loop-place.place in
    let ends = c.earliest_all-mirrored_starts in
    let l : i < count s = omega arith in
    elim c.match-entry.branch [
      | in-Some w ↦
          let h = at_some s i w.in-Some.e (sym w.in-Some.ensures) in
          let inside : i < length c.loop-place.windows = omega (arith, (g.S.Sheet.limits c.args.sheet.now).few) in
          let b = back rule s _ ends.result (ap g.S.Sheet.meaning c.of-mirror.ensures) ends.ensures i l in
          let here =
          w.between.ensures
          ∙ ap (λ (e : Entry). window_between e (slice_index c.args.starts.now i) (slice_index ends.result i)) h.1
          ∙ figured rule s i (slice_index c.args.starts.now i) (slice_index ends.result i) l (c.requires i l) b in
          rw w.windows-is (
            omega (arith, length-set c.loop-place.windows i w.between.result),
            fill_on (λ k (v : Window). v ≡ figures rule s k) no_window c.loop-place.windows i w.between.result inside c.loop-place.invariant.1 here,
          )
      | in_default w ↦ absurd (omega (arith, l, at_none s i (sym w.in_default.ensures)))
    ]
