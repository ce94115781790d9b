-- A board with the windows that the figures of a lawful rule leave.
use Rattle.std.proofs.Common.{◌≡◌, ℕ, ◌+◌, ◌<◌, ◌≤◌, length, sym, ap, ◌∙◌, subst, arith}
use Rattle.model.specs.declared.entries.Entry.{Entry}
use Rattle.model.specs.declared.rows.Row.{Row}
use Rattle.model.specs.declared.windows.Window.{Window}
use Rattle.model.specs.Changes.{narrowed}
use Rattle.model.specs.Limits.{row_at, Named, Sized, Windowed, SoundRows}
use Rattle.model.specs.Rules.{Meaning, Lawful}
use Rattle.model.specs.Sheets.{Placement, count, entry}
use Rattle.model.proofs.Mirrors.{SameTasks, placed_in}
use Rattle.model.proofs.Same.{same_sheets}
use Rattle.board.specs.Calls.{Bookings, SoundBookings}
use Rattle.runs.specs.Applying.{in_window, as_entered, at_present, figures, NoneShort, Writes}
use Rattle.runs.proofs.Boards.{entered_count, entered_at, present_count, present_at, present_sound, same_boards}
use Rattle.runs.proofs.RuleFigures.{figures_hold, figures_inside}

-- what is written is one board only
pub writes_unique : (w : ℕ → Window) (b c d : Bookings) → Writes w b c → Writes w b d → c ≡ d
writes_unique w b c d x y =
    same_boards c d (x.capacity ∙ sym y.capacity) (x.places ∙ sym y.places)
    (λ k l. let l' : k < length b.rows = omega (arith, x.places) in x.each k l' ∙ sym (y.each k l'))

-- where every window is the one that is there, the board stays
pub writes_nothing : (w : ℕ → Window) (b c : Bookings) → Writes w b c → ((k : ℕ) → k < length b.rows → w k ≡ (row_at b.rows k).present) → c ≡ b
writes_nothing w b c x same =
    same_boards c b x.capacity x.places
    (λ k l. let l' : k < length b.rows = omega (arith, x.places) in
    x.each k l' ∙ ap (λ (v : Window). narrowed v (row_at b.rows k)) (same k l'))

-- A window for a row, no wider than the present one, with room for its duration.
pub record Inside (row : Row) (w : Window) : Type 0 where
  pub later : row.present.release ≤ w.release
  pub sooner : w.deadline ≤ row.present.deadline
  pub room : w.release + row.duration ≤ w.deadline

module _ (rule : Meaning) (b : Bookings) (sound : SoundBookings b) where
  pub insides : NoneShort rule b → (k : ℕ) → k < length b.rows → Inside (row_at b.rows k) (figures rule (at_present b) k)
  insides wide k l =
      let l' : k < count (at_present b) = rw (present_count b) l in
      let i = figures_inside rule (at_present b) (present_sound b sound) k l' in
      let long = wide k l in
      let r = ap (λ (e : Entry). e.release) (present_at b k l) in
      let d = ap (λ (e : Entry). e.deadline) (present_at b k l) in
      let p = ap (λ (e : Entry). e.duration) (present_at b k l) in
      record { later = omega arith; sooner = omega arith; room = omega arith }

module _ (rule : Meaning) (b : Bookings) (sound : SoundBookings b) (c : Bookings) (w : Writes (figures rule (at_present b)) b c) where
  back : (k : ℕ) → k < length c.rows → k < length b.rows
  back k l = omega (arith, w.places)

  -- the rows stay within the limits
  pub narrowed_rows : NoneShort rule b → SoundRows b.capacity c.rows
  narrowed_rows wide =
      record {
        named = λ k l. subst Named (sym (w.each k (back k l))) (sound.sound.named k (back k l));
        sized = λ k l. subst (Sized b.capacity) (sym (w.each k (back k l))) (sound.sound.sized k (back k l));
        windowed = λ k l.
            let i = insides rule b sound wide k (back k l) in
            let was = sound.sound.windowed k (back k l) in
            subst Windowed (sym (w.each k (back k l))) (i.room, omega arith, omega arith, was.3);
        apart = λ j k o l e.
            sound.sound.apart j k o (back k l)
            (sym (ap (λ (x : Row). x.pair) (w.each j (omega (arith, back k l)))) ∙ e ∙ ap (λ (x : Row). x.pair) (w.each k (back k l)));
      }

  pub narrowed_sound : NoneShort rule b → SoundBookings c
  narrowed_sound wide =
      record {
        some_capacity = omega (arith, w.capacity, sound.some_capacity);
        small_capacity = omega (arith, w.capacity, sound.small_capacity);
        few = omega (arith, w.places, sound.few);
        sound = rw w.capacity (narrowed_rows wide);
      }

  -- the windows as entered stay
  pub narrowed_entered : as_entered c ≡ as_entered b
  narrowed_entered =
      same_sheets (as_entered c) (as_entered b) w.capacity (entered_count c ∙ w.places ∙ sym (entered_count b))
      (λ k l.
      let l1 : k < length c.rows = rw (← entered_count c) l in
      entered_at c k l1 ∙ ap (λ (row : Row). in_window row row.entered) (w.each k (back k l1)) ∙ sym (entered_at b k (back k l1)))

  pub narrowed_at : (k : ℕ) → k < length b.rows → entry (at_present c) k ≡ in_window (row_at b.rows k) (figures rule (at_present b) k)
  narrowed_at k l =
      present_at c k (rw w.places l) ∙ ap (λ (row : Row). in_window row row.present) (w.each k l)

  narrowed_tasks : SameTasks (at_present b) (at_present c)
  narrowed_tasks =
      record {
        capacity = w.capacity;
        places = present_count c ∙ w.places ∙ sym (present_count b);
        duration = λ k l. let l' : k < length b.rows = rw (← present_count b) l in
            ap (λ (e : Entry). e.duration) (narrowed_at k l') ∙ sym (ap (λ (e : Entry). e.duration) (present_at b k l'));
        demand = λ k l. let l' : k < length b.rows = rw (← present_count b) l in
            ap (λ (e : Entry). e.demand) (narrowed_at k l') ∙ sym (ap (λ (e : Entry). e.demand) (present_at b k l'));
      }

  -- no placement is lost
  pub narrowed_placed : Lawful rule → (start : ℕ → ℕ) → Placement (at_present b) start → Placement (at_present c) start
  narrowed_placed law start p =
      placed_in (at_present b) (at_present c) start narrowed_tasks p
      (λ k l. let l' : k < length b.rows = rw (← present_count b) l in
      rw (narrowed_at k l') (figures_hold rule law (at_present b) (present_sound b sound) start p k l).0)
      (λ k l. let l' : k < length b.rows = rw (← present_count b) l in
      rw (narrowed_at k l') (figures_hold rule law (at_present b) (present_sound b sound) start p k l).1)
