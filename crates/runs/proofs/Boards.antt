-- The two sheets of a board, place by place.
use Rattle.std.proofs.Common.{◌≡◌, ℕ, ◌<◌, length, sym, refl, ◌∙◌, arith}
use Rattle.std.proofs.lemmas.List.{length-map, get_or-map, same_lists, get_or_default}
use Rattle.model.specs.Limits.{row_at, no_row}
use Rattle.model.specs.Sheets.{Sound, Placement, count, entry, blank}
use Rattle.model.proofs.Mirrors.{SameTasks, placed_in}
use Rattle.board.specs.Calls.{Bookings, SoundBookings}
use Rattle.runs.specs.Applying.{in_window, entered_entries, present_entries, as_entered, at_present}

module _ (b : Bookings) where
  pub entered_count : count (as_entered b) ≡ length b.rows
  unfolding entered_entries
  entered_count = length-map b.rows (λ row. in_window row row.entered)

  pub present_count : count (at_present b) ≡ length b.rows
  unfolding present_entries
  present_count = length-map b.rows (λ row. in_window row row.present)

  pub entered_at : (k : ℕ) → k < length b.rows → entry (as_entered b) k ≡ in_window (row_at b.rows k) (row_at b.rows k).entered
  unfolding entered_entries
  entered_at k l = get_or-map (λ row. in_window row row.entered) b.rows k no_row blank l

  pub present_at : (k : ℕ) → k < length b.rows → entry (at_present b) k ≡ in_window (row_at b.rows k) (row_at b.rows k).present
  unfolding present_entries
  present_at k l = get_or-map (λ row. in_window row row.present) b.rows k no_row blank l

  pub tasks_entered : SameTasks (at_present b) (as_entered b)
  tasks_entered =
      record {
        capacity = refl;
        places = entered_count ∙ sym present_count;
        duration = λ k l. let l' : k < length b.rows = rw (← present_count) l in rw (entered_at k l', present_at k l') refl;
        demand = λ k l. let l' : k < length b.rows = rw (← present_count) l in rw (entered_at k l', present_at k l') refl;
      }

  pub tasks_present : SameTasks (as_entered b) (at_present b)
  tasks_present =
      record {
        capacity = refl;
        places = present_count ∙ sym entered_count;
        duration = λ k l. let l' : k < length b.rows = rw (← entered_count) l in rw (entered_at k l', present_at k l') refl;
        demand = λ k l. let l' : k < length b.rows = rw (← entered_count) l in rw (entered_at k l', present_at k l') refl;
      }

module _ (b : Bookings) (sound : SoundBookings b) where
  pub present_sound : Sound (at_present b)
  present_sound =
      record {
        some_capacity = sound.some_capacity;
        small_capacity = sound.small_capacity;
        few = omega (arith, present_count b, sound.few);
        each = λ k l.
            let l' : k < length b.rows = rw (← present_count b) l in
            let size = sound.sound.sized k l' in
            let window = sound.sound.windowed k l' in
            rw (present_at b k l') (omega arith);
      }

  -- a placement of the present windows is one of the windows as entered
  pub widen : (start : ℕ → ℕ) → Placement (at_present b) start → Placement (as_entered b) start
  widen start p =
      placed_in (at_present b) (as_entered b) start (tasks_entered b) p
      (λ k l. let l' : k < length b.rows = rw (← present_count b) l in
      let q = rw (present_at b k l') at (p.released k l) in
      let window = sound.sound.windowed k l' in
      rw (entered_at b k l') (omega arith))
      (λ k l. let l' : k < length b.rows = rw (← present_count b) l in
      let q = rw (present_at b k l') at (p.in_time k l) in
      let window = sound.sound.windowed k l' in
      rw (entered_at b k l', present_at b k l') (omega arith))

-- boards with the same capacity and the same rows are the same
pub same_boards : (b c : Bookings) → b.capacity ≡ c.capacity → length b.rows ≡ length c.rows →
    ((k : ℕ) → k < length b.rows → row_at b.rows k ≡ row_at c.rows k) → b ≡ c
same_boards b c e n each =
    let rows : b.rows ≡ c.rows =
    same_lists b.rows c.rows n
    (λ k d l. get_or_default b.rows k d no_row l ∙ each k l ∙ get_or_default c.rows k no_row d (omega arith)) in
    λ z. record { capacity = e z; rows = rows z }
