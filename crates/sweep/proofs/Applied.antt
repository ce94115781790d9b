-- From the windows that the code has found to what apply is.
use Rattle.std.proofs.Common.{◌≡◌, ℕ, ◌<◌, List, length, None, sym, ap, ◌∙◌, subst, arith}
use Rattle.model.specs.declared.entries.Entry.{Entry}
use Rattle.model.specs.declared.rows.Row.{Row}
use Rattle.model.specs.declared.windows.Window.{Window}
use Rattle.model.specs.Changes.{narrowed}
use Rattle.model.specs.Limits.{row_at}
use Rattle.model.specs.Rules.{Meaning}
use Rattle.model.specs.Sheets.{count}
use Rattle.board.specs.declared.answers.Effect.TheVariants.{Squeezed, Narrowed, Quiet}
use Rattle.board.specs.Calls.{Bookings, SoundBookings, FitsIn}
use Rattle.runs.specs.Applying.{at_present, figures, Short, Writes, Applies, squeezes, narrows, rests}
use Rattle.runs.proofs.Boards.{present_count, present_at}
use Rattle.runs.proofs.Narrowing.{insides}
use Rattle.sweep.specs.Windows.{window_at, TooShort}

-- The code asks the sheet of what it holds; that is what the board holds, and so are the rows.
module _ (rule : Meaning) (b d : Bookings) (held : d ≡ b) (ws : List Window)
    (found : (k : ℕ) → k < count (at_present d) → window_at ws k ≡ figures rule (at_present d) k) where
  pub figure_at : (k : ℕ) → k < length b.rows → window_at ws k ≡ figures rule (at_present b) k
  figure_at =
      subst (λ (x : Bookings). (k : ℕ) → k < length x.rows → window_at ws k ≡ figures rule (at_present x) k) held
      (λ k l. found k (omega (arith, present_count d)))

  none_on_board : rule.evidence (at_present d) ≡ None → rule.evidence (at_present b) ≡ None
  none_on_board = subst (λ (x : Bookings). rule.evidence (at_present x) ≡ None) held

  pub short : (k : ℕ) → k < length b.rows → TooShort b.rows ws k → Short rule (at_present b) k
  short k l h =
      let w = figure_at k l in
      let r = ap (λ (v : Window). v.release) w in
      let d = ap (λ (v : Window). v.deadline) w in
      let p = ap (λ (e : Entry). e.duration) (present_at b k l) in
      omega arith

  pub too_short : (k : ℕ) → k < length b.rows → Short rule (at_present b) k → TooShort b.rows ws k
  too_short k l h =
      let w = figure_at k l in
      let r = ap (λ (v : Window). v.release) w in
      let d = ap (λ (v : Window). v.deadline) w in
      let p = ap (λ (e : Entry). e.duration) (present_at b k l) in
      omega arith

  -- some row is too short
  pub squeezed : rule.evidence (at_present d) ≡ None → (rows : List Row) → rows ≡ b.rows → (k : ℕ) →
      (k < length rows) × TooShort rows ws k × ((j : ℕ) → j < k → ¬ TooShort rows ws j) → Applies rule b (Squeezed k) b
  squeezed none rows same k first =
      let (l, h, before) = subst (λ (x : List Row). (k < length x) × TooShort x ws k × ((j : ℕ) → j < k → ¬ TooShort x ws j)) same first in
      squeezes (none_on_board none) k l (short k l h) (λ j i s. before j i (too_short j (omega arith) s))

  -- no row is too short
  module _ (rows : List Row) (same : rows ≡ b.rows) (wide : (k : ℕ) → k < length rows → ¬ TooShort rows ws k) where
    wide_on_board : (k : ℕ) → k < length b.rows → ¬ Short rule (at_present b) k
    wide_on_board k l s =
        subst (λ (x : List Row). (k : ℕ) → k < length x → ¬ TooShort x ws k) same wide k l (too_short k l s)

    pub fits : SoundBookings b → (k : ℕ) → k < length b.rows → FitsIn (row_at b.rows k) (window_at ws k)
    fits sound k l =
        let i = insides rule b sound wide_on_board k l in
        let w = figure_at k l in
        let r = ap (λ (v : Window). v.release) w in
        let d = ap (λ (v : Window). v.deadline) w in
        let was = sound.sound.windowed k l in
        record { later = omega arith; sooner = omega arith; room = omega arith }

    module _ (none : rule.evidence (at_present d) ≡ None) where
      pub rested : (still : List Row) → still ≡ b.rows → ((k : ℕ) → k < length still → window_at ws k ≡ (row_at still k).present) → Applies rule b Quiet b
      rested still stays alike =
          let alike_on_board = subst (λ (x : List Row). (k : ℕ) → k < length x → window_at ws k ≡ (row_at x k).present) stays alike in
          rests (none_on_board none) wide_on_board (λ k l. sym (figure_at k l) ∙ alike_on_board k l)

      pub narrowed_so : (still : List Row) → still ≡ b.rows → ((k : ℕ) × (k < length still) × (¬ (window_at ws k ≡ (row_at still k).present))) →
          (after : Bookings) → Writes (window_at ws) b after → Applies rule b Narrowed after
      narrowed_so still stays unlike after w =
          let (k, l, other) =
          subst (λ (x : List Row). (k : ℕ) × (k < length x) × (¬ (window_at ws k ≡ (row_at x k).present))) stays unlike in
          narrows (none_on_board none) wide_on_board k l (λ same. other (figure_at k l ∙ same)) after
          (record {
            capacity = w.capacity;
            places = w.places;
            each = λ j m. w.each j m ∙ ap (λ (v : Window). narrowed v (row_at b.rows j)) (figure_at j m);
          })
