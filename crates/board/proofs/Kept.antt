-- What holds of every row, and that pairs are apart, is kept as rows are added, removed, reset and rebooked.
use Rattle.std.proofs.Common.{◌≡◌, ℕ, ◌+◌, ◌-◌, ◌<◌, ◌≤◌, ◌≢◌, ◌⊎◌, List, [], ◌∷◌, ◌++◌, map, length, get_or, set, sym, refl, ap, ◌∙◌, subst, inl, inr, arith, length-append, length-set}
use Rattle.std.specs.List.{remove}
use Rattle.std.proofs.lemmas.Bool.{cases_lt, cases_order}
use Rattle.std.proofs.lemmas.List.{length-map, get_or-map, get_or_append_left, get_or-append_right, get_or-set_same, get_or-set_other}
use Rattle.std.proofs.lemmas.List.Edits.{length-remove, get_or-remove_below, get_or-remove_above}
use Rattle.model.specs.declared.rows.Row.{Row}
use Rattle.model.specs.declared.windows.Window.{Window}
use Rattle.model.specs.Changes.{reset, rebooked}
use Rattle.model.specs.Limits.{row_at, no_row, EachRow, Named, Sized, Windowed, Apart, SoundRows}
use Rattle.board.specs.declared.bookings.Test.{Test}
use Rattle.board.specs.Calls.{Bookings, Free, Nothing, Wrong, Misfit, row_of, pair, instant, long, idle, greedy, window, taken, full}
use Rattle.board.specs.declared.refusals.Refusal.TheVariants.{Duration, Demand, Window as Misfits, Taken, Full}
use Rattle.board.proofs.Judging.{pair_within, fits_within}

-- ---- the row at each place

pub added_before : (rows : List Row) (row : Row) (k : ℕ) → k < length rows → row_at (rows ++ (row ∷ [])) k ≡ row_at rows k
added_before rows row k l = get_or_append_left rows (row ∷ []) no_row k l

pub added_last : (rows : List Row) (row : Row) → row_at (rows ++ (row ∷ [])) (length rows) ≡ row
added_last rows row =
    let none : length rows - length rows ≡ 0 = omega arith in
    get_or-append_right rows (row ∷ []) (length rows) (length rows) no_row refl (omega arith)
    ∙ ap (λ (n : ℕ). get_or (row ∷ []) n no_row) none

pub added_length : (rows : List Row) (row : Row) → length (rows ++ (row ∷ [])) ≡ length rows + 1
added_length rows row = length-append rows (row ∷ [])

-- The place that a row had before the one at place k was removed.
abbrev pub WasAt : ℕ → ℕ → ℕ → Type 0
WasAt k j i = ((j < k) × (i ≡ j)) ⊎ ((k ≤ j) × (i ≡ j + 1))

pub removed_at : (rows : List Row) (k j : ℕ) → k < length rows → j < length (remove rows k) →
    (i : ℕ) × (i < length rows) × (row_at (remove rows k) j ≡ row_at rows i) × WasAt k j i
removed_at rows k j l h =
    let e = length-remove rows k l in
    elim (cases_lt j k) [
      | inl b ↦ (j, omega arith, get_or-remove_below rows k no_row j b l, inl (b, refl))
      | inr b ↦ (j + 1, omega arith, get_or-remove_above rows k no_row j b l, inr (b, refl))
    ]

pub reset_at : (rows : List Row) (k : ℕ) → k < length rows → row_at (map reset rows) k ≡ reset (row_at rows k)
reset_at rows k l = get_or-map reset rows k no_row no_row l

-- ---- what holds of every row

pub each_added : (P : Row → Type 0) (rows : List Row) (row : Row) → EachRow P rows → P row → EachRow P (rows ++ (row ∷ []))
each_added P rows row each here k l =
    let n = added_length rows row in
    elim (cases_lt k (length rows)) [
      | inl b ↦ subst P (sym (added_before rows row k b)) (each k b)
      | inr b ↦
          let e : k ≡ length rows = omega arith in
          subst P (sym (ap (row_at (rows ++ (row ∷ []))) e ∙ added_last rows row)) here
    ]

pub each_removed : (P : Row → Type 0) (rows : List Row) (k : ℕ) → k < length rows → EachRow P rows → EachRow P (remove rows k)
each_removed P rows k l each j h = let (i, b, e, w) = removed_at rows k j l h in subst P (sym e) (each i b)

pub each_reset : (P : Row → Type 0) (rows : List Row) → ((row : Row) → P row → P (reset row)) → EachRow P rows → EachRow P (map reset rows)
each_reset P rows keeps each k l =
    let b : k < length rows = omega (arith, length-map rows reset) in
    subst P (sym (reset_at rows k b)) (keeps (row_at rows k) (each k b))

pub each_set : (P : Row → Type 0) (rows : List Row) (k : ℕ) (row : Row) → EachRow P rows → P row → EachRow P (set rows k row)
each_set P rows k row each here j l =
    let b : j < length rows = omega (arith, length-set rows k row) in
    elim (cases_order j k) [
      | inl e ↦ subst P (sym (ap (row_at (set rows k row)) e ∙ get_or-set_same rows k row no_row (omega arith))) here
      | inr (inl o) ↦ let ne : j ≢ k = omega arith in subst P (sym (get_or-set_other rows k j row no_row ne)) (each j b)
      | inr (inr o) ↦ let ne : j ≢ k = omega arith in subst P (sym (get_or-set_other rows k j row no_row ne)) (each j b)
    ]

-- ---- pairs apart

pub apart_added : (rows : List Row) (row : Row) → Apart rows → Free row.pair rows → Apart (rows ++ (row ∷ []))
apart_added rows row apart free j k o l e =
    let n = added_length rows row in
    let bj : j < length rows = omega arith in
    let ej = ap (λ (x : Row). x.pair) (added_before rows row j bj) in
    elim (cases_lt k (length rows)) [
      | inl b ↦ apart j k o b (sym ej ∙ e ∙ ap (λ (x : Row). x.pair) (added_before rows row k b))
      | inr b ↦
          let q : k ≡ length rows = omega arith in
          free j (record {
            inside = bj;
            named = sym ej ∙ e ∙ ap (λ (x : Row). x.pair) (ap (row_at (rows ++ (row ∷ []))) q ∙ added_last rows row);
          })
    ]

pub apart_removed : (rows : List Row) (k : ℕ) → k < length rows → Apart rows → Apart (remove rows k)
apart_removed rows k l apart i j o h e =
    let n = length-remove rows k l in
    let (i', bi, ei, wi) = removed_at rows k i l (omega arith) in
    let (j', bj, ej, wj) = removed_at rows k j l h in
    apart i' j' (omega arith) bj (sym (ap (λ (x : Row). x.pair) ei) ∙ e ∙ ap (λ (x : Row). x.pair) ej)

pub apart_reset : (rows : List Row) → Apart rows → Apart (map reset rows)
apart_reset rows apart i j o h e =
    let n = length-map rows reset in
    let bi : i < length rows = omega arith in
    let bj : j < length rows = omega arith in
    apart i j o bj
    (sym (ap (λ (x : Row). x.pair) (reset_at rows i bi)) ∙ e ∙ ap (λ (x : Row). x.pair) (reset_at rows j bj))

-- The pair at each place stays where a row is replaced by one with the same pair.
set_pair : (rows : List Row) (k j : ℕ) (row : Row) → row.pair ≡ (row_at rows k).pair → j < length rows →
    (row_at (set rows k row) j).pair ≡ (row_at rows j).pair
set_pair rows k j row same l =
    elim (cases_order j k) [
      | inl e ↦
          ap (λ (x : Row). x.pair) (ap (row_at (set rows k row)) e ∙ get_or-set_same rows k row no_row (omega arith))
          ∙ same ∙ ap (λ (n : ℕ). (row_at rows n).pair) (sym e)
      | inr (inl o) ↦ let ne : j ≢ k = omega arith in ap (λ (x : Row). x.pair) (get_or-set_other rows k j row no_row ne)
      | inr (inr o) ↦ let ne : j ≢ k = omega arith in ap (λ (x : Row). x.pair) (get_or-set_other rows k j row no_row ne)
    ]

pub apart_set : (rows : List Row) (k : ℕ) (row : Row) → row.pair ≡ (row_at rows k).pair → Apart rows → Apart (set rows k row)
apart_set rows k row same apart i j o h e =
    let n = length-set rows k row in
    let bi : i < length rows = omega arith in
    let bj : j < length rows = omega arith in
    apart i j o bj (sym (set_pair rows k i row same bi) ∙ e ∙ set_pair rows k j row same bj)

-- ---- rows within the limits

-- A test with nothing wrong makes a row within the limits.
pub record Fine (b : Bookings) (t : Test) : Type 0 where
  pub named : Named (row_of t)
  pub sized : Sized b.capacity (row_of t)
  pub short : t.duration ≤ 4032
  pub windowed : Windowed (row_of t)
  pub free : Free t.pair b.rows
  pub room : length b.rows < 64

pub fine_test : (b : Bookings) (t : Test) → Nothing (Wrong b t) → Fine b t
fine_test b t n =
    let a : t.duration < 1 → ⊥ = λ h. n Duration (instant h) in
    let b1 : 4032 < t.duration → ⊥ = λ h. n Duration (long h) in
    let c : t.demand < 1 → ⊥ = λ h. n Demand (idle h) in
    let d : b.capacity < t.demand → ⊥ = λ h. n Demand (greedy h) in
    let e = fits_within t.duration t.release t.deadline (λ h. n Misfits (window h)) in
    let f : 64 ≤ length b.rows → ⊥ = λ h. n Full (full h) in
    record {
      named = pair_within t.pair (λ w h. n w (pair w h));
      sized = (omega arith, omega arith, omega arith);
      short = omega arith;
      windowed = (e.1, omega arith, omega arith, e.0);
      free = λ k h. n Taken (taken k h);
      room = omega arith;
    }

pub sound_added : (b : Bookings) (t : Test) (rows : List Row) → rows ≡ b.rows ++ (row_of t ∷ []) → SoundRows b.capacity b.rows → Fine b t →
    SoundRows b.capacity rows
sound_added b t rows e s f =
    subst (SoundRows b.capacity) (sym e) (record {
      named = each_added Named b.rows (row_of t) s.named f.named;
      sized = each_added (Sized b.capacity) b.rows (row_of t) s.sized f.sized;
      windowed = each_added Windowed b.rows (row_of t) s.windowed f.windowed;
      apart = apart_added b.rows (row_of t) s.apart f.free;
    })

sound_reset : (capacity : ℕ) (rows : List Row) → SoundRows capacity rows → SoundRows capacity (map reset rows)
sound_reset capacity rows s =
    record {
      named = each_reset Named rows (λ row h. h) s.named;
      sized = each_reset (Sized capacity) rows (λ row h. h) s.sized;
      windowed = each_reset Windowed rows (λ row h. (omega arith, omega arith, omega arith, h.3)) s.windowed;
      apart = apart_reset rows s.apart;
    }

pub sound_withdrawn : (capacity k : ℕ) (before rows : List Row) → k < length before → rows ≡ map reset (remove before k) → SoundRows capacity before →
    SoundRows capacity rows
sound_withdrawn capacity k before rows l e s =
    subst (SoundRows capacity) (sym e) (sound_reset capacity (remove before k) (record {
      named = each_removed Named before k l s.named;
      sized = each_removed (Sized capacity) before k l s.sized;
      windowed = each_removed Windowed before k l s.windowed;
      apart = apart_removed before k l s.apart;
    }))

pub sound_rebooked : (capacity k : ℕ) (w : Window) (before rows : List Row) → k < length before → ¬ Misfit (row_at before k).duration w.release w.deadline →
    rows ≡ map reset (set before k (rebooked w (row_at before k))) → SoundRows capacity before → SoundRows capacity rows
sound_rebooked capacity k w before rows l fits e s =
    let f = fits_within (row_at before k).duration w.release w.deadline fits in
    let row = rebooked w (row_at before k) in
    subst (SoundRows capacity) (sym e) (sound_reset capacity (set before k row) (record {
      named = each_set Named before k row s.named (s.named k l);
      sized = each_set (Sized capacity) before k row s.sized (s.sized k l);
      windowed = each_set Windowed before k row s.windowed (f.1, omega arith, omega arith, f.0);
      apart = apart_set before k row refl s.apart;
    }))
