-- What is wrong with a pair or a test has a number that is not below those already judged.
use Rattle.std.proofs.Common.{ℕ, ◌+◌, ◌<◌, ◌≤◌, length, Result, inl, inr, arith, MatchResult}
use Rattle.std.proofs.lemmas.Bool.{cases_lt}
use Rattle.model.specs.declared.rows.Pair.{Pair}
use Rattle.board.specs.declared.refusals.Refusal.{Refusal}
use Rattle.board.specs.declared.bookings.Test.{Test}
use Rattle.board.specs.declared.refusals.Refusal.TheVariants.{Capacity, Profile, Bearer, Duration, Demand, Window, Taken, Full, Unknown, Letter}
use Rattle.board.specs.Refusals.{number_of}
use Rattle.board.specs.Calls.{Bookings, WrongPair, profile, bearer_low, bearer_high, First, Nothing, Places, stands, misnamed, Wrong, pair, instant, long, idle, greedy, window, taken, full, Misfit, late, tight, Free}

-- What holds only below n is not below n.
not_below : (m n : ℕ) → (m < n → ⊥) → n ≤ m
not_below m n never = elim (cases_lt m n) [ inl l ↦ absurd (never l) | inr l ↦ l ]

pub least_pair : (n : ℕ) (x : Pair) → (2 < n → x.profile ≤ 255) → (3 < n → 5 ≤ x.bearer) → (3 < n → x.bearer ≤ 15) →
    (v : Refusal) → WrongPair x v → n ≤ number_of v
least_pair n x p bl bh v (profile h) = not_below 2 n (λ l. omega (arith, p l))
least_pair n x p bl bh v (bearer_low h) = not_below 3 n (λ l. omega (arith, bl l))
least_pair n x p bl bh v (bearer_high h) = not_below 3 n (λ l. omega (arith, bh l))

pub least_wrong : (n : ℕ) (b : Bookings) (t : Test) → (2 < n → t.pair.profile ≤ 255) → (3 < n → 5 ≤ t.pair.bearer) → (3 < n → t.pair.bearer ≤ 15) →
    (4 < n → 1 ≤ t.duration) → (4 < n → t.duration ≤ 4032) → (5 < n → 1 ≤ t.demand) → (5 < n → t.demand ≤ b.capacity) →
    (6 < n → t.deadline ≤ 4032) → (6 < n → t.release + t.duration ≤ t.deadline) → (7 < n → Free t.pair b.rows) → (8 < n → length b.rows < 64) →
    (v : Refusal) → Wrong b t v → n ≤ number_of v
least_wrong n b t p bl bh dl dh cl ch wl wh f m v (pair w h) = least_pair n t.pair p bl bh v h
least_wrong n b t p bl bh dl dh cl ch wl wh f m v (instant h) = not_below 4 n (λ l. omega (arith, dl l))
least_wrong n b t p bl bh dl dh cl ch wl wh f m v (long h) = not_below 4 n (λ l. omega (arith, dh l))
least_wrong n b t p bl bh dl dh cl ch wl wh f m v (idle h) = not_below 5 n (λ l. omega (arith, cl l))
least_wrong n b t p bl bh dl dh cl ch wl wh f m v (greedy h) = not_below 5 n (λ l. omega (arith, ch l))
least_wrong n b t p bl bh dl dh cl ch wl wh f m v (window (late h)) = not_below 6 n (λ l. omega (arith, wl l))
least_wrong n b t p bl bh dl dh cl ch wl wh f m v (window (tight h)) = not_below 6 n (λ l. omega (arith, wh l))
least_wrong n b t p bl bh dl dh cl ch wl wh f m v (taken k h) = not_below 7 n (λ l. f l k h)
least_wrong n b t p bl bh dl dh cl ch wl wh f m v (full h) = not_below 8 n (λ l. omega (arith, m l))

-- Every refusal has a number below 11, so what is wrong with a number of 11 or more is nothing.
pub number_small : (v : Refusal) → 11 ≤ number_of v → ⊥
number_small Capacity h = omega arith
number_small Profile h = omega arith
number_small Bearer h = omega arith
number_small Duration h = omega arith
number_small Demand h = omega arith
number_small Window h = omega arith
number_small Taken h = omega arith
number_small Full h = omega arith
number_small Unknown h = omega arith
number_small Letter h = omega arith

-- Place judges the pair.
pub place_judges : (x : Pair) (r : Result ℕ Refusal) → Places x r → MatchResult r (λ n. Nothing (WrongPair x)) (First (WrongPair x))
place_judges x r (stands n) = n
place_judges x r (misnamed w f) = f

-- A pair with nothing wrong lies within the limits.
pub pair_within : (x : Pair) → Nothing (WrongPair x) → (x.profile ≤ 255) × (5 ≤ x.bearer) × (x.bearer ≤ 15)
pair_within x n =
    let a : 255 < x.profile → ⊥ = λ h. n Profile (profile h) in
    let b : x.bearer < 5 → ⊥ = λ h. n Bearer (bearer_low h) in
    let c : 15 < x.bearer → ⊥ = λ h. n Bearer (bearer_high h) in
    (omega arith, omega arith, omega arith)

-- A wrong pair has a number of at most 3.
pair_first : (x : Pair) (w : Refusal) → WrongPair x w → number_of w ≤ 3
pair_first x w (profile h) = omega arith
pair_first x w (bearer_low h) = omega arith
pair_first x w (bearer_high h) = omega arith

-- Where the pair is wrong, nothing else of the test comes first.
pub pair_wrong : (b : Bookings) (t : Test) (w : Refusal) → First (WrongPair t.pair) w → First (Wrong b t) w
pair_wrong b t w f = record { wrong = pair w f.wrong; least = after }
  where
    after : (v : Refusal) → Wrong b t v → number_of w ≤ number_of v
    after v (pair u h) = f.least v h
    after v (instant h) = omega (arith, pair_first t.pair w f.wrong)
    after v (long h) = omega (arith, pair_first t.pair w f.wrong)
    after v (idle h) = omega (arith, pair_first t.pair w f.wrong)
    after v (greedy h) = omega (arith, pair_first t.pair w f.wrong)
    after v (window h) = omega (arith, pair_first t.pair w f.wrong)
    after v (taken k h) = omega (arith, pair_first t.pair w f.wrong)
    after v (full h) = omega (arith, pair_first t.pair w f.wrong)

-- A window that is no misfit ends in time and has room.
pub fits_within : (p r d : ℕ) → ¬ Misfit p r d → (d ≤ 4032) × (r + p ≤ d)
fits_within p r d n =
    let a : 4032 < d → ⊥ = λ h. n (late h) in
    let b : d < r + p → ⊥ = λ h. n (tight h) in
    (omega arith, omega arith)
