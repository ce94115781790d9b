-- What comes of looking for the row with a pair.
use Rattle.std.proofs.Common.{◌≡◌, ℕ, true, false, List, Option, Some, None, Result, Err, MatchOption, is_some}
use Rattle.std.specs.Option.{ok_or}
use Rattle.model.specs.declared.rows.Pair.{Pair}
use Rattle.model.specs.declared.rows.Row.{Row}
use Rattle.board.specs.declared.refusals.Refusal.{Refusal}
use Rattle.board.specs.declared.refusals.Refusal.TheVariants.{Unknown}
use Rattle.board.specs.Calls.{StandsAt, Free}

module _ (pair : Pair) (rows : List Row) where
  -- Some row has the pair, at the place that was found, or none has.
  abbrev pub Found : Option ℕ → Type 0
  Found o = MatchOption o (Free pair rows) (λ k. StandsAt pair rows k)

  pub found : (o : Option ℕ) → Found o → true ≡ is_some o → (k : ℕ) × StandsAt pair rows k
  found (Some k) at e = (k, at)
  found None at e = cc

  pub missing : (o : Option ℕ) → Found o → false ≡ is_some o → Free pair rows
  missing (Some k) at e = cc
  missing None at e = at

  pub found_at : (o : Option ℕ) (k : ℕ) → Found o → o ≡ Some k → StandsAt pair rows k
  found_at o k at e = rw e at at

  -- Where none has, the refusal is that the pair is unknown.
  pub unknown_pair : (o : Option ℕ) (w : Refusal) → Found o → ◌≡◌ {A = Result ℕ Refusal} (Err w) (ok_or o Unknown) → Free pair rows × (w ≡ Unknown)
  unknown_pair (Some k) w at e = cc
  unknown_pair None w at e = (at, cc)
