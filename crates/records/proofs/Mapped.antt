-- What map_err made of a result.
use Rattle.std.proofs.Common.{◌≡◌, Ok, Err, Result, MatchResult, refl}
use Rattle.std.specs.Result.{IsErrAnd}

module _ {A E D : Type 0} (Post : E → D → Type 0) where
  -- An error came from an error.
  pub mapped_err : (r : Result A E) (m : Result A D) (d : D) → MatchResult r (λ x. m ≡ Ok x) (λ e. IsErrAnd m (Post e)) → m ≡ Err d →
      (e : E) × (r ≡ Err e) × Post e d
  mapped_err (Ok x) m d is e = cc
  mapped_err (Err e) m d made is = (e, refl, rw is at made)

  -- And what is no error came from no error.
  pub mapped_ok : (r : Result A E) (m : Result A D) (x : A) → MatchResult r (λ x. m ≡ Ok x) (λ e. IsErrAnd m (Post e)) → m ≡ Ok x → r ≡ Ok x
  mapped_ok (Ok y) m x made is = cc
  mapped_ok (Err e) m x made is = absurd (rw is at made)
