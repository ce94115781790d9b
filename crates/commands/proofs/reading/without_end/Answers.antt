-- The byte 10 at the end is cut off, or there is none.
use Rattle.std.proofs.Common.{◌≢◌, ℕ, List, [], ◌∷◌, ◌++◌, Some, None, MatchOption, Option, Bor, refl, inl, inr, ◌≡◌}
use Rattle.std.proofs.lemmas.Bool.Decides.{Decides-eqb}
use Rattle.std.proofs.lemmas.Slice.Eq.{strip_suffix_is}
use Rattle.std.specs.Option.{unwrap_or}
use Rattle.commands.specs.Commands.{Ends}
use Rattle.commands.proofs.reading.without_end.Goals as goal

ended : (line : Bor (List ℕ)) (r : Option (Bor (List ℕ))) →
    MatchOption r ((front : List ℕ) → line.now ≢ front ++ (10 ∷ [])) (λ x. line.now ≡ x.now ++ (10 ∷ [])) → Ends line.now (unwrap_or r line).now
ended line (Some front) h = inl h
ended line None h = inr (refl, h)

pub returns : goal.returns
returns c =
    rw c.unwrap_or.ensures
    (ended c.args.line c.strip_suffix.result (strip_suffix_is Decides-eqb c.args.line.now (10 ∷ []) c.strip_suffix.result c.strip_suffix.ensures.cases))
