-- The command that a name gives.
use Rattle.std.proofs.Common.{◌≡◌, ℕ, Bool, true, false, List, None, codes, refl}
use Rattle.std.proofs.lemmas.Slice.Eq.{bytes_eq-Decides}
use Rattle.std.specs.Str.{bytes_eq}
use Rattle.commands.specs.declared.commands.Command.TheVariants.{Sweep, Show}
use Rattle.commands.specs.Lines.{Word}
use Rattle.commands.specs.Commands.{build_of, enter_of, withdraw_of, rebook_of, place_of, apply_of, whole, named}

pub named_build : (name : Word) (ws : List Word) → name ≡ codes "build" → named name ws ≡ build_of ws
unfolding named
named_build name ws e = rw e

pub named_enter : (name : Word) (ws : List Word) → name ≡ codes "enter" → named name ws ≡ enter_of ws
unfolding named
named_enter name ws e = rw e

pub named_withdraw : (name : Word) (ws : List Word) → name ≡ codes "withdraw" → named name ws ≡ withdraw_of ws
unfolding named
named_withdraw name ws e = rw e

pub named_rebook : (name : Word) (ws : List Word) → name ≡ codes "rebook" → named name ws ≡ rebook_of ws
unfolding named
named_rebook name ws e = rw e

pub named_place : (name : Word) (ws : List Word) → name ≡ codes "place" → named name ws ≡ place_of ws
unfolding named
named_place name ws e = rw e

pub named_apply : (name : Word) (ws : List Word) → name ≡ codes "apply" → named name ws ≡ apply_of ws
unfolding named
named_apply name ws e = rw e

pub named_sweep : (name : Word) (ws : List Word) → name ≡ codes "sweep" → named name ws ≡ whole Sweep ws
unfolding named
named_sweep name ws e = rw e

pub named_show : (name : Word) (ws : List Word) → name ≡ codes "show" → named name ws ≡ whole Show ws
unfolding named
named_show name ws e = rw e

unlike : (b : Bool) → ¬ (b ≡ true) → b ≡ false
unlike true h = absurd (h refl)
unlike false h = refl

other : (name word : List ℕ) → ¬ (name ≡ word) → bytes_eq name word ≡ false
other name word h = unlike (bytes_eq name word) (λ t. h ((bytes_eq-Decides name word).0 t))

pub unnamed : (name : Word) (ws : List Word) →
    ¬ (name ≡ codes "build") → ¬ (name ≡ codes "enter") → ¬ (name ≡ codes "withdraw") → ¬ (name ≡ codes "rebook") →
    ¬ (name ≡ codes "place") → ¬ (name ≡ codes "apply") → ¬ (name ≡ codes "sweep") → ¬ (name ≡ codes "show") → named name ws ≡ None
unfolding named
unnamed name ws h1 h2 h3 h4 h5 h6 h7 h8 =
    rw (
      other name (codes "build") h1,
      other name (codes "enter") h2,
      other name (codes "withdraw") h3,
      other name (codes "rebook") h4,
      other name (codes "place") h5,
      other name (codes "apply") h6,
      other name (codes "sweep") h7,
      other name (codes "show") h8,
    )
