-- What stands at the front of words, from what its parts are.
use Rattle.std.proofs.Common.{◌≡◌, ℕ, List, Some, None, Option}
use Rattle.model.specs.declared.rows.Pair.{Pair}
use Rattle.commands.specs.declared.commands.Command.TheVariants.{Enter, Rebook}
use Rattle.commands.specs.Lines.{Word}
use Rattle.commands.specs.Commands.{Front, ◌then◌, number_first, pair_first, enter_of, rebook_of, whole}

-- ---- one thing, and what follows it

pub none_there : {A B : Type 0} (front : Front A) (go : A → List Word → Option B) → front ≡ None → (front then go) ≡ None
none_there front go h = rw h

pub one_there : {A B : Type 0} (front : Front A) (go : A → List Word → Option B) (a : A) (ws : List Word) → front ≡ Some (a, ws) → (front then go) ≡ go a ws
one_there front go a ws h = rw h

-- ---- a pair

pub pair_1 : (ws : List Word) → number_first ws ≡ None → pair_first ws ≡ None
unfolding pair_first
pair_1 ws h = rw h

pub pair_2 : (ws ws₁ : List Word) (a : ℕ) → number_first ws ≡ Some (a, ws₁) → number_first ws₁ ≡ None → pair_first ws ≡ None
unfolding pair_first
pair_2 ws ws₁ a h i = rw (h, i)

pub pair_whole : (ws ws₁ ws₂ : List Word) (a b : ℕ) → number_first ws ≡ Some (a, ws₁) → number_first ws₁ ≡ Some (b, ws₂) →
    pair_first ws ≡ Some (record { profile = a; bearer = b }, ws₂)
unfolding pair_first
pair_whole ws ws₁ ws₂ a b h i = rw (h, i)

-- ---- enter

pub enter_1 : (ws : List Word) → pair_first ws ≡ None → enter_of ws ≡ None
unfolding enter_of
enter_1 ws h = rw h

pub enter_2 : (ws ws₁ : List Word) (p : Pair) → pair_first ws ≡ Some (p, ws₁) → number_first ws₁ ≡ None → enter_of ws ≡ None
unfolding enter_of
enter_2 ws ws₁ p h i = rw (h, i)

pub enter_3 : (ws ws₁ ws₂ : List Word) (p : Pair) (a : ℕ) → pair_first ws ≡ Some (p, ws₁) → number_first ws₁ ≡ Some (a, ws₂) →
    number_first ws₂ ≡ None → enter_of ws ≡ None
unfolding enter_of
enter_3 ws ws₁ ws₂ p a h i j = rw (h, i, j)

pub enter_4 : (ws ws₁ ws₂ ws₃ : List Word) (p : Pair) (a b : ℕ) → pair_first ws ≡ Some (p, ws₁) → number_first ws₁ ≡ Some (a, ws₂) →
    number_first ws₂ ≡ Some (b, ws₃) → number_first ws₃ ≡ None → enter_of ws ≡ None
unfolding enter_of
enter_4 ws ws₁ ws₂ ws₃ p a b h i j k = rw (h, i, j, k)

pub enter_5 : (ws ws₁ ws₂ ws₃ ws₄ : List Word) (p : Pair) (a b d : ℕ) → pair_first ws ≡ Some (p, ws₁) → number_first ws₁ ≡ Some (a, ws₂) →
    number_first ws₂ ≡ Some (b, ws₃) → number_first ws₃ ≡ Some (d, ws₄) → number_first ws₄ ≡ None → enter_of ws ≡ None
unfolding enter_of
enter_5 ws ws₁ ws₂ ws₃ ws₄ p a b d h i j k l = rw (h, i, j, k, l)

pub enter_whole : (ws ws₁ ws₂ ws₃ ws₄ ws₅ : List Word) (p : Pair) (a b d e : ℕ) → pair_first ws ≡ Some (p, ws₁) → number_first ws₁ ≡ Some (a, ws₂) →
    number_first ws₂ ≡ Some (b, ws₃) → number_first ws₃ ≡ Some (d, ws₄) → number_first ws₄ ≡ Some (e, ws₅) →
    enter_of ws ≡ whole (Enter (record { pair = p; release = a; deadline = b; duration = d; demand = e })) ws₅
unfolding enter_of
enter_whole ws ws₁ ws₂ ws₃ ws₄ ws₅ p a b d e h i j k l = rw (h, i, j, k, l)

-- ---- rebook

pub rebook_1 : (ws : List Word) → pair_first ws ≡ None → rebook_of ws ≡ None
unfolding rebook_of
rebook_1 ws h = rw h

pub rebook_2 : (ws ws₁ : List Word) (p : Pair) → pair_first ws ≡ Some (p, ws₁) → number_first ws₁ ≡ None → rebook_of ws ≡ None
unfolding rebook_of
rebook_2 ws ws₁ p h i = rw (h, i)

pub rebook_3 : (ws ws₁ ws₂ : List Word) (p : Pair) (a : ℕ) → pair_first ws ≡ Some (p, ws₁) → number_first ws₁ ≡ Some (a, ws₂) →
    number_first ws₂ ≡ None → rebook_of ws ≡ None
unfolding rebook_of
rebook_3 ws ws₁ ws₂ p a h i j = rw (h, i, j)

pub rebook_whole : (ws ws₁ ws₂ ws₃ : List Word) (p : Pair) (a b : ℕ) → pair_first ws ≡ Some (p, ws₁) → number_first ws₁ ≡ Some (a, ws₂) →
    number_first ws₂ ≡ Some (b, ws₃) → rebook_of ws ≡ whole (Rebook p a b) ws₃
unfolding rebook_of
rebook_whole ws ws₁ ws₂ ws₃ p a b h i j = rw (h, i, j)
