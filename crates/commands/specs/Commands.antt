-- Which command a line says.
use Rattle.std.specs.Prelude.{◌≡◌, ℕ, cond, ◌⊎◌, List, [], ◌∷◌, ◌++◌, Some, None, codes, IsUtf8, Option, slice_index}
use Rattle.std.specs.Str.{bytes_eq}
use Rattle.model.specs.declared.rows.Pair.{Pair}
use Rattle.commands.specs.declared.commands.Command.{Command}
use Rattle.commands.specs.declared.commands.Command.TheVariants.{Build, Enter, Withdraw, Rebook, Place, Apply, Sweep, Show}
use Rattle.commands.specs.declared.commands.Line.{Line}
use Rattle.commands.specs.declared.commands.Line.TheVariants.{Nothing, Unknown, Says}
use Rattle.commands.specs.Lines.{Word, words, number_of, letter_of}

-- What stands at the front of some words, with the words after it; or nothing of the kind does.
abbrev pub Front : Type 0 → Type 0
Front A = Option (A × List Word)

infixr 20 ◌then◌
-- Something at the front and, if it is there, what follows it.
abbrev pub ◌then◌ : {A B : Type 0} → Front A → (A → List Word → Option B) → Option B
Some f then go = go f.0 f.1
None then go = None

-- What a first word was read as, with the words after it.
abbrev pub with_rest : {A : Type 0} → List Word → Option A → Front A
with_rest ws (Some a) = Some (a, ws)
with_rest ws None = None

-- The number that the first word writes.
abbrev pub number_first : List Word → Front ℕ
number_first [] = None
number_first (w ∷ ws) = with_rest ws (number_of w)

-- The letter that the first word is.
abbrev pub letter_first : List Word → Front ℕ
letter_first [] = None
letter_first (w ∷ ws) = with_rest ws (letter_of w)

-- Two numbers, a profile and a bearer, as a pair.
unfoldable pub pair_first : List Word → Front Pair
pair_first ws = number_first ws then λ profile rest. number_first rest then λ bearer after. Some (record { profile = profile; bearer = bearer }, after)

-- A command that is whole: no word is left.
abbrev pub whole : Command → List Word → Option Command
whole command [] = Some command
whole command (w ∷ ws) = None

-- What each command is given, no fewer words and no more. Build: a capacity.
abbrev pub build_of : List Word → Option Command
build_of ws = number_first ws then λ capacity. whole (Build capacity)

-- Enter: a pair, a release, a deadline, a duration and a demand.
unfoldable pub enter_of : List Word → Option Command
enter_of ws =
    pair_first ws then λ pair ws₁.
    number_first ws₁ then λ release ws₂.
    number_first ws₂ then λ deadline ws₃.
    number_first ws₃ then λ duration ws₄.
    number_first ws₄ then λ demand.
    whole (Enter (record { pair = pair; release = release; deadline = deadline; duration = duration; demand = demand }))

-- Withdraw: a pair.
abbrev pub withdraw_of : List Word → Option Command
withdraw_of ws = pair_first ws then λ pair. whole (Withdraw pair)

-- Rebook: a pair, a release and a deadline.
unfoldable pub rebook_of : List Word → Option Command
rebook_of ws =
    pair_first ws then λ pair ws₁.
    number_first ws₁ then λ release ws₂.
    number_first ws₂ then λ deadline.
    whole (Rebook pair release deadline)

-- Place: a pair.
abbrev pub place_of : List Word → Option Command
place_of ws = pair_first ws then λ pair. whole (Place pair)

-- Apply: a letter.
abbrev pub apply_of : List Word → Option Command
apply_of ws = letter_first ws then λ letter. whole (Apply letter)

-- The command of a name, given the words after it; sweep and show are given none.
unfoldable pub named : Word → List Word → Option Command
named name ws =
    cond (bytes_eq name (codes "build")) (build_of ws)
    (cond (bytes_eq name (codes "enter")) (enter_of ws)
    (cond (bytes_eq name (codes "withdraw")) (withdraw_of ws)
    (cond (bytes_eq name (codes "rebook")) (rebook_of ws)
    (cond (bytes_eq name (codes "place")) (place_of ws)
    (cond (bytes_eq name (codes "apply")) (apply_of ws)
    (cond (bytes_eq name (codes "sweep")) (whole Sweep ws)
    (cond (bytes_eq name (codes "show")) (whole Show ws) None)))))))

-- The command that some words say: the first names it.
abbrev pub command_of : List Word → Option Command
command_of [] = None
command_of (name ∷ ws) = named name ws

-- A line that is passed over: it begins with #, or has no words.
abbrev pub PassedOver : List ℕ → Type 0
PassedOver line = (slice_index line 0 ≡ 35) ⊎ (words line ≡ [])

-- What a line of bytes is. It says a command only if it is text, in UTF-8.
abbrev pub Reads : List ℕ → Line → Type 0
Reads line Nothing = PassedOver line
Reads line Unknown = (¬ PassedOver line) × (IsUtf8 line → command_of (words line) ≡ None)
Reads line (Says command) = (¬ PassedOver line) × IsUtf8 line × (command_of (words line) ≡ Some command)

-- A line of an input, and the line without its end: the byte 10, if it has one there.
abbrev pub Ends : List ℕ → List ℕ → Type 0
Ends line bare = (line ≡ bare ++ (10 ∷ [])) ⊎ ((bare ≡ line) × ((front : List ℕ) → ¬ (line ≡ front ++ (10 ∷ []))))
