-- The words of a line that a space parts.
use Rattle.std.proofs.Common.{◌≡◌, ℕ, suc, ◌<◌, Bool, true, false, not, cond, eqb, List, [], ◌∷◌, ◌++◌, length, get_or, drop, Some, None, MatchOption, Option, Bor, IsUtf8, sym, refl, ap, ◌∙◌, append_assoc, append-nil, arith, eqb-true}
use lib.Utf8.{encode}
use Rattle.std.proofs.lemmas.Bool.{ne_eqb, cond-false}
use Rattle.std.proofs.lemmas.Str.{IsUtf8-nil, IsUtf8-append, IsUtf8-encode}
use borrow.Author.Tests.{eqb-false}
use Rattle.std.proofs.lemmas.Str.{len_utf8_bounds}
use Rattle.std.proofs.lemmas.Str.Pattern.{drop_at_char}
use Rattle.std.specs.Bool.{then_some}
use Rattle.std.specs.Option.{unwrap_or}
use Rattle.std.specs.Str.Pattern.{CutsPrefixes, FindsCharPrefix, IsFullyTrimmed}
use Rattle.commands.specs.Lines.{Word, ended, words_after, words}

-- Bytes without a space.
abbrev pub Unparted : List ℕ → Type 0
Unparted f = (i : ℕ) → i < length f → get_or f i 0 ≡ 32 → ⊥

empty_nil : (f : List ℕ) → length f ≡ 0 → f ≡ []
empty_nil [] h = refl
empty_nil (b ∷ f) h = absurd (omega arith)

run : (w f s : List ℕ) → Unparted f → words_after w (f ++ s) ≡ words_after (w ++ f) s
unfolding words_after
run w [] s h = ap (λ v. words_after v s) (sym (append-nil w))
run w (b ∷ f) s h =
    let other : eqb b 32 ≡ false = ne_eqb b 32 (h 0 (omega arith)) in
    cond-false (eqb b 32) (ended w (words_after [] (f ++ s))) (words_after (w ++ (b ∷ [])) (f ++ s)) other
    ∙ run (w ++ (b ∷ [])) f s (λ i l e. h (suc i) (omega arith) e)
    ∙ ap (λ v. words_after v s) (append_assoc w (b ∷ []) f)

-- A space before a line adds no word.
pub gap : (line f s : List ℕ) → line ≡ f ++ (32 ∷ s) → length f ≡ 0 → words line ≡ words s
unfolding words_after
gap line [] s e h = ap words e
gap line (b ∷ f) s e h = absurd (omega arith)

-- Bytes before a space are the first word.
pub piece : (line f s : List ℕ) → line ≡ f ++ (32 ∷ s) → Unparted f → ¬ (length f ≡ 0) → words line ≡ f ∷ words s
unfolding words_after
piece line [] s e u h = absurd (h refl)
piece line (b ∷ f) s e u h = ap words e ∙ run [] (b ∷ f) (32 ∷ s) u

-- Bytes without a space are the only word.
pub last_piece : (f : List ℕ) → Unparted f → ¬ (length f ≡ 0) → words f ≡ f ∷ []
unfolding words_after
last_piece [] u h = absurd (h refl)
last_piece (b ∷ f) u h = ap words (sym (append-nil (b ∷ f))) ∙ run [] (b ∷ f) [] u

pub no_piece : (f : List ℕ) → length f ≡ 0 → words f ≡ []
unfolding words_after
no_piece [] h = refl
no_piece (b ∷ f) h = absurd (omega arith)

-- ---- the word at the front of a line

-- The spaces before a line add no word.
pub trimmed : (s r ns : List ℕ) → CutsPrefixes (FindsCharPrefix 32) s ns r → words r ≡ words s
trimmed s r [] h = ap words h
trimmed s r (n ∷ ns) (m, cuts, at, e) =
    let space : m ≡ 32 ∷ drop n m = drop_at_char 32 m 0 n at (omega arith) in
    ap words e ∙ sym (gap m [] (drop n m) space refl) ∙ trimmed s m ns cuts

-- No space is before a line that is trimmed.
pub no_space : (r rest : List ℕ) → IsFullyTrimmed (FindsCharPrefix 32) r → r ≡ 32 ∷ rest → ⊥
unfolding encode
no_space r rest (None, none, z) e = none rest e
no_space r rest (Some n, at, z) e = omega (arith, at.ends, len_utf8_bounds 32)

-- Where a line has no space before it, its first word ends at the next space, or it is the whole line.
pub fronted : (s : List ℕ) (line nothing : Bor (List ℕ)) (o : Option (Bor (List ℕ) × Bor (List ℕ))) (empty : Bool) →
    nothing.now ≡ [] → words line.now ≡ words s → ((rest : List ℕ) → line.now ≡ 32 ∷ rest → ⊥) →
    MatchOption o (Unparted line.now) (λ x. (line.now ≡ x.0.now ++ (32 ∷ x.1.now)) × Unparted x.0.now) →
    empty ≡ eqb (length (unwrap_or o (line, nothing)).0.now) 0 →
    MatchOption (then_some (not empty) (unwrap_or o (line, nothing)).0) (words s ≡ [])
    (λ w. words s ≡ w.now ∷ words (unwrap_or o (line, nothing)).1.now)
unfolding words_after
fronted s line nothing None true z same space parts e = sym same ∙ no_piece line.now (eqb-true (length line.now) 0 (sym e))
fronted s line nothing None false z same space parts e =
    sym same ∙ last_piece line.now parts (eqb-false (length line.now) 0 (sym e)) ∙ ap (λ v. line.now ∷ words v) (sym z)
fronted s line nothing (Some (f, rest)) true z same space parts e =
    absurd (space rest.now (parts.0 ∙ ap (λ v. v ++ (32 ∷ rest.now)) (empty_nil f.now (eqb-true (length f.now) 0 (sym e)))))
fronted s line nothing (Some (f, rest)) false z same space parts e =
    sym same ∙ piece line.now f.now rest.now parts.0 parts.1 (eqb-false (length f.now) 0 (sym e))

-- ---- lines without words

-- The first turn of a word that has begun, by whether a space comes.
turn : (t : Bool) (b d : ℕ) (w s : List ℕ) → (words_after (b ∷ (w ++ (d ∷ []))) s ≡ [] → ⊥) →
    cond t ((b ∷ w) ∷ words_after [] s) (words_after (b ∷ (w ++ (d ∷ []))) s) ≡ [] → ⊥
turn true b d w s going h = let z : ◌≡◌ {A = ℕ} 0 1 = cc in omega arith
turn false b d w s going h = going h

-- A word that has begun is a word.
begun : (b : ℕ) (w s : List ℕ) → words_after (b ∷ w) s ≡ [] → ⊥
unfolding words_after
begun b w [] h = let z : ◌≡◌ {A = ℕ} 0 1 = cc in omega arith
begun b w (d ∷ s) h = turn (eqb d 32) b d w s (begun b (w ++ (d ∷ [])) s) h

-- What the first byte of a line without words is, and what follows.
first_blank : (t : Bool) (b : ℕ) (s : List ℕ) → cond t (words_after [] s) (words_after (b ∷ []) s) ≡ [] → (t ≡ true) × (words s ≡ [])
first_blank true b s h = (refl, h)
first_blank false b s h = absurd (begun b [] s h)

-- A line without words is text: it has only spaces.
pub blank_text : (line : List ℕ) → words line ≡ [] → IsUtf8 line
unfolding words_after encode
blank_text [] h = IsUtf8-nil
blank_text (b ∷ line) h =
    let f = first_blank (eqb b 32) b line h in
    let space : b ≡ 32 = eqb-true b 32 f.0 in
    rw space (IsUtf8-append (32 ∷ []) line (IsUtf8-encode 32 refl) (blank_text line f.1))

-- Words are not none.
pub worded : (ws others : List Word) (w : Word) → ws ≡ w ∷ others → ws ≡ [] → ⊥
worded ws others w p q = let z : ◌≡◌ {A = ℕ} 0 1 = cc in omega arith
