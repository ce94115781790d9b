-- The number and the letter that a word writes.
use Rattle.std.proofs.Common.{◌≡◌, ℕ, ◌^◌, ◌<◌, Bool, true, false, cond, ◌&&◌, ltb, not, List, [], ◌∷◌, ◌++◌, length, get_or, slice_get, Some, None, is_some, Ok, Err, IsUtf8, Result, sym, refl, ap, ◌∙◌, arith, ltb-true}
use lib.Utf8.{encode}
use Rattle.std.proofs.lemmas.Str.Parse.{IsNumeralModel, numerals_by_value, tells_all_ascii_digits, not_in_digits}
use Rattle.std.proofs.lemmas.Bool.{lt-ltb, cond-true}
use Rattle.std.proofs.lemmas.Str.{chars-nil, chars_past_char}
use Rattle.std.specs.Result.{OkIff, result_ok}
use Rattle.std.specs.Str.Parse.{digits_value}
use Rattle.std.specs.Str.{all_ascii_digits, chars}
use Rattle.std.specs.Bool.{then_some}
use Rattle.commands.specs.Lines.{only, number_of, letter_of}

pub own : IsNumeralModel (λ ds. all_ascii_digits ds ≡ true) (digits_value 10)
own = numerals_by_value (λ ds. all_ascii_digits ds ≡ true) tells_all_ascii_digits

-- What makes a word a number.
abbrev pub Writes : List ℕ → Type 0
Writes w = (all_ascii_digits w ≡ true) × (0 < length w) × (digits_value 10 w < 2 ^ 32)

both : (a b c : Bool) → a ≡ true → b ≡ true → c ≡ true → (a && (b && c)) ≡ true
both a b c p q r = rw (p, q, r)

pub written : (w : List ℕ) → Writes w → number_of w ≡ Some (digits_value 10 w)
written w h =
    cond-true (all_ascii_digits w && (ltb 0 (length w) && ltb (digits_value 10 w) (2 ^ 32))) (Some (digits_value 10 w)) None
    (both (all_ascii_digits w) (ltb 0 (length w)) (ltb (digits_value 10 w) (2 ^ 32)) h.0 (lt-ltb 0 (length w) h.1) (lt-ltb (digits_value 10 w) (2 ^ 32) h.2))

-- Where a number is none, one of three tests fails.
failing : (a b c : Bool) (x : ℕ) → (a ≡ true → b ≡ true → c ≡ true → ⊥) → cond (a && (b && c)) (Some x) None ≡ None
failing false b c x h = refl
failing true false c x h = refl
failing true true false x h = refl
failing true true true x h = absurd (h refl refl refl)

pub unwritten : (w : List ℕ) → ¬ Writes w → number_of w ≡ None
unwritten w h =
    failing (all_ascii_digits w) (ltb 0 (length w)) (ltb (digits_value 10 w) (2 ^ 32)) (digits_value 10 w)
    (λ p q r. h (p, ltb-true 0 (length w) q, ltb-true (digits_value 10 w) (2 ^ 32) r))

pub parsed : {E : Type 0} (w : List ℕ) (r : Result ℕ E) → OkIff r (Writes w) (digits_value 10 w) → result_ok r ≡ number_of w
parsed w (Ok x) h = ap (λ (n : ℕ). Some n) h.1 ∙ sym (written w h.0)
parsed w (Err e) h = sym (unwritten w h)

-- A sign is no digit.
pub signed_word : (w : List ℕ) → get_or w 0 0 ≡ 43 → number_of w ≡ None
signed_word w e = unwritten w (λ h. not_in_digits own w 43 h.0 (λ i. omega arith) 0 h.1 e)

alone : (cs : List ℕ) (c : ℕ) (last : Bool) → is_some (slice_get cs 0) ≡ not last → then_some last c ≡ only (c ∷ cs)
alone [] c true h = refl
alone [] c false h = cc
alone (d ∷ cs) c true h = cc
alone (d ∷ cs) c false h = refl

pub no_letter : (w : List ℕ) → length w ≡ 0 → letter_of w ≡ None
no_letter [] h = ap only chars-nil
no_letter (b ∷ w) h = absurd (omega arith)

-- Where a word begins with a character, that is its letter if none comes after it.
pub first_letter : (w rest : List ℕ) (c : ℕ) (last : Bool) → IsUtf8 w → w ≡ encode c ++ rest → is_some (slice_get (chars rest) 0) ≡ not last → then_some last c ≡ letter_of w
first_letter w rest c last u e h = alone (chars rest) c last h ∙ ap only (sym (chars_past_char w rest c u e))
