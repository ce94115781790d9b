-- Runs: lists of calls, each on the board that the one before left.
use Rattle.std.specs.Prelude.{ℕ, List, [], ◌∷◌, map, Ok, Err, Result}
use Rattle.model.specs.declared.intervals.Interval.{Interval}
use Rattle.model.specs.declared.rows.Pair.{Pair}
use Rattle.model.specs.Rules.{Meaning, Lawful}
use Rattle.board.specs.declared.answers.Effect.{Effect}
use Rattle.board.specs.declared.answers.Swept.{Swept}
use Rattle.board.specs.declared.bookings.Test.{Test}
use Rattle.board.specs.declared.refusals.Refusal.{Refusal}
use Rattle.board.specs.declared.refusals.Refusal.TheVariants as refusal
use Rattle.board.specs.Calls.{Bookings, Answer, Builds, Enters, Withdraws, Rebooks}
use Rattle.timetable.specs.Meaning.{meaning_T}
use Rattle.elastic.specs.Meaning.{meaning_E}
use Rattle.shift.specs.Meaning.{meaning_S}
use Rattle.runs.specs.Applying.{Applies}
use Rattle.runs.specs.Sweeping.{Application, application, Sweeps}

-- A rule is a meaning that keeps the law.
pub record Rule : Type 0 where
  pub means : Meaning
  pub lawful : Lawful means

-- The meanings of three rules, in order.
abbrev pub three : Rule → Rule → Rule → List Meaning
three r1 r2 r3 = r1.means ∷ (r2.means ∷ (r3.means ∷ []))

-- ---- apply by letter

-- The rules that have a letter on the console: T (84), E (69) and S (83).
pub data Names : ℕ → Meaning → Type 0 where
  names_T : Names 84 meaning_T
  names_E : Names 69 meaning_E
  names_S : Names 83 meaning_S

-- Apply by letter is apply of the rule that the letter names; a letter that names none is refused.
pub data AppliesByLetter (letter : ℕ) (b : Bookings) : List Application → Result (Effect Interval) Refusal → Bookings → Type 0 where
  named : {rule : Meaning} {e : Effect Interval} {b' : Bookings} → Names letter rule → Applies rule b e b' →
      AppliesByLetter letter b (application rule b e ∷ []) (Ok e) b'
  unnamed : ((rule : Meaning) → ¬ Names letter rule) → AppliesByLetter letter b [] (Err refusal.Letter) b

-- ---- calls

-- The calls on a board, with what each is given. Any rules that keep the law may be applied and swept.
pub data Call : Type 0 where
  build : ℕ → Call
  enter : Test → Call
  withdraw : Pair → Call
  rebook : Pair → ℕ → ℕ → Call
  apply : Rule → Call
  apply_by_letter : ℕ → Call
  sweep : Rule → Rule → Rule → Call

-- What the calls answer.
pub data Reply : Type 0 where
  answered : Answer → Reply
  applied : Effect Interval → Reply
  applied_by_letter : Result (Effect Interval) Refusal → Reply
  swept : Swept → Reply

-- A call on a board: the applications made in it, its reply, and the board after.
pub data Step (b : Bookings) : Call → List Application → Reply → Bookings → Type 0 where
  builds : {capacity : ℕ} {a : Answer} {b' : Bookings} → Builds b capacity a b' → Step b (build capacity) [] (answered a) b'
  enters : {t : Test} {a : Answer} {b' : Bookings} → Enters b t a b' → Step b (enter t) [] (answered a) b'
  withdraws : {pair : Pair} {a : Answer} {b' : Bookings} → Withdraws b pair a b' → Step b (withdraw pair) [] (answered a) b'
  rebooks : {pair : Pair} {release deadline : ℕ} {a : Answer} {b' : Bookings} → Rebooks b pair release deadline a b' →
      Step b (rebook pair release deadline) [] (answered a) b'
  applies : {rule : Rule} {e : Effect Interval} {b' : Bookings} → Applies rule.means b e b' →
      Step b (apply rule) (application rule.means b e ∷ []) (applied e) b'
  applies_by_letter : {letter : ℕ} {chain : List Application} {r : Result (Effect Interval) Refusal} {b' : Bookings} →
      AppliesByLetter letter b chain r b' → Step b (apply_by_letter letter) chain (applied_by_letter r) b'
  sweeps : {r1 r2 r3 : Rule} {chain : List Application} {s : Swept} {b' : Bookings} → Sweeps (three r1 r2 r3) b chain s b' →
      Step b (sweep r1 r2 r3) chain (swept s) b'

-- ---- runs

-- A call that was made, as a run records it.
pub record Event : Type 0 where
  pub before : Bookings
  pub call : Call
  pub applications : List Application
  pub reply : Reply
  pub after : Bookings

-- A run from one board to another: each call is made on the board that the one before left.
pub data Run : Bookings → List Event → Bookings → Type 0 where
  ends : {b : Bookings} → Run b [] b
  next : {b b' b'' : Bookings} {call : Call} {chain : List Application} {reply : Reply} {events : List Event} →
      Step b call chain reply b' → Run b' events b'' →
      Run b (record { before = b; call = call; applications = chain; reply = reply; after = b' } ∷ events) b''

-- The calls of a run, in order.
abbrev pub calls_of : List Event → List Call
calls_of events = map (λ e. e.call) events
