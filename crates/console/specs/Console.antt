-- What a command or a line does to a board, and which text answers it.
use Rattle.std.specs.Prelude.{ℕ, List, [], ◌∷◌, Result}
use Rattle.model.specs.declared.intervals.Interval.{Interval}
use Rattle.model.specs.declared.rows.Pair.{Pair}
use Rattle.board.specs.declared.answers.Effect.{Effect}
use Rattle.board.specs.declared.answers.Swept.{Swept}
use Rattle.board.specs.declared.bookings.Test.{Test}
use Rattle.board.specs.declared.refusals.Refusal.{Refusal}
use Rattle.board.specs.Calls.{Bookings, Answer, Builds, Enters, Withdraws, Rebooks, Places}
use Rattle.timetable.specs.Meaning.{meaning_T}
use Rattle.elastic.specs.Meaning.{meaning_E}
use Rattle.shift.specs.Meaning.{meaning_S}
use Rattle.runs.specs.Runs.{AppliesByLetter}
use Rattle.runs.specs.Sweeping.{Application, SweepsTo}
use Rattle.report.specs.declared.replies.Reply.TheVariants as reply
use Rattle.report.specs.Lines.{board_lines, verdict_line}
use Rattle.report.specs.Replies.{called, placed, applied, reply_line}
use Rattle.commands.specs.declared.commands.Command.{Command}
use Rattle.commands.specs.declared.commands.Command.TheVariants.{Build, Enter, Withdraw, Rebook, Place, Apply, Sweep, Show}
use Rattle.commands.specs.declared.commands.Line.{Line}
use Rattle.commands.specs.declared.commands.Line.TheVariants.{Nothing, Unknown, Says}

-- A command is the call of its name; the text is the line of what the call answers. A sweep is of T, E and S. Place and show change nothing.
pub data Obeys (b : Bookings) : Command → List ℕ → Bookings → Type 0 where
  builds : {capacity : ℕ} {a : Answer} {b' : Bookings} → Builds b capacity a b' → Obeys b (Build capacity) (reply_line (called a)) b'
  enters : {t : Test} {a : Answer} {b' : Bookings} → Enters b t a b' → Obeys b (Enter t) (reply_line (called a)) b'
  withdraws : {pair : Pair} {a : Answer} {b' : Bookings} → Withdraws b pair a b' → Obeys b (Withdraw pair) (reply_line (called a)) b'
  rebooks : {pair : Pair} {release deadline : ℕ} {a : Answer} {b' : Bookings} → Rebooks b pair release deadline a b' →
      Obeys b (Rebook pair release deadline) (reply_line (called a)) b'
  places : {pair : Pair} {r : Result ℕ Refusal} → Places pair r → Obeys b (Place pair) (reply_line (placed r)) b
  applies : {letter : ℕ} {chain : List Application} {r : Result (Effect Interval) Refusal} {b' : Bookings} → AppliesByLetter letter b chain r b' →
      Obeys b (Apply letter) (reply_line (applied letter r)) b'
  sweeps : {s : Swept} {b' : Bookings} → SweepsTo (meaning_T ∷ (meaning_E ∷ (meaning_S ∷ []))) b s b' → Obeys b Sweep (verdict_line s) b'
  shows : Obeys b Show (board_lines b) b

-- A line that is passed over has no answer, and one that is no command changes nothing.
pub data Answers (b : Bookings) : Line → List ℕ → Bookings → Type 0 where
  passes : Answers b Nothing [] b
  unknown : Answers b Unknown (reply_line reply.Unknown) b
  obeys : {command : Command} {text : List ℕ} {b' : Bookings} → Obeys b command text b' → Answers b (Says command) text b'
