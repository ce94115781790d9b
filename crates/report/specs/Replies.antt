-- The answers to commands, and their lines as bytes.
use Rattle.std.specs.Prelude.{ℕ, List, ◌++◌, Ok, Err, codes, Result}
use Rattle.model.specs.declared.intervals.Interval.{Interval}
use Rattle.board.specs.declared.answers.Effect.{Effect}
use Rattle.board.specs.declared.answers.Effect.TheVariants as effect
use Rattle.board.specs.declared.refusals.Refusal.{Refusal}
use Rattle.board.specs.Calls.{Answer}
use Rattle.board.specs.Refusals.{number_of}
use Rattle.report.specs.declared.replies.Reply.{Reply}
use Rattle.report.specs.declared.replies.Reply.TheVariants.{Done, Refused, Place, Overfull, Squeezed, Narrowed, Quiet, Unknown}
use Rattle.report.specs.Lines.{before_end, overfull_words, squeezed_words}

-- The reply to a call that is obeyed or refused.
abbrev pub called : Answer → Reply
called (Ok u) = Done
called (Err why) = Refused why

-- The reply to the question for a place.
abbrev pub placed : Result ℕ Refusal → Reply
placed (Ok place) = Place place
placed (Err why) = Refused why

-- The reply to the application of the rule of a letter.
abbrev pub applied : ℕ → Result (Effect Interval) Refusal → Reply
applied letter (Ok (effect.Overfull interval)) = Overfull letter interval
applied letter (Ok (effect.Squeezed row)) = Squeezed letter row
applied letter (Ok effect.Narrowed) = Narrowed
applied letter (Ok effect.Quiet) = Quiet
applied letter (Err why) = Refused why

-- The line of a reply: its word, and the number of the refusal, the place, or the rule's letter with the interval or the row.
abbrev pub reply_line : Reply → List ℕ
reply_line Done = codes "OK\n"
reply_line (Refused why) = codes "REFUSED " ++ before_end (number_of why)
reply_line (Place place) = codes "PLACE " ++ before_end place
reply_line (Overfull letter interval) = overfull_words letter interval (codes "\n")
reply_line (Squeezed letter row) = squeezed_words letter row (codes "\n")
reply_line Narrowed = codes "NARROWED\n"
reply_line Quiet = codes "QUIET\n"
reply_line Unknown = codes "UNKNOWN\n"
