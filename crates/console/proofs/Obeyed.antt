-- A command whose call and whose line are known.
use Rattle.std.proofs.Common.{◌≡◌, ℕ, List, Result, sym, subst}
use Rattle.board.specs.Calls.{Bookings}
use Rattle.commands.specs.declared.commands.Command.{Command}
use Rattle.report.specs.declared.refusals.Refusal.{Refusal}
use Rattle.report.specs.declared.replies.Reply.{Reply}
use Rattle.report.specs.Buffers.{Writes}
use Rattle.report.specs.Replies.{reply_line}
use Rattle.console.specs.Console.{Obeys}

pub by_text : (b b' : Bookings) (command told : Command) (text before after : List ℕ) (r : Result ℕ Refusal) → command ≡ told → Obeys b told text b' →
    Writes text before r after → (text : List ℕ) × Obeys b command text b' × Writes text before r after
by_text b b' command told text before after r e o w = (text, subst (λ (x : Command). Obeys b x text b') (sym e) o, w)

pub by_reply : (b b' : Bookings) (command told : Command) (reply meant : Reply) (before after : List ℕ) (r : Result ℕ Refusal) → command ≡ told → reply ≡ meant →
    Obeys b told (reply_line meant) b' → Writes (reply_line reply) before r after → (text : List ℕ) × Obeys b command text b' × Writes text before r after
by_reply b b' command told reply meant before after r e f o w =
    by_text b b' command told (reply_line reply) before after r e (subst (λ (x : Reply). Obeys b told (reply_line x) b') (sym f) o) w
