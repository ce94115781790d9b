-- What a line is, and the answer to that.
use Rattle.std.proofs.Common.{[], refl, arith}
use Rattle.commands.specs.declared.commands.Line.TheVariants.{Nothing, Unknown, Says}
use Rattle.report.specs.declared.replies.Reply.TheVariants as reply
use Rattle.report.specs.Replies.{reply_line}
use Rattle.console.specs.Console.{passes, unknown, obeys}
use Rattle.console.proofs.answer.Goals as goal

pub returns-in-Nothing : goal.returns-in-Nothing
returns-in-Nothing c = (Nothing, [], c.in-Nothing.ensures, passes, (refl, omega arith, refl))

pub returns-in-Unknown : goal.returns-in-Unknown
returns-in-Unknown c = (Unknown, reply_line reply.Unknown, c.in-Unknown.ensures, unknown, c.reply.ensures)

pub returns-in-Says : goal.returns-in-Says
returns-in-Says c = (Says c.in-Says.command, c.obey.ensures.0, c.in-Says.ensures, obeys c.obey.ensures.1, c.obey.ensures.2)
