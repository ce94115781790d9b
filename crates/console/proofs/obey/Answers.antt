-- Each command is the call of its name.
use Rattle.board.specs.Held.{bookings}
use Rattle.commands.specs.declared.commands.Command.TheVariants.{Build, Enter, Withdraw, Rebook, Place, Apply, Sweep, Show}
use Rattle.report.specs.Lines.{board_lines, verdict_line}
use Rattle.report.specs.Replies.{called, placed, applied}
use Rattle.console.specs.Console.{builds, enters, withdraws, rebooks, places, applies, sweeps, shows}
use Rattle.console.proofs.Obeyed.{by_text, by_reply}
use Rattle.console.proofs.obey.Goals as goal

pub returns-in-Build : goal.returns-in-Build
returns-in-Build c =
    by_reply (bookings c.args.board.now) (bookings c.build.new.self) c.args.command (Build c.in-Build.capacity) c.called.result
    (called c.build.result) c.args.out.now c.reply.new.out c.reply.result c.in-Build.is c.called.ensures
    (builds c.build.ensures) c.reply.ensures

pub returns-in-Enter : goal.returns-in-Enter
returns-in-Enter c =
    by_reply (bookings c.args.board.now) (bookings c.enter.new.self) c.args.command (Enter c.in-Enter.test) c.called-in-Enter.result
    (called c.enter.result) c.args.out.now c.reply-in-Enter.new.out c.reply-in-Enter.result c.in-Enter.is c.called-in-Enter.ensures
    (enters c.enter.ensures) c.reply-in-Enter.ensures

pub returns-in-Withdraw : goal.returns-in-Withdraw
returns-in-Withdraw c =
    by_reply (bookings c.args.board.now) (bookings c.withdraw.new.self) c.args.command (Withdraw c.in-Withdraw.pair) c.called-in-Withdraw.result
    (called c.withdraw.result) c.args.out.now c.reply-in-Withdraw.new.out c.reply-in-Withdraw.result c.in-Withdraw.is c.called-in-Withdraw.ensures
    (withdraws c.withdraw.ensures) c.reply-in-Withdraw.ensures

pub returns-in-Rebook : goal.returns-in-Rebook
returns-in-Rebook c =
    by_reply (bookings c.args.board.now) (bookings c.rebook.new.self) c.args.command (Rebook c.in-Rebook.pair c.in-Rebook.release c.in-Rebook.deadline) c.called-in-Rebook.result
    (called c.rebook.result) c.args.out.now c.reply-in-Rebook.new.out c.reply-in-Rebook.result c.in-Rebook.is c.called-in-Rebook.ensures
    (rebooks c.rebook.ensures) c.reply-in-Rebook.ensures

pub returns-in-Place : goal.returns-in-Place
returns-in-Place c =
    by_reply (bookings c.args.board.now) (bookings c.args.board.now) c.args.command (Place c.in-Place.pair) c.placed.result
    (placed c.place.result) c.args.out.now c.reply-in-Place.new.out c.reply-in-Place.result c.in-Place.is c.placed.ensures
    (places c.place.ensures) c.reply-in-Place.ensures

pub returns-in-Apply : goal.returns-in-Apply
returns-in-Apply c =
    by_reply (bookings c.args.board.now) (bookings c.apply_by_letter.new.board) c.args.command (Apply c.in-Apply.letter) c.applied.result
    (applied c.in-Apply.letter c.apply_by_letter.result) c.args.out.now c.reply-in-Apply.new.out c.reply-in-Apply.result c.in-Apply.is c.applied.ensures
    (applies c.apply_by_letter.ensures.1) c.reply-in-Apply.ensures

pub returns-in-Sweep : goal.returns-in-Sweep
returns-in-Sweep c =
    by_text (bookings c.args.board.now) (bookings c.sweep.new.board) c.args.command Sweep (verdict_line c.sweep.result)
    c.args.out.now c.verdict.new.out c.verdict.result c.in-Sweep.is (sweeps c.sweep.ensures.step) c.verdict.ensures

pub returns-in-Show : goal.returns-in-Show
returns-in-Show c =
    by_text (bookings c.args.board.now) (bookings c.args.board.now) c.args.command Show (board_lines (bookings c.args.board.now))
    c.args.out.now c.listing.new.out c.listing.result c.in-Show.is shows c.listing.ensures
