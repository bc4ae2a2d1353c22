use Rattle.console_boards.proofs.Replying.{reply_is, has_target}
use Rattle.console_boards.proofs.laws.replies_are_of_the_table.Goals as goal

pub returns-clause-reply : goal.returns-clause-reply
returns-clause-reply c = reply_is

pub returns-clause-target : goal.returns-clause-target
returns-clause-target c = has_target
