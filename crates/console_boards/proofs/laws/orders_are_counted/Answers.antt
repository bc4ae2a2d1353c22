use Rattle.console_boards.proofs.Counting.{counted, answers_begin}
use Rattle.console_boards.proofs.laws.orders_are_counted.Goals as goal

pub returns-clause-counted : goal.returns-clause-counted
returns-clause-counted c = counted

pub returns-clause-begin : goal.returns-clause-begin
returns-clause-begin c = answers_begin
