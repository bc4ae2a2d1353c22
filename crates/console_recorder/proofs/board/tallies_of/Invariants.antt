use Rattle.std.proofs.Common.{◌≡◌, take, All}
use Rattle.console_boards.specs.Counts.{consoles_in}
use Rattle.console_recorder.specs.Entries.{counted_consoles}
use Rattle.console_recorder.proofs.board.tallies_of.Given as goal

abbrev pub invariant-loop-console : goal.invariant-loop-console
invariant-loop-console l = All (λ t. t.orders ≡ 0) l.tallies.items × (consoles_in l.tallies.items ≡ counted_consoles (take l.console-index l.consoles))
