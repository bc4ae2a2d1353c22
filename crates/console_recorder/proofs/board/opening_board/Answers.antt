use Rattle.std.proofs.Common.{List, ◌∙◌, ap}
use Rattle.plant_file.specs.declared.console.ListedConsole.{ListedConsole}
use Rattle.console_recorder.specs.Entries.{counted_consoles}
use Rattle.console_recorder.proofs.board.opening_board.Goals as goal

pub returns : goal.returns
returns c = (
  λ i. record {
    panel = (c.new.ensures.alarms ∙ c.in_ok-panel.ensures) i;
    consoles = (c.new.ensures.consoles ∙ (c.in_ok-tallies.ensures.all ∙ ap (λ (cs : List ListedConsole). counted_consoles cs) c.consoles.ensures.consoles)) i;
  },
  c.new.ensures.none,
)
