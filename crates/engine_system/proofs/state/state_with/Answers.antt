use Rattle.std.proofs.Common.{◌≡◌, ap, ◌∙◌, false}
use Rattle.logic_cells.specs.Cells.{value_at}
use Rattle.engine_history.specs.Names.{globals_of}
use Rattle.engine_system.specs.System.{outputs_from}
use Rattle.engine_system.proofs.Systems.{opening_flags}
use Rattle.engine_system.proofs.state.state_with.Goals as goal

pub returns : goal.returns
returns c =
    let plant = c.args.plant.now in
    let faulted = opening_flags _ _ _ c.programs.ensures.count (c.in_ok-faulted.ensures.items_if_clones_equal (λ y same. same)) in
    let outputs : c.in_ok-outputs.outputs.items ≡ outputs_from 0 (globals_of plant) (value_at c.args.cells) =
    c.in_ok-outputs.ensures ∙ ap (λ globals. outputs_from 0 globals (value_at c.args.cells)) c.globals.ensures.globals
    in
    λ i. record {
      cells = c.args.cells;
      faulted = faulted i;
      sites = c.args.bank.sites;
      watches = c.in_ok-watches.ensures i;
      follows = false;
      alarms = c.args.bank.alarms;
      delays = c.args.delays;
      outputs = outputs i;
      moment = c.args.bank.moment;
      reloads = c.args.reloads;
    }
