use Rattle.std.proofs.Common.{subst, sym}
use Rattle.logic_source.specs.Source.{Source}
use Rattle.logic_source.specs.Worlds.{opening}
use Rattle.level_scans.specs.Stands.{StandFor}
use Rattle.engine_system.specs.States.{PlainState, IsState}
use Rattle.engine_system.specs.System.{opening_system}
use Rattle.engine_system.proofs.InRange.{opening_stands}
use Rattle.engine_system.proofs.Shown.{cells_showable}
use Rattle.engine_system.proofs.Systems.{opening_agrees}
use Rattle.engine_system.proofs.Watches.{if_ok}
use Rattle.engine_system.proofs.state.opening_state.Goals as goal

pub returns-clause-state : goal.returns-clause-state
returns-clause-state c =
    let plant = c.args.plant.now in
    let stands : StandFor plant.source c.in_ok-cells.cells (opening plant.source) = subst (λ (s : Source). StandFor s c.in_ok-cells.cells (opening s)) c.logic.ensures.source c.in_ok-cells.ensures in
    let agrees = opening_agrees plant c.in_ok-cells.cells c.in_ok-bank.bank c.in_ok-delays.delays stands c.in_ok-bank.ensures c.in_ok-delays.ensures in
    if_ok _ _ c.state_with.result (λ (made : PlainState) is. let P : PlainState → Type 0 = IsState (opening_system plant) in subst P (sym is) agrees) c.state_with.ensures

pub returns-clause-is_plant : goal.returns-clause-is_plant
returns-clause-is_plant c = if_ok _ _ c.state_with.result (λ made is. c.logic.ensures.plant) c.state_with.ensures

pub state_with-requires : goal.state_with-requires
state_with-requires c =
    let plant = c.args.plant.now in
    let stands : StandFor plant.source c.in_ok-cells.cells (opening plant.source) = subst (λ (s : Source). StandFor s c.in_ok-cells.cells (opening s)) c.logic.ensures.source c.in_ok-cells.ensures in
    cells_showable plant.source c.in_ok-cells.cells (opening_stands plant.source c.in_ok-cells.cells c.logic.ensures.plant.sound stands)
