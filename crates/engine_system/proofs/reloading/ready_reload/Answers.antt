use Rattle.std.proofs.Common.{◌≡◌, ◌+◌, ℕ, List, Option, ap, ◌∙◌, subst}
use Rattle.logic_cells.specs.Cells.{PlainCells}
use Rattle.logic_source.specs.Source.{Source}
use Rattle.logic_source.specs.Worlds.{World}
use Rattle.logic_source.specs.Carried.{carried}
use Rattle.level_scans.specs.Stands.{StandFor}
use Rattle.alarm_bank.specs.declared.rows.NewAlarm.{NewAlarm}
use Rattle.alarm_bank.specs.Reloads.{bank_reloaded}
use Rattle.alarm_delays.specs.Delays.{delays_reloaded}
use Rattle.engine_system.specs.Reloads.{fresh_count, kept_count, kept_numbers, kept_of}
use Rattle.engine_system.specs.States.{PlainState, bank_in}
use Rattle.engine_system.specs.System.{delays_of}
use Rattle.engine_system.proofs.Reloaded.{cells_carried, news_kept, reload_ready}
use Rattle.engine_system.proofs.Shown.{cells_showable}
use Rattle.engine_system.proofs.reloading.ready_reload.Goals as goal

pub bank_after-requires-clause-each : goal.bank_after-requires-clause-each
bank_after-requires-clause-each c = c.requires.ready.alarms

pub delays_after-requires : goal.delays_after-requires
delays_after-requires c =
    c.as_slice-3.ensures.value ∙ c.in_ok-kept.ensures ∙ ap kept_of (c.as_slice.ensures.value ∙ c.in_ok-news.ensures) ∙ news_kept c.args.plant.now c.args.new.now

-- the cells that go over stand for what goes over
abbrev Goes : Source → Source → PlainCells → PlainCells → Type 0
Goes old new before after = (w : World) → StandFor old before w → StandFor new after (carried old new w)

pub state_with-requires : goal.state_with-requires
state_with-requires c =
    let plant = c.args.plant.now in
    let new = c.args.new.now in
    let own : c.state.inside.cells ≡ c.args.state.now.cells = ap (λ (k : PlainState). k.cells) c.state.view_is in
    let over : Goes plant.source new.source c.args.state.now.cells c.in_ok-cells.cells =
    subst (λ (cells : PlainCells). Goes plant.source new.source cells c.in_ok-cells.cells) own
    (subst (λ (s : Source). Goes s new.source c.state.inside.cells c.in_ok-cells.cells) c.logic.ensures.source
    (subst (λ (s : Source). Goes c.logic.result.now s c.state.inside.cells c.in_ok-cells.cells) c.logic-logic.ensures.source c.in_ok-cells.ensures))
    in
    cells_showable new.source c.in_ok-cells.cells (cells_carried plant new c.args.state.now.cells c.in_ok-cells.cells c.logic-logic.ensures.plant.sound c.requires.ready.values over)

pub returns : goal.returns
returns c =
    let plant = c.args.plant.now in
    let new = c.args.new.now in
    let old = c.args.state.now in
    let own : c.state.inside.cells ≡ old.cells = ap (λ (k : PlainState). k.cells) c.state.view_is in
    let over : Goes plant.source new.source old.cells c.in_ok-cells.cells =
    subst (λ (cells : PlainCells). Goes plant.source new.source cells c.in_ok-cells.cells) own
    (subst (λ (s : Source). Goes s new.source c.state.inside.cells c.in_ok-cells.cells) c.logic.ensures.source
    (subst (λ (s : Source). Goes c.logic.result.now s c.state.inside.cells c.in_ok-cells.cells) c.logic-logic.ensures.source c.in_ok-cells.ensures))
    in
    let kept : c.in_ok-kept.kept.items ≡ kept_numbers plant new = c.in_ok-kept.ensures ∙ ap kept_of (c.as_slice.ensures.value ∙ c.in_ok-news.ensures) ∙ news_kept plant new in
    let bank = c.in_ok-bank.ensures ∙ ap (λ (news : List NewAlarm). bank_reloaded news (bank_in old)) (c.as_slice-2.ensures.value ∙ c.in_ok-news.ensures) in
    let delays = c.in_ok-delays.ensures ∙ ap (λ (k : List (Option ℕ)). delays_reloaded (delays_of new.alarms) k old.delays) (c.as_slice-3.ensures.value ∙ kept) in
    record {
      state_is = reload_ready plant new old c.in_ok-state.state c.in_ok-cells.cells c.in_ok-bank.bank c.in_ok-delays.delays (c.state.inside.reloads + 1) over bank delays (ap (λ (k : PlainState). k.reloads + 1) c.state.view_is) c.in_ok-state.ensures;
      kept_is = c.kept_count.ensures.count ∙ ap kept_count (c.as_slice-4.ensures.value ∙ kept);
      fresh_is = c.fresh_count.ensures.count ∙ ap fresh_count (c.as_slice-5.ensures.value ∙ kept);
      plant_is = c.logic-logic.ensures.plant;
    }
