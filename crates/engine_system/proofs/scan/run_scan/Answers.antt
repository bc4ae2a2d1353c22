use Rattle.std.proofs.Common.{◌≡◌, ◌∙◌, ap, sym, subst, fold, map, length, rules, arith}
use Rattle.std.proofs.lemmas.Grind.{common_steps}
use Rattle.logic_cells.specs.Cells.{value_at}
use Rattle.engine_system.specs.System.{outputs_from, outs_from}
use Rattle.engine_system.specs.States.{PlainState}
use Rattle.level_scans.specs.VmLogicRuns.{HasCells}
use Rattle.engine_system.specs.Steps.{with_cell, output_in}
use Rattle.engine_system.proofs.InRange.{inputs_have_cells, scan_stands}
use Rattle.engine_system.proofs.Shown.{cells_showable, outputs_showable}
use Rattle.engine_system.proofs.Outs.{outputs_renewed, outs_differ}
use Rattle.alarm_watch.proofs.WatchLaws.{follow_after}
use Rattle.alarm_delays.specs.Delays.{PlainDelays, after_conditions, after_met}
use Rattle.alarm_watch.specs.Watched.{Follow, alarms_watched, watched_conditions}
use Rattle.engine_system.proofs.Watches.{each_watched, delays_many, watches_many}
use Rattle.engine_system.proofs.scan.run_scan.Goals as goal

pub returns-clause-ok : goal.returns-clause-ok
returns-clause-ok g c =
    let plant = c.args.taken.now.before.now.plant.now in
    let old = c.args.taken.now.before.now.state.now in
    let before = value_at old.cells in
    let now = value_at c.run_programs.new.changed.cells.now in
    let made = c.in_ok-renew.ensures ∙ ap (map (output_in now)) (c.as_slice-2.ensures.value ∙ ap (λ (k : PlainState). k.outputs) c.old.view_is) in
    let each = each_watched plant.alarms old.watches old.alarms c.requires.ready.watches c.requires.ready.alarms in
    let outputs : c.renew.new.renewed.items ≡ outputs_from 0 plant.source.globals now = outputs_renewed plant.source.globals before now old.outputs c.renew.new.renewed.items c.requires.ready.outputs made in
    let outs : c.list_changed.new.changed.items ≡ outs_from 0 plant.source.globals before now = outs_differ plant.source.globals before now c.renew.new.renewed.items c.list_changed.new.changed.items outputs (search rules) in
    let many = watches_many plant.alarms old.watches c.requires.ready.watches in
    let delays : length old.delays.delays ≡ length old.watches = ap length c.requires.ready.delays ∙ delays_many plant.alarms ∙ sym many in
    let since : length old.delays.since ≡ length old.watches = c.requires.ready.since ∙ sym many in
    let kept : after_met c.step_alarms.new.listed.met.items c.args.taken.now.moment c.step_alarms.new.listed.moves.moved.items old.delays ≡ after_conditions (watched_conditions now old.watches) c.args.taken.now.moment old.delays = c.in_ok-step_alarms.ensures.met in
    record {
      programs = search rules;
      faults_within = search rules;
      sites_are = search rules;
      watches_are = search rules;
      reloads_are = search rules;
      follow = rw c.in_ok-step_alarms.ensures.alarms (subst (λ (d : PlainDelays). Follow now old.watches d (alarms_watched now c.args.taken.now.moment old.watches old.delays old.alarms)) (sym kept) (follow_after now c.args.taken.now.moment old.watches old.delays old.alarms each delays since));
      alarms_are = search rules;
      delays_are = kept;
      changes_are = search rules;
      outputs_are = outputs;
      outs_are = outs;
      moment_is = search rules;
      reported_at = search rules;
      in_range = search rules;
    }

pub renew-requires : goal.renew-requires
renew-requires g c =
    let plant = c.args.taken.now.before.now.plant.now in
    let old = c.args.taken.now.before.now.state.now in
    let now = value_at c.run_programs.new.changed.cells.now in
    let held = scan_stands plant.source old.cells c.run_programs.new.changed.cells.now c.args.taken.now.image.now c.args.taken.now.moment old.faulted c.run_programs.new.changed.faulted.now.items c.run_programs.new.changed.faults.now.items c.requires.ready.sound c.requires.image c.requires.ready.values (search rules) in
    let showable = outputs_showable plant.source.globals (value_at old.cells) now old.outputs (cells_showable plant.source c.run_programs.new.changed.cells.now held) c.requires.ready.outputs in
    rw c.as_slice-2.ensures.value (rw (← c.old.view_is) at showable)

pub run_programs-requires-clause-cells : goal.run_programs-requires-clause-cells
run_programs-requires-clause-cells g c =
    let plant = c.args.taken.now.before.now.plant.now in
    let old = c.args.taken.now.before.now.state.now in
    let set : c.set_inputs.new.cells ≡ fold with_cell old.cells c.args.taken.now.image.now = search rules in
    rw c.logic.ensures.source (subst (HasCells plant.source) (sym set) (inputs_have_cells plant.source old.cells c.args.taken.now.image.now c.requires.ready.sound c.requires.image c.requires.ready.values))

pub step_alarms-requires-clause-each : goal.step_alarms-requires-clause-each
step_alarms-requires-clause-each g c = grind (arith, common_steps)

pub run_programs-requires-clause-flags : goal.run_programs-requires-clause-flags
run_programs-requires-clause-flags g c = grind (arith, common_steps)

pub returns-clause-crew : goal.returns-clause-crew
returns-clause-crew g c = grind (arith, common_steps)

pub run_programs-requires-clause-levels : goal.run_programs-requires-clause-levels
run_programs-requires-clause-levels g c = grind (arith, common_steps)

pub step_alarms-requires-clause-later : goal.step_alarms-requires-clause-later
step_alarms-requires-clause-later g c = let last = c.requires.ready.last in let later = c.requires.later in omega (arith, last, later)

pub step_alarms-requires-clause-delays : goal.step_alarms-requires-clause-delays
step_alarms-requires-clause-delays g c =
    let rows = c.args.taken.now.before.now.plant.now.alarms in
    let k = c.args.taken.now.before.now.state.now in
    ap length c.requires.ready.delays ∙ delays_many rows ∙ sym (watches_many rows k.watches c.requires.ready.watches)
