use Rattle.std.proofs.Common.{◌≡◌, ◌<◌, ◌∙◌, sym, ap, subst, arith, rules, length, true, ◌++◌, ◌∷◌, [], IfSome}
use Rattle.std.specs.Prelude.{slice_set}
use Rattle.std.proofs.lemmas.List.{length-set}
use Rattle.std.proofs.lemmas.List.Elements.{All-push}
use Rattle.std.proofs.lemmas.Grind.{common_steps}
use Rattle.plant_types.specs.declared.values.Place.{Place}
use Rattle.plant_types.specs.declared.values.Trap.{Trap}
use Rattle.logic_source.specs.Paths.{paths_of}
use Rattle.vm_carry.specs.Runs.{Agree}
use Rattle.level_scans.specs.Runs.{run_by, ended_by}
use Rattle.level_scans.proofs.ProgramRuns.{reached_next, reached_trap}
use Rattle.level_scans.proofs.in_order.run_in_order.Goals.{in-Some+in_ok-push, in_default}
use Rattle.level_scans.proofs.in_order.run_in_order.Goals as goal

pub loop-at-preserved : goal.loop-at-preserved
loop-at-preserved c =
    let l = c.loop-at in
    let source = c.args.given.now.framed.now in
    let flag = c.index-is_faulted.result.now in
    let after = c.run_program.new.cells in
    let there : l.at < length l.changed.faulted.now.items = omega (arith, c.loop-at-test.true, l.invariant.same) in
    elim c.match-fault.branch [
      | in-Some+in_ok-push w ↦
          let fault = w.in-Some.fault in
          let end = c.match-fault.changed in
          let cells : end.cells.now ≡ after = ap (λ x. x.cells.now) w.changed-is in
          let flags : end.faulted.now.items ≡ slice_set l.changed.faulted.now.items l.at true = search rules in
          let faults : end.faults.now.items ≡ l.changed.faults.now.items ++ fault ∷ [] = search rules in
          record {
            few = l.invariant.few;
            same = ap length flags ∙ length-set l.changed.faulted.now.items l.at true ∙ l.invariant.same;
            cells_there = rw cells c.run_program.ensures.cells;
            within = rw faults (All-push (λ (f : Place × Trap). f.0.path < length (paths_of source)) l.changed.faults.now.items fault l.invariant.within (subst (λ o. IfSome o (λ (f : Place × Trap). f.0.path < length (paths_of source))) w.in-Some.is c.in_ok-fault.ensures.within));
            reached = λ u stands.
                rw (cells, flags, faults) (reached_trap source c.args.given.now.moment _ l.at l.changed.cells.now after l.changed.faulted.now.items l.changed.faults.now.items flag fault there (sym c.index-is_faulted.ensures)
                (λ v s. subst (λ o. Agree source (run_by flag source l.at c.args.given.now.moment v) (ended_by source o after)) w.in-Some.is (c.in_ok-fault.ensures.ran v s)) (l.invariant.reached u stands));
            same_cells = ap (λ x. x.cells.ghost_name) w.changed-is ∙ l.invariant.same_cells;
            same_faulted = ap (λ x. x.faulted.ghost_name) w.changed-is ∙ l.invariant.same_faulted;
            same_faults = ap (λ x. x.faults.ghost_name) w.changed-is ∙ l.invariant.same_faults;
            same_space = ap (λ x. x.space.ghost_name) w.changed-is ∙ l.invariant.same_space;
          }
      | in_default w ↦
          rw w.changed-is (record {
            few = l.invariant.few;
            same = l.invariant.same;
            cells_there = c.run_program.ensures.cells;
            within = l.invariant.within;
            reached = λ u stands.
                reached_next source c.args.given.now.moment _ l.at l.changed.cells.now after l.changed.faulted.now.items l.changed.faults.now.items flag there (sym c.index-is_faulted.ensures)
                (λ v s. subst (λ o. Agree source (run_by flag source l.at c.args.given.now.moment v) (ended_by source o after)) w.in_default.is (c.in_ok-fault.ensures.ran v s)) (l.invariant.reached u stands);
            same_cells = l.invariant.same_cells;
            same_faulted = l.invariant.same_faulted;
            same_faults = l.invariant.same_faults;
            same_space = l.invariant.same_space;
          })
    ]

pub loop-at-init : goal.loop-at-init
loop-at-init c = grind (arith, common_steps)
