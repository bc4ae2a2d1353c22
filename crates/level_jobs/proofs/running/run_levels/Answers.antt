use Rattle.std.specs.Arc.{arc_value}
use Rattle.std.proofs.lemmas.List.Sorted.{All-permutation}
use Rattle.level_jobs.specs.Spotted.{HasItsPath}
use Rattle.level_jobs.proofs.Sorting.{ends_in_order}
use Rattle.level_jobs.proofs.running.run_levels.Goals as goal

pub returns-clause-levels : goal.returns-clause-levels
returns-clause-levels g c = record { told = c.in_ok-faults.faults.items; gathers = c.in_ok-faults.ensures.levels; same = c.sort_faults.ensures.same; rising = c.sort_faults.ensures.rising }

pub returns-clause-paths : goal.returns-clause-paths
returns-clause-paths g c = λ codes are. All-permutation (HasItsPath codes) c.in_ok-faults.faults.items c.sort_faults.new.faults.items c.sort_faults.ensures.same (c.in_ok-faults.ensures.paths codes are)

pub returns-clause-in_order : goal.returns-clause-in_order
returns-clause-in_order g c = λ paths globals codes are is own many.
    ends_in_order paths globals codes (arc_value c.args.parts.now) c.args.levels.now are is own c.args.store.now c.run_in_turn.new.store c.sort_faults.new.faults.items many
    (record { told = c.in_ok-faults.faults.items; gathers = c.in_ok-faults.ensures.levels; same = c.sort_faults.ensures.same; rising = c.sort_faults.ensures.rising })
