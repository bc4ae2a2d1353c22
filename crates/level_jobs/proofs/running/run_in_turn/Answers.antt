use Rattle.std.proofs.Common.{◌≡◌, ◌+◌, ◌++◌, ℕ, suc, [], List, refl, sym, ap, ◌∙◌, subst, arith}
use Rattle.std.specs.Prelude.{All}
use Rattle.std.specs.Arc.{arc_value}
use Rattle.std.proofs.lemmas.List.Elements.{All-append, All-nil}
use Rattle.plant_types.specs.Values.{Path}
use Rattle.level_jobs.specs.Gathers.{GathersLevel, GathersLevels, no_level, next_level}
use Rattle.level_jobs.specs.Spotted.{HasItsPath, spotted}
use Rattle.level_jobs.specs.declared.fault.ProgramFault.{ProgramFault}
use Rattle.level_jobs.proofs.Again.{shape_lasts, can_again}
use Rattle.level_jobs.proofs.Telling.{spotted_append}
use Rattle.level_jobs.proofs.running.run_in_turn.Goals as goal

pub loop-below-init : goal.loop-below-init
loop-below-init g c =
    let parts = arc_value c.args.parts.now in
    record {
      gathered = c.requires.gathered;
      levels = λ paths. subst (λ (xs : List ProgramFault). GathersLevels paths parts c.args.levels.now c.args.store.now 0 c.args.store.now (spotted paths xs)) (sym c.new-faults.ensures.items) no_level;
      paths = λ codes are. subst (All (HasItsPath codes)) (sym c.new-faults.ensures.items) (All-nil (HasItsPath codes));
      counted = refl;
    }

pub run_level-requires-clause-programs : goal.run_level-requires-clause-programs
run_level-requires-clause-programs g c =
    let parts = arc_value c.args.parts.now in
    let none : ℕ → List Path = λ p. [] in
    let shape = shape_lasts none parts c.args.levels.now c.args.store.now c.loop-below.below c.loop-below.store (spotted none c.loop-below.faults.items) (c.loop-below.invariant.levels none) in
    can_again parts c.args.levels.now (c.loop-below.below + 1) c.args.store.now c.loop-below.store shape.0 shape.1 (c.requires.programs (c.loop-below.below + 1))

pub loop-below-preserved : goal.loop-below-preserved
loop-below-preserved g c =
    let parts = arc_value c.args.parts.now in
    let next : c.loop-below.below + 1 ≡ suc c.loop-below.below = omega arith in
    let items : c.loop-below.faults.items ++ c.in_ok-here.here.items ≡ c.append.new.self.items = sym c.in-Ok.ensures.items in
    record {
      gathered = c.in_ok-here.ensures.gathered;
      levels = λ paths.
          let level : GathersLevel paths parts c.args.levels.now (suc c.loop-below.below) c.loop-below.store c.run_level.new.store (spotted paths c.in_ok-here.here.items)
          = subst (λ n. GathersLevel paths parts c.args.levels.now n c.loop-below.store c.run_level.new.store (spotted paths c.in_ok-here.here.items)) next (c.in_ok-here.ensures.level paths) in
          let turn : GathersLevels paths parts c.args.levels.now c.args.store.now (suc c.loop-below.below) c.run_level.new.store (spotted paths c.loop-below.faults.items ++ spotted paths c.in_ok-here.here.items)
          = next_level (c.loop-below.invariant.levels paths) level in
          let told = sym (spotted_append paths c.loop-below.faults.items c.in_ok-here.here.items) ∙ ap (spotted paths) items in
          rw next (subst (GathersLevels paths parts c.args.levels.now c.args.store.now (suc c.loop-below.below) c.run_level.new.store) told turn);
      paths = λ codes are. subst (All (HasItsPath codes)) items (All-append (HasItsPath codes) c.loop-below.faults.items c.in_ok-here.here.items (c.loop-below.invariant.paths codes are) (c.in_ok-here.ensures.paths codes are));
      counted = c.in_ok-here.ensures.counted ∙ c.loop-below.invariant.counted;
    }
