use Rattle.std.proofs.Common.{◌≡◌, ◌+◌, ◌∷◌, ◌++◌, [], true, false, length, Some, ap, sym, ◌∙◌, subst, arith}
use Rattle.std.specs.Prelude.{slice_get}
use Rattle.std.specs.Arc.{arc_value}
use Rattle.std.proofs.lemmas.Grind.{common_steps}
use Rattle.slice_store.specs.Starts.{part_of}
use Rattle.slice_store.specs.Splits.{IsChosen, AreJobsBefore}
use Rattle.slice_store.proofs.Splitting.{jobs_none, jobs_skip, jobs_push, part_there}
use Rattle.slice_store.proofs.store.Store.begin_level.Goals as goal
use Rattle.slice_store.proofs.store.Store.begin_level.Goals.{then-is_chosen+in_ok-job+in_ok-push, else-is_chosen}

pub loop-p-init : goal.loop-p-init
loop-p-init c =
    subst (AreJobsBefore (arc_value c.args.parts.now) c.args.levels.now c.args.level c.args.self.now 0) (sym c.in_ok-jobs.ensures.items)
    (jobs_none (arc_value c.args.parts.now) c.args.levels.now c.args.level c.args.self.now)

pub begin_program-requires-clause-inside : goal.begin_program-requires-clause-inside
begin_program-requires-clause-inside c =
    let lt = c.loop-p-test.true in
    let many : c.count-many.result ≡ length (arc_value c.args.parts.now) = c.count-many.ensures ∙ ap length c.deref.ensures in
    c.requires.inside c.loop-p.p (part_of (arc_value c.args.parts.now) (c.loop-p.p + 1)) (part_there (arc_value c.args.parts.now) c.loop-p.p (omega arith))

pub loop-p-preserved : goal.loop-p-preserved
loop-p-preserved c =
    let parts = arc_value c.args.parts.now in
    let lt = c.loop-p-test.true in
    let many : c.count-many.result ≡ length parts = c.count-many.ensures ∙ ap length c.deref.ensures in
    elim c.if-is_chosen.branch [
      | then-is_chosen+in_ok-job+in_ok-push w ↦
          let at : slice_get parts c.loop-p.p ≡ Some (part_of parts (c.loop-p.p + 1)) = part_there parts c.loop-p.p (omega arith) in
          let chosen : IsChosen c.args.levels.now c.args.level c.args.self.now.faulted c.loop-p.p
          = record { level_is = c.is_chosen.ensures.level w.if-is_chosen.true; sound = c.is_chosen.ensures.sound w.if-is_chosen.true } in
          let items : c.if-is_chosen.jobs.items ≡ c.loop-p.jobs.items ++ w.in_ok-job.job ∷ [] = cc (w.in_ok-push.ensures.items) in
          subst (AreJobsBefore parts c.args.levels.now c.args.level c.args.self.now (c.loop-p.p + 1)) (sym items)
          (jobs_push parts c.args.levels.now c.args.level c.args.self.now c.loop-p.p c.loop-p.jobs.items (part_of parts (c.loop-p.p + 1)) w.in_ok-job.job c.loop-p.invariant chosen at w.in_ok-job.ensures)
      | else-is_chosen w ↦
          let items : c.if-is_chosen.jobs.items ≡ c.loop-p.jobs.items = cc in
          subst (AreJobsBefore parts c.args.levels.now c.args.level c.args.self.now (c.loop-p.p + 1)) (sym items)
          (jobs_skip parts c.args.levels.now c.args.level c.args.self.now c.loop-p.p c.loop-p.jobs.items c.loop-p.invariant
          (λ chosen. let yes : c.is_chosen.result ≡ true = c.is_chosen.ensures.chosen chosen.level_is chosen.sound in let no : c.is_chosen.result ≡ false = w.if-is_chosen.false in cc))
    ]

pub returns : goal.returns
returns c =
    let low = c.loop-p.auto.p-end in let high = c.loop-p-test.false in
    let many : c.count-many.result ≡ length (arc_value c.args.parts.now) = c.count-many.ensures ∙ ap length c.deref.ensures in
    let end : c.loop-p.p ≡ length (arc_value c.args.parts.now) = omega arith in
    subst (λ n. AreJobsBefore (arc_value c.args.parts.now) c.args.levels.now c.args.level c.args.self.now n c.loop-p.jobs.items) end c.loop-p.invariant

pub is_chosen-requires-clause-flagged : goal.is_chosen-requires-clause-flagged
is_chosen-requires-clause-flagged c = grind (arith, common_steps)

pub is_chosen-requires-clause-levelled : goal.is_chosen-requires-clause-levelled
is_chosen-requires-clause-levelled c = grind (arith, common_steps)

pub is_chosen-requires-clause-few : goal.is_chosen-requires-clause-few
is_chosen-requires-clause-few c = grind (arith, common_steps)

pub overflow_add-p : goal.overflow_add-p
overflow_add-p c = grind (arith, common_steps)

pub overflow_cast-p : goal.overflow_cast-p
overflow_cast-p c = grind (arith, common_steps)

pub begin_program-requires-clause-there : goal.begin_program-requires-clause-there
begin_program-requires-clause-there c = grind (arith, common_steps)
