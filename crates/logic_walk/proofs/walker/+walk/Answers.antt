use Rattle.std.proofs.Common.{true, false, ◌≡◌, ◌∙◌, ap, sym, refl, length, ◌<◌, pos, neg_ℤ, ◌^◌, ◌+ℤ◌, ◌≤ℤ◌, ◌<ℤ◌, to_z, of_z, w64, arith, rules, [], ℕ}
use Rattle.std.specs.Int.{w128}
use Rattle.std.proofs.lemmas.Int.{ints}
use Rattle.std.proofs.lemmas.Bool.{ltb-false}
use Rattle.std.proofs.lemmas.Option.{slice_get_past}
use Rattle.std.proofs.lemmas.Result.{err_from_is_err_and}
use Rattle.std.proofs.lemmas.Grind.{common_steps}
use Rattle.plant_types.specs.Values.{is_true}
use Rattle.logic_cells.specs.Runs.{ended}
use Rattle.st_tree.specs.declared.tree.Stmt.{size-Stmt}
use Rattle.st_tree.specs.declared.tree.Branch.{size-Branch, size_is-Branch}
use Rattle.st_tree.specs.declared.tree.Choice.{size-Choice, size_is-Choice}
use denote.Param.Weighed.{most, at_most}
use Rattle.st_tree.specs.View.{view_expr, view_option, view_stmt, view_body, view_choices}
use Rattle.st_tree.specs.Meaning.{run_all, first_fit, turns}
use Rattle.st_tree.specs.Controls.{control_values}
use Rattle.st_tree.proofs.Views.{view_stmt-For}
use Rattle.st_tree.proofs.Depth.{size-If, size-Case, size-For}
use Rattle.st_tree.proofs.Counting.{falls_up, falls_down, up_on, down_on}
use Rattle.logic_walk.specs.declared.frame.Frame.{Frame}
use Rattle.logic_walk.specs.Frames.{frame_paths}
use Rattle.logic_walk.specs.Walks.{called}
use Rattle.logic_walk.specs.Walk.{below, space, paths}
use Rattle.logic_walk.proofs.Ranks.{frame_at, frame_less}
use Rattle.logic_walk.proofs.Firsts.{within_past}
use Rattle.logic_walk.proofs.Numbers.{number_below}
use Rattle.logic_walk.proofs.Steps.{seat_at, standard_called, frame_passed, inside_done, inside_trapped, for_done, frame_ran, frame_path}
use Rattle.logic_walk.proofs.Choosing.{branch_trapped, branch_taken, branch_passed, choice_taken, choice_passed, stmt_done}
use Rattle.logic_walk.proofs.Turns.{ran_body, between_fits, up_same, down_same}
use Rattle.logic_walk.proofs.walker.+walk.Goals as goal

pub run_within-run_body-requires : goal.run_within-run_body-requires
run_within-run_body-requires t c =
    let inside : c.args.k < length c.args.walk.now.frames.now = omega arith in
    let body = c.deref-then-k-walk.ensures.value ∙ ap (λ (f : Frame). f.body.items) (sym c.index-walk-k.is) in
    let less = frame_less c.args.walk.now.frames.now c.args.walk.now.limit c.args.k c.index-walk-k.result c.deref-then-k-walk.result.now c.if-k-walk.true inside c.index-walk-k.is body in
    omega (arith, less)

pub run_within-returns-then-k-walk-clause-ran : goal.run_within-returns-then-k-walk-clause-ran
run_within-returns-then-k-walk-clause-ran t c =
    let inside : c.args.k < length c.args.walk.now.frames.now = omega arith in
    let own = c.deref.ensures.value ∙ ap (λ (f : Frame). f.seats.items) (sym c.index-walk-k.is) in
    let body = c.deref-then-k-walk.ensures.value ∙ ap (λ (f : Frame). f.body.items) (sym c.index-walk-k.is) in
    let at = frame_at c.args.walk.now.frames.now c.args.k c.index-walk-k.result inside c.index-walk-k.is in
    frame_ran c.args.walk.now.moment c.args.walk.now.globals c.args.walk.now.limit c.args.k c.args.walk.now.frames.now c.args.base c.index-walk-k.result c.deref.result.now c.deref-then-k-walk.result.now c.run_body.result c.args.cells.now c.run_body.new.cells c.if-k-walk.true at own body c.run_body.ensures.ran

pub run_within-returns-then-k-walk-clause-path : goal.run_within-returns-then-k-walk-clause-path
run_within-returns-then-k-walk-clause-path t c =
    let inside : c.args.k < length c.args.walk.now.frames.now = omega arith in
    let own = c.deref.ensures.value ∙ ap (λ (f : Frame). f.seats.items) (sym c.index-walk-k.is) in
    let at = frame_at c.args.walk.now.frames.now c.args.k c.index-walk-k.result inside c.index-walk-k.is in
    frame_path c.args.walk.now.moment c.args.walk.now.globals c.args.walk.now.limit c.args.k c.args.walk.now.frames.now c.args.base c.index-walk-k.result c.deref.result.now c.deref-then-k-walk.result.now c.run_body.result c.if-k-walk.true at own c.run_body.ensures.path

pub run_within-returns-else-k-walk-clause-ran : goal.run_within-returns-else-k-walk-clause-ran
run_within-returns-else-k-walk-clause-ran t c = sym (within_past c.args.walk.now.frames.now c.args.walk.now.limit c.args.k c.args.walk.now.moment c.args.walk.now.globals c.args.base c.args.cells.now (omega arith))

pub run_stmt-run_first_true-requires : goal.run_stmt-run_first_true-requires
run_stmt-run_first_true-requires t c =
    let size = ap (size-Stmt ℕ) c.in-If.is ∙ size-If c.in-If.number c.in-If.branches c.in-If.last in
    let same = ap (most (size-Branch ℕ)) c.deref-in-If.ensures.value in
    omega (arith, size, same)

pub run_stmt-run_body-requires : goal.run_stmt-run_body-requires
run_stmt-run_body-requires t c =
    let size = ap (size-Stmt ℕ) c.in-If.is ∙ size-If c.in-If.number c.in-If.branches c.in-If.last in
    let same = ap (most (size-Stmt ℕ)) c.deref-then-not-branch.ensures.value in
    omega (arith, size, same)

pub run_stmt-run_first_fit-requires : goal.run_stmt-run_first_fit-requires
run_stmt-run_first_fit-requires t c =
    let size = ap (size-Stmt ℕ) c.in-Case.is ∙ size-Case c.in-Case.number c.in-Case.selector c.in-Case.choices c.in-Case.last in
    let same = ap (most (size-Choice ℕ)) c.deref-in-Case.ensures.value in
    omega (arith, size, same)

pub run_stmt-run_body-requires-then-not-branch-2 : goal.run_stmt-run_body-requires-then-not-branch-2
run_stmt-run_body-requires-then-not-branch-2 t c =
    let size = ap (size-Stmt ℕ) c.in-Case.is ∙ size-Case c.in-Case.number c.in-Case.selector c.in-Case.choices c.in-Case.last in
    let same = ap (most (size-Stmt ℕ)) c.deref-then-not-branch-2.ensures.value in
    omega (arith, size, same)

pub run_stmt-run_turns-requires : goal.run_stmt-run_turns-requires
run_stmt-run_turns-requires t c =
    let size = ap (size-Stmt ℕ) c.in-For.is ∙ size-For c.in-For.number c.in-For.variable c.in-For.from c.in-For.to c.in-For.by c.in-For.body in
    let same = ap (most (size-Stmt ℕ)) c.deref-in-For.ensures.value in
    omega (arith, size, same)

pub run_stmt-returns-in_ok-span-in-For-clause-ran : goal.run_stmt-returns-in_ok-span-in-For-clause-ran
run_stmt-returns-in_ok-span-in-For-clause-ran t c =
    let s = space c.args.walk.now in
    let is = ap view_stmt c.in-For.is ∙ view_stmt-For c.in-For.number c.in-For.variable c.in-For.from c.in-For.to c.in-For.by c.in-For.body in
    let turned = c.run_turns.ensures.ran ∙ ap (λ b. turns (λ w n. s.put w c.in-For.variable n) (run_all s (view_body b)) (control_values c.in_ok-span-in-For.span) c.args.cells.now) c.deref-in-For.ensures.value in
    for_done s (view_stmt c.args.stmt.now) c.in-For.number c.in-For.variable (view_expr c.in-For.from) (view_expr c.in-For.to) (view_option c.in-For.by) (view_body c.in-For.body.items) c.span_of-bounds.result c.in_ok-span-in-For.span _ c.args.cells.now is (search rules) c.in_ok-span-in-For.ensures.ok turned

pub run_called-returns-in-None-clause-ran : goal.run_called-returns-in-None-clause-ran
run_called-returns-in-None-clause-ran t c =
    let none = slice_get_past c.args.walk.now.seats.now c.args.instance (ltb-false c.args.instance (length c.args.walk.now.seats.now) (sym c.in-None.ensures.lookup.0)) in
    sym (ap (λ o. called c.args.walk.now.moment (below c.args.walk.now) o c.args.walk.now.base [] c.args.cells.now) none)

pub run_called-returns-in-Standard-clause-ran : goal.run_called-returns-in-Standard-clause-ran
run_called-returns-in-Standard-clause-ran t c =
    let at = seat_at c.args.walk.now.seats.now c.args.instance c.in-Some.seat.now (sym c.in-Some.ensures.lookup.0) c.in-Some.ensures.lookup.1 in
    standard_called c.args.walk.now.moment c.args.walk.now.globals (below c.args.walk.now) c.args.walk.now.seats.now c.args.walk.now.base c.args.instance c.in-Some.seat.now c.in-Standard.standard c.args.cells.now c.call_clock.new.cells at c.in-Standard.is c.call_clock.ensures

pub run_called-returns-then-not-seat-clause-ran : goal.run_called-returns-then-not-seat-clause-ran
run_called-returns-then-not-seat-clause-ran t c =
    let at = seat_at c.args.walk.now.seats.now c.args.instance c.in-Some.seat.now (sym c.in-Some.ensures.lookup.0) c.in-Some.ensures.lookup.1 in
    frame_passed c.args.walk.now.moment c.args.walk.now.globals (below c.args.walk.now) c.args.walk.now.seats.now c.args.walk.now.base c.args.instance c.in-Some.seat.now c.in-Frame.k c.args.cells.now at c.in-Frame.is c.if-not-seat.true

pub run_called-returns-in-Ok-clause-ran : goal.run_called-returns-in-Ok-clause-ran
run_called-returns-in-Ok-clause-ran t c =
    let at = seat_at c.args.walk.now.seats.now c.args.instance c.in-Some.seat.now (sym c.in-Some.ensures.lookup.0) c.in-Some.ensures.lookup.1 in
    inside_done c.args.walk.now.moment c.args.walk.now.globals c.args.walk.now.limit c.args.walk.now.frames.now c.args.walk.now.seats.now c.args.walk.now.base c.args.instance c.in-Some.seat.now c.in-Frame.k c.args.cells.now c.run_within.new.cells at c.in-Frame.is c.if-not-seat.false c.in-Ok.ensures.ran

pub run_called-overflow_add-result : goal.run_called-overflow_add-result
run_called-overflow_add-result t c =
    let at = seat_at c.args.walk.now.seats.now c.args.instance c.in-Some.seat.now (sym c.in-Some.ensures.lookup.0) c.in-Some.ensures.lookup.1 in
    record { fits = (number_below (frame_paths c.args.walk.now.frames.now c.args.walk.now.limit) c.args.walk.now.seats.now c.args.instance c.in-Some.seat.now c.in-Frame.k c.in-Err.stop.place.path c.args.walk.now.own at c.in-Frame.is c.if-not-seat.false c.in-Err.ensures.path).fits }

pub run_called-returns-in-Err-clause-ran : goal.run_called-returns-in-Err-clause-ran
run_called-returns-in-Err-clause-ran t c =
    let at = seat_at c.args.walk.now.seats.now c.args.instance c.in-Some.seat.now (sym c.in-Some.ensures.lookup.0) c.in-Some.ensures.lookup.1 in
    inside_trapped c.args.walk.now.moment c.args.walk.now.globals c.args.walk.now.limit c.args.walk.now.frames.now c.args.walk.now.seats.now c.args.walk.now.base c.args.instance c.in-Some.seat.now c.in-Frame.k c.args.cells.now c.run_within.new.cells c.in-Err.stop at c.in-Frame.is c.if-not-seat.false c.args.walk.now.own c.in-Err.ensures.path c.in-Err.ensures.ran

pub run_called-returns-in-Err-clause-path : goal.run_called-returns-in-Err-clause-path
run_called-returns-in-Err-clause-path t c =
    let at = seat_at c.args.walk.now.seats.now c.args.instance c.in-Some.seat.now (sym c.in-Some.ensures.lookup.0) c.in-Some.ensures.lookup.1 in
    (number_below (frame_paths c.args.walk.now.frames.now c.args.walk.now.limit) c.args.walk.now.seats.now c.args.instance c.in-Some.seat.now c.in-Frame.k c.in-Err.stop.place.path c.args.walk.now.own at c.in-Frame.is c.if-not-seat.false c.in-Err.ensures.path).inside

pub count_up-loop-at-smaller : goal.count_up-loop-at-smaller
count_up-loop-at-smaller t c =
    falls_up (to_z w128 c.loop-at.at-bits) (to_z w64 (of_z w64 c.args.to)) (to_z w64 (of_z w64 c.args.step)) (to_z w128 (of_z w128 (to_z w128 c.loop-at.at-bits +ℤ to_z w128 (of_z w128 c.from-at-in-loop-at.result))))
    (omega (arith, ints)) (grind (arith, ints)) (omega (arith, ints))

pub count_up-loop-at-preserved : goal.count_up-loop-at-preserved
count_up-loop-at-preserved t c =
    let s = space c.args.walk.now in
    let numbered = paths c.args.walk.now in
    let at = to_z w128 c.loop-at.at-bits in
    let to = to_z w64 (of_z w64 c.args.to) in
    let step = to_z w64 (of_z w64 c.args.step) in
    let next = to_z w128 (of_z w128 (to_z w128 c.loop-at.at-bits +ℤ to_z w128 (of_z w128 c.from-at-in-loop-at.result))) in
    let sign : pos 0 <ℤ step = omega (arith, ints) in
    let within : at ≤ℤ to = grind (arith, ints) in
    let later : next ≡ at +ℤ step = omega (arith, ints) in
    let beyond : to_z w64 (of_z w64 c.args.from) ≤ℤ next = omega (arith, ints) in
    let bounded : next ≤ℤ pos (2 ^ 65) = omega (arith, ints) in
    let cast : to_z w64 (of_z w64 at) ≡ at = between_fits at c.args.from c.args.to c.ranges.from c.ranges.to c.loop-at.invariant.1 within in
    let did = ran_body s numbered c.args.slot (view_body c.args.body.now) at _ c.loop-at.cells c.set_variable.new.cells c.run_body.new.cells c.run_body.result _ cast c.set_variable.ensures c.run_body.ensures.ran c.in_ok-run_body.was in (
      up_on (λ w n. s.put w c.args.slot n) (run_all s (view_body c.args.body.now)) at to step next c.loop-at.cells _ _ c.loop-at.invariant.0 sign within later did,
      beyond,
      bounded,
    )

pub count_down-loop-at-smaller : goal.count_down-loop-at-smaller
count_down-loop-at-smaller t c =
    falls_down (to_z w128 c.loop-at.at-bits) (to_z w64 (of_z w64 c.args.to)) (to_z w64 (of_z w64 c.args.step)) (to_z w128 (of_z w128 (to_z w128 c.loop-at.at-bits +ℤ to_z w128 (of_z w128 c.from-at-in-loop-at.result))))
    (omega (arith, ints)) (grind (arith, ints)) (omega (arith, ints))

pub count_down-loop-at-preserved : goal.count_down-loop-at-preserved
count_down-loop-at-preserved t c =
    let s = space c.args.walk.now in
    let numbered = paths c.args.walk.now in
    let at = to_z w128 c.loop-at.at-bits in
    let to = to_z w64 (of_z w64 c.args.to) in
    let step = to_z w64 (of_z w64 c.args.step) in
    let next = to_z w128 (of_z w128 (to_z w128 c.loop-at.at-bits +ℤ to_z w128 (of_z w128 c.from-at-in-loop-at.result))) in
    let sign : step <ℤ pos 0 = omega (arith, ints) in
    let within : to ≤ℤ at = grind (arith, ints) in
    let later : next ≡ at +ℤ step = omega (arith, ints) in
    let beyond : next ≤ℤ to_z w64 (of_z w64 c.args.from) = omega (arith, ints) in
    let bounded : neg_ℤ (pos (2 ^ 65)) ≤ℤ next = omega (arith, ints) in
    let cast : to_z w64 (of_z w64 at) ≡ at = between_fits at c.args.to c.args.from c.ranges.to c.ranges.from within c.loop-at.invariant.1 in
    let did = ran_body s numbered c.args.slot (view_body c.args.body.now) at _ c.loop-at.cells c.set_variable.new.cells c.run_body.new.cells c.run_body.result _ cast c.set_variable.ensures c.run_body.ensures.ran c.in_ok-run_body.was in (
      down_on (λ w n. s.put w c.args.slot n) (run_all s (view_body c.args.body.now)) at to step next c.loop-at.cells _ _ c.loop-at.invariant.0 sign within later did,
      beyond,
      bounded,
    )

pub count_up-returns-in_err-run_body-clause-ran : goal.count_up-returns-in_err-run_body-clause-ran
count_up-returns-in_err-run_body-clause-ran t c =
    let s = space c.args.walk.now in
    let numbered = paths c.args.walk.now in
    let at = to_z w128 c.loop-at.at-bits in
    let to = to_z w64 (of_z w64 c.args.to) in
    let step = to_z w64 (of_z w64 c.args.step) in
    let sign : pos 0 <ℤ step = omega (arith, ints) in
    let within : at ≤ℤ to = grind (arith, ints) in
    let first : to_z w64 (of_z w64 c.args.from) ≡ c.args.from = omega (arith, ints) in
    let second : to ≡ c.args.to = omega (arith, ints) in
    let third : step ≡ c.args.step = omega (arith, ints) in
    let cast : to_z w64 (of_z w64 at) ≡ at = between_fits at c.args.from c.args.to c.ranges.from c.ranges.to c.loop-at.invariant.1 within in
    let did = ran_body s numbered c.args.slot (view_body c.args.body.now) at _ c.loop-at.cells c.set_variable.new.cells c.run_body.new.cells c.run_body.result _ cast c.set_variable.ensures c.run_body.ensures.ran c.in_err-run_body.was in
    let p = err_from_is_err_and c.from_residual.result c.from_residual.ensures.1 in
    rw (p.1, p.2)
    (up_on (λ w n. s.put w c.args.slot n) (run_all s (view_body c.args.body.now)) at to step (at +ℤ step) c.loop-at.cells _ _ c.loop-at.invariant.0 sign within refl did
    ∙ up_same s numbered c.args.slot (view_body c.args.body.now) (to_z w64 (of_z w64 c.args.from)) c.args.from to c.args.to step c.args.step c.args.cells.now first second third)

pub count_down-returns-in_err-run_body-clause-ran : goal.count_down-returns-in_err-run_body-clause-ran
count_down-returns-in_err-run_body-clause-ran t c =
    let s = space c.args.walk.now in
    let numbered = paths c.args.walk.now in
    let at = to_z w128 c.loop-at.at-bits in
    let to = to_z w64 (of_z w64 c.args.to) in
    let step = to_z w64 (of_z w64 c.args.step) in
    let sign : step <ℤ pos 0 = omega (arith, ints) in
    let within : to ≤ℤ at = grind (arith, ints) in
    let first : to_z w64 (of_z w64 c.args.from) ≡ c.args.from = omega (arith, ints) in
    let second : to ≡ c.args.to = omega (arith, ints) in
    let third : step ≡ c.args.step = omega (arith, ints) in
    let cast : to_z w64 (of_z w64 at) ≡ at = between_fits at c.args.to c.args.from c.ranges.to c.ranges.from within c.loop-at.invariant.1 in
    let did = ran_body s numbered c.args.slot (view_body c.args.body.now) at _ c.loop-at.cells c.set_variable.new.cells c.run_body.new.cells c.run_body.result _ cast c.set_variable.ensures c.run_body.ensures.ran c.in_err-run_body.was in
    let p = err_from_is_err_and c.from_residual.result c.from_residual.ensures.1 in
    rw (p.1, p.2)
    (down_on (λ w n. s.put w c.args.slot n) (run_all s (view_body c.args.body.now)) at to step (at +ℤ step) c.loop-at.cells _ _ c.loop-at.invariant.0 sign within refl did
    ∙ down_same s numbered c.args.slot (view_body c.args.body.now) (to_z w64 (of_z w64 c.args.from)) c.args.from to c.args.to step c.args.step c.args.cells.now first second third)

pub run_body-returns-in_err-run_stmt-clause-ran : goal.run_body-returns-in_err-run_stmt-clause-ran
run_body-returns-in_err-run_stmt-clause-ran t c = grind (arith, common_steps)

pub run_first_true-returns-clause-ran : goal.run_first_true-returns-clause-ran
run_first_true-returns-clause-ran t c = grind (arith, common_steps)

pub run_first_fit-returns-clause-ran : goal.run_first_fit-returns-clause-ran
run_first_fit-returns-clause-ran t c = grind (arith, common_steps)

pub run_body-returns-clause-ran : goal.run_body-returns-clause-ran
run_body-returns-clause-ran t c = grind (arith, common_steps)

pub run_turns-count_down-requires : goal.run_turns-count_down-requires
run_turns-count_down-requires t c = grind (arith, common_steps)

pub run_turns-count_up-requires : goal.run_turns-count_up-requires
run_turns-count_up-requires t c = grind (arith, common_steps)

pub count_up-returns-clause-ran : goal.count_up-returns-clause-ran
count_up-returns-clause-ran t c = grind (arith, common_steps)

pub count_down-loop-at-init : goal.count_down-loop-at-init
count_down-loop-at-init t c = grind (arith, common_steps)

pub count_up-loop-at-init : goal.count_up-loop-at-init
count_up-loop-at-init t c = grind (arith, common_steps)

pub run_called-run_within-requires : goal.run_called-run_within-requires
run_called-run_within-requires t c = grind (arith, common_steps)

pub count_up-overflow_add-at : goal.count_up-overflow_add-at
count_up-overflow_add-at t c = grind (arith, common_steps)

pub run_stmt-run_call-requires : goal.run_stmt-run_call-requires
run_stmt-run_call-requires t c = grind (arith, common_steps)

pub count_down-overflow_add-at : goal.count_down-overflow_add-at
count_down-overflow_add-at t c = grind (arith, common_steps)

pub count_down-run_body-requires : goal.count_down-run_body-requires
count_down-run_body-requires t c = grind (arith, common_steps)

pub count_up-run_body-requires : goal.count_up-run_body-requires
count_up-run_body-requires t c = grind (arith, common_steps)

pub count_down-returns-clause-ran : goal.count_down-returns-clause-ran
count_down-returns-clause-ran t c = grind (arith, common_steps)

pub run_stmt-returns-in_ok-span-in-For-clause-path : goal.run_stmt-returns-in_ok-span-in-For-clause-path
run_stmt-returns-in_ok-span-in-For-clause-path t c = grind (arith, common_steps)

pub run_first_true-run_body-requires : goal.run_first_true-run_body-requires
run_first_true-run_body-requires t c =
    let deep = at_most (size-Branch ℕ) c.args.branches.now c.loop-branch.branch-index c.branch-item.result c.loop-branch-test.true in
    let same = ap (size-Branch ℕ) c.branch-item.is in
    let whole = size_is-Branch ℕ c.branch-item.result in
    let part = ap (most (size-Stmt ℕ)) c.deref.ensures.value in
    omega (arith, deep, same, whole, part)

pub run_first_fit-run_body-requires : goal.run_first_fit-run_body-requires
run_first_fit-run_body-requires t c =
    let deep = at_most (size-Choice ℕ) c.args.choices.now c.loop-choice.choice-index c.choice-item.result c.loop-choice-test.true in
    let same = ap (size-Choice ℕ) c.choice-item.is in
    let whole = size_is-Choice ℕ c.choice-item.result in
    let part = ap (most (size-Stmt ℕ)) c.deref-then-labels_fit.ensures.value in
    omega (arith, deep, same, whole, part)

pub run_body-loop-stmt-preserved : goal.run_body-loop-stmt-preserved
run_body-loop-stmt-preserved t c =
    stmt_done c.args.walk.now.moment c.args.walk.now.globals (below c.args.walk.now) c.args.walk.now.seats.now c.args.walk.now.base (paths c.args.walk.now) c.args.body.now c.loop-stmt.stmt-index c.stmt-item.result c.loop-stmt.cells c.run_stmt.new.cells c.run_stmt.result _ _ c.loop-stmt-test.true c.stmt-item.is c.in_ok-run_stmt.was
    c.run_stmt.ensures.ran c.loop-stmt.invariant

pub run_first_true-loop-branch-preserved : goal.run_first_true-loop-branch-preserved
run_first_true-loop-branch-preserved t c =
    let fails : is_true c.in_ok-in_statement.field-0 ≡ false = grind (arith, common_steps) in
    branch_passed c.args.walk.now.moment c.args.walk.now.globals (below c.args.walk.now) c.args.walk.now.seats.now c.args.walk.now.base c.args.statement c.args.branches.now c.loop-branch.branch-index c.branch-item.result c.loop-branch.cells c.loop-branch-test.true c.branch-item.is c.outcome-test.result c.in_ok-in_statement.field-0 _ c.outcome-test.ensures c.in_ok-in_statement.ensures.ok c.loop-branch.invariant fails

pub run_first_true-returns-then-branch-ne0-clause-ran : goal.run_first_true-returns-then-branch-ne0-clause-ran
run_first_true-returns-then-branch-ne0-clause-ran t c =
    let holds : is_true c.in_ok-in_statement.field-0 ≡ true = grind (arith, common_steps) in
    let did = ap (λ r. ended (paths c.args.walk.now) r c.run_body.new.cells) (sym c.in_ok-run_body.was) ∙ c.run_body.ensures.ran in
    branch_taken c.args.walk.now.moment c.args.walk.now.globals (below c.args.walk.now) c.args.walk.now.seats.now c.args.walk.now.base c.args.statement c.args.branches.now c.loop-branch.branch-index c.branch-item.result c.loop-branch.cells c.loop-branch-test.true c.branch-item.is c.outcome-test.result c.in_ok-in_statement.field-0 _ c.outcome-test.ensures c.in_ok-in_statement.ensures.ok c.loop-branch.invariant c.deref.result.now _ holds c.deref.ensures.value did

pub run_first_true-returns-in_err-run_body-clause-ran : goal.run_first_true-returns-in_err-run_body-clause-ran
run_first_true-returns-in_err-run_body-clause-ran t c =
    let holds : is_true c.in_ok-in_statement.field-0 ≡ true = grind (arith, common_steps) in
    let did = ap (λ r. ended (paths c.args.walk.now) r c.run_body.new.cells) (sym c.in_err-run_body.was) ∙ c.run_body.ensures.ran in
    let p = err_from_is_err_and c.from_residual-in_err-run_body.result c.from_residual-in_err-run_body.ensures.1 in
    rw (p.1, p.2) (branch_taken c.args.walk.now.moment c.args.walk.now.globals (below c.args.walk.now) c.args.walk.now.seats.now c.args.walk.now.base c.args.statement c.args.branches.now c.loop-branch.branch-index c.branch-item.result c.loop-branch.cells c.loop-branch-test.true c.branch-item.is c.outcome-test.result c.in_ok-in_statement.field-0 _ c.outcome-test.ensures c.in_ok-in_statement.ensures.ok c.loop-branch.invariant c.deref.result.now _ holds c.deref.ensures.value did)

pub run_first_true-returns-in_err-in_statement-clause-ran : goal.run_first_true-returns-in_err-in_statement-clause-ran
run_first_true-returns-in_err-in_statement-clause-ran t c =
    let p = err_from_is_err_and c.from_residual.result c.from_residual.ensures.1 in
    rw (p.1, p.2) (branch_trapped c.args.walk.now.moment c.args.walk.now.globals (below c.args.walk.now) c.args.walk.now.seats.now c.args.walk.now.base c.args.statement c.args.branches.now c.loop-branch.branch-index c.branch-item.result c.loop-branch.cells c.loop-branch-test.true c.branch-item.is _ c.outcome-test.result _ _ c.outcome-test.ensures c.in_err-in_statement.ensures.err.0 c.in_err-in_statement.ensures.err.1 c.loop-branch.invariant)

pub run_first_fit-loop-choice-preserved : goal.run_first_fit-loop-choice-preserved
run_first_fit-loop-choice-preserved t c = choice_passed c.args.walk.now.moment c.args.walk.now.globals (below c.args.walk.now) c.args.walk.now.seats.now c.args.walk.now.base (to_z w64 (of_z w64 c.args.n)) c.args.choices.now c.loop-choice.choice-index c.choice-item.result c.loop-choice.cells _ c.loop-choice-test.true c.choice-item.is c.loop-choice.invariant c.labels_fit.result c.deref.result.now c.labels_fit.ensures c.deref.ensures.value c.if-labels_fit.false

pub run_first_fit-returns-then-labels_fit-clause-ran : goal.run_first_fit-returns-then-labels_fit-clause-ran
run_first_fit-returns-then-labels_fit-clause-ran t c =
    let same : to_z w64 (of_z w64 c.args.n) ≡ c.args.n = omega (arith, ints) in
    let last = ap (λ n. first_fit (space c.args.walk.now) n (view_choices c.args.choices.now) c.args.cells.now) same in
    let did = ap (λ r. ended (paths c.args.walk.now) r c.run_body.new.cells) (sym c.in_ok-run_body.was) ∙ c.run_body.ensures.ran in
    choice_taken c.args.walk.now.moment c.args.walk.now.globals (below c.args.walk.now) c.args.walk.now.seats.now c.args.walk.now.base (to_z w64 (of_z w64 c.args.n)) c.args.choices.now c.loop-choice.choice-index c.choice-item.result c.loop-choice.cells _ c.loop-choice-test.true c.choice-item.is c.loop-choice.invariant c.labels_fit.result c.deref.result.now c.labels_fit.ensures c.deref.ensures.value c.deref-then-labels_fit.result.now _ c.if-labels_fit.true c.deref-then-labels_fit.ensures.value did ∙ last

pub run_first_fit-returns-in_err-run_body-clause-ran : goal.run_first_fit-returns-in_err-run_body-clause-ran
run_first_fit-returns-in_err-run_body-clause-ran t c =
    let same : to_z w64 (of_z w64 c.args.n) ≡ c.args.n = omega (arith, ints) in
    let last = ap (λ n. first_fit (space c.args.walk.now) n (view_choices c.args.choices.now) c.args.cells.now) same in
    let did = ap (λ r. ended (paths c.args.walk.now) r c.run_body.new.cells) (sym c.in_err-run_body.was) ∙ c.run_body.ensures.ran in
    let p = err_from_is_err_and c.from_residual.result c.from_residual.ensures.1 in
    rw (p.1, p.2) (choice_taken c.args.walk.now.moment c.args.walk.now.globals (below c.args.walk.now) c.args.walk.now.seats.now c.args.walk.now.base (to_z w64 (of_z w64 c.args.n)) c.args.choices.now c.loop-choice.choice-index c.choice-item.result c.loop-choice.cells _ c.loop-choice-test.true c.choice-item.is c.loop-choice.invariant c.labels_fit.result c.deref.result.now c.labels_fit.ensures c.deref.ensures.value c.deref-then-labels_fit.result.now _ c.if-labels_fit.true c.deref-then-labels_fit.ensures.value did ∙ last)
