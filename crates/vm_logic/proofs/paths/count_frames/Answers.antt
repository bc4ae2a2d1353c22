use Rattle.std.proofs.Common.{◌≡◌, ◌∙◌, ◌+◌, ap, refl, length, subst, arith}
use Rattle.std.proofs.lemmas.Option.{slice_get_read}
use Rattle.std.specs.List.{sum_by}
use Rattle.vm_logic.specs.Bases.{seat_count, numbers_in, stopped_paths, ArePathsCounted}
use Rattle.vm_logic.proofs.Numbered.{paths_none, paths_counted}
use Rattle.vm_logic.proofs.paths.count_frames.Goals as goal

pub loop-frame-init : goal.loop-frame-init
loop-frame-init c = paths_none c.args.frames.now c.new-counts.result.items c.new-counts.ensures.items

pub loop-frame-preserved : goal.loop-frame-preserved
loop-frame-preserved c =
    let frames = c.args.frames.now in
    let i = c.loop-frame.frame-index in
    let frame = c.frame-item.result in
    let row = c.loop-frame.counts.items in
    let count = c.routine_count-count.result in
    let at = slice_get_read frames (length frames) i frame refl c.loop-frame-test.true c.frame-item.is in
    let is : count ≡ stopped_paths (1 + sum_by (seat_count (numbers_in row)) frame.seats.items) =
    c.routine_count-count.ensures ∙ ap (λ l. stopped_paths (1 + sum_by (seat_count (numbers_in l)) c.deref-in-loop-frame.result.now)) c.deref.ensures.value ∙ ap (λ l. stopped_paths (1 + sum_by (seat_count (numbers_in row)) l)) c.deref-in-loop-frame.ensures.value
    in
    paths_counted frames i frame row c.push.new.self.items count at is c.in_ok-push.ensures.items c.loop-frame.invariant

pub returns : goal.returns
returns c =
    let whole : c.loop-frame.frame-index ≡ length c.args.frames.now = let past = c.loop-frame-test.false in let end = c.loop-frame.auto.frame-index-end in omega (arith, past, end) in
    subst (λ n. ArePathsCounted c.args.frames.now n c.loop-frame.counts.items) whole c.loop-frame.invariant
