use Rattle.std.proofs.Common.{◌<◌, ◌∙◌, sym, length, arith, []}
use Rattle.std.proofs.lemmas.Grind.{common_steps}
use Rattle.logic_walk.specs.Walks.{paths_within}
use Rattle.logic_walk.proofs.Ranks.{frame_at}
use Rattle.logic_walk.proofs.Beginning.{begun_by, begun_past}
use Rattle.logic_walk.proofs.Marks.{begun_same, starts_marked}
use Rattle.logic_walk.proofs.starts.+start.Goals as goal

pub start_within-returns-then-frame : goal.start_within-returns-then-frame
start_within-returns-then-frame t c =
    let inside : c.args.k < length c.args.frames.now = omega arith in
    let at = frame_at c.args.frames.now c.args.k c.index-frames-k.result inside c.index-frames-k.is in
    begun_by c.args.globals c.args.frames.now c.args.limit c.args.k c.args.base c.args.cells.now c.index-frames-k.result (paths_within [] 0 []) c.deref.result.now c.deref-then-frame.result.now c.run_body-ended.result c.run_body-ended.new.cells c.start_seats.new.cells c.if-k-limit.true at c.deref.ensures.value c.deref-then-frame.ensures.value c.run_body-ended.ensures.ran c.start_seats.ensures

pub start_within-returns-else-frame : goal.start_within-returns-else-frame
start_within-returns-else-frame t c =
    let inside : c.args.k < length c.args.frames.now = omega arith in
    let at = frame_at c.args.frames.now c.args.k c.index-frames-k.result inside c.index-frames-k.is in
    sym (begun_same c.args.globals c.args.frames.now c.args.limit c.args.k c.args.base c.args.cells.now (starts_marked c.args.frames.now c.args.limit c.args.k c.index-frames-k.result c.requires.marked c.if-k-limit.true at ∙ c.if-frame.false))

pub start_within-returns-else-k-limit : goal.start_within-returns-else-k-limit
start_within-returns-else-k-limit t c = sym (begun_past c.args.globals c.args.frames.now c.args.limit c.args.k c.args.base c.args.cells.now (omega arith))

pub start_seats-loop-seat-preserved : goal.start_seats-loop-seat-preserved
start_seats-loop-seat-preserved t c = grind (arith, common_steps)

pub start_seats-returns : goal.start_seats-returns
start_seats-returns t c = grind (arith, common_steps)
