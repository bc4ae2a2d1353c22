use Rattle.std.proofs.Common.{◌≡◌, ◌<◌, length, arith}
use Rattle.std.proofs.lemmas.Grind.{common_steps}
use Rattle.logic_walk.proofs.Ranks.{frame_at}
use Rattle.logic_walk.proofs.Marks.{standards_past, none_counted, some_pushed, none_pushed}
use Rattle.logic_walk.proofs.standards.+push.Goals as goal

pub push_within-returns-in_ok-push_seats : goal.push_within-returns-in_ok-push_seats
push_within-returns-in_ok-push_seats t c =
    let inside : c.args.k < length c.args.frames.now = omega arith in
    let at = frame_at c.args.frames.now c.args.k c.index-frames-k.result inside c.index-frames-k.is in
    some_pushed c.args.frames.now c.args.limit c.args.k c.args.standards.now.items c.index-frames-k.result c.deref.result.now c.push_seats.new.standards.items c.if-k-limit.true at c.deref.ensures.value c.in_ok-push_seats.ensures

pub push_within-returns-else-frame-gt0 : goal.push_within-returns-else-frame-gt0
push_within-returns-else-frame-gt0 t c =
    let inside : c.args.k < length c.args.frames.now = omega arith in
    let at = frame_at c.args.frames.now c.args.k c.index-frames-k.result inside c.index-frames-k.is in
    let none : c.index-frames-k.result.clocks ≡ 0 = omega arith in
    none_pushed c.args.frames.now c.args.limit c.args.k c.args.standards.now.items (none_counted c.args.frames.now c.args.limit c.args.k c.index-frames-k.result c.requires.counted c.if-k-limit.true at none)

pub push_within-returns-else-k-limit : goal.push_within-returns-else-k-limit
push_within-returns-else-k-limit t c =
    none_pushed c.args.frames.now c.args.limit c.args.k c.args.standards.now.items (standards_past c.args.frames.now c.args.limit c.args.k (omega arith))

pub push_seats-loop-seat-preserved : goal.push_seats-loop-seat-preserved
push_seats-loop-seat-preserved t c = grind (arith, common_steps)

pub push_seats-returns : goal.push_seats-returns
push_seats-returns t c = grind (arith, common_steps)
