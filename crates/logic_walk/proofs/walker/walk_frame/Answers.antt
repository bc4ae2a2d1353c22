use Rattle.std.proofs.Common.{◌∙◌, ap, sym, length}
use Rattle.logic_walk.specs.Walks.{under}
use Rattle.logic_walk.proofs.Moved.{frame_moved}
use Rattle.logic_walk.proofs.walker.walk_frame.Goals as goal

pub returns-clause-ran : goal.returns-clause-ran
returns-clause-ran c = λ path.
    ap (under path) c.run_within.ensures.ran ∙ sym (frame_moved c.args.moment c.args.globals c.args.frames.now (length c.args.frames.now) c.args.k (record { values = c.args.values; clocks = c.args.clocks }) path c.args.cells.now)
