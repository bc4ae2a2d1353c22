use Rattle.std.proofs.Common.{◌∙◌}
use Rattle.st_tree.specs.View.{view_body}
use Rattle.logic_frames.proofs.Scopes.{flat_is}
use Rattle.logic_frames.proofs.frames.number_body.Goals as goal

pub returns : goal.returns
returns c = λ source r is. c.in_ok-resolved.ensures.body ∙ flat_is source r c.args.scope.now is (view_body c.args.body.now)
