use Rattle.std.proofs.Common.{◌≡◌, take, map}
use Rattle.logic_source.specs.declared.logic.Routine.{Routine}
use Rattle.logic_frames.specs.declared.names.Variables.{Variables}
use Rattle.logic_frames.specs.Scoped.{local_names, local_kinds}
use Rattle.logic_frames.proofs.frames.members_of.Given as goal

-- the block types so far
abbrev pub invariant-loop-block : goal.invariant-loop-block
invariant-loop-block l =
    (map (λ (v : Variables). v.names) l.members.items ≡ map (λ (r : Routine). local_names r.locals.items) (take l.block-index l.blocks)) × (map (λ (v : Variables). v.kinds.items) l.members.items ≡ map (λ (r : Routine). local_kinds r.locals.items) (take l.block-index l.blocks))
