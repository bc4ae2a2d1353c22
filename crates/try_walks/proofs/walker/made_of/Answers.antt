use Rattle.logic_source.specs.Source.{source_of}
use Rattle.vm_logic.proofs.Small.{sound_named, sound_types}
use Rattle.vm_logic.proofs.Little.{sound_small}
use Rattle.try_walks.proofs.walker.made_of.Goals as goal

pub value_bases-requires-clause-slots : goal.value_bases-requires-clause-slots
value_bases-requires-clause-slots c = c.requires.sound.limits.slots

pub frames_of-requires-clause-types : goal.frames_of-requires-clause-types
frames_of-requires-clause-types c = sound_types (source_of c.args.logic) c.requires.sound

pub frames_of-requires-clause-named : goal.frames_of-requires-clause-named
frames_of-requires-clause-named c = sound_named (source_of c.args.logic) c.requires.sound

pub frames_of-requires-clause-small : goal.frames_of-requires-clause-small
frames_of-requires-clause-small c =
    let source = source_of c.args.logic in
    let order = c.args.order.items in
    sound_small source c.requires.sound (c.block_type_counts.ensures.slots source.blocks order c.requires.below) (c.block_type_counts.ensures.size source.blocks order c.requires.below)

pub standards_of-requires-clause-types : goal.standards_of-requires-clause-types
standards_of-requires-clause-types c = sound_types (source_of c.args.logic) c.requires.sound
