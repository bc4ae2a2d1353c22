use Rattle.std.proofs.Common.{◌∙◌, ap}
use Rattle.logic_source.specs.Taken.{repeats}
use Rattle.logic_source.specs.Source.{source_of}
use Rattle.logic_source.specs.Names.{global_words}
use Rattle.vm_logic.specs.Framed.{global_names}
use Rattle.vm_logic.proofs.Small.{sound_named, sound_types}
use Rattle.vm_logic.proofs.Little.{sound_small}
use Rattle.vm_logic.proofs.framed.made_of.Goals as goal

pub value_bases-requires-clause-slots : goal.value_bases-requires-clause-slots
value_bases-requires-clause-slots c = c.requires.sound.limits.slots

pub tables_of-requires-clause-types : goal.tables_of-requires-clause-types
tables_of-requires-clause-types c = sound_types (source_of c.args.logic.now) c.requires.sound

pub tables_of-requires-clause-named : goal.tables_of-requires-clause-named
tables_of-requires-clause-named c = sound_named (source_of c.args.logic.now) c.requires.sound

pub tables_of-requires-clause-small : goal.tables_of-requires-clause-small
tables_of-requires-clause-small c =
    let source = source_of c.args.logic.now in
    let order = c.args.order.now in
    sound_small source c.requires.sound (c.block_type_counts.ensures.slots source.blocks order c.requires.below) (c.block_type_counts.ensures.size source.blocks order c.requires.below)

pub standards_of-requires-clause-types : goal.standards_of-requires-clause-types
standards_of-requires-clause-types c = sound_types (source_of c.args.logic.now) c.requires.sound

pub global_names-requires : goal.global_names-requires
global_names-requires c = ap (λ l. repeats (global_words l)) c.deref-3.ensures.value ∙ (sound_named (source_of c.args.logic.now) c.requires.sound).globals_apart

pub returns-clause-laid : goal.returns-clause-laid
returns-clause-laid c =
    record {
      sound = c.requires.sound;
      below = c.requires.below;
      are_frames = c.in_ok-frames.ensures.frames;
      names_are = c.in_ok-global_names.ensures ∙ ap global_names c.deref-3.ensures.value;
      values_begin = c.in_ok-values.ensures;
      clocks_begin = c.in_ok-standards.ensures.bases;
      paths_begin = c.in_ok-paths.ensures.bases;
      paths_fit = c.in_ok-paths.ensures.fit;
    }
