use Rattle.std.proofs.Common.{take}
use Rattle.base_words.specs.Names.{find_name}
use Rattle.logic_carry.specs.Paths.{Grows}
use Rattle.logic_carry.specs.Shapes.{AreParts}
use Rattle.logic_carry.proofs.words.parts_of.Given as goal

-- those so far have their numbers, and no name has another one
abbrev pub invariant-loop-instance : goal.invariant-loop-instance
invariant-loop-instance l = record { are : AreParts (find_name l.names) l.parts.items (take l.instance-index l.instances); grows : Grows (find_name l.initial.names) (find_name l.names) }
