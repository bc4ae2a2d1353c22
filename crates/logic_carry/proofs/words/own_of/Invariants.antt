use Rattle.std.proofs.Common.{take}
use Rattle.base_words.specs.Names.{find_name}
use Rattle.logic_carry.specs.Paths.{Grows}
use Rattle.logic_carry.specs.Shapes.{AreOwn}
use Rattle.logic_carry.proofs.words.own_of.Given as goal

-- those so far have their numbers, and no name has another one
abbrev pub invariant-loop-local : goal.invariant-loop-local
invariant-loop-local l = record { are : AreOwn (find_name l.names) l.own.items (take l.local-index l.locals); grows : Grows (find_name l.initial.names) (find_name l.names) }
