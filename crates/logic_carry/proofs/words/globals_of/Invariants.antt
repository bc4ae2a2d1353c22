use Rattle.std.proofs.Common.{map, take}
use Rattle.base_words.specs.Names.{find_name}
use Rattle.logic_carry.specs.Paths.{Grows}
use Rattle.logic_carry.specs.Shapes.{AreOwn, as_local}
use Rattle.logic_carry.proofs.words.globals_of.Given as goal

-- those so far have their numbers, and no name has another one
abbrev pub invariant-loop-global : goal.invariant-loop-global
invariant-loop-global l = record { are : AreOwn (find_name l.names) l.own.items (map as_local (take l.global-index l.globals)); grows : Grows (find_name l.initial.names) (find_name l.names) }
