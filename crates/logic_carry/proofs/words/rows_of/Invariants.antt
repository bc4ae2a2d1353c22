use Rattle.std.proofs.Common.{take}
use Rattle.base_words.specs.Names.{find_name}
use Rattle.logic_carry.specs.Paths.{Grows}
use Rattle.logic_carry.specs.Shapes.{AreRows}
use Rattle.logic_carry.proofs.words.rows_of.Given as goal

-- those so far have their numbers, and no name has another one
abbrev pub invariant-loop-row : goal.invariant-loop-row
invariant-loop-row l = record { are : AreRows (find_name l.names) l.own.items (take l.row-index l.rows); grows : Grows (find_name l.initial.names) (find_name l.names) }
