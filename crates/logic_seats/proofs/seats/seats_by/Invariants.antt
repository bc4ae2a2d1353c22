use Rattle.base_words.specs.Names.{is_among}
use Rattle.logic_seats.proofs.Seated.{Seated}
use Rattle.logic_seats.proofs.seats.seats_by.Given as goal

abbrev pub invariant-loop-instance : goal.invariant-loop-instance
invariant-loop-instance l = Seated l.table (is_among l.called) l.fn.first l.list l.seats.items l.at l.instance-index
