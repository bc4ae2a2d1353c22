use Rattle.base_words.proofs.Apart.{number_found}
use Rattle.base_words.proofs.table.Table.find.Goals as goal

pub returns-clause-number : goal.returns-clause-number
returns-clause-number c = rw (← c.self.view_is) (number_found c.self.inside.letters c.self.inside.texts c.args.name.now c.find.result c.self.invariant.1.0 c.find.ensures)
