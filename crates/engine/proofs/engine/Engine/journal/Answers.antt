use Rattle.engine.proofs.Journals.{as_many_rows}
use Rattle.engine.proofs.engine.Engine.journal.Goals as goal

pub returns-clause-rows : goal.returns-clause-rows
returns-clause-rows c =
    let own = c.self.inside in
    rw (← c.self.view_is) (as_many_rows own.began own.history own.log.rows c.self.invariant.0.journal)
