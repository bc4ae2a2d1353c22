use Rattle.engine.proofs.Lawful.{lawful_numbers}
use Rattle.engine.proofs.laws.lawful_history_keeps_consoles_and_epoch.Goals as goal

pub returns-clause-consoles : goal.returns-clause-consoles
returns-clause-consoles c plant history lawful = (lawful_numbers plant history lawful).0

pub returns-clause-epoch : goal.returns-clause-epoch
returns-clause-epoch c plant history lawful = (lawful_numbers plant history lawful).1
