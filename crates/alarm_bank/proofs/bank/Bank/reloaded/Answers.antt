use Rattle.std.proofs.Common.{length}
use Rattle.alarm_bank.proofs.ReloadLaws.{all_shelvable}
use Rattle.alarm_bank.proofs.bank.Bank.reloaded.Goals as goal

pub alarms_of-requires : goal.alarms_of-requires
alarms_of-requires c = all_shelvable (length c.args.self.now.alarms) c.args.news.now c.requires.fit
