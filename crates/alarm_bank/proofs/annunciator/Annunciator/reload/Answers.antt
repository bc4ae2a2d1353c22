use Rattle.std.proofs.Common.{length}
use Rattle.std.specs.Prelude.{nat_le}
use Rattle.std.proofs.lemmas.Bool.{and_parts}
use Rattle.alarm_bank.specs.Reloads.{all_fit}
use Rattle.alarm_bank.proofs.ReloadLaws.{all_shelvable}
use Rattle.alarm_bank.proofs.annunciator.Annunciator.reload.Goals as goal

pub fill_alarms-requires-clause-shelving : goal.fill_alarms-requires-clause-shelving
fill_alarms-requires-clause-shelving c =
    let t = c.args.self.now in
    all_shelvable (length t.bank.alarms) c.args.news.now (and_parts (nat_le (length c.args.news.now) t.places) (all_fit (length t.bank.alarms) c.args.news.now) c.requires).1
