use Rattle.alarm_delays.proofs.Keeping.{kept_agree}
use Rattle.alarm_delays.proofs.delays.kept_scans_agree.Goals as goal

pub returns : goal.returns
returns c = kept_agree
