use Rattle.st_typing.proofs.Spelled.{spelled_stand}
use Rattle.st_typing.proofs.laws.spelled_globals_stand.Goals as goal

pub returns : goal.returns
returns c = spelled_stand
