use Rattle.logic_source.proofs.Members.{member_at}
use Rattle.logic_source.proofs.laws.member_stands.Goals as goal

pub returns : goal.returns
returns c = λ blocks order all base path b name m below stands numbered. member_at all base path name m blocks order below b stands numbered
