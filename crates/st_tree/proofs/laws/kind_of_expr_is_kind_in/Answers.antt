use Rattle.st_tree.proofs.KindLaws.{kind_of_expr_is_kind_in}
use Rattle.st_tree.proofs.laws.kind_of_expr_is_kind_in.Goals as goal

pub returns : goal.returns
returns c sorts kinds agrees = kind_of_expr_is_kind_in sorts kinds agrees
