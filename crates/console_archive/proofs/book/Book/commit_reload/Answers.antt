use Rattle.std.proofs.Common.{arith}
use Rattle.std.proofs.lemmas.Grind.{common_steps}
use Rattle.console_archive.proofs.book.Book.commit_reload.Goals as goal

pub invariant_of-self : goal.invariant_of-self
invariant_of-self c = grind (arith, common_steps)

pub commit_reload-requires : goal.commit_reload-requires
commit_reload-requires c = grind (arith, common_steps)
