use Rattle.std.proofs.Common.{arith}
use Rattle.std.proofs.lemmas.Grind.{common_steps}
use Rattle.console_archive.proofs.book.Book.commit.Goals as goal

pub commit_told-requires : goal.commit_told-requires
commit_told-requires c = grind (arith, common_steps)

pub invariant_of-self : goal.invariant_of-self
invariant_of-self c = grind (arith, common_steps)
