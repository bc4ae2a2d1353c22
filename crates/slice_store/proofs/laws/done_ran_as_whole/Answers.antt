use Rattle.slice_store.proofs.Whole.{ran_whole}
use Rattle.slice_store.proofs.laws.done_ran_as_whole.Goals as goal

pub returns : goal.returns
returns c = ran_whole
