use Rattle.slice_store.proofs.Whole.{took_whole}
use Rattle.slice_store.proofs.laws.gathered_run_is_whole.Goals as goal

pub returns : goal.returns
returns c = took_whole
