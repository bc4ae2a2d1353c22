use Rattle.slice_store.proofs.Parting.{can_split}
use Rattle.slice_store.proofs.laws.apart_codes_can_split.Goals as goal

pub returns : goal.returns
returns c = can_split
