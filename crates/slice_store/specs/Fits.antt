-- How a gather ends.
use Rattle.std.specs.Prelude.{List}
use Rattle.slice_store.specs.Starts.{Begun}
use Rattle.crew.specs.Ticks.{HasStranger, HasDouble, LacksOne}
use Rattle.slice_store.specs.declared.misfit.Misfit.{Misfit}
use Rattle.slice_store.specs.declared.misfit.Misfit.TheVariants.{Stranger, Double, Missing}

-- why runs are not one for each start that is out; of several reasons the first
abbrev pub IsMisfit : List Begun → List Begun → Misfit → Type 0
IsMisfit out runs Stranger = HasStranger out runs
IsMisfit out runs Double = (HasStranger out runs → ⊥) × HasDouble runs
IsMisfit out runs Missing = (HasStranger out runs → ⊥) × (HasDouble runs → ⊥) × LacksOne out runs
