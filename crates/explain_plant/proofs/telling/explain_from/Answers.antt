use Rattle.std.proofs.Common.{◌∙◌}
use Rattle.std.specs.Prelude.{string_bytes}
use Rattle.explain_plant.proofs.Begins.{goes_on}
use Rattle.explain_plant.proofs.telling.explain_from.Goals as goal

pub returns : goal.returns
returns g c = goes_on string_bytes c.args.fault.now _ _ c.under.result (c.as_str.ensures.value ∙ c.in_ok-line.ensures) c.under.ensures
