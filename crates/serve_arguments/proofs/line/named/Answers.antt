use Rattle.std.proofs.Common.{ap}
use Rattle.std.proofs.lemmas.Result.{IfOk-weaker}
use Rattle.clap.specs.Simple.{app_of_fields}
use Rattle.serve_arguments.proofs.line.named.Goals as goal

pub returns : goal.returns
returns c = IfOk-weaker c.bin_name.result _ _ (λ r h. ap app_of_fields h.0) c.bin_name.ensures
