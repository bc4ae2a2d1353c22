use Rattle.std.proofs.Common.{ap}
use Rattle.engine.specs.Event.TheVariants as event
use Rattle.engine.specs.System.{System}
use Rattle.engine.proofs.Systems.{system_next}
use Rattle.serve_answers.proofs.answer.order_keeps_plant.Goals as goal

pub returns : goal.returns
returns c = λ plant history console order. ap (λ (s : System). s.plant) (system_next plant history (event.Order console order))
