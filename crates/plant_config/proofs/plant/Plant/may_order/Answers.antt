use Rattle.std.proofs.Common.{◌∙◌, ap, ℕ, List, []}
use Rattle.std.specs.Prelude.{◌==◌, slice_index_or}
use Rattle.std.specs.List.{list_any}
use Rattle.plant_config.proofs.plant.Plant.may_order.Goals as goal

pub returns : goal.returns
returns c =
    let among = ap (λ (lists : List (List ℕ)). list_any (λ n. n == c.args.console) (slice_index_or lists c.args.area [])) c.as_slice.ensures.value in
    rw (← c.self.view_is) (c.is_orderer.ensures ∙ among ∙ c.self.invariant.2 c.args.console c.args.area)
