use Rattle.std.proofs.Common.{◌≡◌, ◌∙◌, ap, length, arith}
use Rattle.plant_config.specs.Orderers.{orderers_of}
use Rattle.plant_config.proofs.WhoOrders.{say_who}
use Rattle.plant_config.proofs.orderers.orderers_in.Goals as goal

pub returns : goal.returns
returns c =
    let file = c.args.file.now in
    let most = c.loop-area-test.false in
    let least = c.loop-area.auto.area-end in
    let all : length c.areas-area-end.result.now ≡ length file.areas = ap length c.areas-area-end.ensures.areas in
    let end : c.loop-area.area ≡ length file.areas = omega (arith, most, least, all) in
    say_who file.areas file.consoles c.loop-area.lists.items (c.loop-area.invariant.count ∙ end)
    (λ k less. c.loop-area.invariant.each k (omega (arith, end, less)) ∙ ap (λ l. orderers_of l k) c.consoles-consoles.ensures.consoles) c.areas-area-end.ensures.file.consoles
