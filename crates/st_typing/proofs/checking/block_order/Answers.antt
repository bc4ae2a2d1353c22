use Rattle.std.proofs.Common.{◌≡◌, ◌∙◌, subst, sym, ap, length, map, Some, slice_get, arith}
use Rattle.std.proofs.lemmas.Option.{slice_get_within, slice_get_read}
use Rattle.st_blocks.specs.Blocks.{AreOrdered}
use Rattle.st_blocks.specs.Faults.{IsNestingFault}
use Rattle.st_blocks.specs.declared.faults.NestingFault.TheVariants as order_fault
use Rattle.st_names.specs.Units.{view_unit}
use Rattle.st_typing.specs.Blocks.{blocks_of, block_places}
use Rattle.st_typing.proofs.Places.{as_many_places}
use Rattle.st_typing.proofs.checking.block_order.Goals as goal

pub returns-in-Err-TooDeep : goal.returns-in-Err-TooDeep
returns-in-Err-TooDeep c =
    let blocks = c.deref.ensures.value ∙ c.in_ok-list.ensures.blocks in
    let fault : IsNestingFault (blocks_of (map view_unit c.args.units.now)) order_fault.TooDeep = subst (λ f. IsNestingFault (blocks_of (map view_unit c.args.units.now)) f) c.in-Err-TooDeep.field-0-is (subst (λ b. IsNestingFault b c.in-Err-TooDeep.field-0) blocks c.in-Err-TooDeep.ensures.order) in
    record { are_apart = record { kinded = c.requires; apart = fault.0 }; ordered = fault.1 }

pub index-requires : goal.index-requires
index-requires c =
    let blocks = c.deref.ensures.value ∙ c.in_ok-list.ensures.blocks in
    let units = map view_unit c.args.units.now in
    let fault : IsNestingFault (blocks_of units) (order_fault.HoldsItself c.in-Err-HoldsItself.number) = subst (λ f. IsNestingFault (blocks_of units) f) c.in-Err-HoldsItself.field-0-is (subst (λ b. IsNestingFault b c.in-Err-HoldsItself.field-0) blocks c.in-Err-HoldsItself.ensures.order) in
    let within = slice_get_within (blocks_of units) c.in-Err-HoldsItself.number fault.0.0 fault.0.1 in
    let long : length c.in_ok-list.list.places.items ≡ length (blocks_of units) = ap length c.in_ok-list.ensures.places ∙ as_many_places 0 units in
    omega (arith, long, within)

pub returns-in-Err-HoldsItself : goal.returns-in-Err-HoldsItself
returns-in-Err-HoldsItself c =
    let blocks = c.deref.ensures.value ∙ c.in_ok-list.ensures.blocks in
    let units = map view_unit c.args.units.now in
    let fault : IsNestingFault (blocks_of units) (order_fault.HoldsItself c.in-Err-HoldsItself.number) = subst (λ f. IsNestingFault (blocks_of units) f) c.in-Err-HoldsItself.field-0-is (subst (λ b. IsNestingFault b c.in-Err-HoldsItself.field-0) blocks c.in-Err-HoldsItself.ensures.order) in
    let within = slice_get_within (blocks_of units) c.in-Err-HoldsItself.number fault.0.0 fault.0.1 in
    let place : slice_get (block_places 0 units) c.in-Err-HoldsItself.number ≡ Some c.index.result.now =
    slice_get_read (block_places 0 units) (length (blocks_of units)) c.in-Err-HoldsItself.number c.index.result.now (sym (as_many_places 0 units)) within (rw (← c.in_ok-list.ensures.places) c.index.ensures) in
    (c.requires, (c.in-Err-HoldsItself.number, place, fault))

pub returns-in-Ok : goal.returns-in-Ok
returns-in-Ok c =
    let blocks = c.deref.ensures.value ∙ c.in_ok-list.ensures.blocks in
    let ordered : AreOrdered (blocks_of (map view_unit c.args.units.now)) c.in-Ok.order.items = subst (λ b. AreOrdered b c.in-Ok.order.items) blocks c.in-Ok.ensures.order in
    record { are_apart = record { kinded = c.requires; apart = ordered.apart }; ordered = ordered }
