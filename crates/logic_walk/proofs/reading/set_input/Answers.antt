use Rattle.std.proofs.Common.{◌≡◌, ◌∙◌, ◌+◌, ap, sym, to_z, of_z, w64, arith}
use Rattle.std.proofs.lemmas.Int.{ints}
use Rattle.logic_cells.specs.Cells.{assigned}
use Rattle.logic_walk.specs.Walks.{member_slot, with_input}
use Rattle.logic_walk.proofs.Steps.{seat_at}
use Rattle.logic_walk.proofs.reading.set_input.Goals as goal

pub returns-in-Some : goal.returns-in-Some
returns-in-Some c =
    let at = seat_at c.args.seats.now c.args.instance c.in-Some.seat.now (sym c.in-Some.ensures.lookup.0) c.in-Some.ensures.lookup.1 in
    let slot : c.args.base.values + (c.in-Some.seat.now.values + c.args.name) ≡ member_slot c.args.base c.in-Some.seat.now c.args.name = omega arith in
    let same : to_z w64 (of_z w64 c.args.value) ≡ c.args.value = omega (arith, ints) in
    c.set_from.ensures ∙ ap (assigned c.args.cells.now (c.args.base.values + (c.in-Some.seat.now.values + c.args.name))) same ∙ ap (λ k. assigned c.args.cells.now k c.args.value) slot ∙ sym (ap (λ o. with_input o c.args.base c.args.cells.now c.args.name c.args.value) at)
