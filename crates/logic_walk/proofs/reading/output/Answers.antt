use Rattle.std.proofs.Common.{◌≡◌, ◌∙◌, ap, sym, length, to_z, of_z, w64, arith}
use Rattle.std.proofs.lemmas.Int.{ints}
use Rattle.std.proofs.lemmas.Bool.{ltb-false}
use Rattle.std.proofs.lemmas.Option.{slice_get_past}
use Rattle.logic_walk.specs.Walks.{output_at, output_by}
use Rattle.logic_walk.proofs.Steps.{seat_at}
use Rattle.logic_walk.proofs.reading.output.Goals as goal

pub returns-in-Standard : goal.returns-in-Standard
returns-in-Standard c =
    let at = seat_at c.args.seats.now c.args.instance c.in-Some.seat.now (sym c.in-Some.ensures.lookup.0) c.in-Some.ensures.lookup.1 in
    let same : to_z w64 (of_z w64 c.shown.result) ≡ c.shown.result = omega (arith, ints) in
    same ∙ c.shown.ensures ∙ sym (ap (λ o. output_at o c.args.base c.args.cells.now c.args.name) at ∙ ap (λ o. output_by o c.args.base c.in-Some.seat.now c.args.cells.now c.args.name) c.in-Standard.is)

pub returns-in-Frame : goal.returns-in-Frame
returns-in-Frame c =
    let at = seat_at c.args.seats.now c.args.instance c.in-Some.seat.now (sym c.in-Some.ensures.lookup.0) c.in-Some.ensures.lookup.1 in
    let same : to_z w64 (of_z w64 c.member.result) ≡ c.member.result = omega (arith, ints) in
    same ∙ c.member.ensures ∙ sym (ap (λ o. output_at o c.args.base c.args.cells.now c.args.name) at ∙ ap (λ o. output_by o c.args.base c.in-Some.seat.now c.args.cells.now c.args.name) c.in-Frame.is)

pub returns-in-None : goal.returns-in-None
returns-in-None c =
    let none = slice_get_past c.args.seats.now c.args.instance (ltb-false c.args.instance (length c.args.seats.now) (sym c.in-None.ensures.lookup.0)) in
    sym (ap (λ o. output_at o c.args.base c.args.cells.now c.args.name) none)
