use Rattle.std.proofs.Common.{◌≡◌, ◌∙◌, ◌++◌, ap, sym, subst, refl}
use Rattle.base_words.specs.Names.{is_among}
use Rattle.logic_seats.specs.Seats.{Fits, plus, extent_called, extent_by, seat_by, seats_by}
use Rattle.logic_seats.proofs.Seated.{next_fits, seats_more, seats_whole}
use Rattle.logic_seats.proofs.seats.seats_by.Goals as goal

pub loop-instance-init : goal.loop-instance-init
loop-instance-init c = record { seats_are = ap (λ l. l ++ seats_by c.args.table.now (is_among c.args.called.now) c.args.first c.args.list.now) c.new-seats.ensures.items; end_is = refl }

pub plus-at-requires : goal.plus-at-requires
plus-at-requires c =
    let l = c.loop-instance in
    let x = c.instance-item.result in
    let added : extent_called (is_among c.args.called.now x.name) (extent_by c.args.table.now x.of) ≡ c.extent_called.result = sym (c.extent_called.ensures ∙ (λ i. extent_called (c.is_among-is_called.ensures i) (c.extent_by.ensures i))) in
    subst (λ e. Fits (plus l.at e)) added (next_fits c.args.table.now (is_among c.args.called.now) c.args.first c.args.list.now l.seats.items l.at l.instance-index x c.loop-instance-test.true c.instance-item.is l.invariant c.requires)

pub loop-instance-preserved : goal.loop-instance-preserved
loop-instance-preserved c =
    let l = c.loop-instance in
    let table = c.args.table.now in
    let x = c.instance-item.result in
    let is = c.is_among-is_called.ensures in
    seats_more table (is_among c.args.called.now) c.args.first c.args.list.now l.seats.items c.push.new.self.items c.in_ok-seat.seat l.at _ l.instance-index x c.loop-instance-test.true c.instance-item.is l.invariant
    (c.in_ok-seat.ensures ∙ ap (λ b. seat_by table b l.at x) is) c.in_ok-push.ensures.items
    (c.plus-at.ensures ∙ ap (plus l.at) (c.extent_called.ensures ∙ (λ i. extent_called (is i) (c.extent_by.ensures i))))

pub returns-clause-seats : goal.returns-clause-seats
returns-clause-seats c = (seats_whole c.args.table.now (is_among c.args.called.now) c.args.first c.args.list.now c.loop-instance.seats.items c.loop-instance.at c.loop-instance.instance-index c.loop-instance-test.false c.loop-instance.invariant).0

pub returns-clause-end : goal.returns-clause-end
returns-clause-end c = (seats_whole c.args.table.now (is_among c.args.called.now) c.args.first c.args.list.now c.loop-instance.seats.items c.loop-instance.at c.loop-instance.instance-index c.loop-instance-test.false c.loop-instance.invariant).1
