use Rattle.std.proofs.Common.{◌≡◌, Option, Result, ap, ◌∙◌}
use Rattle.alarm_machine.specs.declared.states.OrderFault.{OrderFault}
use Rattle.alarm_machine.specs.Codes.{PlainChange}
use Rattle.engine.specs.Event.TheVariants as event
use Rattle.engine.specs.States.{PlainPreparedOrder}
use Rattle.engine.specs.Engines.{state_of}
use Rattle.console_boards.specs.declared.entry.BoardEntry.TheVariants as entry
use Rattle.console_recorder.specs.Entries.{board_reply, entry_of}
use Rattle.console_recorder.proofs.Laid.{order_entry, may_come, laid_or_not}
use Rattle.console_recorder.proofs.laying.lay_order.Goals as goal

pub lay-requires : goal.lay-requires
lay-requires c =
    let e = c.args.engine.now in
    let p = c.args.prepared.now in
    let k = c.prepared.inside in
    let made : entry.Order k.console (record { order = k.order; reply = c.board_reply.result }) ≡ entry_of (state_of e) (event.Order p.console p.order) =
    ap (λ (r : Result (Option PlainChange) OrderFault). entry.Order k.console (record { order = k.order; reply = r })) c.board_reply.ensures
    ∙ (ap (λ (q : PlainPreparedOrder). entry.Order q.console (record { order = q.order; reply = board_reply q.reply })) c.prepared.view_is ∙ order_entry e p c.requires.fits) in
    record { may_come = may_come e.plant e.history (event.Order p.console p.order) c.args.board.now (entry.Order k.console (record { order = k.order; reply = c.board_reply.result })) c.requires.fits.taken c.requires.has made }

pub returns-clause-laid : goal.returns-clause-laid
returns-clause-laid c =
    let e = c.args.engine.now in
    let p = c.args.prepared.now in
    let k = c.prepared.inside in
    let made : entry.Order k.console (record { order = k.order; reply = c.board_reply.result }) ≡ entry_of (state_of e) (event.Order p.console p.order) =
    ap (λ (r : Result (Option PlainChange) OrderFault). entry.Order k.console (record { order = k.order; reply = r })) c.board_reply.ensures
    ∙ (ap (λ (q : PlainPreparedOrder). entry.Order q.console (record { order = q.order; reply = board_reply q.reply })) c.prepared.view_is ∙ order_entry e p c.requires.fits) in
    laid_or_not c.lay.result e.plant e.history (event.Order p.console p.order) c.args.board.now c.lay.new.self (entry.Order k.console (record { order = k.order; reply = c.board_reply.result })) c.requires.has
    c.requires.fits.taken made c.lay.ensures.laid
