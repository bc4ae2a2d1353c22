use Rattle.std.proofs.Common.{ℕ, ◌≡◌, ◌+◌, ◌*◌, ◌<◌, ◌≤◌, min, false, length, All, arith, ap, refl, w64}
use Rattle.std.specs.Int.{trailing_zeros}
use Rattle.alarm_bank.specs.Banks.{PlainBank, IsSettled}
use Rattle.alarm_bank.specs.Moves.{MovesOn}
use Rattle.alarm_bank.proofs.MarkLaws.{left_all, none_left, first_low, first_set, first_clear, left_next, set_within, mark_bit}
use Rattle.alarm_bank.proofs.MoveLaws.{move_more, unmarked_to}
use Rattle.alarm_bank.proofs.bank.Bank.list_word.Goals as goal

pub bounds-words-index : goal.bounds-words-index
bounds-words-index g c =
    let room = c.words-words.ensures.marks.room in
    omega (arith, room, c.requires.marks, c.requires.there)

pub loop-left-init : goal.loop-left-init
loop-left-init g c = (c.words-words.result.now, c.args.index * 64, record { marks = c.words-words.ensures.marks; flags = c.words-words.ensures.flags; left = left_all c.words-words.result.now c.args.index _ refl; within = c.requires.there; before = c.requires.before })

pub overflow_mul-at : goal.overflow_mul-at
overflow_mul-at g c = record { fits = omega (arith, c.requires.there, ap (λ (b : PlainBank). length b.alarms) c.self.view_is, c.self.invariant.few) }

pub overflow_add-at : goal.overflow_add-at
overflow_add-at g c =
    let set = first_set c.loop-left.invariant.0 c.args.index c.loop-left.left c.loop-left.invariant.1 c.loop-left.invariant.2.left (omega (arith, c.loop-left-test.true)) c.loop-left.auto.left-fits.fits in
    let there = set_within (length c.args.marks.now) c.loop-left.invariant.0 (c.args.index * 64 + trailing_zeros w64 c.loop-left.left) c.loop-left.invariant.2.marks set in
    record { fits = omega (arith, there, c.requires.marks, ap (λ (b : PlainBank). length b.alarms) c.self.view_is, c.self.invariant.few) }

pub overflow_cast-at-in-loop-left : goal.overflow_cast-at-in-loop-left
overflow_cast-at-in-loop-left g c =
    let set = first_set c.loop-left.invariant.0 c.args.index c.loop-left.left c.loop-left.invariant.1 c.loop-left.invariant.2.left (omega (arith, c.loop-left-test.true)) c.loop-left.auto.left-fits.fits in
    let there = set_within (length c.args.marks.now) c.loop-left.invariant.0 (c.args.index * 64 + trailing_zeros w64 c.loop-left.left) c.loop-left.invariant.2.marks set in
    record { fits = omega (arith, there, c.requires.marks, ap (λ (b : PlainBank). length b.alarms) c.self.view_is, c.self.invariant.few) }

pub list_move-requires-clause-there : goal.list_move-requires-clause-there
list_move-requires-clause-there g c =
    let set = first_set c.loop-left.invariant.0 c.args.index c.loop-left.left c.loop-left.invariant.1 c.loop-left.invariant.2.left (omega (arith, c.loop-left-test.true)) c.loop-left.auto.left-fits.fits in
    let there = set_within (length c.args.marks.now) c.loop-left.invariant.0 (c.args.index * 64 + trailing_zeros w64 c.loop-left.left) c.loop-left.invariant.2.marks set in
    omega (arith, there, c.requires.marks)

pub loop-left-preserved : goal.loop-left-preserved
loop-left-preserved g c =
    let settled : All IsSettled c.args.self.now.alarms = rw (← ap (λ (b : PlainBank). b.alarms) c.self.view_is) c.self.invariant.settled in
    let words = c.loop-left.invariant.0 in
    let left = c.loop-left.left in
    let place = c.loop-left.invariant.1 in
    let is = c.loop-left.invariant.2.left in
    let some : 0 < left = omega (arith, c.loop-left-test.true) in
    let small = c.loop-left.auto.left-fits.fits in
    let at : ℕ = c.args.index * 64 + trailing_zeros w64 left in
    let there : at < length c.args.marks.now = set_within (length c.args.marks.now) words at c.loop-left.invariant.2.marks (first_set words c.args.index left place is some small) in
    let within : at < length c.args.self.now.alarms = omega (arith, there, c.requires.marks) in
    let moves : MovesOn at (g.S.Signals.conditions c.args.signals.now) (g.S.Signals.suppressions c.args.signals.now) c.args.moment c.args.self.now.alarms c.loop-left.moves.moved.items =
    unmarked_to c.args.marks.now place at _ _ _ _ _ (first_low words c.args.index left place is some small) (omega (arith, within)) c.requires.conditions c.requires.suppressions
    (λ n above before. mark_bit c.args.marks.now words n false c.loop-left.invariant.2.flags (omega (arith, before, there)) (first_clear words c.args.index left place is some small n above before))
    c.requires.unmarked settled c.requires.later c.loop-left.invariant.2.before.moved in
    let more = move_more at _ _ _ _ _ _ _ _ within c.requires.conditions c.requires.suppressions c.in_ok-list_move.ensures moves c.loop-left.invariant.2.before.changes in
    (words, at + 1, record { marks = c.loop-left.invariant.2.marks; flags = c.loop-left.invariant.2.flags; left = left_next words c.args.index left place is some small; within = omega (arith, within); before = record { moved = more.moves; changes = more.changes } })

pub returns : goal.returns
returns g c =
    let settled : All IsSettled c.args.self.now.alarms = rw (← ap (λ (b : PlainBank). b.alarms) c.self.view_is) c.self.invariant.settled in
    let place = c.loop-left.invariant.1 in
    let is = c.loop-left.invariant.2.left in
    let high = is.high in
    let within = c.loop-left.invariant.2.within in
    record {
      moved = unmarked_to c.args.marks.now place (min ((c.args.index + 1) * 64) (length c.args.self.now.alarms)) _ _ _ _ _ (omega (arith, high, within)) (omega arith) c.requires.conditions c.requires.suppressions
          (λ n above before. mark_bit c.args.marks.now c.loop-left.invariant.0 n false c.loop-left.invariant.2.flags (omega (arith, before, c.requires.marks)) (none_left c.loop-left.invariant.0 c.args.index c.loop-left.left place is (omega (arith, c.loop-left-test.false)) n above (omega (arith, before))))
          c.requires.unmarked settled c.requires.later c.loop-left.invariant.2.before.moved;
      changes = c.loop-left.invariant.2.before.changes;
    }
