use Rattle.std.proofs.Common.{ℕ, ◌≡◌, ◌*◌, ◌/◌, ◌<◌, ◌≤◌, min, [], length, All, arith, ap, refl}
use Rattle.alarm_bank.specs.Banks.{PlainBank, IsSettled}
use Rattle.alarm_bank.proofs.MoveLaws.{moves_first, unmarked_to, moves_listed}
use Rattle.alarm_bank.proofs.bank.Bank.list_moved_among.Goals as goal

pub loop-index-init : goal.loop-index-init
loop-index-init g c =
    let settled : All IsSettled c.args.self.now.alarms = rw (← ap (λ (b : PlainBank). b.alarms) c.self.view_is) c.self.invariant.settled in
    let later = c.if-shelf_ends.ensures refl in
    record {
      moved = rw c.clear.ensures.items (unmarked_to c.args.marks.now 0 (min (c.args.first / 64 * 64) (length c.args.self.now.alarms)) _ _ _ _ [] (omega arith) (omega arith) c.requires.conditions c.requires.suppressions (λ n low less. c.requires.clear n (omega (arith, less))) c.requires.unmarked settled later (moves_first _ _ _ _));
      changes = rw (c.clear.ensures.items, c.clear-2.ensures.items) refl;
    }

pub list_word-requires-clause-there : goal.list_word-requires-clause-there
list_word-requires-clause-there g c = omega (arith, c.loop-index-test.true, c.min-end.ensures, ap (λ (b : PlainBank). length b.alarms) c.self.view_is)

pub list_word-requires-clause-later : goal.list_word-requires-clause-later
list_word-requires-clause-later g c = c.if-shelf_ends.ensures refl

pub list_word-requires-clause-before : goal.list_word-requires-clause-before
list_word-requires-clause-before g c =
    let settled : All IsSettled c.args.self.now.alarms = rw (← ap (λ (b : PlainBank). b.alarms) c.self.view_is) c.self.invariant.settled in
    let within : c.loop-index.index * 64 ≤ length c.args.self.now.alarms = omega (arith, c.loop-index-test.true, c.min-end.ensures, ap (λ (b : PlainBank). length b.alarms) c.self.view_is) in
    record {
      moved = unmarked_to c.args.marks.now (min (c.loop-index.index * 64) (length c.args.self.now.alarms)) (c.loop-index.index * 64) _ _ _ _ _ (omega arith) within c.requires.conditions c.requires.suppressions (λ n low less. absurd (omega (arith, low, less, within))) c.requires.unmarked settled (c.if-shelf_ends.ensures refl) c.loop-index.invariant.moved;
      changes = c.loop-index.invariant.changes;
    }

pub returns : goal.returns
returns g c =
    let settled : All IsSettled c.args.self.now.alarms = rw (← ap (λ (b : PlainBank). b.alarms) c.self.view_is) c.self.invariant.settled in
    let later = c.if-shelf_ends.ensures refl in
    let many : length c.args.marks.now ≡ length c.args.self.now.alarms = c.requires.marks in
    let past : (n : ℕ) → min (c.loop-index.index * 64) (length c.args.self.now.alarms) ≤ n → n < length c.args.self.now.alarms → c.args.end ≤ n = λ n low less. omega (arith, low, less, c.loop-index-test.false, c.min-end.ensures, ap (λ (b : PlainBank). length b.alarms) c.self.view_is) in
    moves_listed (length c.args.self.now.alarms) _ _ _ _ _ _ (omega arith)
    (unmarked_to c.args.marks.now (min (c.loop-index.index * 64) (length c.args.self.now.alarms)) (length c.args.self.now.alarms) _ _ _ _ _ (omega arith) (omega arith) c.requires.conditions c.requires.suppressions (λ n low less. c.requires.rest n (past n low less) (omega (arith, less, many))) c.requires.unmarked settled later c.loop-index.invariant.moved)
    c.loop-index.invariant.changes
