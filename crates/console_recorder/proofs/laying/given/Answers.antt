use Rattle.std.proofs.Common.{◌≡◌, ℕ, ◌+◌, ◌<◌, Bool, List, length, map, take, get_or, slice_set, ap, sym, ◌∙◌, arith}
use Rattle.std.proofs.lemmas.Grind.{common_steps}
use Rattle.std.proofs.lemmas.List.{map-set}
use Rattle.std.proofs.lemmas.List.Sums.{fold_more}
use Rattle.alarm_machine.specs.Alarms.{PlainAlarm}
use Rattle.alarm_bank.specs.Moves.{put, put_all}
use Rattle.console_recorder.proofs.laying.given.Goals as goal

-- the flag of one moved alarm more
flag_put : (flag_of : PlainAlarm → Bool) (alarms : List PlainAlarm) (moved : List (ℕ × PlainAlarm)) (i : ℕ) (one : ℕ × PlainAlarm) (flags new : List Bool) (flag : Bool) → i < length moved → one ≡ get_or moved i one
    → flags ≡ map flag_of (put_all alarms (take i moved)) → flag ≡ flag_of one.1 → new ≡ slice_set flags one.0 flag → new ≡ map flag_of (put_all alarms (take (i + 1) moved))
flag_put flag_of alarms moved i one flags new flag there is have told more =
    let before = put_all alarms (take i moved) in
    more
    ∙ (λ j. slice_set (have j) one.0 (told j))
    ∙ sym (map-set flag_of before one.0 one.1)
    ∙ ap (λ (x : ℕ × PlainAlarm). map flag_of (put before x)) is
    ∙ ap (λ (l : List PlainAlarm). map flag_of l) (sym (fold_more put alarms moved i one there))

pub loop-number-preserved : goal.loop-number-preserved
loop-number-preserved c =
    let alarms = c.args.alarms.now in
    let moved = c.args.moved.now in
    let one = c.loop-number-item.result in
    let i = c.loop-number.number-index in
    let flag_next = λ (flag_of : PlainAlarm → Bool). flag_put flag_of alarms moved i one in record {
      conditions = flag_next (λ a. a.condition) _ _ c.condition.result c.loop-number-test.true c.loop-number-item.is c.loop-number.invariant.conditions c.condition.ensures c.put_flag.ensures;
      suppressions = flag_next (λ a. a.suppressed) _ _ c.suppressed.result c.loop-number-test.true c.loop-number-item.is c.loop-number.invariant.suppressions c.suppressed.ensures c.put_flag-in-loop-number.ensures;
    }

pub returns : goal.returns
returns c = grind (arith, common_steps)
