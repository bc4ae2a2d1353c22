use Rattle.std.proofs.Common.{inl, inr, ◌≡◌, ℕ, ◌≤◌, ◌<◌, ◌+◌, ◌*◌, ◌/◌, min, false, Some, slice_get, [], length, w64, arith, refl}
use Rattle.std.specs.Int.{trailing_zeros}
use Rattle.std.proofs.lemmas.Bool.{cases_lt}
use Rattle.alarm_bank.proofs.MarkLaws.{left_all, none_left, first_low, first_set, first_clear, left_next, set_within, mark_bit}
use Rattle.alarm_delays.proofs.MetLaws.{MetOn, met_first, met_over, met_one, met_all}
use Rattle.alarm_delays.proofs.delays.Delays.list_met.Goals as goal

pub loop-index-init : goal.loop-index-init
loop-index-init g c =
    let is = c.requires.first in
    let within : min (c.args.first / 64 * 64) (length c.args.marks.now) ≤ length c.args.self.now.since = omega (arith, c.requires.marks) in
    record {
      listed = rw c.clear.ensures.items (met_over c.args.marks.now 0 (min (c.args.first / 64 * 64) (length c.args.marks.now)) (g.S.Signals.conditions c.args.raw.now) c.args.self.now.since [] (omega arith) within c.requires.each c.requires.unmarked (λ n low less. is.clear n (omega (arith, less))) (met_first (g.S.Signals.conditions c.args.raw.now) c.args.self.now.since));
      clear = λ n low less. absurd (omega (arith, low, less));
    }

pub loop-left-init : goal.loop-left-init
loop-left-init g c =
    let room = c.words-words.ensures.marks.room in
    let within : c.loop-index.index * 64 ≤ length c.args.marks.now = omega (arith, c.loop-index-test.true, room) in (
      c.loop-index.index * 64,
      record {
        left = left_all c.words-words.result.now c.loop-index.index _ refl;
        within = within;
        listed = met_over c.args.marks.now (min (c.loop-index.index * 64) (length c.args.marks.now)) (c.loop-index.index * 64) (g.S.Signals.conditions c.args.raw.now) c.args.self.now.since c.loop-index.met.items (omega arith) (omega (arith, within, c.requires.marks)) c.requires.each c.requires.unmarked (λ n low less. absurd (omega (arith, low, less, within))) c.loop-index.invariant.listed;
        clear = λ n low less. c.loop-index.invariant.clear n low (omega (arith, less, within));
      },
    )

pub overflow_cast-number : goal.overflow_cast-number
overflow_cast-number g c =
    let set = first_set c.words-words.result.now c.loop-index.index c.loop-left.left c.loop-left.invariant.0 c.loop-left.invariant.1.left (omega (arith, c.loop-left-test.true)) c.loop-left.auto.left-fits.fits in
    let there = set_within (length c.args.marks.now) c.words-words.result.now (c.loop-index.index * 64 + trailing_zeros w64 c.loop-left.left) c.words-words.ensures.marks set in
    record { fits = omega (arith, there, c.requires.marks, c.requires.few) }

pub condition-requires : goal.condition-requires
condition-requires g c =
    let set = first_set c.words-words.result.now c.loop-index.index c.loop-left.left c.loop-left.invariant.0 c.loop-left.invariant.1.left (omega (arith, c.loop-left-test.true)) c.loop-left.auto.left-fits.fits in
    let there = set_within (length c.args.marks.now) c.words-words.result.now (c.loop-index.index * 64 + trailing_zeros w64 c.loop-left.left) c.words-words.ensures.marks set in
    omega (arith, there, c.requires.marks, c.requires.each)

pub loop-left-preserved : goal.loop-left-preserved
loop-left-preserved g c =
    let words = c.words-words.result.now in
    let left = c.loop-left.left in
    let place = c.loop-left.invariant.0 in
    let is = c.loop-left.invariant.1.left in
    let cs = g.S.Signals.conditions c.args.raw.now in
    let since = c.args.self.now.since in
    let some : 0 < left = omega (arith, c.loop-left-test.true) in
    let small = c.loop-left.auto.left-fits.fits in
    let at : ℕ = c.loop-index.index * 64 + trailing_zeros w64 left in
    let there : at < length c.args.marks.now = set_within (length c.args.marks.now) words at c.words-words.ensures.marks (first_set words c.loop-index.index left place is some small) in
    let within : at < length since = omega (arith, there, c.requires.marks) in
    let listed : MetOn at cs since c.loop-left.met.items =
    met_over c.args.marks.now place at cs since c.loop-left.met.items (first_low words c.loop-index.index left place is some small) (omega (arith, within)) c.requires.each c.requires.unmarked
    (λ n above before. mark_bit c.args.marks.now words n false c.words-words.ensures.flags (omega (arith, before, there)) (first_clear words c.loop-index.index left place is some small n above before))
    c.loop-left.invariant.1.listed in (
      at + 1,
      record {
        left = left_next words c.loop-index.index left place is some small;
        within = omega (arith, there);
        listed = met_one at c.condition.result cs since c.loop-left.met.items _ c.requires.each within c.condition.ensures c.in_ok-push.ensures.items listed;
        clear = λ n low less. absurd (omega (arith, low, less));
      },
    )

pub loop-index-preserved : goal.loop-index-preserved
loop-index-preserved g c =
    let marks = c.args.marks.now in
    let place = c.loop-left.invariant.0 in
    let is = c.loop-left.invariant.1.left in
    let high = is.high in
    let within = c.loop-left.invariant.1.within in
    let none = none_left c.words-words.result.now c.loop-index.index c.loop-left.left place is (omega (arith, c.loop-left-test.false)) in
    let past : (n : ℕ) → place ≤ n → n < min ((c.loop-index.index + 1) * 64) (length marks) → slice_get marks n ≡ Some false =
    λ n above before. mark_bit marks c.words-words.result.now n false c.words-words.ensures.flags (omega (arith, before)) (none n above (omega (arith, before))) in
    record {
      listed = met_over marks place (min ((c.loop-index.index + 1) * 64) (length marks)) (g.S.Signals.conditions c.args.raw.now) c.args.self.now.since c.loop-left.met.items (omega (arith, high, within)) (omega (arith, c.requires.marks)) c.requires.each c.requires.unmarked past c.loop-left.invariant.1.listed;
      clear = λ n low less. elim (cases_lt n place) [
        | inl before ↦ c.loop-left.invariant.1.clear n low before
        | inr after ↦ past n after less
      ];
    }

pub returns-clause-met : goal.returns-clause-met
returns-clause-met g c =
    let room = c.words-words.ensures.marks.room in
    met_all (min (c.loop-index.index * 64) (length c.args.marks.now)) (g.S.Signals.conditions c.args.raw.now) c.args.self.now.since c.loop-index.met.items (omega (arith, room, c.requires.marks, c.loop-index-test.false)) c.requires.each c.loop-index.invariant.listed

pub returns-clause-end : goal.returns-clause-end
returns-clause-end g c = λ n low less.
    let room = c.words-words.ensures.marks.room in
    c.loop-index.invariant.clear n low (omega (arith, room, less, c.loop-index-test.false))
