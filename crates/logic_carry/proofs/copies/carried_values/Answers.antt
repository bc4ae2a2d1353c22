use Rattle.std.proofs.Common.{◌≡◌, ◌∙◌, ap, sym, subst, [], ◌∷◌, ◌++◌, ◌<◌, length, FitsSigned, w64, rules, arith, ℕ, pos}
use Rattle.std.proofs.lemmas.Int.{to_z-of_z}
use Rattle.logic_carry.specs.Keeping.{AreCarried}
use Rattle.logic_carry.proofs.Copying.{carried_none, carried_step}
use Rattle.logic_carry.proofs.copies.carried_values.Goals as goal

pub loop-number-init : goal.loop-number-init
loop-number-init c = record {
  so_far = subst (AreCarried c.args.before.now c.args.here.now c.args.kept.now 0) (sym c.in_ok-after.ensures.items) (carried_none c.args.before.now c.args.here.now c.args.kept.now);
  within = omega arith;
}

pub loop-number-preserved : goal.loop-number-preserved
loop-number-preserved c =
    let before = c.args.before.now in
    let here = c.args.here.now in
    let kept = c.args.kept.now in
    let n = c.loop-number.number in
    let test = c.loop-number-test.true in
    let less : n < length here = omega (arith, test) in
    let fits : FitsSigned w64 c.carried_value-value.result = search rules in
    record {
      so_far = carried_step before here kept n c.loop-number.after.items c.push.new.self.items (pos 0) c.place_of-old.result less c.place_of-old.ensures (c.in_ok-push.ensures.items ∙ ap (λ v. c.loop-number.after.items ++ v ∷ []) (to_z-of_z w64 c.carried_value-value.result fits ∙ c.carried_value-value.ensures)) c.loop-number.invariant.so_far;
      within = omega (arith, less);
    }

pub returns : goal.returns
returns c =
    let here = c.args.here.now in
    let test = c.loop-number-test.false in
    let within = c.loop-number.invariant.within in
    let all : c.loop-number.number ≡ length here = omega (arith, test, within) in
    subst (λ (n : ℕ). AreCarried c.args.before.now here c.args.kept.now n c.loop-number.after.items) all c.loop-number.invariant.so_far
