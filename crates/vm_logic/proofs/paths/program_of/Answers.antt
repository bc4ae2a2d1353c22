use Rattle.std.proofs.Common.{◌≡◌, ◌+◌, ap, get_or, inl, inr, arith}
use Rattle.std.proofs.lemmas.Bool.{cases_lt}
use Rattle.vm_logic.proofs.paths.program_of.Goals as goal

pub loop-program-init : goal.loop-program-init
loop-program-init c =
    let begins = c.requires.begins in
    let within = c.requires.within in
    record {
      there = elim (cases_lt 0 c.args.programs) [
        | inl some ↦ some
        | inr none ↦ (
            let same : c.args.programs ≡ 0 = omega (arith, none) in
            let e = ap (λ n. get_or c.args.bases.now n 0) same in
            absurd (omega (arith, e, begins, within)))
      ];
      begins = begins;
    }

pub loop-program-preserved : goal.loop-program-preserved
loop-program-preserved c =
    let there = c.loop-program.invariant.there in
    let within = c.requires.within in
    let test = c.loop-program-test.true in
    record {
      there = elim (cases_lt (c.loop-program.program + 1) c.args.programs) [
        | inl less ↦ less
        | inr past ↦ (
            let same : c.args.programs ≡ c.loop-program.program + 1 = omega (arith, there, past) in
            let e = ap (λ n. get_or c.args.bases.now n 0) same in
            absurd (omega (arith, e, test, within)))
      ];
      begins = test;
    }
