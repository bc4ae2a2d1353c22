use Rattle.std.proofs.Common.{◌≡◌, suc, arith, ap, sym, ◌∙◌}
use Rattle.base_words.specs.Texts.{start_of}
use Rattle.base_words.proofs.Ending.{start_is}
use Rattle.base_words.proofs.texts.start_of.Goals as goal

pub returns-in-Some : goal.returns-in-Some
returns-in-Some c =
    let some = c.in-Some.ensures.0 in
    let is = c.in-Some.ensures.1 in
    let less = c.requires in
    let number : suc c.in-Some.before ≡ c.args.number = omega (arith, some, is) in
    sym (start_is 0 c.args.ends.now c.in-Some.before (omega (arith, some, is, less))) ∙ ap (start_of 0 c.args.ends.now) number
