use Rattle.std.proofs.Common.{◌≡◌, false, sym, ap, ◌∙◌, arith}
use Rattle.std.proofs.lemmas.Grind.{common_steps}
use Rattle.serve_lines.specs.Given.{pairs_of}
use Rattle.serve_lines.specs.Words.{at_gap, words_of}
use Rattle.serve_lines.proofs.PairLaws.{after_pairs, pair-next, pair-bad}
use Rattle.serve_lines.proofs.WordLaws.{some_bytes}
use Rattle.serve_lines.proofs.given.list_pairs.Goals as goal

pub loop-rest-preserved : goal.loop-rest-preserved
loop-rest-preserved c =
    let rest = c.loop-rest.rest.now in
    let after = c.in-Some.after.now in
    let at_word : at_gap rest ≡ false = c.loop-rest.invariant.at_word (some_bytes rest (sym c.is_empty.ensures ∙ c.loop-rest-test.true)) in
    record {
      same =
          c.loop-rest.invariant.same
          ∙ pair-next rest after c.loop-rest.pool _ at_word c.in-Some.ensures.pair c.in-Some.ensures.after
          ∙ ap (λ pool. after_pairs pool (pairs_of (words_of after))) (sym c.in_ok-add_pair-in-Some.ensures)
          ∙ ap (λ words. after_pairs c.add_pair.new.pool (pairs_of words)) (sym c.trim_start-rest-in-Some.ensures.words);
      at_word = c.trim_start-rest-in-Some.ensures.at_word;
    }

pub returns-in-None : goal.returns-in-None
returns-in-None c =
    let rest = c.loop-rest.rest.now in
    let at_word : at_gap rest ≡ false = c.loop-rest.invariant.at_word (some_bytes rest (sym c.is_empty.ensures ∙ c.loop-rest-test.true)) in
    c.loop-rest.invariant.same ∙ pair-bad rest c.loop-rest.pool at_word c.in-None.ensures.pair

pub returns : goal.returns
returns c = grind (arith, common_steps)
