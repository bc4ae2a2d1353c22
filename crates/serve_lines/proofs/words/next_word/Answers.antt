use Rattle.std.proofs.Common.{◌<◌, false, ◌≡◌, arith, sym, ◌∙◌, length}
use Rattle.std.proofs.lemmas.Grind.{common_steps}
use Rattle.serve_lines.specs.Words.{at_gap}
use Rattle.serve_lines.proofs.WordLaws.{words-first, some-first, some_bytes}
use Rattle.serve_lines.proofs.words.next_word.Goals as goal

pub returns : goal.returns
returns c =
    let line = c.trim_start-line.result.now in
    let word = c.split_word.result.0.now in
    let rest = c.split_word.result.1.now in
    let at_word : at_gap line ≡ false = c.trim_start-line.ensures.at_word (some_bytes line (sym c.is_empty.ensures ∙ c.if-is_empty.false)) in
    let some : 0 < length word = some-first line word rest at_word c.split_word.ensures.split in (
      sym c.trim_start-line.ensures.words ∙ words-first line word rest at_word c.split_word.ensures.split,
      omega (arith, some, c.split_word.ensures.sizes, c.trim_start-line.ensures.shorter),
    )

pub returns-then-is_empty : goal.returns-then-is_empty
returns-then-is_empty c = grind (arith, common_steps)
