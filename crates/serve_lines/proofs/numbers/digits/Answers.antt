use Rattle.std.proofs.Common.{◌≡◌, true, arith, get_or, sym, ◌∙◌}
use Rattle.std.proofs.lemmas.List.Folds.{list_all_more}
use Rattle.std.specs.Char.{is_ascii_digit}
use Rattle.std.proofs.lemmas.Grind.{common_steps}
use Rattle.serve_lines.proofs.NumberLaws.{next_small, small_fits, small_within, next_value, digit_small}
use Rattle.serve_lines.proofs.numbers.digits.Goals as goal

pub overflow_mul-n : goal.overflow_mul-n
overflow_mul-n c = let f = small_fits _ _ c.loop-byte.invariant.small (omega arith) in omega arith

pub overflow_add-n : goal.overflow_add-n
overflow_add-n c =
    let f = small_fits _ _ c.loop-byte.invariant.small (omega arith) in
    let b = get_or c.args.word.now c.loop-byte.byte-index 0 in
    let d = digit_small b (sym c.is_ascii_digit.ensures.value ∙ c.if-not-is_ascii_digit.false) in
    omega arith

pub loop-byte-preserved : goal.loop-byte-preserved
loop-byte-preserved c =
    let b = get_or c.args.word.now c.loop-byte.byte-index 0 in
    let digit : is_ascii_digit b ≡ true = sym c.is_ascii_digit.ensures.value ∙ c.if-not-is_ascii_digit.false in
    record {
      digits = rw (list_all_more is_ascii_digit c.args.word.now c.loop-byte.byte-index 0 c.loop-byte-test.true, c.loop-byte.invariant.digits) digit;
      value = rw c.from.ensures (next_value c.args.word.now _ _ c.loop-byte-test.true digit c.loop-byte.invariant.value);
      small = rw c.from.ensures (next_small _ _ _ c.loop-byte.invariant.small (digit_small b digit));
    }

pub returns-clause-small : goal.returns-clause-small
returns-clause-small c = small_within _ _ _ c.loop-byte.invariant.small (omega arith)

pub returns-then-not-is_ascii_digit-clause-value : goal.returns-then-not-is_ascii_digit-clause-value
returns-then-not-is_ascii_digit-clause-value c = grind (arith, common_steps)

pub returns-clause-value : goal.returns-clause-value
returns-clause-value c = grind (arith, common_steps)
