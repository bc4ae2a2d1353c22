use Rattle.std.proofs.Common.{◌+◌, drop, slice_index_or, slice_set, sym, ap, ◌∙◌, arith}
use Rattle.std.proofs.lemmas.List.{drop-drop, drop-set-lt}
use Rattle.std.proofs.lemmas.List.Edits.{map_over_more}
use Rattle.console_boards.specs.Counts.{counted}
use Rattle.console_boards.proofs.Takes.{any_default}
use Rattle.console_boards.proofs.tally.count.Goals as goal

pub loop-tally-preserved : goal.loop-tally-preserved
loop-tally-preserved c =
    let xs = c.args.tallies.now in
    let ys = c.loop-tally.tallies in
    let i = c.loop-tally.tally-index in
    let x = slice_index_or ys i (record { console = 0; orders = 0 }) in (
      ap (λ t. slice_set ys i t) c.one_more.ensures ∙ map_over_more (counted c.args.console) xs ys i x c.loop-tally-test.true c.loop-tally.invariant.0 (any_default ys i (record { console = 0; orders = 0 }) x (omega (arith, c.loop-tally.auto.tallies, c.loop-tally-test.true))),
      drop-set-lt (i + 1) ys i c.one_more.result (omega arith) ∙ (sym (drop-drop 1 i ys) ∙ (ap (λ zs. drop 1 zs) c.loop-tally.invariant.1 ∙ drop-drop 1 i xs)),
    )
