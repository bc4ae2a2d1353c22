use Rattle.std.proofs.Common.{◌≡◌, List, [], pos, Some, slice_get, slice_index_or, arith, subst}
use Rattle.std.proofs.lemmas.Option.{slice_get-get_or}
use Rattle.plant_types.specs.declared.values.Kind.TheVariants as kind
use Rattle.logic_source.specs.declared.logic.Row.{Row}
use Rattle.logic_source.specs.Ranges.{row_kinds}
use Rattle.logic_carry.specs.declared.words.OwnRow.{OwnRow}
use Rattle.logic_carry.specs.Lists.{Adds, numbers_in}
use Rattle.logic_carry.proofs.Stepping.{row_step, rows_all}
use Rattle.logic_carry.proofs.lists.list_rows.Goals as goal

pub loop-row-preserved : goal.loop-row-preserved
loop-row-preserved c =
    let own = c.args.rows.now in
    let n = c.loop-row.row-index in
    let none : OwnRow = record { word = 0; kind = kind.Bool; bounds = record { low = pos 0; high = pos 0 }; first = 0; last = 0 } in
    let o : OwnRow = slice_index_or own n none in
    let at : slice_get own n ≡ Some o = slice_get-get_or own n none (omega (arith, c.loop-row-test.true)) in
    let before = c.args.listed.now in
    let old = c.loop-row.listed in
    let new = numbers_in (record { numbers = c.path_number.new.numbers; values = old.values; standards = old.standards }) in
    let later = c.list_row.new.listed in
    record {
      numbered = c.in_ok-list_row.ensures.numbered;
      lists = λ words arrays q are at_q.
          row_step words (numbers_in before) (numbers_in old) new before.values.items old.values.items before.standards.items old.standards.items c.args.path c.in_ok-below.below q n (numbers_in later) later.values.items later.standards.items own arrays o are at at_q
          (c.loop-row.invariant.lists words arrays q are at_q) c.in_ok-below.ensures.grows c.in_ok-below.ensures.number (λ p last here. c.in_ok-list_row.ensures.lists words p last here);
    }

pub returns-clause-lists : goal.returns-clause-lists
returns-clause-lists c = λ words arrays q are at_q.
    subst (λ (rows : List Row). Adds words c.args.listed.now c.loop-row.listed (row_kinds rows q) []) (rows_all words c.args.rows.now arrays c.loop-row.row-index are (omega (arith, c.loop-row-test.false)))
    (c.loop-row.invariant.lists words arrays q are at_q)
