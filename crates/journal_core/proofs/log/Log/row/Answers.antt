use Rattle.std.proofs.Common.{◌-◌, ◌<◌, ◌∙◌, length, arith, ap, sym}
use Rattle.std.specs.Prelude.{List, Some}
use Rattle.journal_core.specs.declared.log.ApartRow.{ApartRow}
use Rattle.journal_core.specs.declared.packing.KeptRow.{KeptRow}
use Rattle.journal_core.specs.Kept.{row_of}
use Rattle.journal_core.proofs.KeptLaws.{words_length, row_is, place_is}
use Rattle.journal_core.proofs.log.Log.row.Goals as goal

pub row_of-requires : goal.row_of-requires
row_of-requires c =
    let apart = c.self.inside.apart.items in
    let words = c.self.inside.rows.items in
    let many = words_length apart words in
    let last = rw (← c.self.view_is) at c.requires.last in
    let inside : c.args.number - 1 < length words = omega (arith, c.requires.first, last, many) in
    let word = c.index-word.result.now in
    rw (c.as_slice.ensures.value, c.unpacked.ensures) (place_is (length apart) words (c.args.number - 1) word c.self.invariant.places inside c.index-word.ensures)

pub returns : goal.returns
returns c =
    let apart = c.self.inside.apart.items in
    let words = c.self.inside.rows.items in
    let many = words_length apart words in
    let last = rw (← c.self.view_is) at c.requires.last in
    let inside : c.args.number - 1 < length words = omega (arith, c.requires.first, last, many) in
    let word = c.index-word.result.now in
    let has =
    c.row_of.ensures
    ∙ ap (λ (rows : List ApartRow). row_of rows c.args.number c.unpacked.result) c.as_slice.ensures.value
    ∙ ap (λ (row : KeptRow). row_of apart c.args.number row) c.unpacked.ensures in
    rw (← c.self.view_is) (row_is apart words c.args.number word c.requires.first inside c.index-word.ensures ∙ ap (λ r. Some r) (sym has))
