use Rattle.std.proofs.Common.{◌≡◌, ◌+◌, ◌∙◌, ap, sym, subst, arith}
use Rattle.std.specs.List.{list_any}
use Rattle.std.proofs.lemmas.Result.{IfOk-weaker}
use Rattle.plant_types.specs.Words.{same_word}
use Rattle.base_words.specs.Names.{is_among}
use Rattle.logic_source.specs.Source.{row_cells, view_routine, own_cells}
use Rattle.logic_source.specs.Paths.{called_in, is_called}
use Rattle.logic_frames.specs.Frames.{framed}
use Rattle.logic_seats.specs.Seats.{Fits, extent, seats_by, ends_by}
use Rattle.logic_frames.proofs.frames.seats_of.Goals as goal

pub row_cells-requires : goal.row_cells-requires
row_cells-requires c = let few = c.requires.own in let same = ap row_cells c.deref.ensures.value in omega (arith, few, same)

pub seats_by-requires : goal.seats_by-requires
seats_by-requires c =
    let r = view_routine c.args.routine.now in
    let calls : is_among c.in_ok-called.called ≡ is_called (framed c.args.is_run r) = (λ i n. (c.in_ok-called.ensures n ∙ ap (λ b. list_any (same_word n) (called_in b)) c.statements_of.ensures) i) in
    let many : c.len.result + c.row_cells.result ≡ own_cells r = let e = c.len.ensures in let ok = c.args.routine.now.locals.ok.0 in let rows = c.row_cells.ensures ∙ ap row_cells c.deref.ensures.value in omega (arith, e, ok, rows) in
    subst Fits (sym (λ i. ends_by c.args.table.now (calls i) (extent (many i) 0 1) (c.deref-2.ensures.value i))) c.requires.seats

pub returns-clause-seats : goal.returns-clause-seats
returns-clause-seats c =
    let r = view_routine c.args.routine.now in
    let calls : is_among c.in_ok-called.called ≡ is_called (framed c.args.is_run r) = (λ i n. (c.in_ok-called.ensures n ∙ ap (λ b. list_any (same_word n) (called_in b)) c.statements_of.ensures) i) in
    let many : c.len.result + c.row_cells.result ≡ own_cells r = let e = c.len.ensures in let ok = c.args.routine.now.locals.ok.0 in let rows = c.row_cells.ensures ∙ ap row_cells c.deref.ensures.value in omega (arith, e, ok, rows) in
    IfOk-weaker c.seats_by.result _ _ (λ made are. are ∙ (λ i. seats_by c.args.table.now (calls i) (extent (many i) 0 1) (c.deref-2.ensures.value i))) c.seats_by.ensures.seats

pub returns-clause-end : goal.returns-clause-end
returns-clause-end c =
    let r = view_routine c.args.routine.now in
    let calls : is_among c.in_ok-called.called ≡ is_called (framed c.args.is_run r) = (λ i n. (c.in_ok-called.ensures n ∙ ap (λ b. list_any (same_word n) (called_in b)) c.statements_of.ensures) i) in
    let many : c.len.result + c.row_cells.result ≡ own_cells r = let e = c.len.ensures in let ok = c.args.routine.now.locals.ok.0 in let rows = c.row_cells.ensures ∙ ap row_cells c.deref.ensures.value in omega (arith, e, ok, rows) in
    IfOk-weaker c.seats_by.result _ _ (λ made is. is ∙ (λ i. ends_by c.args.table.now (calls i) (extent (many i) 0 1) (c.deref-2.ensures.value i))) c.seats_by.ensures.end
