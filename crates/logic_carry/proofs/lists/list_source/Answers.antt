use Rattle.std.proofs.Common.{◌++◌, List, [], map, ap, sym, subst, refl}
use Rattle.std.proofs.lemmas.Result.{on_ok_weaker}
use Rattle.logic_source.specs.Layout.{all_clocks, program_clocks}
use Rattle.logic_source.specs.Ranges.{local_kinds, row_kinds, global_kinds, program_kinds, all_kinds}
use Rattle.logic_carry.specs.declared.words.Own.{Own}
use Rattle.logic_carry.specs.declared.words.OwnRow.{OwnRow}
use Rattle.logic_carry.specs.declared.lists.Program.{Program}
use Rattle.logic_carry.specs.Shapes.{AreOwn, AreRows, ArePrograms, as_local}
use Rattle.logic_carry.specs.Lists.{numbers_in}
use Rattle.logic_carry.proofs.Tables.{grows_none}
use Rattle.logic_carry.proofs.Listing.{lists_grown}
use Rattle.logic_carry.proofs.Stepping.{globals_as_own}
use Rattle.logic_carry.proofs.lists.list_source.Goals as goal

pub returns-clause-lists : goal.returns-clause-lists
returns-clause-lists c = on_ok_weaker c.list_programs.result (λ f. λ words source is.
    let a = c.args.listed.now in
    let b = c.list_own.new.listed in
    let d = c.list_rows.new.listed in
    let e = c.list_programs.new.listed in
    let locals = map as_local source.globals in
    let own = c.in_ok-list_own.ensures.lists words locals [] (subst (λ (xs : List Own). AreOwn words xs locals) (sym c.deref.ensures.value) is.globals) refl in
    let rows = c.in_ok-list_rows.ensures.lists words source.rows [] (subst (λ (xs : List OwnRow). AreRows words xs source.rows) (sym c.deref-2.ensures.value) is.rows) refl in
    let programs = f words source.blocks source.programs is.table (subst (λ (xs : List Program). ArePrograms words xs source.programs) (sym c.deref-3.ensures.value) is.programs) in
    let globals = lists_grown words (numbers_in a) (numbers_in b) (numbers_in b) (numbers_in d) a.values.items b.values.items d.values.items a.standards.items b.standards.items d.standards.items
    (local_kinds locals []) (row_kinds source.rows []) (global_kinds source) [] [] [] own (grows_none (numbers_in b)) rows (ap (λ ks. ks ++ row_kinds source.rows []) (sym (globals_as_own source.globals))) refl in
    lists_grown words (numbers_in a) (numbers_in d) (numbers_in d) (numbers_in e) a.values.items d.values.items e.values.items a.standards.items d.standards.items e.standards.items
    (global_kinds source) (program_kinds source.blocks source.programs) (all_kinds source) [] (program_clocks source.blocks source.programs) (all_clocks source) globals (grows_none (numbers_in d)) programs refl refl) c.list_programs.ensures.lists
