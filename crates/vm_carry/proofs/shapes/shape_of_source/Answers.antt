use Rattle.std.proofs.Common.{◌≡◌, ◌∙◌, ap, subst, List, map}
use Rattle.base_words.specs.Names.{find_name}
use Rattle.logic_source.specs.declared.logic.Local.{Local}
use Rattle.logic_source.specs.declared.logic.Row.{Row}
use Rattle.logic_carry.specs.Shapes.{AreOwn, AreRows, as_local}
use Rattle.logic_carry.proofs.Tables.{grows_on}
use Rattle.logic_carry.proofs.Naming.{own_later, rows_later}
use Rattle.logic_carry.proofs.Shaping.{programs_later}
use Rattle.vm_carry.proofs.shapes.shape_of_source.Goals as goal

pub returns-clause-shape : goal.returns-clause-shape
returns-clause-shape c =
    let source = c.args.framed.now in
    let a = find_name c.globals_of.new.names in
    let b = find_name c.rows_of.new.names in
    let d = find_name c.programs_of.new.names in
    let e = find_name c.table_of.new.names in
    let later = grows_on b d e c.in_ok-programs.ensures.grows c.in_ok-table.ensures.grows in
    let globals = subst (λ (ls : List Local). AreOwn a c.in_ok-globals.globals.items ls) (ap (map as_local) c.globals.ensures.globals) c.in_ok-globals.ensures.are in
    let rows = subst (λ (rs : List Row). AreRows b c.in_ok-rows.rows.items rs) c.rows.ensures c.in_ok-rows.ensures.are in
    record {
      globals = own_later a e (grows_on a b e c.in_ok-rows.ensures.grows later) c.in_ok-globals.globals.items (map as_local source.globals) globals;
      rows = rows_later b e later c.in_ok-rows.rows.items source.rows rows;
      programs = programs_later d e c.in_ok-table.ensures.grows c.in_ok-programs.programs.items source.programs (c.in_ok-programs.ensures.programs source.programs c.programs.ensures.programs);
      table = c.in_ok-table.ensures.table source.blocks c.blocks-2.ensures;
    }

pub returns-clause-grows : goal.returns-clause-grows
returns-clause-grows c =
    let a = find_name c.globals_of.new.names in
    let b = find_name c.rows_of.new.names in
    let d = find_name c.programs_of.new.names in
    let e = find_name c.table_of.new.names in
    grows_on (find_name c.args.names.now) a e c.in_ok-globals.ensures.grows (grows_on a b e c.in_ok-rows.ensures.grows (grows_on b d e c.in_ok-programs.ensures.grows c.in_ok-table.ensures.grows))
