use Rattle.std.proofs.Common.{◌≡◌, ◌∙◌, ap, subst, List}
use Rattle.base_words.specs.Names.{find_name}
use Rattle.logic_source.specs.declared.logic.Local.{Local}
use Rattle.logic_source.specs.declared.logic.Row.{Row}
use Rattle.logic_source.specs.declared.logic.Instance.{Instance}
use Rattle.vm_logic.specs.Headings.{PlainHeading}
use Rattle.logic_carry.specs.Shapes.{AreOwn, AreRows, AreParts}
use Rattle.logic_carry.proofs.Tables.{grows_on}
use Rattle.logic_carry.proofs.Naming.{own_later, rows_later}
use Rattle.vm_carry.proofs.shapes.shape_of.Goals as goal

pub returns-clause-shape : goal.returns-clause-shape
returns-clause-shape c = λ r is.
    let a = find_name c.own_of.new.names in
    let b = find_name c.rows_of.new.names in
    let d = find_name c.parts_of.new.names in
    let own = subst (λ (ls : List Local). AreOwn a c.in_ok-own.own.items ls) (c.deref.ensures.value ∙ ap (λ (h : PlainHeading). h.locals) is) c.in_ok-own.ensures.are in
    let rows = subst (λ (rs : List Row). AreRows b c.in_ok-rows.rows.items rs) (c.deref-2.ensures.value ∙ ap (λ (h : PlainHeading). h.rows) is) c.in_ok-rows.ensures.are in
    let parts = subst (λ (is : List Instance). AreParts d c.in_ok-parts.parts.items is) (c.deref-3.ensures.value ∙ ap (λ (h : PlainHeading). h.instances) is) c.in_ok-parts.ensures.are in
    record {
      own = own_later a d (grows_on a b d c.in_ok-rows.ensures.grows c.in_ok-parts.ensures.grows) c.in_ok-own.own.items r.locals own;
      rows = rows_later b d c.in_ok-parts.ensures.grows c.in_ok-rows.rows.items r.rows rows;
      parts = parts;
    }

pub returns-clause-grows : goal.returns-clause-grows
returns-clause-grows c =
    let a = find_name c.own_of.new.names in
    let b = find_name c.rows_of.new.names in
    let d = find_name c.parts_of.new.names in
    grows_on (find_name c.args.names.now) a d c.in_ok-own.ensures.grows (grows_on a b d c.in_ok-rows.ensures.grows c.in_ok-parts.ensures.grows)
