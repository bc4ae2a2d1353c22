use Rattle.std.proofs.Common.{◌∙◌, ap, sym, map}
use Rattle.st_parser.specs.Units.{view_section, view_pou, view_unit}
use Rattle.st_names.specs.DeclaredNames.{declared_in}
use Rattle.st_names.specs.Shared.{global, pou}
use Rattle.st_names.specs.Tables.{with_entries}
use Rattle.st_names.specs.Kept.{shared_entry}
use Rattle.st_names.proofs.Gathered.{unit_added}
use Rattle.st_names.proofs.gather.add_unit.Goals as goal

pub returns : goal.returns
returns c =
    let globals = c.deref-2.ensures.value ∙ c.in_ok-globals.ensures ∙ ap (λ s. declared_in (map view_section s)) c.deref.ensures.value in
    let added = c.in_ok-added.ensures ∙ ap (λ ds. with_entries c.args.table.now (map shared_entry (map global ds))) globals in
    let pous = ap (λ ps. with_entries c.add_globals-added.new.table (map shared_entry (map pou (map view_pou ps)))) c.deref-3.ensures.value in
    c.in_ok-add_pous.ensures ∙ pous ∙ ap (λ t. with_entries t (map shared_entry (map pou (map view_pou c.args.unit.now.pous.items)))) added ∙ sym (unit_added c.args.table.now (view_unit c.args.unit.now))
