use Rattle.std.proofs.Common.{rules, ◌≡◌, ◌∙◌, ap, refl, map}
use Rattle.std.specs.Prelude.{flat_map}
use Rattle.st_typing.specs.Units.{PlainPou, view_pou, view_unit}
use Rattle.logic_source.specs.Pous.{pous_of, block_pous, program_pous}
use Rattle.logic_source.specs.Units.{global_of, global_row_of, starts_in, declared_globals}
use Rattle.logic_source.proofs.Made.{made}
use Rattle.logic_source.proofs.units.logic_in.Goals as goal

pub returns : goal.returns
returns c =
    let units = map view_unit c.args.units.items in
    let blocks : map view_pou c.in_ok-blocks.field-0.blocks.items ≡ block_pous (pous_of units) = search rules in
    let programs : map view_pou c.in_ok-blocks.field-0.programs.items ≡ program_pous (pous_of units) = search rules in
    made units (declared_globals units) c.in_ok-names.names (map view_pou c.in_ok-blocks.field-0.blocks.items) (map view_pou c.in_ok-blocks.field-0.programs.items) _ _ _ _ _
    refl blocks programs
    (c.in_ok-names.ensures ∙ ap (λ l. map (λ (p : PlainPou). p.name) (map view_pou l)) c.as_slice-2.ensures.value)
    (c.in_ok-globals.ensures.globals ∙ ap (λ l. flat_map global_of (declared_globals (map view_unit l))) c.as_slice.ensures.value)
    (c.in_ok-globals.ensures.rows ∙ ap (λ l. flat_map global_row_of (declared_globals (map view_unit l))) c.as_slice.ensures.value)
    (c.in_ok-globals.ensures.starts ∙ ap (λ l. starts_in (declared_globals (map view_unit l))) c.as_slice.ensures.value)
    c.in_ok-routines_of.ensures
    c.in_ok-routines_of-2.ensures
