use Rattle.std.proofs.Common.{rules, ◌≡◌, ap, map}
use Rattle.logic_source.specs.Source.{source_of}
use Rattle.vm_logic.specs.Headings.{view_heading}
use Rattle.vm_logic.proofs.Copied.{framed_same, kept_same, declared_same}
use Rattle.vm_logic.proofs.framed.Framed.copy.Goals as goal

pub invariant_of-result : goal.invariant_of-result
invariant_of-result c =
    let own = c.self.inside in
    let same_source : source_of c.again.result ≡ source_of own.logic = ap source_of c.again.ensures in
    let same_order : c.again-2.result.items ≡ own.order.items = search rules in
    let same_values : c.again-3.result.items ≡ own.values.items = search rules in
    let same_clocks : c.again-4.result.items ≡ own.clocks.items = search rules in
    let same_frames : c.in_ok-copy.field-0 ≡ own.frames = search rules in
    let same_names : c.in_ok-copy-2.field-0 ≡ own.names = search rules in
    let same_cells : c.in_ok-copy-3.field-0 ≡ own.cells = search rules in
    let same_globals : c.in_ok-copy_variables.field-0.items ≡ own.globals.items = search rules in
    let same_rows : c.in_ok-copy_rows.field-0.items ≡ own.rows.items = search rules in
    let same_programs : map view_heading c.in_ok-copy_headings.field-0.items ≡ map view_heading own.programs.items = search rules in
    let same_blocks : map view_heading c.in_ok-copy_headings-2.field-0.items ≡ map view_heading own.blocks.items = search rules in
    let same_paths : c.in_ok-from_slice.field-0.items ≡ own.paths.items = search rules in
    let same_codes : c.in_ok-copy_codes.field-0.items ≡ own.codes.items = search rules in (
      framed_same _ _ _ _ _ _ _ _ _ _ _ _ _ _ _ _ same_source same_order same_frames same_names same_values same_clocks same_paths same_codes c.self.invariant.0,
      kept_same _ _ _ _ _ _ _ _ _ _ _ _ same_source same_order same_globals same_programs same_cells c.self.invariant.1,
      declared_same _ _ _ _ _ _ same_source same_rows same_blocks c.self.invariant.2,
    )
