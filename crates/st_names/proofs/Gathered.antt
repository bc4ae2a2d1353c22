-- What is gathered, one after another.
use Rattle.std.proofs.Common.{◌≡◌, ◌∙◌, ap, sym, refl, ℕ, ◌+◌, ◌<◌, List, [], ◌∷◌, ◌++◌, map, drop, length, get_or}
use Rattle.std.proofs.lemmas.List.{map-append, drop_more}
use Rattle.std.specs.Prelude.{filter}
use Rattle.st_parser.specs.declared.unit.SectionKind.{SectionKind}
use Rattle.st_parser.specs.declared.unit.SectionKind.TheVariants as section
use Rattle.st_parser.specs.Units.{PlainUnit, view_unit}
use Rattle.st_parser.specs.declared.unit.Unit.{Unit}
use Rattle.st_names.specs.DeclaredNames.{PlainDeclared, declared_in}
use Rattle.st_names.specs.Shared.{global, pou, shared_by, shared_in}
use Rattle.st_names.specs.BlockTypes.{member_of, is_input_section, is_output_section}
use Rattle.st_names.specs.Tables.{with_entry, with_entries}
use Rattle.st_names.specs.Kept.{member_entry, shared_entry, with_member, with_members}
use Rattle.st_names.specs.declared.named.Members.{Members}
use Rattle.st_names.specs.declared.named.Named.{Named}

with_entries_on : {T : Type 0} (es xs ys : List (List ℕ × T)) → with_entries es (xs ++ ys) ≡ with_entries (with_entries es xs) ys
with_entries_on es [] ys = refl
with_entries_on es (x ∷ xs) ys = with_entries_on (with_entry es x) xs ys

-- the entries of a source, added in two steps
pub unit_added : (table : List (List ℕ × Named)) (unit : PlainUnit)
    → with_entries table (map shared_entry (shared_by unit)) ≡ with_entries (with_entries table (map shared_entry (map global (declared_in unit.globals)))) (map shared_entry (map pou unit.pous))
unit_added table unit =
    let globals = map global (declared_in unit.globals) in
    let pous = map pou unit.pous in
    ap (with_entries table) (map-append shared_entry globals pous) ∙ with_entries_on table (map shared_entry globals) (map shared_entry pous)

abbrev folded : Members → List PlainDeclared → Members
folded m ds =
    record {
      inputs = with_entries m.inputs (map member_entry (map member_of (filter (λ d. is_input_section d.section) ds)));
      outputs = with_entries m.outputs (map member_entry (map member_of (filter (λ d. is_output_section d.section) ds)));
    }

folded_next : (s : SectionKind) (m : Members) (d : PlainDeclared) (ds : List PlainDeclared) → d.section ≡ s → folded (with_member m d) ds ≡ folded m (d ∷ ds)
folded_next section.Global m d ds e = rw e refl
folded_next section.Local m d ds e = rw e refl
folded_next section.Input m d ds e = rw e refl
folded_next section.Output m d ds e = rw e refl
folded_next section.External m d ds e = rw e refl

-- inputs and outputs that are added one after another are those of each section
pub members_folded : (m : Members) (ds : List PlainDeclared) → with_members m ds ≡ folded m ds
members_folded m [] = refl
members_folded m (d ∷ ds) = members_folded (with_member m d) ds ∙ folded_next d.section m d ds refl

-- the next source's entries
pub unit_on : (units : List Unit) (i : ℕ) (u : Unit) (table next whole : List (List ℕ × Named)) → i < length units → u ≡ get_or units i u
    → with_entries table (map shared_entry (shared_in (map view_unit (drop i units)))) ≡ whole
    → next ≡ with_entries table (map shared_entry (shared_by (view_unit u)))
    → with_entries next (map shared_entry (shared_in (map view_unit (drop (i + 1) units)))) ≡ whole
unit_on units i u table next whole within is were next_is =
    let rest = map view_unit (drop (i + 1) units) in
    let own = shared_by (view_unit u) in
    let split : drop i units ≡ u ∷ drop (i + 1) units = drop_more units i u within ∙ ap (λ (x : Unit). x ∷ drop (i + 1) units) (sym is) in
    let both : with_entries table (map shared_entry (own ++ shared_in rest)) ≡ with_entries (with_entries table (map shared_entry own)) (map shared_entry (shared_in rest))
    = ap (with_entries table) (map-append shared_entry own (shared_in rest)) ∙ with_entries_on table (map shared_entry own) (map shared_entry (shared_in rest)) in
    ap (λ t. with_entries t (map shared_entry (shared_in rest))) next_is ∙ sym both ∙ ap (λ us. with_entries table (map shared_entry (shared_in (map view_unit us)))) (sym split) ∙ were
