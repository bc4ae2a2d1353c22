-- Codes of declarations and sources, by which they may stand in the values of types with a model.
use Rattle.std.specs.Prelude.{ℕ, List, Option, refl}
use Rattle.std.specs.Coded.{Coded, code_by, coded×, coded_list, coded_option, coded_ℕ}
use Rattle.plant_types.specs.declared.values.Region.{Region}
use Rattle.plant_types.specs.contracts.values.Region as region
use Rattle.st_tree.specs.Plain.{PlainExpr, PlainBody}
use Rattle.st_tree.specs.Code.{expr_code, body_code}
use Rattle.st_parser.specs.declared.unit.PouKind.{PouKind}
use Rattle.st_parser.specs.contracts.unit.PouKind as pou_kind
use Rattle.st_parser.specs.declared.unit.SectionKind.{SectionKind}
use Rattle.st_parser.specs.contracts.unit.SectionKind as section
use Rattle.st_parser.specs.declared.unit.Sort.{Sort}
use Rattle.st_parser.specs.contracts.unit.Sort as sort
use Rattle.st_parser.specs.Units.{PlainDeclaration, PlainSection, PlainPou, PlainUnit}
use Rattle.st_names.specs.DeclaredNames.{PlainDeclared}

abbrev pub name_code : Coded (List ℕ)
name_code = coded_list coded_ℕ

-- a declared name is kept as its five parts
abbrev pub declared_code : Coded PlainDeclared
declared_code =
    code_by (SectionKind × (List ℕ × (Option Region × (Sort × Option (PlainExpr (List ℕ))))))
    (coded× section.the_row.coded (coded× name_code (coded× (coded_option region.the_row.coded) (coded× sort.the_row.coded (coded_option expr_code)))))
    (λ d. (d.section, (d.name, (d.region, (d.sort, d.initial)))))
    (λ p. record { section = p.0; name = p.1.0; region = p.1.1.0; sort = p.1.1.1.0; initial = p.1.1.1.1 })
    (λ _. refl)

abbrev pub declaration_code : Coded PlainDeclaration
declaration_code =
    code_by (List (List ℕ) × (Option Region × (Sort × Option (PlainExpr (List ℕ)))))
    (coded× (coded_list name_code) (coded× (coded_option region.the_row.coded) (coded× sort.the_row.coded (coded_option expr_code))))
    (λ d. (d.names, (d.region, (d.sort, d.initial))))
    (λ p. record { names = p.0; region = p.1.0; sort = p.1.1.0; initial = p.1.1.1 })
    (λ _. refl)

abbrev pub section_code : Coded PlainSection
section_code = code_by (SectionKind × List PlainDeclaration) (coded× section.the_row.coded (coded_list declaration_code)) (λ s. (s.kind, s.declarations)) (λ p. record { kind = p.0; declarations = p.1 }) (λ _. refl)

abbrev pub pou_code : Coded PlainPou
pou_code =
    code_by (PouKind × (List ℕ × (List PlainSection × PlainBody (List ℕ)))) (coded× pou_kind.the_row.coded (coded× name_code (coded× (coded_list section_code) body_code))) (λ p. (p.kind, (p.name, (p.sections, p.body))))
    (λ p. record { kind = p.0; name = p.1.0; sections = p.1.1.0; body = p.1.1.1 })
    (λ _. refl)

-- sources are kept as their sections of globals and their blocks and programs
abbrev pub units_code : Coded (List PlainUnit)
units_code =
    coded_list (code_by (List PlainSection × List PlainPou) (coded× (coded_list section_code) (coded_list pou_code)) (λ unit. (unit.globals, unit.pous)) (λ p. record { globals = p.0; pous = p.1 }) (λ _. refl))
