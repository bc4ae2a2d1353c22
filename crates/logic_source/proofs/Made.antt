-- The source that is made of its parts.
use Rattle.std.proofs.Common.{◌≡◌, ◌∙◌, ap, ℕ, List, map}
use Rattle.std.specs.Prelude.{flat_map}
use Rattle.st_tree.specs.Plain.{PlainBody}
use Rattle.st_typing.specs.Units.{PlainPou, PlainUnit}
use Rattle.st_typing.specs.DeclaredNames.{PlainDeclared}
use Rattle.logic_source.specs.declared.logic.Variable.{Variable}
use Rattle.logic_source.specs.declared.logic.Row.{Row}
use Rattle.logic_source.specs.Source.{PlainRoutine}
use Rattle.logic_source.specs.Pous.{pous_of, block_pous, program_pous}
use Rattle.logic_source.specs.Units.{global_of, global_row_of, starts_in, routine_of, declared_globals, source_in}

pub made : (units : List PlainUnit) (ds : List PlainDeclared) (names : List (List ℕ)) (bs ps : List PlainPou) (globals : List Variable) (rows : List Row) (starts : PlainBody (List ℕ)) (programs blocks : List PlainRoutine)
    → ds ≡ declared_globals units → bs ≡ block_pous (pous_of units) → ps ≡ program_pous (pous_of units) → names ≡ map (λ (p : PlainPou). p.name) bs
    → globals ≡ flat_map global_of ds → rows ≡ flat_map global_row_of ds → starts ≡ starts_in ds → programs ≡ map (routine_of names) ps → blocks ≡ map (routine_of names) bs
    → record { globals = globals; rows = rows; starts = starts; programs = programs; blocks = blocks } ≡ source_in units
made units ds names bs ps globals rows starts programs blocks ds_are bs_are ps_are names_are globals_are rows_are starts_are programs_are blocks_are =
    let named = names_are ∙ ap (map (λ (p : PlainPou). p.name)) bs_are in
    let g = globals_are ∙ ap (flat_map global_of) ds_are in
    let r = rows_are ∙ ap (flat_map global_row_of) ds_are in
    let s = starts_are ∙ ap starts_in ds_are in
    let p = programs_are ∙ (λ k. map (routine_of (named k)) (ps_are k)) in
    let b = blocks_are ∙ (λ k. map (routine_of (named k)) (bs_are k)) in
    λ k. record { globals = g k; rows = r k; starts = s k; programs = p k; blocks = b k }
