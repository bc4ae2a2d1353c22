-- Rows of bases, as they grow.
use Rattle.std.proofs.Common.{◌≡◌, ◌∙◌, ap, sym, subst, refl, ℕ, zero, suc, ◌+◌, List, [], ◌∷◌, ◌++◌, map, length, get_or, Some, inl, inr, arith}
use Rattle.std.specs.Prelude.{slice_get}
use Rattle.std.proofs.lemmas.Bool.{cases_lt}
use Rattle.std.proofs.lemmas.List.{length-append, length-map, length_push, get_or_append_left, get_or_push}
use Rattle.plant_types.specs.Words.{folded}
use Rattle.logic_source.specs.declared.logic.Variable.{Variable}
use Rattle.logic_source.specs.Source.{PlainRoutine, Source, global_cells}
use Rattle.logic_source.specs.Layout.{values_rule, routine_values, global_values, program_values, cell_paths, clocks_rule, routine_clocks}
use Rattle.logic_source.specs.Paths.{paths_rule, type_paths}
use Rattle.logic_source.specs.Seats.{program_values_before, program_clocks_before, program_values_base, program_clocks_base}
use Rattle.logic_source.proofs.Seats.{global_count, values_length, routine_length}
use Rattle.vm_logic.specs.Bases.{program_paths_before, program_paths_base, AreBases}

-- a row with one base
pub bases_none : (base : ℕ → ℕ) (row : List ℕ) (n : ℕ) → row ≡ n ∷ [] → n ≡ base 0 → AreBases base 0 row
bases_none base row n is first = record {
  long = ap length is;
  each = λ k less. let same : k ≡ 0 = omega (arith, less) in subst (λ j. get_or row j 0 ≡ base j) (sym same) (ap (λ l. get_or l 0 0) is ∙ first);
}

-- one more base
pub bases_more : (base : ℕ → ℕ) (i : ℕ) (row row' : List ℕ) (n : ℕ) → AreBases base i row → n ≡ base (i + 1) → row' ≡ row ++ n ∷ [] → AreBases base (i + 1) row'
bases_more base i row row' n are next made =
    let long = are.long in
    record {
      long = ap length made ∙ length_push row n ∙ ap (λ m. m + 1) long;
      each = λ k less. ap (λ l. get_or l k 0) made ∙ elim (cases_lt k (i + 1)) [
        | inl before ↦ get_or_append_left row (n ∷ []) 0 k (omega (arith, before, long)) ∙ are.each k (omega (arith, before))
        | inr last ↦ (
            let same : k ≡ i + 1 = omega (arith, less, last) in
            get_or_push row n 0 k (omega (arith, same, long)) ∙ next ∙ ap base (sym same))
      ];
    }

plus_one : (k : ℕ) → k + 1 ≡ suc k
plus_one k = omega arith

values_on : (blocks ps : List PlainRoutine) (k : ℕ) (p : PlainRoutine) → slice_get ps k ≡ Some p → program_values_before blocks ps (suc k) ≡ program_values_before blocks ps k + length (values_rule (routine_values blocks) p [])
values_on blocks [] k p at = absurd (cc)
values_on blocks (q ∷ []) zero p at = let same : q ≡ p = cc in let e = ap (λ (r : PlainRoutine). length (values_rule (routine_values blocks) r [])) same in omega (arith, e)
values_on blocks (q ∷ (r ∷ ps)) zero p at = let same : q ≡ p = cc in let e = ap (λ (x : PlainRoutine). length (values_rule (routine_values blocks) x [])) same in omega (arith, e)
values_on blocks (q ∷ ps) (suc k) p at = let e = values_on blocks ps k p at in omega (arith, e)

-- where the values of the program after one begin
pub values_next : (source : Source) (k : ℕ) (p : PlainRoutine) → slice_get source.programs k ≡ Some p → program_values_base source (k + 1) ≡ program_values_base source k + length (values_rule (routine_values source.blocks) p [])
values_next source k p at =
    let e = ap (program_values_before source.blocks source.programs) (plus_one k) ∙ values_on source.blocks source.programs k p at in
    omega (arith, e)

clocks_on : (blocks ps : List PlainRoutine) (k : ℕ) (p : PlainRoutine) → slice_get ps k ≡ Some p → program_clocks_before blocks ps (suc k) ≡ program_clocks_before blocks ps k + length (clocks_rule (routine_clocks blocks) p [])
clocks_on blocks [] k p at = absurd (cc)
clocks_on blocks (q ∷ []) zero p at = let same : q ≡ p = cc in let e = ap (λ (r : PlainRoutine). length (clocks_rule (routine_clocks blocks) r [])) same in omega (arith, e)
clocks_on blocks (q ∷ (r ∷ ps)) zero p at = let same : q ≡ p = cc in let e = ap (λ (x : PlainRoutine). length (clocks_rule (routine_clocks blocks) x [])) same in omega (arith, e)
clocks_on blocks (q ∷ ps) (suc k) p at = let e = clocks_on blocks ps k p at in omega (arith, e)

-- where its standard blocks begin
pub clocks_next : (source : Source) (k : ℕ) (p : PlainRoutine) → slice_get source.programs k ≡ Some p → program_clocks_base source (k + 1) ≡ program_clocks_base source k + length (clocks_rule (routine_clocks source.blocks) p [])
clocks_next source k p at = ap (program_clocks_before source.blocks source.programs) (plus_one k) ∙ clocks_on source.blocks source.programs k p at

paths_on : (blocks ps : List PlainRoutine) (k : ℕ) (p : PlainRoutine) → slice_get ps k ≡ Some p → program_paths_before blocks ps (suc k) ≡ program_paths_before blocks ps k + length (paths_rule (type_paths blocks) p)
paths_on blocks [] k p at = absurd (cc)
paths_on blocks (q ∷ []) zero p at = let same : q ≡ p = cc in let e = ap (λ (r : PlainRoutine). length (paths_rule (type_paths blocks) r)) same in omega (arith, e)
paths_on blocks (q ∷ (r ∷ ps)) zero p at = let same : q ≡ p = cc in let e = ap (λ (x : PlainRoutine). length (paths_rule (type_paths blocks) x)) same in omega (arith, e)
paths_on blocks (q ∷ ps) (suc k) p at = let e = paths_on blocks ps k p at in omega (arith, e)

-- where its path numbers begin
pub paths_next : (source : Source) (k : ℕ) (p : PlainRoutine) → slice_get source.programs k ≡ Some p → program_paths_base source (k + 1) ≡ program_paths_base source k + length (paths_rule (type_paths source.blocks) p)
paths_next source k p at = ap (program_paths_before source.blocks source.programs) (plus_one k) ∙ paths_on source.blocks source.programs k p at

values_first : (blocks ps : List PlainRoutine) → program_values_before blocks ps 0 ≡ 0
values_first blocks [] = refl
values_first blocks (p ∷ ps) = refl

-- the first program's values begin behind the globals
pub values_begin : (source : Source) → program_values_base source 0 ≡ global_cells source
values_begin source = let e = values_first source.blocks source.programs in omega (arith, e)

clocks_first : (blocks ps : List PlainRoutine) → program_clocks_before blocks ps 0 ≡ 0
clocks_first blocks [] = refl
clocks_first blocks (p ∷ ps) = refl

pub clocks_begin : (source : Source) → program_clocks_base source 0 ≡ 0
clocks_begin source = clocks_first source.blocks source.programs

paths_first : (blocks ps : List PlainRoutine) → program_paths_before blocks ps 0 ≡ 0
paths_first blocks [] = refl
paths_first blocks (p ∷ ps) = refl

pub paths_begin : (source : Source) → program_paths_base source 0 ≡ 0
paths_begin source = paths_first source.blocks source.programs

values_whole : (blocks ps : List PlainRoutine) → program_values_before blocks ps (length ps) ≡ length (program_values blocks ps)
values_whole blocks [] = refl
values_whole blocks (p ∷ ps) =
    let first = values_rule (routine_values blocks) p (folded p.name ∷ []) in
    let same = values_length (routine_values blocks) (routine_length blocks) p [] (folded p.name ∷ []) in
    let rest = values_whole blocks ps in
    let sum = length-append first (program_values blocks ps) in
    omega (arith, same, rest, sum)

-- behind the last program's values there are no more
pub values_end : (source : Source) → program_values_base source (length source.programs) ≡ length (cell_paths source)
values_end source =
    let rest = values_whole source.blocks source.programs in
    let many = global_count source in
    let sum = length-append (global_values source) (program_values source.blocks source.programs) in
    omega (arith, rest, many, sum)
