-- The numbers of globals in range, and the outputs that they are shown as.
use Rattle.std.proofs.Common.{◌≡◌, ℕ, suc, ◌+◌, ℤ, Bool, true, false, List, [], ◌∷◌, All, refl, sym, subst, Some, arith}
use Rattle.std.specs.Prelude.{slice_get, if◌then◌else◌}
use Rattle.std.proofs.lemmas.List.Elements.{All-nil, All-cons}
use Rattle.plant_types.specs.declared.values.Kind.{Kind}
use Rattle.plant_types.specs.declared.values.Kind.TheVariants as kind
use Rattle.plant_types.specs.declared.values.Value.{Value}
use Rattle.plant_types.specs.Values.{kind_of, value_of_kind, is_in_range}
use Rattle.logic_source.specs.declared.logic.Variable.{Variable}
use Rattle.logic_source.specs.Source.{Source}
use Rattle.logic_cells.specs.Cells.{PlainCells, value_at}
use Rattle.level_scans.proofs.Standing.{cell_holds}
use Rattle.level_scans.proofs.Ranges.{global_in_range}
use Rattle.engine_system.specs.System.{is_output, outputs_from}
use Rattle.engine_system.specs.Steps.{IsShowable, AreShowable, StandInRange}

-- a number in the range of a kind
abbrev In : Kind → ℤ → Type 0
In k n = is_in_range k n ≡ true

-- the cells of globals hold numbers that can be shown
pub cells_showable : (source : Source) (cells : PlainCells) → StandInRange source cells → AreShowable source.globals (value_at cells)
cells_showable source cells held n g at =
    subst (In g.kind) (sym (cell_holds source cells held.world n g at held.stands)) (global_in_range source held.world n g held.in_range at)

pub kind_of_value : (k : Kind) (n : ℤ) → kind_of (value_of_kind k n) ≡ k
kind_of_value kind.Bool n = refl
kind_of_value kind.Dint n = refl
kind_of_value kind.Time n = refl

-- the outputs of globals whose numbers can be shown, can be shown
one_showable : (b : Bool) (n : ℕ) (k : Kind) (before now : ℕ → ℤ) (rest : List (ℕ × Value)) → In k (now n) → All (IsShowable now) rest → All (IsShowable now) (if b then (n, value_of_kind k (before n)) ∷ rest else rest)
one_showable true n k before now rest fits all = All-cons (IsShowable now) (n, value_of_kind k (before n)) rest (subst (λ j. In j (now n)) (sym (kind_of_value k (before n))) fits) all
one_showable false n k before now rest fits all = all

outputs_in : (n : ℕ) (globals : List Variable) (before now : ℕ → ℤ) → ((i : ℕ) (g : Variable) → slice_get globals i ≡ Some g → In g.kind (now (n + i))) → All (IsShowable now) (outputs_from n globals before)
outputs_in n [] before now fits = All-nil (IsShowable now)
outputs_in n (g ∷ globals) before now fits =
    one_showable (is_output g.region) n g.kind before now (outputs_from (n + 1) globals before)
    (let e : n + 0 ≡ n = omega arith in subst (λ m. In g.kind (now m)) e (fits 0 g refl))
    (outputs_in (n + 1) globals before now (λ i h at. let e : n + suc i ≡ n + 1 + i = omega arith in subst (λ m. In h.kind (now m)) e (fits (suc i) h at)))

pub outputs_showable : (globals : List Variable) (before now : ℕ → ℤ) (outputs : List (ℕ × Value)) → AreShowable globals now → outputs ≡ outputs_from 0 globals before → All (IsShowable now) outputs
outputs_showable globals before now outputs fits are =
    subst (All (IsShowable now)) (sym are) (outputs_in 0 globals before now (λ i g at. let e : i ≡ 0 + i = omega arith in subst (λ m. In g.kind (now m)) e (fits i g at)))
