-- The outputs that are shown, and what they are worth.
use Rattle.std.proofs.Common.{◌≡◌, ℕ, suc, ◌+◌, ℤ, pos, Bool, true, false, List, [], ◌∷◌, All, refl, ap, sym, ◌∙◌, subst, Option, Some, arith}
use Rattle.std.specs.Prelude.{slice_get, not, if◌then◌else◌}
use Rattle.std.specs.Ordering.{int_eq}
use Rattle.std.specs.Option.{option_map_or}
use Rattle.std.proofs.lemmas.Int.{ints}
use Rattle.std.proofs.lemmas.List.Elements.{All-nil, All-cons}
use Rattle.plant_types.specs.declared.values.Kind.{Kind}
use Rattle.plant_types.specs.declared.values.Kind.TheVariants as kind
use Rattle.plant_types.specs.declared.values.Value.{Value}
use Rattle.plant_types.specs.Values.{truth, worth, value_of_kind, is_in_range}
use Rattle.logic_source.specs.declared.logic.Variable.{Variable}
use Rattle.logic_source.specs.Worlds.{World, path_of}
use Rattle.engine_system.proofs.Ranges.{global_in_range}
use Rattle.engine_system.specs.Names.{globals_of}
use Rattle.engine_system.specs.Programs.{global_in}
use Rattle.engine_system.specs.System.{System, is_output, outputs_from, outputs_of}
use Rattle.engine_system.proofs.Shown.{kind_of_value}
use Rattle.engine.specs.Lawful.{HasValuesInRange, IsOutputValue}

-- a number in the range of a kind
abbrev In : Kind → ℤ → Type 0
In k n = is_in_range k n ≡ true

-- the number of a global that is there
global_value : (globals : List Variable) (w : World) (i : ℕ) (g : Variable) → slice_get globals i ≡ Some g → global_in globals w i ≡ w.values (path_of g.name)
global_value globals w i g at = let value : Option Variable → ℤ = λ o. option_map_or (λ global. w.values (path_of global.name)) o (pos 0) in ap value at

bit_worth : (zero : Bool) (n : ℤ) → int_eq n (pos 0) ≡ zero → In kind.Bool n → truth (not zero) ≡ n
bit_worth true n is fits = grind (arith, ints)
bit_worth false n is fits = grind (arith, ints)

-- a number in range is the worth of the value that is shown
worth_of_value : (k : Kind) (n : ℤ) → In k n → worth (value_of_kind k n) ≡ n
worth_of_value kind.Bool n fits = bit_worth (int_eq n (pos 0)) n refl fits
worth_of_value kind.Dint n fits = refl
worth_of_value kind.Time n fits = refl

-- each output that is shown is the value of an output global
module _ (sys : System) (holds : HasValuesInRange sys) where
  abbrev globals_here : List Variable
  globals_here = globals_of sys.plant

  abbrev now : ℕ → ℤ
  now = global_in globals_here sys.world

  one_valued : (b : Bool) (n : ℕ) (g : Variable) (rest : List (ℕ × Value)) → is_output g.region ≡ b → slice_get globals_here n ≡ Some g → All (IsOutputValue sys) rest
      → All (IsOutputValue sys) (if b then (n, value_of_kind g.kind (now n)) ∷ rest else rest)
  one_valued true n g rest is at all =
      let value = global_value globals_here sys.world n g at in
      let fits = global_in_range sys.plant.source sys.world n g holds at in
      All-cons (IsOutputValue sys) (n, value_of_kind g.kind (now n)) rest (record {
        global = g;
        global_is = at;
        is_output = is;
        kind_is = kind_of_value g.kind (now n);
        worth_is = worth_of_value g.kind (now n) (subst (In g.kind) (sym value) fits) ∙ value;
      }) all
  one_valued false n g rest is at all = all

  valued_from : (n : ℕ) (globals : List Variable) → ((i : ℕ) (g : Variable) → slice_get globals i ≡ Some g → slice_get globals_here (n + i) ≡ Some g) → All (IsOutputValue sys) (outputs_from n globals now)
  valued_from n [] there = All-nil (IsOutputValue sys)
  valued_from n (g ∷ globals) there =
      one_valued (is_output g.region) n g (outputs_from (n + 1) globals now) refl
      (let e : n + 0 ≡ n = omega arith in subst (λ m. slice_get globals_here m ≡ Some g) e (there 0 g refl))
      (valued_from (n + 1) globals (λ i h at. let e : n + suc i ≡ n + 1 + i = omega arith in subst (λ m. slice_get globals_here m ≡ Some h) e (there (suc i) h at)))

  pub outputs_valued : All (IsOutputValue sys) (outputs_of sys)
  outputs_valued = valued_from 0 globals_here (λ i g at. let e : i ≡ 0 + i = omega arith in subst (λ m. slice_get globals_here m ≡ Some g) e at)
