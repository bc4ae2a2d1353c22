-- Cells that stand for a world: inputs that are set, and values by number.
use Rattle.std.proofs.Common.{◌≡◌, ℕ, ◌+◌, ◌<◌, ℤ, pos, if◌then◌else◌, List, [], ◌∷◌, All, length, map, refl, sym, ap, ◌∙◌, subst, arith, Option, Some, None, IfSome, inl, inr, fold}
use Rattle.std.specs.Ordering.{int_eq}
use Rattle.std.specs.Option.{option_map_or}
use Rattle.std.proofs.lemmas.Option.{slice_get_cases}
use Rattle.std.proofs.lemmas.List.Elements.{All-head, All-tail}
use Rattle.plant_types.specs.declared.values.Value.{Value}
use Rattle.plant_types.specs.Values.{is_true, worth, value_of_kind}
use Rattle.alarm_machine.specs.Alarms.{PlainAlarm}
use Rattle.logic_source.specs.declared.logic.Variable.{Variable}
use Rattle.logic_source.specs.Source.{Source}
use Rattle.logic_source.specs.Worlds.{World, assign, path_of}
use Rattle.logic_cells.specs.Cells.{PlainCells, value_at}
use Rattle.level_scans.specs.Stands.{StandFor}
use Rattle.level_scans.specs.Sound.{IsSound}
use Rattle.level_scans.proofs.Standing.{cell_holds, cell_written}
use Rattle.engine_history.specs.AlarmRow.{AlarmRow}
use Rattle.engine_history.specs.Plants.{PlainPlant, IsAlarmRow, IsBoolGlobal}
use Rattle.engine_system.specs.Programs.{global_in, with_input, with_inputs}
use Rattle.alarm_bank.specs.Banks.{scan_each}
use Rattle.std_blocks.specs.Calls.{Call}
use Rattle.alarm_delays.specs.Delays.{counts, scans_each}
use Rattle.alarm_watch.specs.Watched.{suppression}
use Rattle.engine_system.specs.System.{conditions, delays_of, suppressions, scans_after, alarms_after, is_output, outputs_from, outs_from}
use Rattle.engine_system.specs.Steps.{with_cell}
use Rattle.engine_system.proofs.Images.{has_number}

-- an input that is set in cells and in the world
input_stands : (source : Source) (cells : PlainCells) (w : World) (input : ℕ × Value) → IsSound source → input.0 < length source.globals → StandFor source cells w → StandFor source (with_cell cells input) (with_input source.globals w input)
input_stands source cells w input sound within stands =
    let set_to : Option Variable → World = λ o. option_map_or (λ global. assign w (path_of global.name) (worth input.1)) o w in
    elim (slice_get_cases source.globals input.0).1 [
      | inl there ↦ subst (λ o. StandFor source (with_cell cells input) (set_to o)) (sym there.2) (cell_written source cells w input.0 there.0 (worth input.1) sound there.2 stands)
      | inr past ↦ absurd (omega (arith, within, past.0))
    ]

-- an image that is set in cells and in the world
pub inputs_stand : (source : Source) (image : List (ℕ × Value)) (cells : PlainCells) (w : World) → IsSound source → All (has_number (length source.globals)) image → StandFor source cells w → StandFor source (fold with_cell cells image) (with_inputs source.globals image w)
inputs_stand source [] cells w sound within stands = stands
inputs_stand source (input ∷ image) cells w sound within stands =
    let P = has_number (length source.globals) in
    inputs_stand source image (with_cell cells input) (with_input source.globals w input) sound (All-tail P input image within) (input_stands source cells w input sound (All-head P input image within) stands)

-- two ways to look at numbers give the same for the globals
abbrev pub SameGlobals : Source → (ℕ → ℤ) → (ℕ → ℤ) → Type 0
SameGlobals source f g = (n : ℕ) → n < length source.globals → f n ≡ g n

-- the cells of the globals have the globals' values
pub values_stand : (source : Source) (cells : PlainCells) (w : World) → StandFor source cells w → SameGlobals source (value_at cells) (global_in source.globals w)
values_stand source cells w stands n within =
    let value : Option Variable → ℤ = λ o. option_map_or (λ global. w.values (path_of global.name)) o (pos 0) in
    elim (slice_get_cases source.globals n).1 [
      | inl there ↦ cell_holds source cells w n there.0 there.2 stands ∙ sym (ap value there.2)
      | inr past ↦ absurd (omega (arith, within, past.0))
    ]

suppression_same : (source : Source) (f g : ℕ → ℤ) (suppress : Option ℕ) → SameGlobals source f g → IfSome suppress (IsBoolGlobal source.globals) → suppression f suppress ≡ suppression g suppress
suppression_same source f g None same is = refl
suppression_same source f g (Some n) same is = ap is_true (same n is.within)

pub conditions_same : (plant : PlainPlant) (f g : ℕ → ℤ) (rows : List AlarmRow) → SameGlobals plant.source f g → All (IsAlarmRow plant) rows → conditions f rows ≡ conditions g rows
conditions_same plant f g [] same all = refl
conditions_same plant f g (row ∷ rows) same all =
    let is = All-head (IsAlarmRow plant) row rows all in
    ap (λ n. is_true n ∷ conditions f rows) (same row.condition is.condition.within)
    ∙ ap (λ l. is_true (g row.condition) ∷ l) (conditions_same plant f g rows same (All-tail (IsAlarmRow plant) row rows all))

suppressions_same : (plant : PlainPlant) (f g : ℕ → ℤ) (rows : List AlarmRow) → SameGlobals plant.source f g → All (IsAlarmRow plant) rows → suppressions f rows ≡ suppressions g rows
suppressions_same plant f g [] same all = refl
suppressions_same plant f g (row ∷ rows) same all =
    let is = All-head (IsAlarmRow plant) row rows all in
    ap (λ s. s ∷ suppressions f rows) (suppression_same plant.source f g row.suppress same is.suppress)
    ∙ ap (λ l. suppression g row.suppress ∷ l) (suppressions_same plant f g rows same (All-tail (IsAlarmRow plant) row rows all))

-- scans as alarms see them, and alarms, look only at globals
pub scans_same : (plant : PlainPlant) (f g : ℕ → ℤ) (t : ℕ) (rows : List AlarmRow) (scans : List (List Call)) → SameGlobals plant.source f g → All (IsAlarmRow plant) rows → scans_after f t rows scans ≡ scans_after g t rows scans
scans_same plant f g t rows scans same all = ap (λ cs. scans_each cs t (delays_of rows) scans) (conditions_same plant f g rows same all)

pub alarms_same : (plant : PlainPlant) (f g : ℕ → ℤ) (t : ℕ) (rows : List AlarmRow) (scans : List (List Call)) (alarms : List PlainAlarm) → SameGlobals plant.source f g → All (IsAlarmRow plant) rows
    → alarms_after f t rows (scans_after f t rows scans) alarms ≡ alarms_after g t rows (scans_after g t rows scans) alarms
alarms_same plant f g t rows scans alarms same all =
    ap (λ s. alarms_after f t rows s alarms) (scans_same plant f g t rows scans same all)
    ∙ ap (λ ss. scan_each (map counts (scans_after g t rows scans)) ss t alarms) (suppressions_same plant f g rows same all)

-- so do outputs
outputs_same : (f g : ℕ → ℤ) (n : ℕ) (globals : List Variable) → ((k : ℕ) → k < n + length globals → f k ≡ g k) → outputs_from n globals f ≡ outputs_from n globals g
outputs_same f g n [] same = refl
outputs_same f g n (global ∷ globals) same =
    let put : ℤ → List (ℕ × Value) → List (ℕ × Value) = λ v rest. if is_output global.region then (n, value_of_kind global.kind v) ∷ rest else rest in
    ap (λ v. put v (outputs_from (n + 1) globals f)) (same n (omega arith))
    ∙ ap (put (g n)) (outputs_same f g (n + 1) globals (λ k below. same k (omega (arith, below))))

pub outputs_stand : (source : Source) (f g : ℕ → ℤ) → SameGlobals source f g → outputs_from 0 source.globals f ≡ outputs_from 0 source.globals g
outputs_stand source f g same = outputs_same f g 0 source.globals (λ k below. same k (omega (arith, below)))

outs_same : (a b f g : ℕ → ℤ) (n : ℕ) (globals : List Variable) → ((k : ℕ) → k < n + length globals → a k ≡ b k) → ((k : ℕ) → k < n + length globals → f k ≡ g k) → outs_from n globals a f ≡ outs_from n globals b g
outs_same a b f g n [] before now = refl
outs_same a b f g n (global ∷ globals) before now =
    let put : ℤ → ℤ → List (ℕ × Value) → List (ℕ × Value) =
    λ x y rest. elim (if is_output global.region then (if int_eq x y then None else Some (value_of_kind global.kind y)) else None) [ None ↦ rest | Some v ↦ (n, v) ∷ rest ] in
    ap (λ x. put x (f n) (outs_from (n + 1) globals a f)) (before n (omega arith))
    ∙ ap (λ y. put (b n) y (outs_from (n + 1) globals a f)) (now n (omega arith))
    ∙ ap (put (b n) (g n)) (outs_same a b f g (n + 1) globals (λ k below. before k (omega (arith, below))) (λ k below. now k (omega (arith, below))))

-- and their changes
pub outs_stand : (source : Source) (a b f g : ℕ → ℤ) → SameGlobals source a b → SameGlobals source f g → outs_from 0 source.globals a f ≡ outs_from 0 source.globals b g
outs_stand source a b f g before now = outs_same a b f g 0 source.globals (λ k below. before k (omega (arith, below))) (λ k below. now k (omega (arith, below)))
