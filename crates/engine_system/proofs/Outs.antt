-- The outputs after a scan and those that it changed, from the outputs before it.
use Rattle.std.proofs.Common.{◌≡◌, ℕ, ◌+◌, ℤ, Bool, true, false, if◌then◌else◌, List, [], ◌∷◌, map, refl, ap, ◌∙◌, Some, None}
use Rattle.std.specs.Prelude.{not}
use Rattle.std.specs.List.{filter}
use Rattle.std.specs.Ordering.{int_eq}
use Rattle.plant_types.specs.declared.values.Kind.{Kind}
use Rattle.plant_types.specs.declared.values.Value.{Value}
use Rattle.plant_types.specs.Values.{value_of_kind}
use Rattle.logic_source.specs.declared.logic.Variable.{Variable}
use Rattle.engine_system.specs.System.{is_output, outputs_from, outs_from}
use Rattle.engine_system.specs.Steps.{output_in, differs}
use Rattle.engine_system.proofs.Shown.{kind_of_value}

-- the outputs of globals have the globals' kinds, so they tell which values to show
one_renewed : (b : Bool) (n : ℕ) (k : Kind) (before now : ℕ → ℤ) (old new : List (ℕ × Value)) → map (output_in now) old ≡ new
    → map (output_in now) (if b then (n, value_of_kind k (before n)) ∷ old else old) ≡ (if b then (n, value_of_kind k (now n)) ∷ new else new)
one_renewed true n k before now old new rest = ap (λ j. (n, value_of_kind j (now n)) ∷ map (output_in now) old) (kind_of_value k (before n)) ∙ ap (λ l. (n, value_of_kind k (now n)) ∷ l) rest
one_renewed false n k before now old new rest = rest

all_renewed : (n : ℕ) (globals : List Variable) (before now : ℕ → ℤ) → map (output_in now) (outputs_from n globals before) ≡ outputs_from n globals now
all_renewed n [] before now = refl
all_renewed n (global ∷ globals) before now =
    one_renewed (is_output global.region) n global.kind before now (outputs_from (n + 1) globals before) (outputs_from (n + 1) globals now) (all_renewed (n + 1) globals before now)

-- outputs that are given their values anew are the outputs of the same globals
pub outputs_renewed : (globals : List Variable) (before now : ℕ → ℤ) (old new : List (ℕ × Value)) → old ≡ outputs_from 0 globals before → new ≡ map (output_in now) old → new ≡ outputs_from 0 globals now
outputs_renewed globals before now old new were made = made ∙ ap (map (output_in now)) were ∙ all_renewed 0 globals before now

-- of the outputs, those whose number changed are the changed outputs
one_differs : (same : Bool) (n : ℕ) (v : Value) (kept outs : List (ℕ × Value)) → kept ≡ outs
    → (if not same then (n, v) ∷ kept else kept) ≡ elim (if same then None else Some v) [ None ↦ outs | Some w ↦ (n, w) ∷ outs ]
one_differs true n v kept outs rest = rest
one_differs false n v kept outs rest = ap (λ l. (n, v) ∷ l) rest

one_out : (b : Bool) (n : ℕ) (v : Value) (before now : ℕ → ℤ) (all outs : List (ℕ × Value)) → filter (differs before now) all ≡ outs
    → filter (differs before now) (if b then (n, v) ∷ all else all) ≡ elim (if b then (if int_eq (before n) (now n) then None else Some v) else None) [ None ↦ outs | Some w ↦ (n, w) ∷ outs ]
one_out true n v before now all outs rest = one_differs (int_eq (before n) (now n)) n v (filter (differs before now) all) outs rest
one_out false n v before now all outs rest = rest

all_outs : (n : ℕ) (globals : List Variable) (before now : ℕ → ℤ) → filter (differs before now) (outputs_from n globals now) ≡ outs_from n globals before now
all_outs n [] before now = refl
all_outs n (global ∷ globals) before now =
    one_out (is_output global.region) n (value_of_kind global.kind (now n)) before now (outputs_from (n + 1) globals now) (outs_from (n + 1) globals before now) (all_outs (n + 1) globals before now)

pub outs_differ : (globals : List Variable) (before now : ℕ → ℤ) (all outs : List (ℕ × Value)) → all ≡ outputs_from 0 globals now → outs ≡ filter (differs before now) all → outs ≡ outs_from 0 globals before now
outs_differ globals before now all outs are made = made ∙ ap (filter (differs before now)) are ∙ all_outs 0 globals before now
