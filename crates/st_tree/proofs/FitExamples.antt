-- Kinds of bodies that are right and wrong, and an invariant of a world with an instance, worked out by hand.
use Rattle.std.specs.Prelude.{◌≡◌, ℤ, pos, Bool, true, false, Option, Some, None, [], ◌∷◌, refl}
use Rattle.std.proofs.Common.{subst}
use Rattle.plant_types.specs.declared.values.Kind.{Kind}
use Rattle.plant_types.specs.declared.values.Kind.TheVariants as kind
use Rattle.plant_types.specs.declared.values.Value.TheVariants as value
use Rattle.st_tree.specs.declared.tree.Literal.TheVariants.{Integer, Value}
use Rattle.st_tree.specs.Plain.{literal, read, output_of, input, output}
use Rattle.st_tree.specs.Plain.{assign, call, if_else, for_to, done, next, no_branch, branch}
use Rattle.st_tree.specs.Kinds.{kind_of_expr}
use Rattle.st_tree.specs.Fits.{Context, sorts_of, stmt_fits, stmt_controls_fit}
use Rattle.st_tree.specs.Meaning.{Space, Done, run_all}
use Rattle.st_tree.specs.Ranges.{Leaves, IsInvariant}
use Rattle.st_tree.proofs.RangeLaws.{InRange}
use Rattle.st_tree.proofs.RunLaws.{run_all_keeps}

-- b : BOOL; n : DINT; d : TIME; plant_input AT %IX0.0 : BOOL; timer : TON with its inputs and outputs
data Name : Type 0 where
  b : Name
  n : Name
  d : Name
  plant_input : Name
  timer : Name
  in_name : Name
  pt_name : Name
  q_name : Name

abbrev kinds : Name → Option Kind
kinds b = Some kind.Bool
kinds n = Some kind.Dint
kinds d = Some kind.Time
kinds plant_input = Some kind.Bool
kinds _ = None

abbrev assignable : Name → Bool
assignable b = true
assignable n = true
assignable d = true
assignable _ = false

abbrev instances : Name → Bool
instances timer = true
instances _ = false

abbrev inputs : Name → Name → Option Kind
inputs timer in_name = Some kind.Bool
inputs timer pt_name = Some kind.Time
inputs _ _ = None

abbrev outputs : Name → Name → Option Kind
outputs timer q_name = Some kind.Bool
outputs _ _ = None

abbrev declared : Context Name
declared = record { variable_kind = kinds; may_assign = assignable; is_instance = instances; input_kind = inputs; output_kind = outputs; element_kind = λ v bounds. None }

-- b := 1 fits, b := 2 and b := (1) don't
bit_fits : stmt_fits declared (assign 1 b (literal (Integer (pos 1)))) ≡ true
bit_fits = refl

other_integer_misfits : stmt_fits declared (assign 1 b (literal (Integer (pos 2)))) ≡ false
other_integer_misfits = refl

integer_in_parentheses_misfits : stmt_fits declared (assign 1 b (literal (Value (value.Dint (pos 1))))) ≡ false
integer_in_parentheses_misfits = refl

-- an integer past the range has no kind
large_integer_has_no_kind : kind_of_expr (sorts_of declared) (literal (Integer (pos 2147483648))) ≡ None
large_integer_has_no_kind = refl

-- plant_input := b
input_is_not_assigned : stmt_fits declared (assign 1 plant_input (read b)) ≡ false
input_is_not_assigned = refl

-- timer(IN := 1, PT := d, Q => b) fits; timer(PT := 5), timer(Q => n), timer(Q => plant_input) and n() don't
call_fits : stmt_fits declared (call 1 timer (input in_name (literal (Integer (pos 1))) ∷ input pt_name (read d) ∷ output q_name b ∷ [])) ≡ true
call_fits = refl

wrong_input_misfits : stmt_fits declared (call 1 timer (input pt_name (literal (Integer (pos 5))) ∷ [])) ≡ false
wrong_input_misfits = refl

wrong_output_misfits : stmt_fits declared (call 1 timer (output q_name n ∷ [])) ≡ false
wrong_output_misfits = refl

output_to_input_misfits : stmt_fits declared (call 1 timer (output q_name plant_input ∷ [])) ≡ false
output_to_input_misfits = refl

variable_is_not_called : stmt_fits declared (call 1 n []) ≡ false
variable_is_not_called = refl

-- IF timer.Q fits, IF n doesn't
output_is_a_test : stmt_fits declared (if_else 1 (branch (output_of timer q_name) done no_branch) done) ≡ true
output_is_a_test = refl

number_is_no_test : stmt_fits declared (if_else 1 (branch (read n) done no_branch) done) ≡ false
number_is_no_test = refl

-- FOR n := 1 TO 3 has a right control variable, FOR b := 1 TO 3 hasn't, though its kinds fit
number_controls : stmt_controls_fit declared (for_to 1 n (literal (Integer (pos 1))) (literal (Integer (pos 3))) None done) ≡ true
number_controls = refl

truth_controls_not : stmt_controls_fit declared (for_to 1 b (literal (Integer (pos 1))) (literal (Integer (pos 3))) None done) ≡ false
truth_controls_not = refl

-- one DINT and one instance, whose output is its input: the value of the one and the input of the other
abbrev Pair : Type 0
Pair = ℤ × ℤ

abbrev one_of_each : Context (Unit {0})
one_of_each = record { variable_kind = λ v. Some kind.Dint; may_assign = λ v. true; is_instance = λ v. true; input_kind = λ instance name. Some kind.Dint; output_kind = λ instance name. Some kind.Dint; element_kind = λ v bounds. None }

abbrev echo : Space (Unit {0}) Pair
echo = record {
  path = [];
  get = λ w v. w.0;
  put = λ w v n. (n, w.1);
  get_at = λ w v bounds i. w.0;
  put_at = λ w v bounds i n. w;
  get_output = λ w instance name. w.1;
  put_input = λ w instance name n. (w.0, n);
  enter = λ w instance. Done w;
}

abbrev BothInRange : Pair → Type 0
BothInRange w = InRange kind.Dint w.0 × InRange kind.Dint w.1

-- that both are in range is an invariant
both_in_range : IsInvariant one_of_each echo BothInRange
both_in_range =
    record {
      variable_in_range = λ w v k holds is. subst (λ k. InRange k w.0) (let e : kind.Dint ≡ k = cc in e) holds.0;
      output_in_range = λ w instance name k holds is. subst (λ k. InRange k w.1) (let e : kind.Dint ≡ k = cc in e) holds.1;
      element_in_range = λ w v bounds i k holds is within. absurd (cc);
      put_at_keeps = λ w v bounds i k n holds is within fits. absurd (cc);
      put_keeps = λ w v k n holds may is fits. (subst (λ k. InRange k n) (let e : k ≡ kind.Dint = cc in e) fits, holds.1);
      put_input_keeps = λ w instance name k n holds is_one is fits. (holds.0, subst (λ k. InRange k n) (let e : k ≡ kind.Dint = cc in e) fits);
      enter_keeps = λ w instance holds is_one. holds;
    }

-- so a body that calls the instance keeps it
call_keeps : (w : Pair) → BothInRange w → Leaves BothInRange (run_all echo (next (call 1 tt (input tt (read tt) ∷ output tt tt ∷ [])) done) w)
call_keeps w holds = run_all_keeps one_of_each echo BothInRange both_in_range (next (call 1 tt (input tt (read tt) ∷ output tt tt ∷ [])) done) w refl refl holds
