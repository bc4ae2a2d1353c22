-- Bodies over names, and what mappings make of them, worked out by hand; and that folding constants keeps outcomes.
use Rattle.std.specs.Prelude.{◌≡◌, ℕ, pos, Option, Some, None, Ok, Err, [], ◌∷◌, refl}
use Rattle.std.proofs.Common.{sym}
use Rattle.plant_types.specs.declared.values.Value.TheVariants as value
use Rattle.st_tree.specs.declared.tree.Literal.TheVariants.{Integer, Value}
use Rattle.st_tree.specs.declared.tree.Binary.TheVariants.{Add, Divide, Multiply}
use Rattle.st_tree.specs.Operators.{Outcome}
use Rattle.st_tree.specs.Plain.{PlainExpr, literal, read, output_of, binary, input, output}
use Rattle.st_tree.specs.Plain.{assign, call, done, next}
use Rattle.st_tree.specs.Constants.{constant_of}
use Rattle.st_tree.specs.Meaning.{ValuesOf, value_of}
use Rattle.st_tree.specs.Mapping.{Mapping, mapped_expr, mapped_body}
use Rattle.st_tree.proofs.ConstantLaws.{constant_of_is_value_of}

-- n : DINT; early, late : TON with IN and Q
data Name : Type 0 where
  n : Name
  early : Name
  late : Name
  in_name : Name
  q_name : Name

abbrev instance_number : Name → ℕ
instance_number early = 10
instance_number _ = 20

abbrev in_cell : Name → ℕ
in_cell early = 1
in_cell _ = 3

abbrev q_cell : Name → ℕ
q_cell early = 2
q_cell _ = 4

-- numbers in the places of names: IN and Q have other numbers in each of the instances
abbrev numbers : Mapping Name ℕ
numbers = record {
  variable = λ name. 0;
  array = λ name. 0;
  instance = instance_number;
  input_name = λ instance name. in_cell instance;
  output_name = λ instance name. q_cell instance;
  node = λ e. e;
}

-- early(IN := n); late(IN := early.Q, Q => n);
mapped_calls :
    mapped_body numbers (next (call 1 early (input in_name (read n) ∷ [])) (next (call 2 late (input in_name (output_of early q_name) ∷ output q_name n ∷ [])) done))
    ≡ next (call 1 10 (input 1 (read 0) ∷ [])) (next (call 2 20 (input 3 (output_of 10 2) ∷ output 4 0 ∷ [])) done)
mapped_calls = refl

abbrev literal_of : Option Outcome → PlainExpr Name → PlainExpr Name
literal_of (Some (Ok x)) e = literal (Value (value.Dint x))
literal_of _ e = e

-- a constant that has a value becomes a literal of that value; one that traps stays
abbrev folded : PlainExpr Name → PlainExpr Name
folded e = literal_of (constant_of e) e

abbrev folding : Mapping Name Name
folding = record { variable = λ v. v; array = λ v. v; instance = λ v. v; input_name = λ instance name. name; output_name = λ instance name. name; node = folded }

-- n := 2 + 3 * 4;
folded_sum : mapped_body folding (next (assign 1 n (binary Add (literal (Integer (pos 2))) (binary Multiply (literal (Integer (pos 3))) (literal (Integer (pos 4)))))) done)
    ≡ next (assign 1 n (literal (Value (value.Dint (pos 14))))) done
folded_sum = refl

-- 0 * (1 / n) and 1 / 0 stay
kept_product : mapped_expr folding (binary Multiply (literal (Integer (pos 0))) (binary Divide (literal (Integer (pos 1))) (read n)))
    ≡ binary Multiply (literal (Integer (pos 0))) (binary Divide (literal (Integer (pos 1))) (read n))
kept_product = refl

kept_trap : mapped_expr folding (binary Divide (literal (Integer (pos 1))) (literal (Integer (pos 0)))) ≡ binary Divide (literal (Integer (pos 1))) (literal (Integer (pos 0)))
kept_trap = refl

-- folding keeps each outcome, a trap too: it is a lawful node of a pass
folded_by : (values : ValuesOf Name) (e : PlainExpr Name) (o : Option Outcome) → constant_of e ≡ o
    → value_of values (literal_of o e) ≡ value_of values e
folded_by values e None is = refl
folded_by values e (Some (Ok x)) is = sym (constant_of_is_value_of values e (Ok x) is)
folded_by values e (Some (Err trap)) is = refl

folded_is : (values : ValuesOf Name) (e : PlainExpr Name) → value_of values (folded e) ≡ value_of values e
folded_is values e = folded_by values e (constant_of e) refl
