-- Folding keeps outcomes, and with them what bodies do.
use Rattle.std.proofs.Common.{◌≡◌, ◌∙◌, refl, ap, sym}
use Rattle.std.specs.Prelude.{Ok}
use Rattle.st_tree.specs.Plain.{PlainExpr, PlainBody}
use Rattle.st_tree.specs.Meaning.{Space, Ran, Done, Trapped, ValuesOf, value_of, values_in, run_all}
use Rattle.st_tree.specs.Mapping.{all_known}
use Rattle.st_tree.specs.Alike.{Agree}
use Rattle.st_tree.proofs.AnyValueLaws.{IsLawfulForAny, body_same}
use Rattle.st_tree.proofs.RenamingLaws.{body_all}
use Rattle.const_fold.specs.Folding.{folded_node, folding, folded_body}
use Rattle.const_fold.proofs.LiteralLaws.{node_holds}

pub node_outcome : {V : Type 0} (values : ValuesOf V) (e : PlainExpr V) → value_of values (folded_node e) ≡ value_of values e
node_outcome values e =
    node_holds (λ e f. value_of values f ≡ value_of values e) (λ e. refl)
    (λ op a l is. ap Ok is.stands.worth ∙ sym is.result) (λ op a b l is. ap Ok is.stands.worth ∙ sym is.result) e

-- in worlds of one type that are equal
module _ {W : Type 0} where
  agree_is : (r q : Ran W) → Agree (λ a b. a ≡ b) r q → r ≡ q
  agree_is (Done a) (Done b) is = ap Done is
  agree_is (Done a) (Trapped b spot trap) is = absurd is
  agree_is (Trapped a spot trap) (Done b) is = absurd is
  agree_is (Trapped a spot trap) (Trapped b other_spot other_trap) is = λ i. Trapped (is.0 i) (is.1.0 i) (is.1.1 i)

  is_agree : (r q : Ran W) → r ≡ q → Agree (λ a b. a ≡ b) r q
  is_agree (Done a) (Done b) is = cc
  is_agree (Done a) (Trapped b spot trap) is = absurd (cc)
  is_agree (Trapped a spot trap) (Done b) is = absurd (cc)
  is_agree (Trapped a spot trap) (Trapped b other_spot other_trap) is = (cc, (cc, cc))

module _ {V W : Type 0} (space : Space V W) where
  pub folding_lawful : IsLawfulForAny all_known folding space space (λ a b. a ≡ b)
  folding_lawful = record {
    path_is = refl;
    variable_is = λ v a b is same. ap (λ w. space.get w v) same;
    put_matches = λ v n a b is same. ap (λ w. space.put w v n) same;
    element_is = λ v bounds i a b is within same. ap (λ w. space.get_at w v bounds i) same;
    put_at_matches = λ v bounds i n a b is within same. ap (λ w. space.put_at w v bounds i n) same;
    output_is = λ instance name a b is same. ap (λ w. space.get_output w instance name) same;
    put_input_matches = λ instance name n a b is same. ap (λ w. space.put_input w instance name n) same;
    enter_agrees = λ instance a b is same. is_agree (space.enter a instance) (space.enter b instance) (ap (λ w. space.enter w instance) same);
    node_is = λ e a b same. node_outcome (values_in space b) e;
  }

  pub folded_runs : (body : PlainBody V) (w : W) → run_all space (folded_body body) w ≡ run_all space body w
  folded_runs body w =
      sym (agree_is (run_all space body w) (run_all space (folded_body body) w) (body_same all_known folding space space (λ a b. a ≡ b) folding_lawful body (body_all body) w w refl))
