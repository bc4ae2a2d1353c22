-- A pass that is lawful since a body assigns only values of kinds: cells that hold the numbers of DINT alone, worked out by hand.
use Rattle.std.specs.Prelude.{◌≡◌, ℤ, pos, Bool, true, false, if◌then◌else◌, Some, None, [], refl}
use Rattle.std.proofs.Common.{subst}
use Rattle.plant_types.specs.declared.values.Kind.TheVariants as kind
use Rattle.plant_types.specs.Values.{is_in_range}
use Rattle.st_tree.specs.declared.tree.Binary.TheVariants.{Add}
use Rattle.st_tree.specs.declared.tree.Literal.TheVariants.{Integer}
use Rattle.st_tree.specs.Plain.{literal, read, binary, assign, done, next}
use Rattle.st_tree.specs.Fits.{Context}
use Rattle.st_tree.specs.Mapping.{identity, all_known}
use Rattle.st_tree.specs.Meaning.{Space, Done, run_all}
use Rattle.st_tree.specs.Alike.{Agree, IsLawful}
use Rattle.st_tree.proofs.RangeLaws.{InRange}
use Rattle.st_tree.proofs.AnyValueLaws.{IsLawfulForAny}
use Rattle.st_tree.proofs.KindValueLaws.{kept_body}

-- n : DINT, and no instance
abbrev one_number : Context (Unit {0})
one_number = record { variable_kind = λ v. Some kind.Dint; may_assign = λ v. true; is_instance = λ v. false; input_kind = λ instance name. None; output_kind = λ instance name. None; element_kind = λ v bounds. None }

-- a number of any size
abbrev numbers : Space (Unit {0}) ℤ
numbers = record {
  path = [];
  get = λ w v. w;
  put = λ w v n. n;
  get_at = λ w v bounds i. w;
  put_at = λ w v bounds i n. w;
  get_output = λ w instance name. w;
  put_input = λ w instance name n. w;
  enter = λ w instance. Done w;
}

-- a cell in which a number outside the range of DINT becomes 0
abbrev held : Bool → ℤ → ℤ
held fits n = if fits then n else pos 0

abbrev cells : Space (Unit {0}) ℤ
cells = record {
  path = [];
  get = λ w v. w;
  put = λ w v n. held (is_in_range kind.Dint n) n;
  get_at = λ w v bounds i. w;
  put_at = λ w v bounds i n. w;
  get_output = λ w instance name. w;
  put_input = λ w instance name n. w;
  enter = λ w instance. Done w;
}

-- they match where the cell has the number, and this is a DINT
abbrev Holds : ℤ → ℤ → Type 0
Holds a b = (a ≡ b) × InRange kind.Dint a

held_is : (n : ℤ) (b : Bool) → is_in_range kind.Dint n ≡ b → b ≡ true → n ≡ held b n
held_is n true is fits = refl
held_is n false is fits = absurd (cc)

cells_lawful : IsLawful one_number all_known identity numbers cells Holds
cells_lawful = record {
  path_is = refl;
  variable_is = λ v a b is m. m.0;
  variable_in_range = λ v k a b m is. subst (λ k. InRange k a) (let e : kind.Dint ≡ k = cc in e) m.1;
  put_matches = λ v k n a b there may is fits m.
      let here : InRange kind.Dint n = subst (λ k. InRange k n) (let e : k ≡ kind.Dint = cc in e) fits in
      (held_is n (is_in_range kind.Dint n) refl here, here);
  element_is = λ v bounds i a b is within m. m.0;
  element_in_range = λ v bounds i k a b m is within. absurd (cc);
  put_at_matches = λ v bounds i k n a b there is within fits m. absurd (cc);
  output_is = λ instance name a b is m. m.0;
  output_in_range = λ instance name k a b m is. absurd (cc);
  put_input_matches = λ instance name k n a b there is_one is fits m. absurd (cc);
  enter_agrees = λ instance a b there is_one m. absurd (cc);
  node_is = λ e a b m. refl;
}

-- so n := n + 1 does the same to both, and to a trap too
sum_kept : (a b : ℤ) → Holds a b
    → Agree Holds (run_all numbers (next (assign 1 tt (binary Add (read tt) (literal (Integer (pos 1))))) done) a) (run_all cells (next (assign 1 tt (binary Add (read tt) (literal (Integer (pos 1))))) done) b)
sum_kept a b m =
    kept_body one_number all_known identity numbers cells Holds cells_lawful (next (assign 1 tt (binary Add (read tt) (literal (Integer (pos 1))))) done) (record { names = refl; kinds = refl; controls = refl }) a b m

-- with any whole number the cells are not lawful, whichever worlds match: 2147483648 becomes 0
cells_not_for_any : (Matches : ℤ → ℤ → Type 0) → Matches (pos 0) (pos 0) → IsLawfulForAny all_known identity numbers cells Matches → ⊥
cells_not_for_any Matches m laws =
    let e : pos 2147483648 ≡ pos 0 = laws.variable_is tt (pos 2147483648) (pos 0) refl (laws.put_matches tt (pos 2147483648) (pos 0) (pos 0) refl m) in
    absurd (cc)
