-- What a chain of operators does with one more turn.
use Rattle.std.proofs.Common.{◌≡◌, ℕ, zero, suc, ◌+◌, ◌<◌, ◌≤◌, max, nat_le, List, drop, Some, None, refl, ap, arith, cond, Bool, true, false}
use Rattle.std.proofs.lemmas.Bool.Decides.{nat_tests}
use Rattle.st_tree.specs.declared.tree.Binary.{Binary}
use Rattle.st_tree.specs.Plain.{PlainExpr, binary}
use Rattle.st_expressions.specs.Lexemes.{Lexeme}
use Rattle.st_expressions.specs.Grammar.{level_of}
use Rattle.st_expressions.specs.Reading.{Answer, operator_at, chain}

none_both : (b : Bool) → cond b None None ≡ (let x : Answer = None in x)
none_both true = refl
none_both false = refl

module _ (inner : ℕ → List Lexeme → Answer) (deeper level : ℕ) where
  pub stops : (fuel : ℕ) (e : PlainExpr (List ℕ)) (n : ℕ) (ts : List Lexeme) → 0 < fuel → operator_at level ts ≡ None → chain inner deeper level fuel e n ts ≡ Some (e, n, ts)
  stops zero e n ts h is = absurd (omega arith)
  stops (suc fuel) e n ts h is = rw is refl

  pub too_deep : (fuel : ℕ) (e : PlainExpr (List ℕ)) (n : ℕ) (ts : List Lexeme) (op : Binary) → operator_at level ts ≡ Some op → deeper < n → chain inner deeper level fuel e n ts ≡ None
  too_deep zero e n ts op is deep = refl
  too_deep (suc fuel) e n ts op is deep = let no : nat_le n deeper ≡ false = grind (arith, nat_tests) in rw (is, no) refl

  pub goes : (fuel left : ℕ) (e : PlainExpr (List ℕ)) (n : ℕ) (ts : List Lexeme) (op : Binary) (r : PlainExpr (List ℕ) × ℕ × List Lexeme) → fuel ≡ left + 1 → operator_at level ts ≡ Some op → n ≤ deeper → inner (level_of op + 1) (drop 1 ts) ≡ Some r → chain inner deeper level fuel e n ts ≡ chain inner deeper level left (binary op e r.0) (max n r.1 + 1) r.2
  goes zero left e n ts op r more is fits right = absurd (omega arith)
  goes (suc fuel) left e n ts op r more is fits right =
      let yes_fits : nat_le n deeper ≡ true = grind (arith, nat_tests) in
      let same : fuel ≡ left = omega arith in
      rw (is, yes_fits, right) (ap (λ f. chain inner deeper level f (binary op e r.0) (max n r.1 + 1) r.2) same)

  pub fails : (fuel : ℕ) (e : PlainExpr (List ℕ)) (n : ℕ) (ts : List Lexeme) (op : Binary) → operator_at level ts ≡ Some op → inner (level_of op + 1) (drop 1 ts) ≡ None → chain inner deeper level fuel e n ts ≡ None
  fails zero e n ts op is right = refl
  fails (suc fuel) e n ts op is right = rw (is, right) (none_both (nat_le n deeper))
