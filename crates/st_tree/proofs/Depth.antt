-- How deep a statement is, by what is inside it.
use Rattle.std.proofs.Common.{◌≡◌, ℕ, ◌+◌, max, arith}
use Rattle.std.specs.Prelude.{Vec, Option}
use Rattle.std.specs.declared.alloc.Global.{Global}
use denote.Param.Weighed.{most}
use Rattle.st_tree.specs.declared.tree.Expr.{Expr}
use Rattle.st_tree.specs.declared.tree.Branch.{Branch, size-Branch}
use Rattle.st_tree.specs.declared.tree.Choice.{Choice, size-Choice}
use Rattle.st_tree.specs.declared.tree.Stmt.{Stmt, If, Case, For, size-Stmt, size_is-Stmt}
use Rattle.st_tree.specs.declared.tree.Stmt.TheVariants.{outs-If, outs-Case, outs-For}

module _ {V : Type 0} where
  pub size-If : (number : ℕ) (branches : Vec (Branch V) Global) (last : Vec (Stmt V) Global) → size-Stmt V (If number branches last) ≡ max (most (size-Branch V) branches.items) (most (size-Stmt V) last.items) + 1
  size-If number branches last = let q = size_is-Stmt V (If number branches last) in let e = rw (outs-If number branches last) at q in omega arith

  pub size-Case : (number : ℕ) (selector : Expr V) (choices : Vec (Choice V) Global) (last : Vec (Stmt V) Global)
      → size-Stmt V (Case number selector choices last) ≡ max (most (size-Choice V) choices.items) (most (size-Stmt V) last.items) + 1
  size-Case number selector choices last = let q = size_is-Stmt V (Case number selector choices last) in let e = rw (outs-Case number selector choices last) at q in omega arith

  pub size-For : (number : ℕ) (v : V) (from to : Expr V) (by : Option (Expr V)) (body : Vec (Stmt V) Global) → size-Stmt V (For number v from to by body) ≡ most (size-Stmt V) body.items + 1
  size-For number v from to by body = let q = size_is-Stmt V (For number v from to by body) in let e = rw (outs-For number v from to by body) at q in omega arith
