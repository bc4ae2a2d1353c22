-- A body as a list of its statements.
use Rattle.std.proofs.Common.{◌≡◌, ap, refl, ℕ, List, [], ◌∷◌, map}
use Rattle.st_tree.specs.declared.tree.Stmt.{Stmt}
use Rattle.st_tree.specs.Plain.{next}
use Rattle.st_tree.specs.View.{view_stmt, view_body}
use Rattle.logic_source.specs.Units.{listed}

pub body_listed : (items : List (Stmt (List ℕ))) → view_body items ≡ listed (map view_stmt items)
body_listed [] = refl
body_listed (s ∷ ss) = ap (next (view_stmt s)) (body_listed ss)
