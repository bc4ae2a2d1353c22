-- Which console a view has.
use Rattle.std.specs.Prelude.{ℕ}
use Rattle.console_operator.specs.declared.view.BoardView.{BoardView}

abbrev pub console_name : {O R : Type 0} → BoardView O R → ℕ
console_name v = v.console.ghost_name
