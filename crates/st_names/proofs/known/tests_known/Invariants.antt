use Rattle.std.proofs.Common.{◌≡◌, drop}
use Rattle.std.specs.List.{list_all}
use Rattle.st_tree.specs.View.{view_branches}
use Rattle.st_names.specs.Every.{tests_of}
use Rattle.st_names.specs.Known.{expr_known}
use Rattle.st_names.proofs.known.tests_known.Given as goal

abbrev pub invariant-loop-branch : goal.invariant-loop-branch
invariant-loop-branch g l =
    list_all (expr_known (g.S.Scope.units l.scope) (g.S.Scope.own l.scope)) (tests_of (view_branches (drop l.branch-index l.branches))) ≡ list_all (expr_known (g.S.Scope.units l.scope) (g.S.Scope.own l.scope)) (tests_of (view_branches l.branches))
