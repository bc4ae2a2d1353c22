use Rattle.std.proofs.Common.{◌≡◌, drop, map}
use Rattle.std.specs.List.{list_all}
use Rattle.st_tree.specs.View.{view_argument}
use Rattle.st_names.specs.Known.{argument_known}
use Rattle.st_names.proofs.known.arguments_known.Given as goal

abbrev pub invariant-loop-argument : goal.invariant-loop-argument
invariant-loop-argument g l =
    list_all (argument_known (g.S.Scope.units l.scope) (g.S.Scope.own l.scope)) (map view_argument (drop l.argument-index l.arguments)) ≡ list_all (argument_known (g.S.Scope.units l.scope) (g.S.Scope.own l.scope)) (map view_argument l.arguments)
