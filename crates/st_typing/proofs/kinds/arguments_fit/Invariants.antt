use Rattle.std.proofs.Common.{◌≡◌, drop, map}
use Rattle.std.specs.List.{list_all}
use Rattle.st_tree.specs.View.{view_argument}
use Rattle.st_tree.specs.Fits.{argument_fits}
use Rattle.st_typing.specs.Kinds.{context_of}
use Rattle.st_typing.proofs.kinds.arguments_fit.Given as goal

abbrev pub invariant-loop-argument : goal.invariant-loop-argument
invariant-loop-argument g l =
    let fits = argument_fits (context_of (g.S.Scope.units l.scope) (g.S.Scope.own l.scope)) l.instance in
    list_all fits (map view_argument (drop l.argument-index l.arguments)) ≡ list_all fits (map view_argument l.arguments)
