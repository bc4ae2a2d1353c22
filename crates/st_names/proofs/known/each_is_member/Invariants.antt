use Rattle.std.proofs.Common.{◌≡◌, drop, map}
use Rattle.std.specs.List.{list_all}
use Rattle.st_tree.specs.View.{view_argument}
use Rattle.st_names.specs.Asked.{is_member_of}
use Rattle.st_names.proofs.known.each_is_member.Given as goal

abbrev pub invariant-loop-argument : goal.invariant-loop-argument
invariant-loop-argument g l =
    list_all (is_member_of (g.S.Scope.units l.scope) (g.S.Scope.own l.scope) l.instance) (map view_argument (drop l.argument-index l.arguments)) ≡ list_all (is_member_of (g.S.Scope.units l.scope) (g.S.Scope.own l.scope) l.instance) (map view_argument l.arguments)
