use Rattle.std.proofs.Common.{◌≡◌, drop}
use Rattle.std.specs.List.{list_all}
use Rattle.plant_types.specs.declared.values.Kind.TheVariants as kind
use Rattle.st_tree.specs.View.{view_branches}
use Rattle.st_names.specs.Every.{tests_of}
use Rattle.st_tree.specs.Fits.{is_of}
use Rattle.st_typing.specs.Kinds.{context_of}
use Rattle.st_typing.proofs.kinds.tests_fit.Given as goal

abbrev pub invariant-loop-branch : goal.invariant-loop-branch
invariant-loop-branch g l =
    let fits = is_of (context_of (g.S.Scope.units l.scope) (g.S.Scope.own l.scope)) kind.Bool in
    list_all fits (tests_of (view_branches (drop l.branch-index l.branches))) ≡ list_all fits (tests_of (view_branches l.branches))
