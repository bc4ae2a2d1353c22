use Rattle.std.proofs.Common.{◌∙◌, ap}
use Rattle.st_names.specs.DeclaredNames.{find_declared}
use Rattle.st_names.specs.Tables.{value_of}
use Rattle.st_names.proofs.Lookups.{own_found}
use Rattle.st_names.proofs.body.BodyScope.find_own.Goals as goal

pub returns : goal.returns
returns c =
    c.find.ensures ∙ (λ i. value_of (c.self.invariant i) (c.as_str.ensures i)) ∙ own_found c.self.inside.declared.items c.args.name.now ∙ ap (λ s. find_declared s.own c.args.name.now) c.self.view_is
