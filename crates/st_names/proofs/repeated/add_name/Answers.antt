use Rattle.std.proofs.Common.{subst, not, map, [], ◌∷◌, ◌++◌}
use Rattle.plant_types.specs.Words.{folded}
use Rattle.st_names.specs.Taken.{is_among}
use Rattle.st_names.specs.Asked.{Added}
use Rattle.st_names.proofs.Twice.{added_name}
use Rattle.st_names.proofs.repeated.add_name.Goals as goal

pub returns : goal.returns
returns c =
    subst (λ name. Added (not c.in_ok-added.added) (is_among (map folded c.args.names.now) (folded name)) (map folded c.add.new.self) (map folded c.args.names.now ++ folded name ∷ [])) c.as_str.ensures
    (added_name c.args.names.now c.add.new.self c.as_str.result.now c.in_ok-added.added c.in_ok-added.ensures.added c.in_ok-added.ensures.names)
