use Rattle.std.specs.Prelude.{◌≡◌, ℕ, true}
use Rattle.st_tree.specs.Mapping.{all_known, renaming}
use Rattle.st_tree.specs.Alike.{renamed_space, renamed_context}
use Rattle.st_tree.proofs.AnyValueLaws.{kept_lawful}
use Rattle.st_tree.proofs.RenamingLaws.{renaming_lawful, renamed_kept}
use Rattle.try_parts.proofs.trees.NamedPassUsizeUsize.laws.Goals as goal

pub returns : goal.returns
returns c = λ case.
    let f : ℕ → ℕ = λ _. c.args.self.now.name in
    kept_lawful all_known (renaming f) (renamed_space f case.space) case.space (λ a b. a ≡ b) (renaming_lawful f case.space) (renamed_context f case.context) (λ w. case.holds w ≡ true) (renamed_kept f case.space case.context (λ w. case.holds w ≡ true) case.kept)
