use Rattle.std.proofs.Common.{◌≡◌, ◌∙◌, ap, map}
use Rattle.plant_types.specs.Words.{folded}
use Rattle.st_parser.specs.Units.{view_section, view_unit}
use Rattle.st_names.specs.DeclaredNames.{declared_in}
use Rattle.st_names.proofs.Twice.{of_source}
use Rattle.st_names.proofs.taken.first_taken_of.Goals as goal

pub returns : goal.returns
returns c =
    let list : c.deref-2.result.now ≡ declared_in (map view_section c.args.unit.now.globals.items) = c.deref-2.ensures.value ∙ c.in_ok-globals.ensures ∙ ap (λ s. declared_in (map view_section s)) c.deref.ensures.value in
    let free = rw list at (rw c.if-branch.false at c.in_ok-one_taken.ensures) in
    let pous = rw c.deref-3.ensures.value at c.in_ok-place.ensures in
    of_source c.args.source (map folded c.args.names.now) (map folded c.one_taken.new.names) (map folded c.first_taken_pou.new.names) (view_unit c.args.unit.now) c.in_ok-place.place free pous
