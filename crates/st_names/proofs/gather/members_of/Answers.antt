use Rattle.std.proofs.Common.{◌∙◌, [], map}
use Rattle.st_parser.specs.Units.{view_section}
use Rattle.st_names.specs.DeclaredNames.{declared_in, first_declared}
use Rattle.st_names.specs.Kept.{with_members}
use Rattle.st_names.proofs.Gathered.{members_folded}
use Rattle.st_names.proofs.gather.members_of.Goals as goal

pub returns-in-Ok : goal.returns-in-Ok
returns-in-Ok c =
    c.in-Ok.ensures
    ∙ (λ i. with_members (record { inputs = c.new.ensures i; outputs = c.new-2.ensures i }) (first_declared [] (declared_in (map view_section (c.deref.ensures.value i)))))
    ∙ members_folded (record { inputs = []; outputs = [] }) (first_declared [] (declared_in (map view_section c.args.block.now.sections.items)))
