use Rattle.std.proofs.Common.{◌<◌, ◌∙◌, ap, sym, length, map}
use Rattle.vm_logic.specs.Source.{PlainRoutine}
use Rattle.vm_logic.specs.declared.headings.Heading.{Heading}
use Rattle.plant_config.proofs.Programs.{name_at}
use Rattle.plant_config.proofs.plant.Plant.program.Goals as goal

pub returns : goal.returns
returns c =
    let inside = c.self.inside in
    let within : c.args.program < length (map (λ (p : PlainRoutine). p.name) inside.logic.programs) = rw (← c.self.view_is) at c.requires in
    rw (← c.self.view_is) (c.as_str.ensures ∙ ap (λ (p : Heading). p.name) (sym c.index-programs-program.is) ∙ name_at c.programs.result.now inside.logic.programs c.args.program c.index-programs-program.result c.programs.ensures.programs within c.index-programs-program.is)
