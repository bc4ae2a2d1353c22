use Rattle.std.proofs.Common.{◌≡◌, ◌∙◌, ◌<◌, ◌+◌, ◌^◌, sym, subst, length, arith}
use Rattle.std.proofs.lemmas.List.{get_or_default}
use Rattle.logic_source.specs.Source.{Source, source_of}
use Rattle.vm_logic.specs.Bases.{program_paths_base}
use Rattle.vm_logic.specs.Runs.{paths_in}
use Rattle.vm_logic.proofs.Spots.{paths_within}
use Rattle.vm_logic.proofs.Walks.{the_program, is_there}
use Rattle.vm_logic.proofs.framed.Framed.path_base.Goals as goal

pub returns-clause-base : goal.returns-clause-base
returns-clause-base c =
    let inside = c.self.inside in
    let source = source_of inside.logic in
    let are = c.self.invariant.0.laid in
    let n = c.args.program in
    let there : n < length source.programs = subst (λ (s : Source). n < length s.programs) (sym c.self.view_is) c.requires in
    let long = are.paths_begin.long in
    let base_is : c.index.result.now ≡ program_paths_base source n = c.index.ensures ∙ get_or_default inside.paths.items n c.index.result.now 0 (omega (arith, there, long)) ∙ are.paths_begin.each n (omega (arith, there)) in
    subst (λ (s : Source). c.index.result.now ≡ program_paths_base s n) c.self.view_is base_is

pub returns-clause-fits : goal.returns-clause-fits
returns-clause-fits c =
    let source = source_of c.self.inside.logic in
    let n = c.args.program in
    let there : n < length source.programs = subst (λ (s : Source). n < length s.programs) (sym c.self.view_is) c.requires in
    let within = paths_within source n (the_program source n) (is_there source n there) in
    let all = c.self.invariant.0.laid.paths_fit in
    let fits : program_paths_base source n + length (paths_in source n) < 2 ^ 32 = omega (arith, within, all) in
    subst (λ (s : Source). program_paths_base s n + length (paths_in s n) < 2 ^ 32) c.self.view_is fits
