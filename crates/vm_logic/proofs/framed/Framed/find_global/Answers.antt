use Rattle.std.proofs.Common.{◌<◌, ◌∙◌, ap, subst, length}
use Rattle.std.specs.Prelude.{IfSome}
use Rattle.std.proofs.lemmas.List.{length-map}
use Rattle.base_words.specs.Names.{find_name}
use Rattle.logic_source.specs.declared.logic.Variable.{Variable}
use Rattle.logic_source.specs.Source.{Source}
use Rattle.logic_source.specs.Names.{find_global}
use Rattle.vm_logic.proofs.Found.{global_found}
use Rattle.vm_logic.proofs.framed.Framed.find_global.Goals as goal

pub returns-clause-number : goal.returns-clause-number
returns-clause-number c =
    c.find.ensures.number ∙ ap (λ names. find_name names c.args.name.now) c.self.invariant.0.laid.names_are ∙ global_found c.self.inside.logic.globals.items c.args.name.now
    ∙ ap (λ (s : Source). find_global s.globals c.args.name.now) c.self.view_is

pub returns-clause-within : goal.returns-clause-within
returns-clause-within c =
    let many = ap length c.self.invariant.0.laid.names_are ∙ length-map c.self.inside.logic.globals.items (λ (g : Variable). g.name) ∙ ap (λ (s : Source). length s.globals) c.self.view_is in
    subst (λ n. IfSome c.find.result (λ number. number < n)) many c.find.ensures.within
