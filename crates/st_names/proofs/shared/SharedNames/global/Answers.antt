use Rattle.std.proofs.Common.{◌∙◌, ap, sym, Some, None}
use Rattle.std.specs.Prelude.{option_copied}
use Rattle.st_names.specs.declared.named.Named.TheVariants as named
use Rattle.st_names.proofs.Lookups.{global_found}
use Rattle.st_names.proofs.shared.SharedNames.global.Goals as goal

pub returns-in-Global : goal.returns-in-Global
returns-in-Global c = global_found c.args.self.now c.args.name.now (Some (named.Global c.in-Global.declared)) (ap Some (sym c.in-Global.is) ∙ ap option_copied (sym c.in-Some.is) ∙ c.find.ensures)

pub returns-in-Block : goal.returns-in-Block
returns-in-Block c = global_found c.args.self.now c.args.name.now (Some (named.Block _)) (ap Some (sym c.in-Block.is) ∙ ap option_copied (sym c.in-Some.is) ∙ c.find.ensures)

pub returns-in-Program : goal.returns-in-Program
returns-in-Program c = global_found c.args.self.now c.args.name.now (Some named.Program) (ap Some (sym c.in-Program.is) ∙ ap option_copied (sym c.in-Some.is) ∙ c.find.ensures)

pub returns-in-None : goal.returns-in-None
returns-in-None c = global_found c.args.self.now c.args.name.now None (ap option_copied (sym c.in-None.is) ∙ c.find.ensures)
