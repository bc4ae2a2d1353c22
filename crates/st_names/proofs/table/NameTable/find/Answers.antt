use Rattle.std.proofs.Common.{◌∙◌, ap, sym}
use Rattle.st_names.specs.Tables.{value_of}
use Rattle.st_names.proofs.Entries.{none_at, some_at}
use Rattle.st_names.proofs.table.NameTable.find.Goals as goal

pub returns-in-None : goal.returns-in-None
returns-in-None g c =
    sym (none_at c.self.inside.names c.self.inside.values.items c.args.name.now c.self.invariant (sym c.find.ensures.number ∙ c.in-None.is)) ∙ ap (λ t. value_of t c.args.name.now) c.self.view_is

pub returns-in-Some : goal.returns-in-Some
returns-in-Some g c =
    let within = rw c.in-Some.is at c.find.ensures.within in
    some_at c.self.inside.names c.self.inside.values.items c.args.name.now c.in-Some.number c.index.result.now c.args.self.now c.self.view_is c.self.invariant (sym c.find.ensures.number ∙ c.in-Some.is) within c.index.ensures
