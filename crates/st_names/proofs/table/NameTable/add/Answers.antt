use Rattle.std.proofs.Common.{◌≡◌, ◌∙◌, ap, sym, length, arith}
use Rattle.std.proofs.lemmas.Grind.{common_steps}
use Rattle.st_names.proofs.Entries.{added_new, added_old, cut_back}
use Rattle.st_names.proofs.table.NameTable.add.Goals as goal

pub returns-then-added : goal.returns-then-added
returns-then-added g c =
    let a = added_new c.self.inside.names c.add.new.self c.self.inside.values.items c.push.new.self.items c.args.name.now c.args.value c.args.self.now c.in-Ok.added c.self.view_is c.self.invariant c.in_ok-push.ensures.items c.in-Ok.ensures.added c.in-Ok.ensures.names c.if-added.true in
    record { added = a.is; entries = a.entries }

pub returns : goal.returns
returns g c =
    let names : c.add.new.self ≡ c.self.inside.names = rw c.if-added.false at c.in-Ok.ensures.names in
    let back = cut_back c.self.inside.values.items c.push.new.self.items c.truncate-2.new.self.items c.args.value _ c.in_ok-push.ensures.items (c.len-2.ensures.count ∙ ap length names ∙ sym c.self.invariant) c.truncate-2.ensures.items in
    let a = added_old c.self.inside.names c.add.new.self c.self.inside.values.items c.truncate-2.new.self.items c.args.name.now c.args.value c.args.self.now c.in-Ok.added c.self.view_is c.self.invariant back c.in-Ok.ensures.added c.in-Ok.ensures.names c.if-added.false in
    record { added = a.is; entries = a.entries }

pub invariant_of-self-then-added : goal.invariant_of-self-then-added
invariant_of-self-then-added c = grind (arith, common_steps)
