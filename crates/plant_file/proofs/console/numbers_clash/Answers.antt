use Rattle.std.proofs.Common.{sym}
use Rattle.std.specs.Prelude.{nat_eq}
use Rattle.std.specs.List.{list_any}
use Rattle.plant_file.specs.declared.console.ListedConsole.{ListedConsole}
use Rattle.plant_file.proofs.Seen.{gone_more, gone_again, inserted, numbers_symmetric, was_new, was_there}
use Rattle.plant_file.proofs.console.numbers_clash.Goals as goal

pub returns-then-not-branch : goal.returns-then-not-branch
returns-then-not-branch c =
    let there = was_there c.in_ok-insert.field-0 (list_any (nat_eq c.console-item.result.number) c.loop-console.numbers.keys) c.in_ok-insert.ensures.added c.if-not-branch.true in
    sym (gone_again nat_eq numbers_symmetric (λ (console : ListedConsole). console.number) c.args.consoles.now c.loop-console.console-index c.console-item.result c.console-item.result c.loop-console.numbers.keys c.loop-console-test.true c.console-item.is c.loop-console.invariant there)

pub loop-console-preserved : goal.loop-console-preserved
loop-console-preserved c =
    let free = was_new c.in_ok-insert.field-0 (list_any (nat_eq c.console-item.result.number) c.loop-console.numbers.keys) c.in_ok-insert.ensures.added c.if-not-branch.false in
    let keys = inserted nat_eq c.loop-console.numbers.keys c.insert.new.self.keys c.console-item.result.number c.in_ok-insert.ensures.keys free in
    gone_more nat_eq numbers_symmetric (λ (console : ListedConsole). console.number) c.args.consoles.now c.loop-console.console-index c.console-item.result c.console-item.result c.loop-console.numbers.keys c.insert.new.self.keys c.loop-console-test.true c.console-item.is c.loop-console.invariant free keys
