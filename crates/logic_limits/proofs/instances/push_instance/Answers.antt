use Rattle.std.proofs.Common.{arith}
use Rattle.std.proofs.lemmas.Grind.{common_steps}
use Rattle.logic_limits.proofs.Naming.{pushed_again, pushed_more}
use Rattle.logic_limits.proofs.instances.push_instance.Goals as goal

pub returns-then-not-branch-clause-found : goal.returns-then-not-branch-clause-found
returns-then-not-branch-clause-found c =
    let instances = c.args.instances.now in
    pushed_again instances.names c.add.new.self instances.blocks.items c.as_str.result.now c.args.instance.now.name c.args.instance.now.of c.in_ok-add.field-0 c.as_str.ensures c.requires c.in_ok-add.ensures.added c.in_ok-add.ensures.names c.if-not-branch.true

pub returns-clause-found : goal.returns-clause-found
returns-clause-found c =
    let instances = c.args.instances.now in
    pushed_more instances.names c.add.new.self instances.blocks.items c.push.new.self.items c.as_str.result.now c.args.instance.now.name c.args.instance.now.of c.in_ok-add.field-0 c.as_str.ensures c.requires c.in_ok-add.ensures.names c.if-not-branch.false
    c.in_ok-push.ensures.items

pub returns-clause-long : goal.returns-clause-long
returns-clause-long c = grind (arith, common_steps)
