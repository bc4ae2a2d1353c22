use Rattle.std.proofs.Common.{arith}
use Rattle.std.proofs.lemmas.Grind.{common_steps}
use Rattle.level_scans.proofs.FirstParts.{first_more}
use Rattle.level_scans.proofs.parts.parts_of.Goals as goal

pub part_of-requires-clause-few_slots : goal.part_of-requires-clause-few_slots
part_of-requires-clause-few_slots c = c.code-code.ensures.few_values

pub part_of-requires-clause-few_clocks : goal.part_of-requires-clause-few_clocks
part_of-requires-clause-few_clocks c = c.code-code.ensures.few_clocks

pub loop-program-preserved : goal.loop-program-preserved
loop-program-preserved c =
    let l = c.loop-program in
    record {
      all = l.invariant.all;
      slots = c.in_ok-part_of.ensures.slots;
      clocks = c.in_ok-part_of.ensures.clocks;
      first = rw (c.in_ok-push.ensures.items) (first_more c.args.framed.now l.program l.parts.items c.code-code.result.now c.in_ok-part_of.field-0 l.invariant.first c.code-code.ensures c.in_ok-part_of.ensures.part);
    }

pub loop-program-init : goal.loop-program-init
loop-program-init c = grind (arith, common_steps)
