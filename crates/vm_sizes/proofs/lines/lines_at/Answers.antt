use Rattle.std.proofs.Common.{ap, sym}
use Rattle.std.specs.Option.{option_map_or}
use Rattle.vm_sizes.specs.declared.counts.Count.{Count}
use Rattle.vm_sizes.proofs.Lookups.{found, missed}
use Rattle.vm_sizes.proofs.lines.lines_at.Goals as goal

pub returns-in-Some : goal.returns-in-Some
returns-in-Some c = sym (ap (λ o. option_map_or (λ (n : Count). n.lines) o 0) (found c.args.table.now c.args.k c.in-Some.count.now c.in-Some.ensures.lookup.0 c.in-Some.ensures.lookup.1))

pub returns-in-None : goal.returns-in-None
returns-in-None c = sym (ap (λ o. option_map_or (λ (n : Count). n.lines) o 0) (missed c.args.table.now c.args.k c.in-None.ensures.lookup.0))
