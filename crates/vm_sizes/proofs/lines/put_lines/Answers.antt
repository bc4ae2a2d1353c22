use Rattle.std.proofs.Common.{ap, sym}
use Rattle.vm_sizes.specs.Sizes as sizes
use Rattle.vm_sizes.proofs.Lookups.{missed}
use Rattle.vm_sizes.proofs.lines.put_lines.Goals as goal

pub returns-in-None : goal.returns-in-None
returns-in-None c = sym (ap sizes.put_lines (missed c.args.seats.now c.args.instance c.in-None.ensures.lookup.0))
