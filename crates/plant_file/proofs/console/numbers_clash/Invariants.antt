use Rattle.std.specs.Prelude.{nat_eq}
use Rattle.plant_file.proofs.Seen.{Gone}
use Rattle.plant_file.specs.declared.console.ListedConsole.{ListedConsole}
use Rattle.plant_file.proofs.console.numbers_clash.Given as goal

abbrev pub invariant-loop-console : goal.invariant-loop-console
invariant-loop-console l = Gone nat_eq (λ (console : ListedConsole). console.number) l.consoles l.console-index l.numbers.keys
