use Rattle.std.proofs.Common.{sym, arith}
use Rattle.std.proofs.lemmas.List.{length-map}
use Rattle.plant_file.specs.declared.console.ListedConsole.{ListedConsole}
use Rattle.engine_system.specs.Reloads.{numbers_of}
use Rattle.engine_system.proofs.FoundReload.{numbers_apart}
use Rattle.engine_system.proofs.reloads.same_numbers.Goals as goal

pub returns-then-old-new : goal.returns-then-old-new
returns-then-old-new c =
    let old = c.args.old.now in
    let new = c.args.new.now in
    let a = length-map old (λ (console : ListedConsole). console.number) in
    let b = length-map new (λ (console : ListedConsole). console.number) in
    sym (numbers_apart (numbers_of old) (numbers_of new) (λ e. omega (arith, a, b, e, c.if-old-new.true)))
