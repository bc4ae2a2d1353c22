use Rattle.std.proofs.Common.{◌≡◌, ap, ◌∙◌, rules, arith}
use Rattle.std.specs.Arc.{arc_value}
use Rattle.std.proofs.lemmas.Grind.{common_steps}
use Rattle.vm_slices.specs.Parts.{loaded}
use Rattle.slice_store.specs.Starts.{part_of}
use Rattle.slice_store.proofs.Taking.{loaded_by, starts_by}
use Rattle.slice_store.proofs.store.Store.begin_anew.Goals as goal

pub returns : goal.returns
returns c =
    let part = part_of (arc_value c.args.parts.now) c.args.number in
    let same : c.numbered-part.result.now ≡ part = c.numbered-part.ensures ∙ ap (λ parts. part_of parts c.args.number) c.deref.ensures in
    let from : c.load.new.cells ≡ loaded part c.args.self.now.cells
    = loaded_by part c.numbered-part.result.now c.args.self.now.cells c.values.result.now c.clocks.result.now same c.values.ensures c.clocks.ensures c.load.new.cells c.in_ok-load.ensures in
    starts_by c.args.number part c.moment.result c.args.self.now.moment c.load.new.cells c.args.self.now.cells c.moment.ensures from c.new-4.result (search rules)

pub start_of-requires-clause-clocks : goal.start_of-requires-clause-clocks
start_of-requires-clause-clocks c = grind (arith, common_steps)

pub start_of-requires-clause-values : goal.start_of-requires-clause-values
start_of-requires-clause-values c = grind (arith, common_steps)
