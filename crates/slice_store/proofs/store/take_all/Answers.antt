use Rattle.std.proofs.Common.{length, arith, sym, subst, take, ◌++◌, ◌∷◌, []}
use Rattle.std.proofs.lemmas.List.{take_more}
use Rattle.std.proofs.lemmas.Grind.{common_steps}
use Rattle.logic_cells.specs.Cells.{PlainCells}
use Rattle.slice_store.specs.Starts.{Begun}
use Rattle.slice_store.specs.Level.{TakesRuns}
use Rattle.slice_store.proofs.Taking.{takes_none, takes_more, apart_before, has_still}
use Rattle.slice_store.proofs.store.take_all.Goals as goal

pub loop-done-init : goal.loop-done-init
loop-done-init c = takes_none (record { values = c.args.values.now; clocks = c.args.clocks.now }) c.args.faulted.now

pub take_into-requires-clause-inside : goal.take_into-requires-clause-inside
take_into-requires-clause-inside c =
    let h = c.loop-done.invariant in
    let s = c.done-item.result in
    has_still s.part (record { values = c.args.values.now; clocks = c.args.clocks.now }) (record { values = c.loop-done.values; clocks = c.loop-done.clocks }) h.shape.values h.shape.clocks
    (c.requires.1.inside s (c.loop-done.done-index, c.loop-done-test.true, sym c.done-item.is))

pub take_into-requires-clause-numbered : goal.take_into-requires-clause-numbered
take_into-requires-clause-numbered c =
    let h = c.loop-done.invariant in
    let s = c.done-item.result in
    let n = c.requires.1.numbered s (c.loop-done.done-index, c.loop-done-test.true, sym c.done-item.is) in
    let long = h.flags in
    let low = n.0 in let high = n.1 in
    (omega arith, omega arith)

pub loop-done-preserved : goal.loop-done-preserved
loop-done-preserved c =
    let runs = c.args.runs.now in
    let n = c.loop-done.done-index in
    let s = c.done-item.result in
    let old : PlainCells = record { values = c.args.values.now; clocks = c.args.clocks.now } in
    let mid : PlainCells = record { values = c.loop-done.values; clocks = c.loop-done.clocks } in
    let new : PlainCells = record { values = c.take_into.new.values; clocks = c.take_into.new.clocks } in
    let more : TakesRuns old c.args.faulted.now (take n runs ++ s ∷ []) new c.take_into.new.faulted
    = takes_more old c.args.faulted.now (take n runs) s mid c.loop-done.faulted new c.take_into.new.faulted c.loop-done.invariant c.take_into.ensures
    (apart_before old (length c.args.faulted.now) c.requires.0 runs c.requires.1 n s c.loop-done-test.true (sym c.done-item.is)) in
    let P : Begun → Type 0 = λ t. TakesRuns old c.args.faulted.now (take n runs ++ t ∷ []) new c.take_into.new.faulted in
    rw (take_more runs n s c.loop-done-test.true) (subst P c.done-item.is more)

pub returns : goal.returns
returns c = grind (arith, common_steps)
