use Rattle.std.proofs.Common.{◌≡◌, ◌∙◌, sym, ◌<◌, length, false, arith, replicate, [], get_or}
use Rattle.st_blocks.specs.Graphs.{next_of}
use Rattle.st_blocks.specs.Search.{seen_all}
use Rattle.st_blocks.proofs.Lists.{among_at}
use Rattle.st_blocks.proofs.Searching.{searches, searched, whole, found_within, next_within, get_at, get_any}
use Rattle.st_blocks.proofs.search.leads.Goals as goal

pub loop-i-init : goal.loop-i-init
loop-i-init c =
    let n = length c.args.graph.now in
    let next = next_of c.args.graph.now in
    let marks_are : c.in_ok-marks.marks.items ≡ replicate n false = c.in_ok-marks.ensures in
    let found_are : c.new-found.result.items ≡ [] = c.new-found.ensures.items in
    let is : (c.go_on.new.marks.items, c.go_on.new.found.items) ≡ seen_all (next c.args.from) (replicate n false, []) = c.in_ok-go_on.ensures ∙ (λ i. seen_all (next c.args.from) (marks_are i, found_are i)) in
    rw is (searches next c.args.from n (next_within c.args.graph.now n c.requires.range c.args.from))

pub go_on-requires-in-loop-i-clause-at : goal.go_on-requires-in-loop-i-clause-at
go_on-requires-in-loop-i-clause-at c =
    let p = c.loop-i.invariant in
    p.finds.within c.index-at.result.now (among_at c.loop-i.found.items c.loop-i.i c.index-at.result.now (get_at c.loop-i.found.items c.loop-i.i c.index-at.result.now (omega (arith, c.loop-i-test.true, c.len.ensures)) c.index-at.ensures))

pub loop-i-smaller : goal.loop-i-smaller
loop-i-smaller c =
    let few = found_within (next_of c.args.graph.now) c.args.from (length c.args.graph.now) c.loop-i.i (c.loop-i.marks.items, c.loop-i.found.items) c.loop-i.invariant in
    omega (arith, few, c.loop-i-test.true, c.len.ensures)

pub loop-i-preserved : goal.loop-i-preserved
loop-i-preserved c =
    let n = length c.args.graph.now in
    let next = next_of c.args.graph.now in
    let here : c.loop-i.i < length c.loop-i.found.items = omega (arith, c.loop-i-test.true, c.len.ensures) in
    rw c.in_ok-go_on-2.ensures
    (searched next c.args.from n c.loop-i.i c.index-at.result.now (c.loop-i.marks.items, c.loop-i.found.items) c.loop-i.invariant (get_at c.loop-i.found.items c.loop-i.i c.index-at.result.now here c.index-at.ensures) here
    (next_within c.args.graph.now n c.requires.range c.index-at.result.now))

pub returns : goal.returns
returns c =
    let p = c.loop-i.invariant in
    let long = p.finds.long in
    let there = whole (next_of c.args.graph.now) c.args.from (length c.args.graph.now) c.loop-i.i c.args.to (c.loop-i.marks.items, c.loop-i.found.items) p (omega (arith, c.loop-i-test.false, c.len.ensures)) in
    let read : get_or c.loop-i.marks.items c.args.to false ≡ c.index.result.now = get_any c.loop-i.marks.items c.args.to c.index.result.now false (omega (arith, long, c.requires.to)) c.index.ensures in
    (λ t. there.0 (read ∙ t), λ r. sym read ∙ there.1 r)
