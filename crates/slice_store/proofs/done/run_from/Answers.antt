use Rattle.std.proofs.Common.{◌≡◌, ◌<◌, length, ap, sym, ◌∙◌, subst, arith}
use Rattle.std.specs.Prelude.{IfErr}
use Rattle.logic_cells.specs.Cells.{PlainCells}
use Rattle.acc_vm.specs.Codes.{PlainCode, run_of}
use Rattle.vm_slices.specs.Parts.{PlainPart}
use Rattle.slice_store.proofs.done.run_from.Goals as goal

pub run_in-result-requires-clause-values : goal.run_in-result-requires-clause-values
run_in-result-requires-clause-values c =
    let can = c.part.ensures.runs in
    let same : c.code.result.now ≡ c.args.start.now.part.code = c.code.ensures.is ∙ ap (λ (p : PlainPart). p.code) c.part.ensures.is in
    let v : c.code.result.now.values ≡ c.args.start.now.part.code.values = ap (λ (x : PlainCode). x.values) same in
    let k : length c.args.cells.now.values ≡ length c.args.start.now.cells.values = ap (λ (x : PlainCells). length x.values) c.requires.cells in
    let a = can.part.values in let b = can.values in omega arith

pub run_in-result-requires-clause-clocks : goal.run_in-result-requires-clause-clocks
run_in-result-requires-clause-clocks c =
    let can = c.part.ensures.runs in
    let same : c.code.result.now ≡ c.args.start.now.part.code = c.code.ensures.is ∙ ap (λ (p : PlainPart). p.code) c.part.ensures.is in
    let v : c.code.result.now.clocks ≡ c.args.start.now.part.code.clocks = ap (λ (x : PlainCode). x.clocks) same in
    let k : length c.args.cells.now.clocks ≡ length c.args.start.now.cells.clocks = ap (λ (x : PlainCells). length x.clocks) c.requires.cells in
    let a = can.part.clocks in let b = can.clocks in omega arith

pub run_in-result-requires-clause-room : goal.run_in-result-requires-clause-room
run_in-result-requires-clause-room c =
    let same : c.code.result.now ≡ c.args.start.now.part.code = c.code.ensures.is ∙ ap (λ (p : PlainPart). p.code) c.part.ensures.is in
    let v : c.code.result.now.stack ≡ c.args.start.now.part.code.stack = ap (λ (x : PlainCode). x.stack) same in
    let a = c.requires.room in omega arith

pub returns : goal.returns
returns c =
    let same : c.code.result.now ≡ c.args.start.now.part.code = c.code.ensures.is ∙ ap (λ (p : PlainPart). p.code) c.part.ensures.is in
    let shape = c.run_in-result.ensures.shape in
    record {
      ran = λ names. (_, (λ i. run_of (sym c.moment.ensures i) names (sym same i) (sym c.requires.cells i)) ∙ c.run_in-result.ensures.ran names);
      shape = record { values = shape.values ∙ ap (λ (x : PlainCells). length x.values) c.requires.cells; clocks = shape.clocks ∙ ap (λ (x : PlainCells). length x.clocks) c.requires.cells };
      path = subst (λ (x : PlainCode). IfErr c.run_in-result.result.0 (λ stop. stop.place.path < x.paths)) same c.run_in-result.ensures.path;
    }
