use Rattle.std.proofs.Common.{◌≡◌, ◌-◌, set, length, ap, sym, ◌∙◌, subst, arith}
use Rattle.logic_cells.specs.Cells.{PlainCells}
use Rattle.vm_slices.specs.Parts.{PlainPart, IsPart, HasPart}
use Rattle.std.specs.Arc.{arc_value}
use Rattle.std.proofs.lemmas.Grind.{common_steps}
use Rattle.slice_store.specs.declared.done.Run.{Run}
use Rattle.slice_store.specs.Starts.{Begun, CanRun, Gives}
use Rattle.slice_store.specs.Level.{PutsPart, trapped}
use Rattle.slice_store.proofs.Taking.{takes_one, trapped_is}
use Rattle.slice_store.proofs.done.Done.take_into.Goals as goal

pub put_part-requires : goal.put_part-requires
put_part-requires c =
    let s : c.deref-2.result.now ≡ c.args.self.now = c.deref-2.ensures ∙ ap (λ (r : Run). arc_value r.start) c.deref.ensures ∙ c.self.view_is in
    let p : c.part.result.now ≡ c.args.self.now.part = c.part.ensures.is ∙ ap (λ (s : Begun). s.part) s in
    let can : CanRun c.args.self.now = subst CanRun s c.part.ensures.runs in
    record {
      part = subst IsPart (sym p) can.part;
      inside = subst (λ (x : PlainPart). HasPart x (record { values = c.args.values.now; clocks = c.args.clocks.now })) (sym p) c.requires.inside;
      values = ap (λ (r : Run). length r.cells.values) c.deref.ensures ∙ c.self.invariant.shape.values ∙ ap (λ (s : Begun). length s.cells.values) c.self.view_is ∙ can.values ∙ ap (λ (x : PlainPart). length x.slots) (sym p);
      clocks = ap (λ (r : Run). length r.cells.clocks) c.deref.ensures ∙ c.self.invariant.shape.clocks ∙ ap (λ (s : Begun). length s.cells.clocks) c.self.view_is ∙ can.clocks ∙ ap (λ (x : PlainPart). length x.clocks) (sym p);
    }

pub returns : goal.returns
returns c =
    let s : c.deref-2.result.now ≡ c.args.self.now = c.deref-2.ensures ∙ ap (λ (r : Run). arc_value r.start) c.deref.ensures ∙ c.self.view_is in
    let p : c.part.result.now ≡ c.args.self.now.part = c.part.ensures.is ∙ ap (λ (s : Begun). s.part) s in
    let old : PlainCells = record { values = c.args.values.now; clocks = c.args.clocks.now } in
    let new : PlainCells = record { values = c.put_part.new.values; clocks = c.put_part.new.clocks } in
    let held : Gives c.args.self.now c.self.inside.run.value.result c.self.inside.run.value.cells
    = subst (λ (s : Begun). Gives s c.self.inside.run.value.result c.self.inside.run.value.cells) c.self.view_is c.self.invariant in
    let gives : Gives c.args.self.now c.deref.result.now.result c.deref.result.now.cells = subst (λ (r : Run). Gives c.args.self.now r.result r.cells) (sym c.deref.ensures) held in
    let puts : PutsPart c.args.self.now.part c.deref.result.now.cells old new = subst (λ (x : PlainPart). PutsPart x c.deref.result.now.cells old new) p c.put_part.ensures in
    let n : c.number.result ≡ c.args.self.now.number = c.number.ensures ∙ ap (λ (s : Begun). s.number) (c.deref-3.ensures ∙ ap (λ (r : Run). arc_value r.start) c.deref.ensures ∙ c.self.view_is) in
    let t : c.is_err.result ≡ trapped c.deref.result.now.result = c.is_err.ensures.value ∙ trapped_is c.deref.result.now.result in
    let flags : set c.args.faulted.now (c.number.result - 1) c.is_err.result ≡ set c.args.faulted.now (c.args.self.now.number - 1) (trapped c.deref.result.now.result) = λ i. set c.args.faulted.now (n i - 1) (t i) in
    takes_one c.args.self.now c.deref.result.now.result c.deref.result.now.cells c.args.values.now c.put_part.new.values c.args.clocks.now c.put_part.new.clocks c.args.faulted.now
    (set c.args.faulted.now (c.number.result - 1) c.is_err.result) gives puts c.requires.numbered.0 c.requires.numbered.1 flags

pub bounds-faulted-program : goal.bounds-faulted-program
bounds-faulted-program c = grind (arith, common_steps)

pub overflow_sub-program : goal.overflow_sub-program
overflow_sub-program c = grind (arith, common_steps)
