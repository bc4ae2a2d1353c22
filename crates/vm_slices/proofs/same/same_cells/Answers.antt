use Rattle.std.proofs.Common.{◌≡◌, true, false, refl, ap, sym, ◌∙◌}
use Rattle.logic_cells.specs.Cells.{PlainCells}
use Rattle.vm_slices.proofs.same.same_cells.Goals as goal

pub returns-then-same_values : goal.returns-then-same_values
returns-then-same_values c = (
  λ t.
      let v : c.args.a.now.values ≡ c.args.b.now.values = sym c.as_slice.ensures ∙ c.if-same_values.ensures.0 refl ∙ c.as_slice-2.ensures in
      let k : c.args.a.now.clocks ≡ c.args.b.now.clocks = sym c.clocks.ensures ∙ c.same_clocks.ensures.0 t ∙ c.clocks-then-same_values.ensures in
      λ i. record { values = v i; clocks = k i },
  λ e. c.same_clocks.ensures.1 (c.clocks.ensures ∙ ap (λ (x : PlainCells). x.clocks) e ∙ sym c.clocks-then-same_values.ensures),
)

pub returns-else-same_values : goal.returns-else-same_values
returns-else-same_values c = (
  λ t. let is : c.same_values.result ≡ true = t in let not : c.same_values.result ≡ false = c.if-same_values.false in absurd (cc),
  λ e. c.same_values.ensures.1 (c.as_slice.ensures ∙ ap (λ (x : PlainCells). x.values) e ∙ sym c.as_slice-2.ensures),
)
