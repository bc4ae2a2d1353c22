use Rattle.std.proofs.Common.{ap, ◌∙◌, subst}
use Rattle.level_plan.specs.declared.access.Extent.{Extent}
use Rattle.std.proofs.Common.{List}
use Rattle.level_plan.specs.Accesses.{PlainAccess, HaveGlobal}
use Rattle.level_plan.specs.Tables.{IsTop}
use Rattle.level_plan.proofs.Tops.{top_joined}
use Rattle.level_plan.proofs.tables.top_before.Goals as goal

pub returns : goal.returns
returns c =
    let reads = ap (λ (a : PlainAccess). a.reads) c.access.view_is in
    let writes = ap (λ (a : PlainAccess). a.writes) c.access.view_is in
    rw (c.max-2.ensures, c.max.ensures) (top_joined c.args.writers.now c.args.readers.now c.args.access.now c.top_at.result c.top_at-2.result c.top_at-3.result
    (subst (λ (xs : List Extent). IsTop (HaveGlobal xs) c.args.writers.now c.top_at.result) (c.deref.ensures.value ∙ reads) c.top_at.ensures)
    (subst (λ (xs : List Extent). IsTop (HaveGlobal xs) c.args.writers.now c.top_at-2.result) (c.deref-2.ensures.value ∙ writes) c.top_at-2.ensures)
    (subst (λ (xs : List Extent). IsTop (HaveGlobal xs) c.args.readers.now c.top_at-3.result) (c.deref-3.ensures.value ∙ writes) c.top_at-3.ensures))
