use Rattle.std.proofs.Common.{◌≡◌, ◌∙◌, sym, Vec, Global, ℕ, slice_get}
use Rattle.std.proofs.lemmas.Result.{IfOk-weaker}
use Rattle.st_blocks.specs.Names.{numbers_at, row_at}
use Rattle.st_blocks.proofs.Rows.{row_then}
use Rattle.st_blocks.proofs.names.row_of.Goals as goal

pub returns-then-is_first : goal.returns-then-is_first
returns-then-is_first c =
    let blocks = c.args.blocks.now in
    IfOk-weaker c.instances_of.result (λ (row : Vec ℕ Global). row.items ≡ numbers_at blocks (slice_get blocks c.args.a)) (λ (row : Vec ℕ Global). row.items ≡ row_at blocks c.args.a)
    (λ (row : Vec ℕ Global) is. is ∙ sym (row_then blocks c.args.a (sym c.is_first.ensures ∙ c.if-is_first.true))) c.instances_of.ensures
