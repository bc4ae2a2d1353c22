use Rattle.std.proofs.Common.{◌≡◌, sym, map, Vec, Global, ℕ, slice_get, length}
use Rattle.std.proofs.lemmas.Bool.{ltb-true}
use Rattle.std.proofs.lemmas.Result.{IfOk-weaker}
use Rattle.plant_types.specs.Words.{folded}
use Rattle.st_blocks.specs.Names.{number, numbers_at}
use Rattle.st_blocks.proofs.Rows.{words_at, got_at}
use Rattle.st_blocks.proofs.names.instances_of.Goals as goal

pub returns-in-Some : goal.returns-in-Some
returns-in-Some c =
    let blocks = c.args.blocks.now in
    let found = c.in-Some.ensures.lookup in
    IfOk-weaker c.numbers_of.result (λ (row : Vec ℕ Global). row.items ≡ map (λ word. number blocks (folded word.now)) c.instances.result.now) (λ (row : Vec ℕ Global). row.items ≡ numbers_at blocks (slice_get blocks c.args.a))
    (λ (row : Vec ℕ Global) is.
    words_at blocks c.instances.result.now (λ word. word.now) (slice_get blocks c.args.a) c.in-Some.block.now row.items is c.instances.ensures (got_at blocks c.args.a c.in-Some.block.now (ltb-true c.args.a (length blocks) (sym found.0)) found.1))
    c.numbers_of.ensures
