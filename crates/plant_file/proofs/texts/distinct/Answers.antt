use Rattle.std.proofs.Common.{refl, ℕ, List, [], ◌∷◌, ◌++◌, get_or, Bor}
use Rattle.std.specs.List.{list_any}
use Rattle.std.specs.Str.{bytes_eq}
use Rattle.plant_file.proofs.Seen.{gone_more, gone_again, bytes_symmetric, grown, was_new, was_there}
use Rattle.plant_file.proofs.texts.distinct.Goals as goal

abbrev none : Bor (List ℕ)
none = record { ref_ptr = (0, 0); now = [] }

pub returns-then-not-branch : goal.returns-then-not-branch
returns-then-not-branch c =
    let text = get_or c.args.texts.now c.loop-text.text-index none in
    let there = was_there c.in_ok-add.field-0 (list_any (bytes_eq text.now) c.loop-text.found) c.in_ok-add.ensures.added c.if-not-branch.true in
    rw (gone_again bytes_eq bytes_symmetric (λ (t : Bor (List ℕ)). t.now) c.args.texts.now c.loop-text.text-index none text c.loop-text.found c.loop-text-test.true refl c.loop-text.invariant there) refl

pub loop-text-preserved : goal.loop-text-preserved
loop-text-preserved c =
    let text = get_or c.args.texts.now c.loop-text.text-index none in
    let free = was_new c.in_ok-add.field-0 (list_any (bytes_eq text.now) c.loop-text.found) c.in_ok-add.ensures.added c.if-not-branch.false in
    let more = grown c.in_ok-add.field-0 (c.loop-text.found ++ text.now ∷ []) c.loop-text.found c.add.new.self c.in_ok-add.ensures.texts c.if-not-branch.false in
    gone_more bytes_eq bytes_symmetric (λ (t : Bor (List ℕ)). t.now) c.args.texts.now c.loop-text.text-index none text c.loop-text.found c.add.new.self c.loop-text-test.true refl c.loop-text.invariant free more
