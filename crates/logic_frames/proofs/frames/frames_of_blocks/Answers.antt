use Rattle.std.proofs.Common.{◌≡◌, ◌∙◌, ◌<◌, ap, sym, subst, length, map, get_or, set, rules, arith, ◌∷◌, []}
use Rattle.std.specs.Prelude.{slice_get}
use Rattle.std.proofs.lemmas.List.{length-map, length-append, length-set, take_all}
use Rattle.std.proofs.lemmas.Option.{slice_get-get_or}
use Rattle.st_blocks.specs.Chains.{Among}
use Rattle.logic_source.specs.Source.{view_routine}
use Rattle.logic_source.specs.Blocks.{AreBelow, DeclaresThere}
use Rattle.logic_source.specs.Layout.{AreNamedApart}
use Rattle.logic_source.proofs.Layouts.{all_at}
use Rattle.logic_frames.specs.Frames.{framed}
use Rattle.logic_seats.specs.declared.seats.Callee.{Callee}
use Rattle.logic_frames.specs.Reached.{flagged}
use Rattle.logic_frames.specs.Built.{IsMade, IsSized, IsFitting, AreBuilt}
use Rattle.logic_frames.proofs.Built.{routine_at}
use Rattle.logic_frames.proofs.Sizes.{AreSized, none_sized, sized_more, frame_fits, fresh}
use Rattle.logic_frames.proofs.Tables.{built_none, built_more, listed}
use Rattle.logic_frames.proofs.frames.frames_of_blocks.Goals as goal

pub offset_bounds-blocks-number : goal.offset_bounds-blocks-number
offset_bounds-blocks-number c =
    let a = get_or c.args.order.now c.loop-number.number-index 0 in
    let l = listed (map view_routine c.args.blocks.now) c.args.order.now c.requires.below c.loop-number.number-index c.loop-number-test.true in
    let m = length-map c.args.blocks.now view_routine in
    let less : a < length c.args.blocks.now = omega (arith, l, m) in
    search rules

pub bounds-blocks-number : goal.bounds-blocks-number
bounds-blocks-number c =
    let l = listed (map view_routine c.args.blocks.now) c.args.order.now c.requires.below c.loop-number.number-index c.loop-number-test.true in
    let m = length-map c.args.blocks.now view_routine in
    omega (arith, l, m)

pub frame_of_block-requires-clause-apart : goal.frame_of_block-requires-clause-apart
frame_of_block-requires-clause-apart c =
    let blocks = c.args.blocks.now in
    let block = c.index-blocks-number.result in
    let a = get_or c.args.order.now c.loop-number.number-index 0 in
    let l = listed (map view_routine blocks) c.args.order.now c.requires.below c.loop-number.number-index c.loop-number-test.true in
    let m = length-map blocks view_routine in
    let less : a < length blocks = omega (arith, l, m) in
    all_at AreNamedApart (map view_routine blocks) a (view_routine block) c.requires.apart (routine_at blocks a block less c.index-blocks-number.is)

pub frame_of_block-requires-clause-fitting : goal.frame_of_block-requires-clause-fitting
frame_of_block-requires-clause-fitting c = λ on.
    let plain = map view_routine c.args.blocks.now in
    let source = c.requires.measured.0 in
    let same = c.requires.measured.1 in
    let order = c.args.order.now in
    let used = c.args.used.now in
    let run = c.args.run.now in
    let k = c.loop-number.number-index in
    let a = get_or order k 0 in
    let table = c.loop-number.table.items in
    let block = c.index-blocks-number.result in
    let r = view_routine block in
    let l = listed plain order c.requires.below k c.loop-number-test.true in
    let m = length-map c.args.blocks.now view_routine in
    let less : a < length c.args.blocks.now = omega (arith, l, m) in
    let there = routine_at c.args.blocks.now a block less c.index-blocks-number.is in
    let fits : IsFitting table (framed (flagged run a) r) =
    frame_fits source c.args.globals.now c.args.members.now order used run c.requires.measured.2 (subst (λ bs. AreBelow bs order) (sym same) c.requires.below) k a r table
    (subst (λ bs. AreSized bs order used run k table) (sym same) c.loop-number.invariant.sized) (slice_get-get_or order k 0 c.loop-number-test.true) (ap (λ bs. slice_get bs a) same ∙ there)
    (λ n declares. subst (λ bs. n < length bs) (sym same) (all_at (DeclaresThere plain) plain a r c.requires.types there n declares)) (sym c.flagged-is_used.ensures ∙ on) in
    subst (λ b. IsFitting c.deref.result.now (framed b r)) (sym c.flagged-is_run.ensures) (subst (λ t. IsFitting t (framed (flagged run a) r)) (sym c.deref.ensures.value) fits)

pub index_mut-requires : goal.index_mut-requires
index_mut-requires c =
    let a = get_or c.args.order.now c.loop-number.number-index 0 in
    let l = listed (map view_routine c.args.blocks.now) c.args.order.now c.requires.below c.loop-number.number-index c.loop-number-test.true in
    let m = length-map c.args.blocks.now view_routine in
    let long = c.loop-number.invariant.long in
    let less : a < length c.loop-number.table.items = omega (arith, l, m, long) in
    search rules

pub loop-number-init : goal.loop-number-init
loop-number-init c =
    let frames = c.new-frames.ensures.items in
    let long = c.in_ok-table.ensures in
    record {
      many = ap length frames;
      long = long;
      sized = none_sized (map view_routine c.args.blocks.now) c.args.order.now c.args.used.now c.args.run.now c.in_ok-table.table.items;
      built = λ source same of are_used. built_none source c.args.order.now c.args.used.now c.args.run.now _ c.in_ok-table.table.items frames (long ∙ sym (length-map c.args.blocks.now view_routine) ∙ ap length (sym same));
    }

pub loop-number-preserved : goal.loop-number-preserved
loop-number-preserved c =
    let plain = map view_routine c.args.blocks.now in
    let order = c.args.order.now in
    let used = c.args.used.now in
    let run = c.args.run.now in
    let k = c.loop-number.number-index in
    let a = get_or order k 0 in
    let frames = c.loop-number.frames.items in
    let table = c.loop-number.table.items in
    let frame = c.in_ok-frame.frame in
    let end = c.in_ok-frame.extent in
    let block = c.index-blocks-number.result in
    let r = view_routine block in
    let l = listed plain order c.requires.below k c.loop-number-test.true in
    let m = length-map c.args.blocks.now view_routine in
    let less : a < length c.args.blocks.now = omega (arith, l, m) in
    let there = routine_at c.args.blocks.now a block less c.index-blocks-number.is in
    let pushed = c.in_ok-push.ensures.items in
    let more = ap length pushed in
    let sum = length-append frames (frame ∷ []) in
    let many = c.loop-number.invariant.many in
    let is_used = c.flagged-is_used.ensures in
    let is_run = c.flagged-is_run.ensures in
    let place : c.len-place.result ≡ k = let e = c.len-place.ensures in omega (arith, e, many) in
    let callee : Callee = record { extent = end; place = c.len-place.result; has_starts = frame.has_starts } in
    let at = slice_get-get_or order k 0 c.loop-number-test.true in
    let real = c.requires.measured.0 in
    let real_is = c.requires.measured.1 in
    let given = c.requires.measured.2 in
    let real_below = subst (λ bs. AreBelow bs order) (sym real_is) c.requires.below in
    let real_there = ap (λ bs. slice_get bs a) real_is ∙ there in
    let long = c.loop-number.invariant.long in
    let inside : a < length table = omega (arith, less, long) in
    record {
      sized = sized_more plain order used run k a table callee c.loop-number.invariant.sized at
          (λ on.
          subst (λ bs. IsSized bs run (set table a callee) a) real_is
          (fresh real c.args.globals.now c.args.members.now order used run given real_below k a r table (subst (λ bs. AreSized bs order used run k table) (sym real_is) c.loop-number.invariant.sized) at real_there
          (λ n declares. subst (λ bs. n < length bs) (sym real_is) (all_at (DeclaresThere plain) plain a r c.requires.types there n declares)) on callee inside
          (subst (λ b. IsMade real table (framed b r) frame end) is_run (subst (λ t. IsMade real t (framed c.flagged-is_run.result r) frame end) c.deref.ensures.value (c.in_ok-frame.ensures.used (is_used ∙ on) real given.of c.in_ok-frame.ensures.few))).end_is
          (c.block_type_has_values.ensures real.blocks order a r real_below real_there) (c.block_type_has_clocks.ensures real.blocks order a r real_below real_there)));
      many = omega (arith, more, sum, many);
      long = length-set table a (record { extent = end; place = c.len-place.result; has_starts = frame.has_starts }) ∙ c.loop-number.invariant.long;
      built = λ source same of are_used.
          let below = subst (λ bs. AreBelow bs order) (sym same) c.requires.below in
          built_more source order used run below are_used (λ n p is. c.block_type_has_values.ensures source.blocks order n p below is) (λ n p is. c.block_type_has_clocks.ensures source.blocks order n p below is)
          k a r frames c.push.new.self.items table (set table a (record { extent = end; place = c.len-place.result; has_starts = frame.has_starts })) frame end (c.loop-number.invariant.built source same of are_used)
          (slice_get-get_or order k 0 c.loop-number-test.true) (ap (λ bs. slice_get bs a) same ∙ there)
          (λ n declares. subst (λ bs. n < length bs) (sym same) (all_at (DeclaresThere plain) plain a r c.requires.types there n declares))
          (λ on. subst (λ b. IsMade source table (framed b r) frame end) is_run (subst (λ t. IsMade source t (framed c.flagged-is_run.result r) frame end) c.deref.ensures.value (c.in_ok-frame.ensures.used (is_used ∙ on) source of c.in_ok-frame.ensures.few)))
          (λ off. c.in_ok-frame.ensures.unused (is_used ∙ off)) pushed (ap (λ p. set table a (record { extent = end; place = p; has_starts = frame.has_starts })) place);
    }

pub returns-clause-sized : goal.returns-clause-sized
returns-clause-sized c = λ n within on.
    let past = c.loop-number-test.false in
    let many = length-map c.args.blocks.now view_routine in
    let order = c.args.order.now in
    c.loop-number.invariant.sized n (subst (λ l. Among l n) (sym (take_all c.loop-number.number-index order past)) (c.requires.below.whole n (omega (arith, within, many)))) on

pub returns-clause-built : goal.returns-clause-built
returns-clause-built c = λ source same of are_used.
    let past = c.loop-number-test.false in
    let most = c.loop-number.auto.number-index-end in
    let whole : c.loop-number.number-index ≡ length c.args.order.now = omega (arith, past, most) in
    subst (λ n. AreBuilt source c.args.order.now c.args.used.now c.args.run.now n c.loop-number.frames.items c.loop-number.table.items) whole (c.loop-number.invariant.built source same of are_used)
