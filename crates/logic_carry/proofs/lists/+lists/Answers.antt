use Rattle.std.proofs.Common.{◌≡◌, ◌∙◌, ◌+◌, ◌-◌, ◌<◌, ◌++◌, suc, List, [], ◌∷◌, Some, None, length, slice_get, slice_index_or, arith, append-nil, ap, sym, subst, refl}
use Rattle.std.proofs.lemmas.Result.{on_ok_weaker}
use Rattle.std.proofs.lemmas.Option.{slice_get-get_or}
use Rattle.plant_types.specs.Words.{folded}
use Rattle.logic_source.specs.declared.logic.BlockRef.TheVariants.{Ton}
use Rattle.logic_source.specs.declared.logic.Instance.{Instance}
use Rattle.logic_source.specs.Layout.{block_clocks, instance_clocks, clocks_rule}
use Rattle.logic_source.specs.Ranges.{local_kinds, row_kinds, own_kinds, block_kinds, instance_kinds, kinds_rule}
use Rattle.logic_carry.specs.declared.words.Own.{Own}
use Rattle.logic_carry.specs.declared.words.OwnRow.{OwnRow}
use Rattle.logic_carry.specs.declared.words.NamedInstance.{NamedInstance}
use Rattle.logic_carry.specs.Marks.{is_marked}
use Rattle.logic_carry.specs.Shapes.{AreOwn, AreRows, AreParts}
use Rattle.logic_carry.specs.Lists.{Adds, numbers_in}
use Rattle.logic_carry.proofs.Tables.{grows_none, at_later}
use Rattle.logic_carry.proofs.Naming.{shape_at, shapes_count}
use Rattle.logic_carry.proofs.Listing.{lists_none, lists_grown, path_below}
use Rattle.logic_carry.proofs.Empty.{part_none}
use Rattle.logic_carry.proofs.Stepping.{deep_kinds, deep_clocks, part_step, parts_all, kinds_deeper, clocks_deeper, kinds_past, clocks_past, kinds_flat, clocks_flat, kinds_at_depth, clocks_at_depth, past_end}
use Rattle.logic_carry.proofs.lists.+lists.Goals as goal
use Rattle.logic_carry.proofs.lists.+lists.Goals.{list_block-then-depth-eq0-via-then-depth-eq0, list_block-then-depth-eq0-via-else-depth-eq0+then-number-len}

-- nothing is there, and nothing is listed
pub list_block-returns-then-depth-eq0-clause-lists : goal.list_block-returns-then-depth-eq0-clause-lists
list_block-returns-then-depth-eq0-clause-lists t c = λ words blocks q are at_q.
    let before = c.args.listed.now in
    let n = c.in-Declared.number in
    let nothing : (deep_kinds blocks c.args.depth n q ≡ []) × (deep_clocks blocks c.args.depth n q ≡ []) = elim c.then-depth-eq0.branch [
      | list_block-then-depth-eq0-via-then-depth-eq0 w ↦ (kinds_flat blocks c.args.depth n q w.if-depth-eq0.true, clocks_flat blocks c.args.depth n q w.if-depth-eq0.true)
      | list_block-then-depth-eq0-via-else-depth-eq0+then-number-len w ↦
          let many = shapes_count words c.args.table.now.blocks.items blocks are.blocks_are in
          let none : slice_get blocks n ≡ None = past_end blocks n (omega (arith, many, w.if-number-len.true, w.len.ensures, c.args.table.now.blocks.ok.0)) in
          (kinds_past blocks c.args.depth n q none, clocks_past blocks c.args.depth n q none)
    ] in
    let kinds : block_kinds (deep_kinds blocks c.args.depth) c.args.of q ≡ [] = ap (λ of. block_kinds (deep_kinds blocks c.args.depth) of q) c.in-Declared.is ∙ nothing.0 in
    let clocks : block_clocks (deep_clocks blocks c.args.depth) c.args.of q ≡ [] = ap (λ of. block_clocks (deep_clocks blocks c.args.depth) of q) c.in-Declared.is ∙ nothing.1 in
    subst (λ ks. Adds words before before ks (block_clocks (deep_clocks blocks c.args.depth) c.args.of q)) (sym kinds)
    (subst (λ cs. Adds words before before [] cs) (sym clocks) (lists_none words (numbers_in before) before.values.items before.standards.items))

pub list_block-returns-else-number-len-clause-lists : goal.list_block-returns-else-number-len-clause-lists
list_block-returns-else-number-len-clause-lists t c = on_ok_weaker c.list_routine.result (λ f. λ words blocks q are at_q.
    let before = c.args.listed.now in
    let later = c.list_routine.new.listed in
    let n = c.in-Declared.number in
    let shapes = c.args.table.now.blocks.items in
    let less : c.args.depth - 1 + 1 ≡ c.args.depth = omega (arith, c.if-depth-eq0.false) in
    let there : n < length shapes = omega (arith, c.if-number-len.false, c.len.ensures, c.args.table.now.blocks.ok.0) in
    let at : slice_get shapes n ≡ Some c.index.result.now = slice_get-get_or shapes n c.index.result.now there ∙ ap Some (sym c.index.ensures) in
    let r = shape_at words shapes blocks n c.index.result.now are.blocks_are at in
    let depth : suc (c.args.depth - 1) ≡ c.args.depth = omega (arith, less) in
    let kinds : kinds_rule (deep_kinds blocks (c.args.depth - 1)) r.0 q ≡ block_kinds (deep_kinds blocks c.args.depth) c.args.of q =
    sym (kinds_deeper blocks (c.args.depth - 1) n r.0 q r.1) ∙ kinds_at_depth blocks (suc (c.args.depth - 1)) c.args.depth n q depth ∙ ap (λ of. block_kinds (deep_kinds blocks c.args.depth) of q) (sym c.in-Declared.is) in
    let clocks : clocks_rule (deep_clocks blocks (c.args.depth - 1)) r.0 q ≡ block_clocks (deep_clocks blocks c.args.depth) c.args.of q =
    sym (clocks_deeper blocks (c.args.depth - 1) n r.0 q r.1) ∙ clocks_at_depth blocks (suc (c.args.depth - 1)) c.args.depth n q depth ∙ ap (λ of. block_clocks (deep_clocks blocks c.args.depth) of q) (sym c.in-Declared.is) in
    subst (λ ks. Adds words before later ks (block_clocks (deep_clocks blocks c.args.depth) c.args.of q)) kinds
    (subst (λ cs. Adds words before later (kinds_rule (deep_kinds blocks (c.args.depth - 1)) r.0 q) cs) clocks (f words blocks r.0 q are r.2 at_q))) c.list_routine.ensures.lists

pub list_routine-loop-part-init : goal.list_routine-loop-part-init
list_routine-loop-part-init t c = record {
  numbered = c.in_ok-list_rows.ensures.numbered;
  lists = λ words blocks r q are is at_q.
      let before = c.args.listed.now in
      let mid = c.list_own.new.listed in
      let later = c.list_rows.new.listed in
      let own = c.in_ok-list_own.ensures.lists words r.locals q (subst (λ (xs : List Own). AreOwn words xs r.locals) (sym c.deref.ensures.value) is.own) at_q in
      let rows = c.in_ok-list_rows.ensures.lists words r.rows q (subst (λ (xs : List OwnRow). AreRows words xs r.rows) (sym c.deref-2.ensures.value) is.rows) (at_later words words (numbers_in before) (numbers_in mid) (grows_none words) own.grows c.args.path q at_q) in
      lists_grown words (numbers_in before) (numbers_in mid) (numbers_in mid) (numbers_in later) before.values.items mid.values.items later.values.items before.standards.items mid.standards.items later.standards.items
      (local_kinds r.locals q) (row_kinds r.rows q) (own_kinds r q ++ []) [] [] [] own (grows_none (numbers_in mid)) rows (append-nil (own_kinds r q)) refl;
}

pub list_routine-loop-part-preserved : goal.list_routine-loop-part-preserved
list_routine-loop-part-preserved t c =
    let parts = c.deref-part-items.result.now in
    let n = c.loop-part.part-index in
    let p : NamedInstance = slice_index_or parts n (record { word = 0; of = Ton }) in
    let at : slice_get parts n ≡ Some p = slice_get-get_or parts n (record { word = 0; of = Ton }) (omega (arith, c.loop-part-test.true)) in
    let before = c.args.listed.now in
    let old = c.loop-part.listed in
    let later = c.list_part.new.listed in
    record {
      numbered = c.in_ok-list_part.ensures.numbered;
      lists = λ words blocks r q are is at_q.
          part_step words (numbers_in before) (numbers_in old) (numbers_in later) before.values.items old.values.items before.standards.items old.standards.items c.args.path 0 q n (numbers_in later) later.values.items later.standards.items blocks c.args.depth r parts p
          (subst (λ (xs : List NamedInstance). AreParts words xs r.instances) (sym c.deref-part-items.ensures.value) is.parts) at at_q
          (c.loop-part.invariant.lists words blocks r q are is at_q) (λ i it here. c.in_ok-list_part.ensures.lists words blocks i q are it here);
    }

-- what holds nothing is passed over
pub list_part-returns-then-is_marked-clause-lists : goal.list_part-returns-then-is_marked-clause-lists
list_part-returns-then-is_marked-clause-lists t c = λ words blocks i q are it at_q.
    let before = c.args.listed.now in
    let nothing = part_none words c.args.table.now blocks are c.args.depth i.of (folded i.name ∷ q) (ap (is_marked c.args.table.now.marks.items) (sym it.of_is) ∙ ap (λ marks. is_marked marks c.args.part.of) (sym c.deref.ensures.value) ∙ sym c.is_marked.ensures ∙ c.if-is_marked.true) in
    subst (λ ks. Adds words before before ks (block_clocks (deep_clocks blocks c.args.depth) i.of (folded i.name ∷ q))) (sym nothing.0)
    (subst (λ cs. Adds words before before [] cs) (sym nothing.1) (lists_none words (numbers_in before) before.values.items before.standards.items))

pub list_part-returns-clause-lists : goal.list_part-returns-clause-lists
list_part-returns-clause-lists t c = on_ok_weaker c.list_block.result (λ f. λ words blocks i q are it at_q.
    let before = c.args.listed.now in
    let old = numbers_in before in
    let new = numbers_in (record { numbers = c.path_number.new.numbers; values = before.values; standards = before.standards }) in
    let later = c.list_block.new.listed in
    let inside = folded i.name ∷ q in
    let here = path_below words old new c.args.path c.in_ok-below.below q i.name c.args.part.word at_q it.named c.in_ok-below.ensures.grows c.in_ok-below.ensures.number in
    lists_grown words old old new (numbers_in later) before.values.items before.values.items later.values.items before.standards.items before.standards.items later.standards.items
    [] (block_kinds (deep_kinds blocks c.args.depth) c.args.part.of inside) (block_kinds (deep_kinds blocks c.args.depth) i.of inside)
    [] (block_clocks (deep_clocks blocks c.args.depth) c.args.part.of inside) (block_clocks (deep_clocks blocks c.args.depth) i.of inside)
    (lists_none words old before.values.items before.standards.items) c.in_ok-below.ensures.grows (f words blocks inside are here)
    (ap (λ of. block_kinds (deep_kinds blocks c.args.depth) of inside) (sym it.of_is)) (ap (λ of. block_clocks (deep_clocks blocks c.args.depth) of inside) (sym it.of_is))) c.list_block.ensures.lists

pub list_routine-returns-clause-lists : goal.list_routine-returns-clause-lists
list_routine-returns-clause-lists t c = λ words blocks r q are is at_q.
    let parts = c.deref-part-items.result.now in
    let whole = parts_all words parts r.instances c.loop-part.part-index (subst (λ (xs : List NamedInstance). AreParts words xs r.instances) (sym c.deref-part-items.ensures.value) is.parts) (omega (arith, c.loop-part-test.false)) in
    subst (λ (is : List Instance). Adds words c.args.listed.now c.loop-part.listed (own_kinds r q ++ instance_kinds (deep_kinds blocks c.args.depth) is q) (instance_clocks (deep_clocks blocks c.args.depth) is q)) whole
    (c.loop-part.invariant.lists words blocks r q are is at_q)
