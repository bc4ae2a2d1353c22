use Rattle.std.proofs.Common.{◌≡◌, ℕ, List, map, length, get_or, sym, ap, ◌∙◌, subst, arith}
use Rattle.std.specs.Prelude.{slice_get}
use Rattle.acc_vm.specs.declared.instr.Instr.{Instr}
use Rattle.acc_vm.specs.Codes.{IsSound}
use Rattle.acc_vm.specs.Operands.{renamed}
use Rattle.vm_slices.specs.Parts.{IsPartOf, AreSlots, AreClocks}
use Rattle.vm_slices.specs.Pieces.{ArePiecesAt}
use Rattle.vm_slices.proofs.Made.{moved_is_sound, is_part_of, part_is, same_code}
use Rattle.vm_slices.proofs.part.relocate.Goals as goal

pub named_slots-requires-clause-there : goal.named_slots-requires-clause-there
named_slots-requires-clause-there c = λ pc i at.
    let h = c.instrs-program.ensures.sound.within pc i (ap (λ xs. slice_get xs pc) (sym c.instrs-program.ensures.is) ∙ at) in
    let n = c.requires.slots in let b = h.0 in omega (arith, n, b)

pub renamed_all-requires-clause-values : goal.renamed_all-requires-clause-values
renamed_all-requires-clause-values c = λ pc i at.
    let h = c.instrs-program.ensures.sound.within pc i (ap (λ xs. slice_get xs pc) (sym c.instrs-program.ensures.is) ∙ at) in
    let n = c.requires.slots in let b = h.0 in let long = c.named_slots.auto.places in omega (arith, n, b, long)

pub named_clocks-requires-clause-there : goal.named_clocks-requires-clause-there
named_clocks-requires-clause-there c = λ pc i at.
    let h = c.instrs-program.ensures.sound.within pc i (ap (λ xs. slice_get xs pc) (sym c.instrs-program.ensures.is) ∙ at) in
    let n = c.requires.clocks in let b = h.1 in omega arith

pub renamed_all-requires-clause-clocks : goal.renamed_all-requires-clause-clocks
renamed_all-requires-clause-clocks c = λ pc i at.
    let h = c.instrs-program.ensures.sound.within pc i (ap (λ xs. slice_get xs pc) (sym c.instrs-program.ensures.is) ∙ at) in
    let n = c.requires.clocks in let b = h.1 in let long = c.named_clocks.auto.places in omega arith

pub new-moved-requires : goal.new-moved-requires
new-moved-requires c =
    let code = c.args.code.now in
    let are : AreSlots code.instrs c.named_slots.new.places c.in_ok-slots.slots.items c.in_ok-slots.written.items
    = subst (λ (p : List Instr). AreSlots p c.named_slots.new.places c.in_ok-slots.slots.items c.in_ok-slots.written.items) c.instrs-program.ensures.is c.in_ok-slots.ensures in
    let clock_are : AreClocks code.instrs c.named_clocks.new.places c.in_ok-clocks.clocks.items
    = subst (λ (p : List Instr). AreClocks p c.named_clocks.new.places c.in_ok-clocks.clocks.items) c.instrs-program.ensures.is c.in_ok-clocks.ensures in
    let by = renamed (λ s. get_or c.named_slots.new.places s 0) (λ k. get_or c.named_clocks.new.places k 0) in
    let moved : c.in_ok-instrs.instrs.items ≡ map by code.instrs = c.in_ok-instrs.ensures ∙ ap (map by) c.instrs-program.ensures.is in
    let slots : c.len.result ≡ length c.in_ok-slots.slots.items = let h = c.len.ensures in let ok = c.in_ok-slots.slots.ok.0 in omega (arith, h, ok) in
    let clocks : c.len-2.result ≡ length c.in_ok-clocks.clocks.items = let h = c.len-2.ensures in let ok = c.in_ok-clocks.clocks.ok.0 in omega (arith, h, ok) in
    subst IsSound
    (sym (same_code code c.named_slots.new.places c.named_clocks.new.places c.in_ok-slots.slots.items c.in_ok-clocks.clocks.items c.in_ok-slots.written.items are clock_are _ _ _ _ _ _ _
    moved (c.in_ok-places.ensures.items ∙ c.places.ensures) c.paths.ensures slots clocks c.stack.ensures c.cost.ensures))
    (moved_is_sound code c.named_slots.new.places c.named_clocks.new.places c.in_ok-slots.slots.items c.in_ok-clocks.clocks.items c.in_ok-slots.written.items are clock_are c.instrs-program.ensures.sound)

pub invariant_of-result : goal.invariant_of-result
invariant_of-result c =
    let code = c.args.code.now in
    let are : AreSlots code.instrs c.named_slots.new.places c.in_ok-slots.slots.items c.in_ok-slots.written.items
    = subst (λ (p : List Instr). AreSlots p c.named_slots.new.places c.in_ok-slots.slots.items c.in_ok-slots.written.items) c.instrs-program.ensures.is c.in_ok-slots.ensures in
    let clock_are : AreClocks code.instrs c.named_clocks.new.places c.in_ok-clocks.clocks.items
    = subst (λ (p : List Instr). AreClocks p c.named_clocks.new.places c.in_ok-clocks.clocks.items) c.instrs-program.ensures.is c.in_ok-clocks.ensures in
    let by = renamed (λ s. get_or c.named_slots.new.places s 0) (λ k. get_or c.named_clocks.new.places k 0) in
    let moved : c.in_ok-instrs.instrs.items ≡ map by code.instrs = c.in_ok-instrs.ensures ∙ ap (map by) c.instrs-program.ensures.is in
    let slots : c.len.result ≡ length c.in_ok-slots.slots.items = let h = c.len.ensures in let ok = c.in_ok-slots.slots.ok.0 in omega (arith, h, ok) in
    let clocks : c.len-2.result ≡ length c.in_ok-clocks.clocks.items = let h = c.len-2.ensures in let ok = c.in_ok-clocks.clocks.ok.0 in omega (arith, h, ok) in
    let is : IsPartOf code (record { code = c.in_ok-printed.printed; slots = c.in_ok-slots.slots.items; written = c.in_ok-slots.written.items; clocks = c.in_ok-clocks.clocks.items })
    = is_part_of code c.named_slots.new.places c.named_clocks.new.places c.in_ok-slots.slots.items c.in_ok-clocks.clocks.items c.in_ok-slots.written.items are clock_are c.in_ok-printed.printed
    (c.in_ok-printed.ensures ∙ c.new-moved.ensures ∙ (same_code code c.named_slots.new.places c.named_clocks.new.places c.in_ok-slots.slots.items c.in_ok-clocks.clocks.items c.in_ok-slots.written.items are clock_are _ _ _ _ _ _ _
    moved (c.in_ok-places.ensures.items ∙ c.places.ensures) c.paths.ensures slots clocks c.stack.ensures c.cost.ensures)) in (
      part_is code (record { code = c.in_ok-printed.printed; slots = c.in_ok-slots.slots.items; written = c.in_ok-slots.written.items; clocks = c.in_ok-clocks.clocks.items }) is,
      record {
        all_are = c.in_ok-pieces.ensures ∙ c.deref.ensures.value;
        put_are =
            subst (λ (w : List ℕ). ArePiecesAt w c.in_ok-slots.slots.items c.in_ok-written_pieces.written_pieces.items) c.deref-2.ensures.value
            (subst (λ (s : List ℕ). ArePiecesAt c.deref-2.result.now s c.in_ok-written_pieces.written_pieces.items) c.deref-3.ensures.value c.in_ok-written_pieces.ensures);
      },
    )

pub pieces_at-requires : goal.pieces_at-requires
pieces_at-requires c = λ i p at.
    let within = c.in_ok-slots.ensures.inside i p (ap (λ xs. slice_get xs i) (sym c.deref-2.ensures.value) ∙ at) in
    omega (arith, within, ap length c.deref-3.ensures.value)

pub returns : goal.returns
returns c =
    let code = c.args.code.now in
    let are : AreSlots code.instrs c.named_slots.new.places c.in_ok-slots.slots.items c.in_ok-slots.written.items
    = subst (λ (p : List Instr). AreSlots p c.named_slots.new.places c.in_ok-slots.slots.items c.in_ok-slots.written.items) c.instrs-program.ensures.is c.in_ok-slots.ensures in
    let clock_are : AreClocks code.instrs c.named_clocks.new.places c.in_ok-clocks.clocks.items
    = subst (λ (p : List Instr). AreClocks p c.named_clocks.new.places c.in_ok-clocks.clocks.items) c.instrs-program.ensures.is c.in_ok-clocks.ensures in
    let by = renamed (λ s. get_or c.named_slots.new.places s 0) (λ k. get_or c.named_clocks.new.places k 0) in
    let moved : c.in_ok-instrs.instrs.items ≡ map by code.instrs = c.in_ok-instrs.ensures ∙ ap (map by) c.instrs-program.ensures.is in
    let slots : c.len.result ≡ length c.in_ok-slots.slots.items = let h = c.len.ensures in let ok = c.in_ok-slots.slots.ok.0 in omega (arith, h, ok) in
    let clocks : c.len-2.result ≡ length c.in_ok-clocks.clocks.items = let h = c.len-2.ensures in let ok = c.in_ok-clocks.clocks.ok.0 in omega (arith, h, ok) in
    let is : IsPartOf code (record { code = c.in_ok-printed.printed; slots = c.in_ok-slots.slots.items; written = c.in_ok-slots.written.items; clocks = c.in_ok-clocks.clocks.items })
    = is_part_of code c.named_slots.new.places c.named_clocks.new.places c.in_ok-slots.slots.items c.in_ok-clocks.clocks.items c.in_ok-slots.written.items are clock_are c.in_ok-printed.printed
    (c.in_ok-printed.ensures ∙ c.new-moved.ensures ∙ (same_code code c.named_slots.new.places c.named_clocks.new.places c.in_ok-slots.slots.items c.in_ok-clocks.clocks.items c.in_ok-slots.written.items are clock_are _ _ _ _ _ _ _
    moved (c.in_ok-places.ensures.items ∙ c.places.ensures) c.paths.ensures slots clocks c.stack.ensures c.cost.ensures)) in
    is
