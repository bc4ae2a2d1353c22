use Rattle.std.proofs.Common.{◌≡◌, ◌∙◌, ◌<◌, ap, sym, subst, arith, ℕ, map, length, true, false}
use Rattle.std.specs.List.{All}
use Rattle.std.proofs.lemmas.List.{length-map}
use Rattle.logic_source.specs.Source.{view_routine, source_of}
use Rattle.logic_source.specs.Blocks.{DeclaresThere}
use Rattle.logic_frames.specs.Reached.{flagged, AreReached, reached}
use Rattle.logic_frames.specs.Built.{IsSized, IsFitting, AreBegun}
use Rattle.logic_frames.proofs.Flags.{are_reached}
use Rattle.logic_frames.proofs.Least.{flagged_reached}
use Rattle.logic_frames.proofs.Sizes.{all_measured, programs_fit}
use Rattle.logic_frames.proofs.Programs.{begun_none, begun_all}
use Rattle.logic_frames.proofs.frames.frames_by.Goals as goal

pub frames_of_blocks-requires-clause-types : goal.frames_of_blocks-requires-clause-types
frames_of_blocks-requires-clause-types c = subst (λ bs. All (DeclaresThere (map view_routine bs)) (map view_routine bs)) (sym c.as_slice-blocks.ensures.value) c.requires.types.in_blocks

pub frames_of_blocks-requires-clause-measured : goal.frames_of_blocks-requires-clause-measured
frames_of_blocks-requires-clause-measured c =
    let source = source_of c.args.logic.now in
    let order = c.args.order.now in
    let used_is : c.deref.result.now ≡ reached false source.programs source.blocks order =
    c.deref.ensures.value ∙ c.in_ok-used.ensures ∙ (λ i. reached false (map view_routine (c.as_slice-programs.ensures.value i)) (map view_routine (c.as_slice-blocks.ensures.value i)) order) in
    let run_is : c.deref-2.result.now ≡ reached true source.programs source.blocks order =
    c.deref-2.ensures.value ∙ c.in_ok-run.ensures ∙ (λ i. reached true (map view_routine (c.as_slice-programs.ensures.value i)) (map view_routine (c.as_slice-blocks.ensures.value i)) order) in
    (source, ap (map view_routine) (sym c.as_slice-blocks.ensures.value), all_measured source order c.args.globals.now c.args.members.now c.deref.result.now c.deref-2.result.now c.requires.below c.requires.types c.requires.known c.requires.small used_is run_is)

pub add_programs-requires-clause-fitting : goal.add_programs-requires-clause-fitting
add_programs-requires-clause-fitting c =
    let source = source_of c.args.logic.now in
    let order = c.args.order.now in
    let used_is : c.deref.result.now ≡ reached false source.programs source.blocks order =
    c.deref.ensures.value ∙ c.in_ok-used.ensures ∙ (λ i. reached false (map view_routine (c.as_slice-programs.ensures.value i)) (map view_routine (c.as_slice-blocks.ensures.value i)) order) in
    let run_is : c.deref-2.result.now ≡ reached true source.programs source.blocks order =
    c.deref-2.ensures.value ∙ c.in_ok-run.ensures ∙ (λ i. reached true (map view_routine (c.as_slice-programs.ensures.value i)) (map view_routine (c.as_slice-blocks.ensures.value i)) order) in
    let given = all_measured source order c.args.globals.now c.args.members.now c.deref.result.now c.deref-2.result.now c.requires.below c.requires.types c.requires.known c.requires.small used_is run_is in
    let same : map view_routine c.as_slice-blocks.result.now ≡ source.blocks = ap (map view_routine) c.as_slice-blocks.ensures.value in
    let many = length-map c.as_slice-blocks.result.now view_routine in
    let sized : (n : ℕ) → n < length source.blocks → flagged c.deref.result.now n ≡ true → IsSized source.blocks c.deref-2.result.now c.in_ok-frames.table.items n =
    λ n less on. let long = ap length same in subst (λ bs. IsSized bs c.deref-2.result.now c.in_ok-frames.table.items n) same (c.in_ok-frames.ensures.sized n (omega (arith, less, long, many)) on) in
    subst (λ ps. All (IsFitting c.deref-3.result.now) ps) (ap (map view_routine) (sym c.as_slice-programs.ensures.value))
    (subst (λ t. All (IsFitting t) source.programs) (sym c.deref-3.ensures.value) (programs_fit source c.args.globals.now c.args.members.now c.deref.result.now c.deref-2.result.now c.in_ok-frames.table.items given c.requires.types c.requires.small sized))

pub returns : goal.returns
returns c =
    let logic = c.args.logic.now in
    let source = source_of logic in
    let order = c.args.order.now in
    let frames = c.in_ok-frames.frames.items in
    let later = c.add_programs.new.frames.items in
    let used = c.deref.result.now in
    let run = c.deref-2.result.now in
    let of = c.requires.known in
    let are_used : AreReached false source used =
    subst (AreReached false source)
    (sym (c.deref.ensures.value ∙ c.in_ok-used.ensures ∙ (λ i. reached false (map view_routine (c.as_slice-programs.ensures.value i)) (map view_routine (c.as_slice-blocks.ensures.value i)) order)))
    (are_reached false source order c.requires.below c.requires.types) in
    let run_is : run ≡ reached true source.programs source.blocks order =
    c.deref-2.ensures.value ∙ c.in_ok-run.ensures ∙ (λ i. reached true (map view_routine (c.as_slice-programs.ensures.value i)) (map view_routine (c.as_slice-blocks.ensures.value i)) order) in
    let are_run : AreReached true source run = subst (AreReached true source) (sym run_is) (are_reached true source order c.requires.below c.requires.types) in
    let built = c.in_ok-frames.ensures.built source (ap (map view_routine) (sym c.as_slice-blocks.ensures.value)) of are_used in
    let begun = subst (AreBegun source order used run 0 frames) (sym c.deref-3.ensures.value) (begun_none source order used run frames c.in_ok-frames.table.items c.requires.below built) in
    let all = c.in_ok-add_programs.ensures source order used run (ap (map view_routine) (sym c.as_slice-programs.ensures.value)) of c.requires.types are_used begun in
    let many : length c.as_slice-programs.result.now ≡ length source.programs = ap length c.as_slice-programs.ensures.value ∙ sym (length-map logic.programs.items view_routine) in
    begun_all source order used run later c.deref-3.result.now are_used are_run (λ n on. flagged_reached true source order n (subst (λ l. flagged l n ≡ true) run_is on)) (subst (λ n. AreBegun source order used run n later c.deref-3.result.now) many all)
