use Rattle.std.proofs.Common.{◌≡◌, ◌∙◌, ℕ, suc, ◌+◌, ◌≤◌, ◌<◌, ◌++◌, ◌∷◌, [], ap, sym, subst, length, map, take, drop, get_or, rules, arith, length-append, length-take-le}
use Rattle.std.specs.Vec.Iter.{into_iter_items}
use Rattle.std.proofs.lemmas.List.{length-drop, nil_from_length, take-append-le, take_all}
use Rattle.std.proofs.lemmas.Option.{slice_get_within}
use Rattle.logic_walk.specs.Frames.{AreInTurn}
use Rattle.codegen.specs.Sizes.{frame_turns, frame_cost}
use Rattle.codegen.specs.Counts.{HasFewLines, AreCounts, AreFirst}
use Rattle.codegen.specs.Codes.{code_of, AreSteady}
use Rattle.codegen.specs.Within.{NamesFit}
use Rattle.vm_programs.specs.Folded.{AreFolded}
use Rattle.vm_programs.specs.Codes.{IsCodeOf, IsMade, base_in}
use Rattle.vm_programs.proofs.Tables.{AreSeen, same_length}
use Rattle.vm_programs.proofs.Bodies.{turns_by_constants}
use Rattle.vm_programs.proofs.Kept.{IsKept, few_lines}
use Rattle.vm_programs.proofs.Keeping.{folded_view, folding_keeps}
use Rattle.vm_programs.proofs.Rows.{none_yet, one_more}
use Rattle.vm_programs.proofs.Own.{small_first}
use Rattle.vm_programs.proofs.Programs.{next_of, in_turn, steady, named, few, cost_kept, code_is, made_is}
use Rattle.vm_programs.proofs.codes.codes_of.Goals as goal

pub count_frames-requires : goal.count_frames-requires
count_frames-requires c =
    let kept : IsKept folded_view = folding_keeps c.folded_body_does_same.ensures c.folded_constants_are_literals.ensures.constants (λ called body. c.folded_body_costs_at_most.ensures frame_turns turns_by_constants called body) c.folded_body_weighs_at_most.ensures c.folded_names_stay.ensures in
    let frames = c.args.frames.items in
    let first = c.args.first in
    let front : c.split_off.new.self.items ≡ take first frames = search rules in
    let seen : AreSeen folded_view (take first frames) c.in_ok-folded.folded.items = c.in_ok-folded.ensures ∙ ap (λ fs. map folded_view fs) front in
    subst HasFewLines (sym c.deref.ensures.value) (few_lines folded_view kept (take first frames) c.in_ok-folded.folded.items seen (small_first frames first c.requires.there c.requires.small))

pub loop-program-init : goal.loop-program-init
loop-program-init c =
    let frames = c.args.frames.items in
    let first = c.args.first in
    let front : c.split_off.new.self.items ≡ take first frames = search rules in
    let seen : AreSeen folded_view (take first frames) c.in_ok-folded.folded.items = c.in_ok-folded.ensures ∙ ap (λ fs. map folded_view fs) front in
    let base = λ (n : ℕ). base_in c.args.values.now c.args.clocks.now n in
    let cost = λ (n : ℕ). get_or c.args.costs.now n 0 in
    let none = c.in_ok-codes.ensures.items in
    let start : first + length c.in_ok-codes.codes.items ≡ first = (let many = ap length none in omega (arith, many)) in
    record {
      folded = seen;
      counted = subst (λ fs. AreCounts fs c.in_ok-counts.counts) c.deref.ensures.value c.in_ok-counts.ensures;
      left = ap (λ m. drop m frames) start ∙ sym c.in_ok-programs.ensures.tail ∙ sym c.into_iter-program-iterator.ensures.into_iter_gives.0;
      within = (let there = c.requires.there in omega (arith, start, there));
      each = none_yet (λ n code. IsCodeOf frames c.args.globals (first + n) (base n) (cost n) code) c.in_ok-codes.codes.items none;
      made = none_yet (λ n code. IsMade frames c.args.globals first n (base n) (cost n) code) c.in_ok-codes.codes.items none;
    }

pub push_program-requires-clause-counted : goal.push_program-requires-clause-counted
push_program-requires-clause-counted c =
    c.loop-program.invariant.counted

pub push_program-requires-clause-few : goal.push_program-requires-clause-few
push_program-requires-clause-few c =
    let kept : IsKept folded_view = folding_keeps c.folded_body_does_same.ensures c.folded_constants_are_literals.ensures.constants (λ called body. c.folded_body_costs_at_most.ensures frame_turns turns_by_constants called body) c.folded_body_weighs_at_most.ensures c.folded_names_stay.ensures in
    let frames = c.args.frames.items in
    let first = c.args.first in
    let n = c.len-n.result in
    let program = c.in-Some.program in
    let folded = c.loop-program.folded.items in
    let codes_ok = c.loop-program.codes.ok in
    let len = c.len-n.ensures in
    let many : length c.loop-program.codes.items ≡ n = omega (arith, codes_ok.0, len) in
    let place = next_of frames (first + n) program (into_iter_items c.next.new.self) (ap (λ m. drop (first + m) frames) (sym many) ∙ c.loop-program.invariant.left ∙ c.in-Some.ensures.steps.0) in
    let uses = c.requires.apart n program place.0 in
    λ last is. few kept frames first n program folded last c.requires.there place.0 uses c.loop-program.invariant.folded is c.requires.small

pub offset_bounds-values-n : goal.offset_bounds-values-n
offset_bounds-values-n c =
    let frames = c.args.frames.items in
    let first = c.args.first in
    let n = c.len-n.result in
    let program = c.in-Some.program in
    let folded = c.loop-program.folded.items in
    let codes_ok = c.loop-program.codes.ok in
    let len = c.len-n.ensures in
    let many : length c.loop-program.codes.items ≡ n = omega (arith, codes_ok.0, len) in
    let place = next_of frames (first + n) program (into_iter_items c.next.new.self) (ap (λ m. drop (first + m) frames) (sym many) ∙ c.loop-program.invariant.left ∙ c.in-Some.ensures.steps.0) in
    let uses = c.requires.apart n program place.0 in
    let within = slice_get_within frames (first + n) program place.0 in
    let rows = c.requires.values in
    let costs = c.requires.costs in
    let clocks = c.requires.clocks in
    let less : n < length c.args.values.now = omega (arith, within, rows, costs, clocks) in
    search rules

pub bounds-values-n : goal.bounds-values-n
bounds-values-n c =
    let frames = c.args.frames.items in
    let first = c.args.first in
    let n = c.len-n.result in
    let program = c.in-Some.program in
    let folded = c.loop-program.folded.items in
    let codes_ok = c.loop-program.codes.ok in
    let len = c.len-n.ensures in
    let many : length c.loop-program.codes.items ≡ n = omega (arith, codes_ok.0, len) in
    let place = next_of frames (first + n) program (into_iter_items c.next.new.self) (ap (λ m. drop (first + m) frames) (sym many) ∙ c.loop-program.invariant.left ∙ c.in-Some.ensures.steps.0) in
    let uses = c.requires.apart n program place.0 in
    let within = slice_get_within frames (first + n) program place.0 in
    let rows = c.requires.values in
    let costs = c.requires.costs in
    let clocks = c.requires.clocks in
    omega (arith, within, rows, costs, clocks)

pub offset_bounds-clocks-n : goal.offset_bounds-clocks-n
offset_bounds-clocks-n c =
    let frames = c.args.frames.items in
    let first = c.args.first in
    let n = c.len-n.result in
    let program = c.in-Some.program in
    let folded = c.loop-program.folded.items in
    let codes_ok = c.loop-program.codes.ok in
    let len = c.len-n.ensures in
    let many : length c.loop-program.codes.items ≡ n = omega (arith, codes_ok.0, len) in
    let place = next_of frames (first + n) program (into_iter_items c.next.new.self) (ap (λ m. drop (first + m) frames) (sym many) ∙ c.loop-program.invariant.left ∙ c.in-Some.ensures.steps.0) in
    let uses = c.requires.apart n program place.0 in
    let within = slice_get_within frames (first + n) program place.0 in
    let rows = c.requires.values in
    let costs = c.requires.costs in
    let clocks = c.requires.clocks in
    let less : n < length c.args.clocks.now = omega (arith, within, rows, costs, clocks) in
    search rules

pub bounds-clocks-n : goal.bounds-clocks-n
bounds-clocks-n c =
    let frames = c.args.frames.items in
    let first = c.args.first in
    let n = c.len-n.result in
    let program = c.in-Some.program in
    let folded = c.loop-program.folded.items in
    let codes_ok = c.loop-program.codes.ok in
    let len = c.len-n.ensures in
    let many : length c.loop-program.codes.items ≡ n = omega (arith, codes_ok.0, len) in
    let place = next_of frames (first + n) program (into_iter_items c.next.new.self) (ap (λ m. drop (first + m) frames) (sym many) ∙ c.loop-program.invariant.left ∙ c.in-Some.ensures.steps.0) in
    let uses = c.requires.apart n program place.0 in
    let within = slice_get_within frames (first + n) program place.0 in
    let rows = c.requires.values in
    let costs = c.requires.costs in
    let clocks = c.requires.clocks in
    omega (arith, within, rows, costs, clocks)

pub offset_bounds-costs-n : goal.offset_bounds-costs-n
offset_bounds-costs-n c =
    let frames = c.args.frames.items in
    let first = c.args.first in
    let n = c.len-n.result in
    let program = c.in-Some.program in
    let folded = c.loop-program.folded.items in
    let codes_ok = c.loop-program.codes.ok in
    let len = c.len-n.ensures in
    let many : length c.loop-program.codes.items ≡ n = omega (arith, codes_ok.0, len) in
    let place = next_of frames (first + n) program (into_iter_items c.next.new.self) (ap (λ m. drop (first + m) frames) (sym many) ∙ c.loop-program.invariant.left ∙ c.in-Some.ensures.steps.0) in
    let uses = c.requires.apart n program place.0 in
    let within = slice_get_within frames (first + n) program place.0 in
    let rows = c.requires.values in
    let costs = c.requires.costs in
    let clocks = c.requires.clocks in
    let less : n < length c.args.costs.now = omega (arith, within, rows, costs, clocks) in
    search rules

pub bounds-costs-n : goal.bounds-costs-n
bounds-costs-n c =
    let frames = c.args.frames.items in
    let first = c.args.first in
    let n = c.len-n.result in
    let program = c.in-Some.program in
    let folded = c.loop-program.folded.items in
    let codes_ok = c.loop-program.codes.ok in
    let len = c.len-n.ensures in
    let many : length c.loop-program.codes.items ≡ n = omega (arith, codes_ok.0, len) in
    let place = next_of frames (first + n) program (into_iter_items c.next.new.self) (ap (λ m. drop (first + m) frames) (sym many) ∙ c.loop-program.invariant.left ∙ c.in-Some.ensures.steps.0) in
    let uses = c.requires.apart n program place.0 in
    let within = slice_get_within frames (first + n) program place.0 in
    let rows = c.requires.values in
    let costs = c.requires.costs in
    let clocks = c.requires.clocks in
    omega (arith, within, rows, costs, clocks)

pub code_of-requires-clause-there : goal.code_of-requires-clause-there
code_of-requires-clause-there c =
    let frames = c.args.frames.items in
    let first = c.args.first in
    let n = c.len-n.result in
    let program = c.in-Some.program in
    let folded = c.loop-program.folded.items in
    let codes_ok = c.loop-program.codes.ok in
    let len = c.len-n.ensures in
    let many : length c.loop-program.codes.items ≡ n = omega (arith, codes_ok.0, len) in
    let place = next_of frames (first + n) program (into_iter_items c.next.new.self) (ap (λ m. drop (first + m) frames) (sym many) ∙ c.loop-program.invariant.left ∙ c.in-Some.ensures.steps.0) in
    let uses = c.requires.apart n program place.0 in
    let last = c.in_ok-push_program.ensures.folded in
    let table : c.deref-in-loop-program.result.now ≡ folded ++ last.0 ∷ [] = c.deref-in-loop-program.ensures.value ∙ last.1 in
    let front = length-take-le first frames c.requires.there in
    let same = same_length folded_view (take first frames) folded c.loop-program.invariant.folded in
    let sum = length-append folded (last.0 ∷ []) in
    let long = ap length table in
    omega (arith, front, same, sum, long)

pub code_of-requires-clause-counted : goal.code_of-requires-clause-counted
code_of-requires-clause-counted c =
    subst (λ fs. AreCounts fs c.push_program.new.counts) (sym c.deref-in-loop-program.ensures.value) c.in_ok-push_program.ensures.counted

pub code_of-requires-clause-in_turn : goal.code_of-requires-clause-in_turn
code_of-requires-clause-in_turn c =
    let kept : IsKept folded_view = folding_keeps c.folded_body_does_same.ensures c.folded_constants_are_literals.ensures.constants (λ called body. c.folded_body_costs_at_most.ensures frame_turns turns_by_constants called body) c.folded_body_weighs_at_most.ensures c.folded_names_stay.ensures in
    let frames = c.args.frames.items in
    let first = c.args.first in
    let n = c.len-n.result in
    let program = c.in-Some.program in
    let folded = c.loop-program.folded.items in
    let codes_ok = c.loop-program.codes.ok in
    let len = c.len-n.ensures in
    let many : length c.loop-program.codes.items ≡ n = omega (arith, codes_ok.0, len) in
    let place = next_of frames (first + n) program (into_iter_items c.next.new.self) (ap (λ m. drop (first + m) frames) (sym many) ∙ c.loop-program.invariant.left ∙ c.in-Some.ensures.steps.0) in
    let uses = c.requires.apart n program place.0 in
    let last = c.in_ok-push_program.ensures.folded in
    let table : c.deref-in-loop-program.result.now ≡ folded ++ last.0 ∷ [] = c.deref-in-loop-program.ensures.value ∙ last.1 in
    subst AreInTurn (sym table) (in_turn kept frames first n program folded last.0 c.requires.there place.0 uses c.loop-program.invariant.folded last.2 c.requires.in_turn)

pub code_of-requires-clause-steady : goal.code_of-requires-clause-steady
code_of-requires-clause-steady c =
    let kept : IsKept folded_view = folding_keeps c.folded_body_does_same.ensures c.folded_constants_are_literals.ensures.constants (λ called body. c.folded_body_costs_at_most.ensures frame_turns turns_by_constants called body) c.folded_body_weighs_at_most.ensures c.folded_names_stay.ensures in
    let frames = c.args.frames.items in
    let first = c.args.first in
    let n = c.len-n.result in
    let program = c.in-Some.program in
    let folded = c.loop-program.folded.items in
    let codes_ok = c.loop-program.codes.ok in
    let len = c.len-n.ensures in
    let many : length c.loop-program.codes.items ≡ n = omega (arith, codes_ok.0, len) in
    let place = next_of frames (first + n) program (into_iter_items c.next.new.self) (ap (λ m. drop (first + m) frames) (sym many) ∙ c.loop-program.invariant.left ∙ c.in-Some.ensures.steps.0) in
    let uses = c.requires.apart n program place.0 in
    let last = c.in_ok-push_program.ensures.folded in
    let table : c.deref-in-loop-program.result.now ≡ folded ++ last.0 ∷ [] = c.deref-in-loop-program.ensures.value ∙ last.1 in
    subst AreSteady (sym table) (steady kept frames first n program folded last.0 c.requires.there place.0 uses c.loop-program.invariant.folded last.2 c.requires.steady)

pub code_of-requires-clause-named : goal.code_of-requires-clause-named
code_of-requires-clause-named c =
    let kept : IsKept folded_view = folding_keeps c.folded_body_does_same.ensures c.folded_constants_are_literals.ensures.constants (λ called body. c.folded_body_costs_at_most.ensures frame_turns turns_by_constants called body) c.folded_body_weighs_at_most.ensures c.folded_names_stay.ensures in
    let frames = c.args.frames.items in
    let first = c.args.first in
    let n = c.len-n.result in
    let program = c.in-Some.program in
    let folded = c.loop-program.folded.items in
    let codes_ok = c.loop-program.codes.ok in
    let len = c.len-n.ensures in
    let many : length c.loop-program.codes.items ≡ n = omega (arith, codes_ok.0, len) in
    let place = next_of frames (first + n) program (into_iter_items c.next.new.self) (ap (λ m. drop (first + m) frames) (sym many) ∙ c.loop-program.invariant.left ∙ c.in-Some.ensures.steps.0) in
    let uses = c.requires.apart n program place.0 in
    let within = slice_get_within frames (first + n) program place.0 in
    let rows = c.requires.values in
    let costs = c.requires.costs in
    let clocks = c.requires.clocks in
    let last = c.in_ok-push_program.ensures.folded in
    let table : c.deref-in-loop-program.result.now ≡ folded ++ last.0 ∷ [] = c.deref-in-loop-program.ensures.value ∙ last.1 in
    let base = base_in c.args.values.now c.args.clocks.now n in
    subst (λ fs. NamesFit c.args.globals fs first base) (sym table) (named kept frames first n program folded last.0 c.requires.there place.0 uses c.loop-program.invariant.folded last.2 c.args.globals base (c.requires.named n (omega (arith, within, rows, costs))))

pub code_of-requires-clause-few : goal.code_of-requires-clause-few
code_of-requires-clause-few c =
    let kept : IsKept folded_view = folding_keeps c.folded_body_does_same.ensures c.folded_constants_are_literals.ensures.constants (λ called body. c.folded_body_costs_at_most.ensures frame_turns turns_by_constants called body) c.folded_body_weighs_at_most.ensures c.folded_names_stay.ensures in
    let frames = c.args.frames.items in
    let first = c.args.first in
    let n = c.len-n.result in
    let program = c.in-Some.program in
    let folded = c.loop-program.folded.items in
    let codes_ok = c.loop-program.codes.ok in
    let len = c.len-n.ensures in
    let many : length c.loop-program.codes.items ≡ n = omega (arith, codes_ok.0, len) in
    let place = next_of frames (first + n) program (into_iter_items c.next.new.self) (ap (λ m. drop (first + m) frames) (sym many) ∙ c.loop-program.invariant.left ∙ c.in-Some.ensures.steps.0) in
    let uses = c.requires.apart n program place.0 in
    let last = c.in_ok-push_program.ensures.folded in
    let table : c.deref-in-loop-program.result.now ≡ folded ++ last.0 ∷ [] = c.deref-in-loop-program.ensures.value ∙ last.1 in
    subst HasFewLines (sym table) (few kept frames first n program folded last.0 c.requires.there place.0 uses c.loop-program.invariant.folded last.2 c.requires.small)

pub code_of-requires-clause-cost : goal.code_of-requires-clause-cost
code_of-requires-clause-cost c =
    let kept : IsKept folded_view = folding_keeps c.folded_body_does_same.ensures c.folded_constants_are_literals.ensures.constants (λ called body. c.folded_body_costs_at_most.ensures frame_turns turns_by_constants called body) c.folded_body_weighs_at_most.ensures c.folded_names_stay.ensures in
    let frames = c.args.frames.items in
    let first = c.args.first in
    let n = c.len-n.result in
    let program = c.in-Some.program in
    let folded = c.loop-program.folded.items in
    let codes_ok = c.loop-program.codes.ok in
    let len = c.len-n.ensures in
    let many : length c.loop-program.codes.items ≡ n = omega (arith, codes_ok.0, len) in
    let place = next_of frames (first + n) program (into_iter_items c.next.new.self) (ap (λ m. drop (first + m) frames) (sym many) ∙ c.loop-program.invariant.left ∙ c.in-Some.ensures.steps.0) in
    let uses = c.requires.apart n program place.0 in
    let within = slice_get_within frames (first + n) program place.0 in
    let rows = c.requires.values in
    let costs = c.requires.costs in
    let clocks = c.requires.clocks in
    let last = c.in_ok-push_program.ensures.folded in
    let table : c.deref-in-loop-program.result.now ≡ folded ++ last.0 ∷ [] = c.deref-in-loop-program.ensures.value ∙ last.1 in
    let cost = get_or c.args.costs.now n 0 in
    subst (λ fs. frame_cost fs (length fs) first ≤ cost) (sym table) (cost_kept kept frames first n program folded last.0 c.requires.there place.0 uses c.loop-program.invariant.folded last.2 cost (c.requires.enough n (omega (arith, within, rows, costs))))

pub loop-program-preserved : goal.loop-program-preserved
loop-program-preserved c =
    let kept : IsKept folded_view = folding_keeps c.folded_body_does_same.ensures c.folded_constants_are_literals.ensures.constants (λ called body. c.folded_body_costs_at_most.ensures frame_turns turns_by_constants called body) c.folded_body_weighs_at_most.ensures c.folded_names_stay.ensures in
    let frames = c.args.frames.items in
    let first = c.args.first in
    let n = c.len-n.result in
    let program = c.in-Some.program in
    let folded = c.loop-program.folded.items in
    let codes_ok = c.loop-program.codes.ok in
    let len = c.len-n.ensures in
    let many : length c.loop-program.codes.items ≡ n = omega (arith, codes_ok.0, len) in
    let place = next_of frames (first + n) program (into_iter_items c.next.new.self) (ap (λ m. drop (first + m) frames) (sym many) ∙ c.loop-program.invariant.left ∙ c.in-Some.ensures.steps.0) in
    let uses = c.requires.apart n program place.0 in
    let last = c.in_ok-push_program.ensures.folded in
    let table : c.deref-in-loop-program.result.now ≡ folded ++ last.0 ∷ [] = c.deref-in-loop-program.ensures.value ∙ last.1 in
    let globals = c.args.globals in
    let base = λ (n : ℕ). base_in c.args.values.now c.args.clocks.now n in
    let cost = λ (n : ℕ). get_or c.args.costs.now n 0 in
    let codes = c.loop-program.codes.items in
    let code = c.in_ok-code.code in
    let pushed : c.push.new.self.items ≡ codes ++ code ∷ [] = search rules in
    let runs : IsCodeOf (folded ++ last.0 ∷ []) globals first (base n) (cost n) code = subst (λ fs. IsCodeOf fs globals first (base n) (cost n) code) table c.in_ok-code.ensures.runs in
    let is : IsCodeOf frames globals (first + n) (base n) (cost n) code = code_is kept frames first n program folded last.0 c.requires.there place.0 uses c.loop-program.invariant.folded last.2 globals (base n) (cost n) code runs in
    let made : IsMade frames globals first n (base n) (cost n) code = made_is kept frames first n program folded last.0 c.requires.there place.0 uses c.loop-program.invariant.folded last.2 globals (base n) (cost n) code (c.in_ok-code.ensures.is ∙ ap (λ fs. code_of globals fs first (base n) (cost n)) table) in
    let front = length-take-le first frames c.requires.there in
    let long : length folded ≡ first = same_length folded_view (take first frames) folded c.loop-program.invariant.folded ∙ front in
    let cut : c.truncate.new.self.items ≡ folded = c.truncate.ensures.items ∙ ap (λ fs. take first fs) last.1 ∙ take-append-le first folded (last.0 ∷ []) (omega (arith, long)) ∙ take_all first folded (omega (arith, long)) in
    let one = c.in_ok-push_program.ensures.counts in
    let before = c.loop-program.counts.frames.items in
    let counted = c.loop-program.invariant.counted in
    let many_counts = counted.many in
    let cut_counts : c.truncate-in-loop-program.new.self.items ≡ before = c.truncate-in-loop-program.ensures.items ∙ ap (λ t. take first t) one.1 ∙ take-append-le first before (one.0 ∷ []) (omega (arith, long, many_counts)) ∙ take_all first before (omega (arith, long, many_counts)) in
    let after = ap length pushed in
    let sum = length-append codes (code ∷ []) in
    let next : first + length c.push.new.self.items ≡ suc (first + n) = omega (arith, after, sum, many) in
    record {
      folded = subst (λ fs. AreFolded (take first frames) fs) (sym cut) c.loop-program.invariant.folded;
      counted = subst (λ fs. AreFirst fs (length fs) c.truncate-in-loop-program.new.self.items) (sym cut) (subst (λ t. AreFirst folded (length folded) t) (sym cut_counts) counted);
      left = ap (λ m. drop m frames) next ∙ place.1;
      within = (let inside = slice_get_within frames (first + n) program place.0 in omega (arith, next, inside));
      each = one_more (λ m x. IsCodeOf frames globals (first + m) (base m) (cost m) x) codes c.push.new.self.items code pushed c.loop-program.invariant.each (subst (λ m. IsCodeOf frames globals (first + m) (base m) (cost m) code) (sym many) is);
      made = one_more (λ m x. IsMade frames globals first m (base m) (cost m) x) codes c.push.new.self.items code pushed c.loop-program.invariant.made (subst (λ m. IsMade frames globals first m (base m) (cost m) code) (sym many) made);
    }

pub returns : goal.returns
returns c =
    let it = c.loop-program.program-iterator in
    let done : into_iter_items it ≡ [] = nil_from_length _ (sym it.rest.ok.0 ∙ c.in-None.ensures.steps.0) in
    let none = ap length (c.loop-program.invariant.left ∙ done) in
    let left = length-drop (c.args.first + length c.loop-program.codes.items) c.args.frames.items in
    let within = c.loop-program.invariant.within in
    let rows = c.requires.values in
    record {
      long = omega (arith, none, left, within, rows);
      each = c.loop-program.invariant.each;
      made = c.loop-program.invariant.made;
    }
