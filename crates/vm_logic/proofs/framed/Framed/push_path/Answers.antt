use Rattle.std.proofs.Common.{◌≡◌, ◌∙◌, ◌<◌, ◌≤◌, ◌+◌, ◌-◌, ◌++◌, append_assoc, List, [], ap, sym, subst, refl, length, get_or, arith}
use Rattle.std.specs.Prelude.{IfOk, string_bytes}
use Rattle.std.proofs.lemmas.List.{get_or_default}
use Rattle.std.proofs.lemmas.Grind.{common_steps}
use Rattle.vm_logic.specs.declared.headings.Heading.{Heading}
use Rattle.vm_logic.proofs.Headed.{as_many, name_headed}
use Rattle.logic_source.specs.Source.{Source, source_of}
use Rattle.plant_types.specs.Values.{Path}
use Rattle.logic_source.specs.Worlds.{globals_routine}
use Rattle.logic_source.specs.Paths.{paths_of, path_text}
use Rattle.logic_walk.specs.Frames.{frame_paths}
use Rattle.logic_walk.specs.Paths.{path_suffix}
use Rattle.vm_logic.specs.Bases.{program_paths_base}
use Rattle.vm_logic.proofs.Bases.{paths_begin}
use Rattle.vm_logic.proofs.Placed.{paths_end}
use Rattle.vm_logic.proofs.Small.{sound_types}
use Rattle.vm_logic.proofs.Walks.{the_program, is_there, paths_are, below_less, text_below, its_paths}
use Rattle.vm_logic.proofs.framed.Framed.push_path.Goals as goal

pub program_of-program-requires-clause-begins : goal.program_of-program-requires-clause-begins
program_of-program-requires-clause-begins c =
    let source = source_of c.self.inside.logic in
    let are = c.self.invariant.0.laid in
    let first = ap (λ l. get_or l 0 0) c.deref.ensures.value ∙ are.paths_begin.each 0 (omega arith) ∙ paths_begin source in
    omega (arith, first)

pub program_of-program-requires-clause-within : goal.program_of-program-requires-clause-within
program_of-program-requires-clause-within c =
    let source = source_of c.self.inside.logic in
    let are = c.self.invariant.0.laid in
    let many = ap length c.as_slice-programs.ensures.value in
    let plain = as_many c.self.inside.programs.items source.programs c.self.invariant.1.programs_are in
    let count : length c.as_slice-programs.result.now ≡ length source.programs = omega (arith, many, plain) in
    let last = ap (λ l. get_or l (length c.as_slice-programs.result.now) 0) c.deref.ensures.value ∙ ap (λ n. get_or c.self.inside.paths.items n 0) count ∙ are.paths_begin.each (length source.programs) (omega arith) ∙ paths_end source in
    let inside : c.args.path < length (paths_of source) = subst (λ (s : Source). c.args.path < length (paths_of s)) (sym c.self.view_is) c.requires in
    omega (arith, last, inside)

pub push_path-requires-clause-path : goal.push_path-requires-clause-path
push_path-requires-clause-path c =
    let inside = c.self.inside in
    let source = source_of inside.logic in
    let are = c.self.invariant.0.laid in
    let frames = inside.frames in
    let order = inside.order.items in
    let row = inside.paths.items in
    let n = c.program_of-program.result in
    let many = ap length c.as_slice-programs.ensures.value in
    let plain = as_many inside.programs.items source.programs c.self.invariant.1.programs_are in
    let found = c.program_of-program.ensures.there in
    let there : n < length source.programs = omega (arith, many, plain, found) in
    let begins : get_or row n 0 ≤ c.args.path = subst (λ l. get_or l n 0 ≤ c.args.path) c.deref.ensures.value c.program_of-program.ensures.begins in
    let ends : c.args.path < get_or row (n + 1) 0 = subst (λ l. c.args.path < get_or l (n + 1) 0) c.deref.ensures.value c.program_of-program.ensures.ends in
    let long = are.paths_begin.long in
    let base_is : c.index.result.now ≡ program_paths_base source n = c.index.ensures ∙ get_or_default row n c.index.result.now 0 (omega (arith, there, long)) ∙ are.paths_begin.each n (omega (arith, there)) in
    let first_is = c.self.invariant.1.first_is in
    let place_is : inside.first + n ≡ length order + n = omega (arith, first_is) in
    let have_paths = c.frames_have_paths.ensures source order frames are.are_frames are.below (sound_types source are.sound) n (the_program source n) (is_there source n there) in
    let own = paths_are source order frames n there have_paths inside.frames (inside.first + n) refl place_is in
    subst (λ (l : List Path). c.args.path - c.index.result.now < length l) (sym own) (below_less source row n c.args.path c.index.result.now there are.paths_begin begins ends base_is)

pub returns : goal.returns
returns c =
    let inside = c.self.inside in
    let source = source_of inside.logic in
    let are = c.self.invariant.0.laid in
    let frames = inside.frames in
    let order = inside.order.items in
    let row = inside.paths.items in
    let n = c.program_of-program.result in
    let path = c.args.path in
    let base = c.index.result.now in
    let items = c.as_slice-programs.ensures.value in
    let many = ap length items in
    let plain = as_many inside.programs.items source.programs c.self.invariant.1.programs_are in
    let found = c.program_of-program.ensures.there in
    let there : n < length source.programs = omega (arith, many, plain, found) in
    let begins : get_or row n 0 ≤ path = subst (λ l. get_or l n 0 ≤ path) c.deref.ensures.value c.program_of-program.ensures.begins in
    let ends : path < get_or row (n + 1) 0 = subst (λ l. path < get_or l (n + 1) 0) c.deref.ensures.value c.program_of-program.ensures.ends in
    let long = are.paths_begin.long in
    let base_is : base ≡ program_paths_base source n = c.index.ensures ∙ get_or_default row n base 0 (omega (arith, there, long)) ∙ are.paths_begin.each n (omega (arith, there)) in
    let first_is = c.self.invariant.1.first_is in
    let place_is : inside.first + n ≡ length order + n = omega (arith, first_is) in
    let have_paths = c.frames_have_paths.ensures source order frames are.are_frames are.below (sound_types source are.sound) n (the_program source n) (is_there source n there) in
    let own = paths_are source order frames n there have_paths inside.frames (inside.first + n) refl place_is in
    let heading = c.index-programs-program.result in
    let named : (the_program source n).name ≡ heading.name =
    name_headed inside.programs.items source.programs c.self.invariant.1.programs_are n heading (globals_routine source) there (c.index-programs-program.is ∙ ap (λ l. get_or l n heading) items)
    in
    let old = string_bytes c.args.text.now in
    let written : string_bytes c.push_str.new.self ≡ old ++ (the_program source n).name = c.in_ok-push_str.ensures.bytes ∙ ap (λ l. old ++ l) (c.as_str.ensures ∙ sym (ap (λ (r : Heading). r.name) c.index-programs-program.is) ∙ sym named) in
    let told : string_bytes c.push_str.new.self ++ path_suffix (get_or (frame_paths inside.frames (length inside.frames) (inside.first + n)) (path - base) []) ≡ old ++ path_text (get_or (paths_of c.args.self.now) path []) =
    (λ j. written j ++ path_suffix (get_or (own j) (path - base) [])) ∙ append_assoc old (the_program source n).name (path_suffix (get_or (its_paths source n) (path - base) []))
    ∙ ap (λ t. old ++ t) (sym (text_below source row n path base there are.paths_begin begins ends base_is)) ∙ ap (λ (s : Source). old ++ path_text (get_or (paths_of s) path [])) c.self.view_is
    in
    subst (λ t. IfOk c.push_path.result (λ _. string_bytes c.push_path.new.text ≡ t)) told c.push_path.ensures

pub index-requires : goal.index-requires
index-requires c = grind (arith, common_steps)

pub program_of-program-requires-clause-long : goal.program_of-program-requires-clause-long
program_of-program-requires-clause-long c = grind (arith, common_steps)

pub overflow_sub-below : goal.overflow_sub-below
overflow_sub-below c = grind (arith, common_steps)
