-- A sound source is small: what its programs reach has no more than the limits allow.
use Rattle.std.proofs.Common.{◌≡◌, ◌∙◌, ap, sym, subst, ℕ, zero, suc, ◌+◌, ◌<◌, ◌≤◌, true, false, List, [], ◌∷◌, length, Some, inl, inr, arith}
use Rattle.std.specs.Prelude.{slice_get}
use Rattle.std.specs.List.{All, list_any, sum_by}
use Rattle.std.specs.Option.{option_map_or}
use Rattle.std.proofs.lemmas.Bool.{cases_Bool, or_parts}
use Rattle.std.proofs.lemmas.List.Sums.{sum_by-cons}
use Rattle.plant_types.specs.Words.{same_word}
use Rattle.st_tree.specs.Plain.{PlainStmt, empty, assign, store, call, if_else, case_of, for_to, PlainBody, done, next, Branches, no_branch, branch, Choices, no_choice, choice}
use Rattle.st_tree.specs.Numbers.{count_stmt, count_body, count_branches, count_choices}
use Rattle.st_tree.specs.Costs.{weight, weight_all, branches_weight, choices_weight}
use Rattle.st_blocks.specs.Chains.{Among}
use Rattle.logic_source.specs.declared.logic.Instance.{Instance}
use Rattle.logic_source.specs.Source.{PlainRoutine, Source, global_cells}
use Rattle.logic_source.specs.Paths.{called_in}
use Rattle.logic_source.specs.Layout.{AreNamedApart}
use Rattle.logic_source.proofs.Layouts.{all_at}
use Rattle.logic_limits.specs.Counts.{instance_slots, routine_slots, instance_weight, called_weight, routine_size, type_slots, type_size}
use Rattle.logic_frames.specs.Reached.{AsksFor, Reaches, by_program, by_block}
use Rattle.logic_frames.specs.Small.{HasFewCells, HasFewSteps, IsSmall}
use Rattle.vm_logic.specs.Sound.{IsSound}
use Rattle.vm_logic.proofs.Small.{sound_named, few_globals, few_global_cells}
use Rattle.vm_logic.proofs.Few.{routine_values_few, routine_clocks_few}
use Rattle.vm_logic.proofs.FewPaths.{weight_of, body_heavy, named, instances_apart, routine_paths_few}
use Rattle.vm_logic.proofs.FewStarts.{program_starts_few, block_starts_few, global_starts_few}

-- a body has no more statements than its size
module _ (called : List ℕ → ℕ) where
  mutual
    stmt_few : (s : PlainStmt (List ℕ)) → count_stmt s ≤ weight (λ a b. a + b) (λ from to by. 1) called s
    stmt_few (empty number) = omega arith
    stmt_few (assign number v e) = omega arith
    stmt_few (store number v bounds index value) = omega arith
    stmt_few (call number instance arguments) = omega arith
    stmt_few (if_else number branches last) = let first = branches_few branches in let rest = body_few last in omega (arith, first, rest)
    stmt_few (case_of number e choices last) = let first = choices_few choices in let rest = body_few last in omega (arith, first, rest)
    stmt_few (for_to number v from to by body) = let inside = body_few body in omega (arith, inside)

    body_few : (body : PlainBody (List ℕ)) → count_body body ≤ weight_all (λ a b. a + b) (λ from to by. 1) called body
    body_few done = omega arith
    body_few (next s rest) = let first = stmt_few s in let more = body_few rest in omega (arith, first, more)

    branches_few : (branches : Branches (List ℕ)) → count_branches branches ≤ branches_weight (λ a b. a + b) (λ from to by. 1) called branches
    branches_few no_branch = omega arith
    branches_few (branch test body rest) = let first = body_few body in let more = branches_few rest in omega (arith, first, more)

    choices_few : (choices : Choices (List ℕ)) → count_choices choices ≤ choices_weight (λ a b. a + b) (λ from to by. 1) called choices
    choices_few no_choice = omega arith
    choices_few (choice labels body rest) = let first = body_few body in let more = choices_few rest in omega (arith, first, more)

-- one of a sum's numbers is no greater than the sum
one_of : {A : Type 0} (f : A → ℕ) (xs : List A) (x : A) → Among xs x → f x ≤ sum_by f xs
one_of f [] x here = elim here [ ]
one_of f (y ∷ ys) x (inl same) = let sum = sum_by-cons f y ys in let equal = ap f same in omega (arith, sum, equal)
one_of f (y ∷ ys) x (inr later) = let sum = sum_by-cons f y ys in let rest = one_of f ys x later in omega (arith, sum, rest)

one_at : {A : Type 0} (f : A → ℕ) (xs : List A) (k : ℕ) (x : A) → slice_get xs k ≡ Some x → f x ≤ sum_by f xs
one_at f [] k x at = absurd (cc)
one_at f (y ∷ ys) zero x at = let sum = sum_by-cons f y ys in let same : y ≡ x = cc in let equal = ap f same in omega (arith, sum, equal)
one_at f (y ∷ ys) (suc k) x at = let sum = sum_by-cons f y ys in let rest = one_at f ys k x at in omega (arith, sum, rest)

-- a routine has no fewer slots than a block type of which it has an instance
slots_asked : (slots : ℕ → ℕ) (r : PlainRoutine) (n : ℕ) → AsksFor false r n → slots n ≤ routine_slots slots r
slots_asked slots r n asks =
    let one = one_of (λ (i : Instance). instance_slots slots i.of) r.instances asks.0 asks.1 in
    let own = ap (instance_slots slots) asks.2 in
    omega (arith, one, own)

-- and is no smaller than one that it calls
word_weighs : (w : List ℕ → ℕ) (name : List ℕ) (n : ℕ) → ((x : List ℕ) → same_word name x ≡ true → n ≤ w x) → (xs : List (List ℕ)) → list_any (same_word name) xs ≡ true → n ≤ weight_of w xs
word_weighs w name n less [] any = absurd (cc)
word_weighs w name n less (x ∷ xs) any =
    elim (cases_Bool (same_word name x)) [
      | inl is ↦ (let own = less x is in omega (arith, own))
      | inr isnt ↦ (let rest = word_weighs w name n less xs (rw isnt at any) in omega (arith, rest))
    ]

size_asked : (sizes : ℕ → ℕ) (r : PlainRoutine) (n : ℕ) → AreNamedApart r → AsksFor true r n → sizes n ≤ routine_size sizes r
size_asked sizes r n apart asks =
    let i = asks.0 in
    let weighs =
    word_weighs (λ x. 1 + called_weight sizes r x) i.name (sizes n)
    (λ x is. let weight = ap (λ o. option_map_or (instance_weight sizes) o 0) (named r x i (instances_apart r apart) asks.1 is) in let own = ap (instance_weight sizes) asks.2 in omega (arith, weight, own))
    (called_in r.body) (asks.3 (λ k. true)) in
    let heavy = body_heavy (called_weight sizes r) r.body in
    omega (arith, weighs, heavy)

module _ (source : Source) (sound : IsSound source) (slots_are : (n : ℕ) (r : PlainRoutine) → slice_get source.blocks n ≡ Some r → type_slots source.blocks n ≡ routine_slots (type_slots source.blocks) r)
    (sizes_are : (n : ℕ) (r : PlainRoutine) → slice_get source.blocks n ≡ Some r → type_size source.blocks n ≡ routine_size (type_size source.blocks) r) where
  program_slots : (k : ℕ) (p : PlainRoutine) → slice_get source.programs k ≡ Some p → routine_slots (type_slots source.blocks) p ≤ 65536
  program_slots k p at =
      let limit : global_cells source + sum_by (routine_slots (type_slots source.blocks)) source.programs ≤ 65536 = sound.limits.slots in
      let one = one_at (routine_slots (type_slots source.blocks)) source.programs k p at in
      omega (arith, limit, one)

  pub program_size : (k : ℕ) (p : PlainRoutine) → slice_get source.programs k ≡ Some p → routine_size (type_size source.blocks) p ≤ 1000000
  program_size k p at =
      let limit : sum_by (routine_size (type_size source.blocks)) source.programs ≤ 1000000 = sound.limits.size in
      let one = one_at (routine_size (type_size source.blocks)) source.programs k p at in
      omega (arith, limit, one)

  reached_slots : (n : ℕ) → Reaches false source n → type_slots source.blocks n ≤ 65536
  reached_slots n (by_program k m p at asks) =
      let most = program_slots k p at in
      let own = slots_asked (type_slots source.blocks) p m asks in
      omega (arith, most, own)
  reached_slots n (by_block a m r before at asks) =
      let most = reached_slots a before in
      let is = slots_are a r at in
      let own = slots_asked (type_slots source.blocks) r m asks in
      omega (arith, most, is, own)

  pub reached_size : (n : ℕ) → Reaches true source n → type_size source.blocks n ≤ 1000000
  reached_size n (by_program k m p at asks) =
      let most = program_size k p at in
      let own = size_asked (type_size source.blocks) p m (all_at AreNamedApart source.programs k p (sound_named source sound).in_programs at) asks in
      omega (arith, most, own)
  reached_size n (by_block a m r before at asks) =
      let most = reached_size a before in
      let is = sizes_are a r at in
      let own = size_asked (type_size source.blocks) r m (all_at AreNamedApart source.blocks a r (sound_named source sound).in_blocks at) asks in
      omega (arith, most, is, own)

  few_cells : (r : PlainRoutine) → routine_slots (type_slots source.blocks) r ≤ 65536 → count_body r.starts ≤ length r.locals → HasFewCells source.blocks r
  few_cells r slots starts =
      let values = routine_values_few source.blocks r [] in
      let clocks = routine_clocks_few source.blocks r [] in
      record { values = omega (arith, slots, values); clocks = omega (arith, slots, clocks); starts = omega (arith, slots, starts) }

  few_steps : (r : PlainRoutine) → AreNamedApart r → routine_size (type_size source.blocks) r ≤ 1000000 → HasFewSteps source.blocks r
  few_steps r apart size =
      let paths = routine_paths_few source.blocks (sound_named source sound).in_blocks r apart in
      let statements = body_few (called_weight (type_size source.blocks) r) r.body in
      record { paths = omega (arith, size, paths); statements = omega (arith, size, statements) }

  program_starts : (k : ℕ) (p : PlainRoutine) → slice_get source.programs k ≡ Some p → count_body p.starts ≤ length p.locals
  program_starts k p at = program_starts_few sound.units sound.typed k p (ap (λ (s : Source). slice_get s.programs k) (sym sound.are_theirs) ∙ at)

  block_starts : (n : ℕ) (r : PlainRoutine) → slice_get source.blocks n ≡ Some r → count_body r.starts ≤ length r.locals
  block_starts n r at = block_starts_few sound.units sound.typed n r (ap (λ (s : Source). slice_get s.blocks n) (sym sound.are_theirs) ∙ at)

  global_starts : count_body source.starts ≤ length source.globals
  global_starts = subst (λ (s : Source). count_body s.starts ≤ length s.globals) (sym sound.are_theirs) (global_starts_few sound.units sound.typed)

  pub sound_small : IsSmall source
  sound_small = record {
    globals = (let few = few_global_cells source sound in omega (arith, few));
    starts = (let few = global_starts in let globals = few_globals source sound in omega (arith, few, globals));
    program_cells = λ k p at. few_cells p (program_slots k p at) (program_starts k p at);
    program_steps = λ k p at. few_steps p (all_at AreNamedApart source.programs k p (sound_named source sound).in_programs at) (program_size k p at);
    used = λ n r at reached. few_cells r (let most = reached_slots n reached in let is = slots_are n r at in omega (arith, most, is)) (block_starts n r at);
    run = λ n r at reached. few_steps r (all_at AreNamedApart source.blocks n r (sound_named source sound).in_blocks at) (let most = reached_size n reached in let is = sizes_are n r at in omega (arith, most, is));
  }
