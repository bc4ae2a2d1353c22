-- A source that keeps the limit on size has few paths: each call of an instance weighs more than the paths below it are.
use Rattle.std.proofs.Common.{◌≡◌, ◌∙◌, ap, subst, refl, ℕ, zero, suc, ◌+◌, ◌<◌, ◌≤◌, Bool, true, false, List, [], ◌∷◌, ◌++◌, length, length-append, get_or, Option, Some, None, inl, inr, arith}
use Rattle.std.specs.Prelude.{◌||◌, if◌then◌else◌, slice_get, option_map, option_and_then}
use Rattle.std.specs.List.{All, list_any, sum_by}
use Rattle.std.specs.Option.{option_map_or}
use Rattle.std.specs.Str.{bytes_eq}
use Rattle.std.specs.Cmp.Lexicographic.{bytes_decides}
use Rattle.std.proofs.lemmas.Bool.{or_parts, cases_Bool}
use Rattle.std.proofs.lemmas.List.{length-map, get_or-map}
use Rattle.std.proofs.lemmas.List.Sums.{sum_by-cons}
use Rattle.std.proofs.lemmas.Option.{slice_get_within, get_or_from_slice_get}
use Rattle.plant_types.specs.Words.{folded, same_word}
use Rattle.st_tree.specs.Plain.{PlainStmt, empty, assign, store, call, if_else, case_of, for_to, PlainBody, done, next, Branches, no_branch, branch, Choices, no_choice, choice}
use Rattle.st_tree.specs.Costs.{weight, weight_all, branches_weight, choices_weight}
use Rattle.st_blocks.specs.Chains.{Among}
use Rattle.logic_source.specs.Taken.{repeats, is_among}
use Rattle.logic_source.proofs.Entries.{same_turned}
use Rattle.logic_source.specs.declared.logic.Instance.{Instance}
use Rattle.logic_source.specs.declared.logic.BlockRef.{BlockRef}
use Rattle.logic_source.specs.declared.logic.BlockRef.TheVariants.{Ton, Tof, RTrig, Declared}
use Rattle.logic_source.specs.Source.{PlainRoutine, Source}
use Rattle.logic_source.specs.Names.{own_words, row_words, instance_words, find_word, block_named}
use Rattle.logic_source.specs.Blocks.{levels}
use Rattle.plant_types.specs.Values.{Path}
use Rattle.logic_source.specs.Layout.{AreNamedApart}
use Rattle.logic_source.specs.Paths.{called_in_stmt, called_in, called_in_branches, called_in_choices, is_called, block_paths, instance_paths, paths_rule, type_paths}
use Rattle.logic_source.proofs.Layouts.{all_at}
use Rattle.logic_limits.specs.Counts.{instance_weight, called_weight, routine_size, type_size}
use Rattle.vm_logic.specs.Sound.{IsSound}
use Rattle.vm_logic.specs.Bases.{program_paths_before, program_paths_base}
use Rattle.vm_logic.proofs.Small.{sound_named, few_programs, word_found}

-- what names weigh together
abbrev pub weight_of : (List ℕ → ℕ) → List (List ℕ) → ℕ
weight_of w [] = 0
weight_of w (x ∷ xs) = w x + weight_of w xs

weight_append : (w : List ℕ → ℕ) (xs ys : List (List ℕ)) → weight_of w (xs ++ ys) ≡ weight_of w xs + weight_of w ys
weight_append w [] ys = omega arith
weight_append w (x ∷ xs) ys = let rest = weight_append w xs ys in omega (arith, rest)

-- the numbers of the instances that have a property, together
abbrev sum_if : (Instance → Bool) → (Instance → ℕ) → List Instance → ℕ
sum_if p v [] = 0
sum_if p v (i ∷ is) = (if p i then v i else 0) + sum_if p v is

-- a body weighs no less than the calls in it, each of which weighs one more than what is called
module _ (called : List ℕ → ℕ) where
  abbrev heavy : List ℕ → ℕ
  heavy x = 1 + called x

  mutual
    stmt_heavy : (s : PlainStmt (List ℕ)) → weight_of heavy (called_in_stmt s) ≤ weight (λ a b. a + b) (λ from to by. 1) called s
    stmt_heavy (empty number) = omega arith
    stmt_heavy (assign number v e) = omega arith
    stmt_heavy (store number v bounds index value) = omega arith
    stmt_heavy (call number instance arguments) = omega arith
    stmt_heavy (if_else number branches last) =
        let sum = weight_append heavy (called_in_branches branches) (called_in last) in
        let first = branches_heavy branches in
        let rest = body_heavy last in
        omega (arith, sum, first, rest)
    stmt_heavy (case_of number e choices last) =
        let sum = weight_append heavy (called_in_choices choices) (called_in last) in
        let first = choices_heavy choices in
        let rest = body_heavy last in
        omega (arith, sum, first, rest)
    stmt_heavy (for_to number v from to by body) = let inside = body_heavy body in omega (arith, inside)

    pub body_heavy : (body : PlainBody (List ℕ)) → weight_of heavy (called_in body) ≤ weight_all (λ a b. a + b) (λ from to by. 1) called body
    body_heavy done = omega arith
    body_heavy (next s rest) =
        let sum = weight_append heavy (called_in_stmt s) (called_in rest) in
        let first = stmt_heavy s in
        let more = body_heavy rest in
        omega (arith, sum, first, more)

    branches_heavy : (branches : Branches (List ℕ)) → weight_of heavy (called_in_branches branches) ≤ branches_weight (λ a b. a + b) (λ from to by. 1) called branches
    branches_heavy no_branch = omega arith
    branches_heavy (branch test body rest) =
        let sum = weight_append heavy (called_in body) (called_in_branches rest) in
        let first = body_heavy body in
        let more = branches_heavy rest in
        omega (arith, sum, first, more)

    choices_heavy : (choices : Choices (List ℕ)) → weight_of heavy (called_in_choices choices) ≤ choices_weight (λ a b. a + b) (λ from to by. 1) called choices
    choices_heavy no_choice = omega arith
    choices_heavy (choice labels body rest) =
        let sum = weight_append heavy (called_in body) (called_in_choices rest) in
        let first = body_heavy body in
        let more = choices_heavy rest in
        omega (arith, sum, first, more)

if_less : (b c : Bool) (n : ℕ) → (if b || c then n else 0) ≤ (if b then n else 0) + (if c then n else 0)
if_less true c n = omega arith
if_less false c n = omega arith

module _ (v : Instance → ℕ) where
  -- those that have one of two properties
  either : (p q : Instance → Bool) (is : List Instance) → sum_if (λ i. p i || q i) v is ≤ sum_if p v is + sum_if q v is
  either p q [] = omega arith
  either p q (i ∷ is) = let first = if_less (p i) (q i) (v i) in let rest = either p q is in omega (arith, first, rest)

  nothing : (is : List Instance) → sum_if (λ i. false) v is ≡ 0
  nothing [] = refl
  nothing (i ∷ is) = let rest = nothing is in omega (arith, rest)

  -- none has a name that isn't among theirs
  none_named : (x : List ℕ) (is : List Instance) → is_among (instance_words is) (folded x) ≡ false → sum_if (λ i. same_word i.name x) v is ≡ 0
  none_named x [] none = refl
  none_named x (i ∷ is) none =
      let parts = or_parts (bytes_eq (folded x) (folded i.name)) (is_among (instance_words is) (folded x)) none in
      let isnt : same_word i.name x ≡ false = same_turned i.name x ∙ parts.0 in
      let rest = none_named x is parts.1 in
      rw isnt (omega (arith, rest))

  -- at most one has a name, where no two have the same
  one_named : (x : List ℕ) (most : ℕ) (is : List Instance) → repeats (instance_words is) ≡ false → ((i : Instance) → Among is i → same_word i.name x ≡ true → v i ≤ most) → sum_if (λ i. same_word i.name x) v is ≤ most
  one_named x most [] apart less = omega arith
  one_named x most (i ∷ is) apart less =
      let parts = or_parts (is_among (instance_words is) (folded i.name)) (repeats (instance_words is)) apart in
      elim (cases_Bool (same_word i.name x)) [
        | inl named ↦ (
            let same : folded i.name ≡ folded x = (bytes_decides (folded i.name) (folded x)).0 named in
            let rest = none_named x is (subst (λ w. is_among (instance_words is) w ≡ false) same parts.0) in
            let own = less i (inl refl) named in
            rw named (omega (arith, rest, own)))
        | inr other ↦ (let rest = one_named x most is parts.1 (λ j there. less j (inr there)) in rw other (omega (arith, rest)))
      ]

  -- those that have one of so many names weigh no more than the names
  all_named : (w : List ℕ → ℕ) (is : List Instance) → repeats (instance_words is) ≡ false → ((x : List ℕ) (i : Instance) → Among is i → same_word i.name x ≡ true → v i ≤ w x)
      → (xs : List (List ℕ)) → sum_if (λ i. list_any (same_word i.name) xs) v is ≤ weight_of w xs
  all_named w is apart less [] = let none = nothing is in omega (arith, none)
  all_named w is apart less (x ∷ xs) =
      let both = either (λ i. same_word i.name x) (λ i. list_any (same_word i.name) xs) is in
      let first = one_named x (w x) is apart (less x) in
      let rest = all_named w is apart less xs in
      omega (arith, both, first, rest)

-- where a value of a list stands
place_of : {A : Type 0} (xs : List A) (x : A) → Among xs x → (k : ℕ) × (slice_get xs k ≡ Some x)
place_of [] x here = elim here [ ]
place_of (a ∷ xs) x (inl is) = (0, ap Some is)
place_of (a ∷ xs) x (inr later) = let rest = place_of xs x later in (suc rest.0, rest.1)

-- an instance is found by each word that is its name
pub named : (r : PlainRoutine) (x : List ℕ) (i : Instance) → repeats (instance_words r.instances) ≡ false → Among r.instances i → same_word i.name x ≡ true → block_named r x ≡ Some i.of
named r x i apart here is =
    let at = place_of r.instances i here in
    let same : folded i.name ≡ folded x = (bytes_decides (folded i.name) (folded x)).0 is in
    let within = slice_get_within r.instances at.0 i at.1 in
    let word = λ (j : Instance). folded j.name in
    let many = length-map r.instances word in
    let word_at : get_or (instance_words r.instances) at.0 (folded x) ≡ folded x = get_or-map word r.instances at.0 i (folded x) within ∙ ap word (get_or_from_slice_get r.instances at.0 i i at.1) ∙ same in
    let found : find_word (instance_words r.instances) x ≡ Some at.0 = word_found (instance_words r.instances) at.0 (folded x) apart (omega (arith, within, many)) word_at in
    ap (λ o. option_map (λ (j : Instance). j.of) (option_and_then (slice_get r.instances) o)) found ∙ ap (option_map (λ (j : Instance). j.of)) at.1

-- by the paths of the block types, and a size of each that is one less at most
module _ (f : ℕ → List Path) (g : ℕ → ℕ) (less : (n : ℕ) → length (f n) ≤ 1 + g n) where
  abbrev count_of : BlockRef → ℕ
  count_of Ton = 0
  count_of Tof = 0
  count_of RTrig = 0
  count_of (Declared n) = length (f n)

  counted : (name : List ℕ) (b : BlockRef) → length (block_paths f name b) ≡ count_of b
  counted name Ton = refl
  counted name Tof = refl
  counted name RTrig = refl
  counted name (Declared n) = length-map (f n) (λ path. path ++ name ∷ [])

  weighed : (b : BlockRef) → count_of b ≤ 1 + instance_weight g b
  weighed Ton = omega arith
  weighed Tof = omega arith
  weighed RTrig = omega arith
  weighed (Declared n) = less n

  if_long : (b : Bool) (paths : List Path) (n : ℕ) → length paths ≡ n → length (if b then paths else []) ≡ (if b then n else 0)
  if_long true paths n is = is
  if_long false paths n is = refl

  instances_counted : (r : PlainRoutine) (is : List Instance) → length (instance_paths f r is) ≡ sum_if (λ i. is_called r i.name) (λ i. count_of i.of) is
  instances_counted r [] = refl
  instances_counted r (i ∷ is) =
      let first = if_long (is_called r i.name) (block_paths f i.name i.of) (count_of i.of) (counted i.name i.of) in
      let rest = instances_counted r is in
      let many = length-append (if is_called r i.name then block_paths f i.name i.of else []) (instance_paths f r is) in
      omega (arith, first, rest, many)

  -- a routine has at most as many paths as its size and one more
  routine_few : (r : PlainRoutine) → repeats (instance_words r.instances) ≡ false → length (paths_rule f r) ≤ 1 + routine_size g r
  routine_few r apart =
      let many = instances_counted r r.instances in
      let few = all_named (λ i. count_of i.of) (heavy (called_weight g r)) r.instances apart
      (λ x i here is. let own = weighed i.of in let weight = ap (λ o. option_map_or (instance_weight g) o 0) (named r x i apart here is) in omega (arith, own, weight)) (called_in r.body)
      in
      let heavy = body_heavy (called_weight g r) r.body in
      omega (arith, many, few, heavy)

-- the words behind others are apart, if all are
behind_apart : (xs ys : List (List ℕ)) → repeats (xs ++ ys) ≡ false → repeats ys ≡ false
behind_apart [] ys apart = apart
behind_apart (x ∷ xs) ys apart = behind_apart xs ys (or_parts (is_among (xs ++ ys) x) (repeats (xs ++ ys)) apart).1

pub instances_apart : (r : PlainRoutine) → AreNamedApart r → repeats (instance_words r.instances) ≡ false
instances_apart r apart = behind_apart (row_words r.rows) (instance_words r.instances) (behind_apart (own_words r.locals) (row_words r.rows ++ instance_words r.instances) apart)

module _ (blocks : List PlainRoutine) (apart : All AreNamedApart blocks) where
  types_by : (d n : ℕ) (o : Option PlainRoutine) → slice_get blocks n ≡ o → ((m : ℕ) → length (levels [] paths_rule blocks d m) ≤ 1 + levels 0 routine_size blocks d m)
      → length (option_map_or (paths_rule (levels [] paths_rule blocks d)) o []) ≤ 1 + option_map_or (routine_size (levels 0 routine_size blocks d)) o 0
  types_by d n None at before = omega arith
  types_by d n (Some r) at before = routine_few (levels [] paths_rule blocks d) (levels 0 routine_size blocks d) before r (instances_apart r (all_at AreNamedApart blocks n r apart at))

  types_few : (d n : ℕ) → length (levels [] paths_rule blocks d n) ≤ 1 + levels 0 routine_size blocks d n
  types_few zero n = omega arith
  types_few (suc d) n = types_by d n (slice_get blocks n) refl (types_few d)

  pub routine_paths_few : (r : PlainRoutine) → AreNamedApart r → length (paths_rule (type_paths blocks) r) ≤ 1 + routine_size (type_size blocks) r
  routine_paths_few r named = routine_few (type_paths blocks) (type_size blocks) (types_few (length blocks)) r (instances_apart r named)

  programs_few : (ps : List PlainRoutine) → All AreNamedApart ps → (k : ℕ) → program_paths_before blocks ps k ≤ k + sum_by (routine_size (type_size blocks)) ps
  programs_few [] each k = omega arith
  programs_few (p ∷ ps) each zero = omega arith
  programs_few (p ∷ ps) each (suc k) =
      let own = routine_few (type_paths blocks) (type_size blocks) (types_few (length blocks)) p (instances_apart p (all_at AreNamedApart (p ∷ ps) 0 p each refl)) in
      let rest = programs_few ps (λ j d less. each (suc j) d (omega (arith, less))) k in
      let sum = sum_by-cons (routine_size (type_size blocks)) p ps in
      omega (arith, own, rest, sum)

-- the numbers of a sound source's paths fit 32 bits
pub paths_few : (source : Source) → IsSound source → (k : ℕ) → k ≤ length source.programs → program_paths_base source k < 4294967296
paths_few source sound k within =
    let named = sound_named source sound in
    let size : sum_by (routine_size (type_size source.blocks)) source.programs ≤ 1000000 = sound.limits.size in
    let programs = few_programs source sound in
    let few = programs_few source.blocks named.in_blocks source.programs named.in_programs k in
    omega (arith, size, programs, few, within)
