-- Instances found by their names.
use Rattle.std.proofs.Common.{◌≡◌, ◌∙◌, ap, sym, refl, ℕ, suc, ◌+◌, Bool, true, false, List, [], ◌∷◌, ◌++◌, map, length, Option, Some, None, inl, inr, arith, if◌then◌else◌, ◌<◌, ◌≤◌, take, get_or}
use Rattle.std.proofs.lemmas.List.{take_more, take_all}
use Rattle.std.specs.Prelude.{slice_get, position, not}
use Rattle.std.specs.List.{list_any, position_from}
use Rattle.std.specs.Option.{option_map, option_and_then}
use Rattle.std.specs.Str.{bytes_eq}
use Rattle.std.specs.Cmp.Lexicographic.{bytes_decides}
use Rattle.std.proofs.lemmas.Bool.{cases_Bool}
use Rattle.std.proofs.lemmas.Iterator.Adapters.{position_from-zero}
use Rattle.plant_types.specs.Words.{folded, same_word}
use Rattle.base_words.specs.Names.{is_among}
use Rattle.st_blocks.specs.Chains.{Among}
use Rattle.logic_source.specs.declared.logic.BlockRef.{BlockRef}
use Rattle.logic_source.specs.declared.logic.Instance.{Instance}
use Rattle.logic_source.specs.Source.{PlainRoutine}
use Rattle.logic_source.specs.Names.{instance_named, block_named}
use Rattle.logic_limits.specs.Measures.{or_else, block_of}

-- what stands in a list where the first item of another passes a test
abbrev picked : {X Y : Type 0} → (X → Bool) → List X → List Y → Option Y
picked test [] ys = None
picked test (x ∷ xs) [] = None
picked test (x ∷ xs) (y ∷ ys) = if test x then Some y else picked test xs ys

-- an item behind so many others
behind : {Y : Type 0} (all ys : List Y) (n : ℕ) → ((k : ℕ) → slice_get all (n + k) ≡ slice_get ys k) → (k : ℕ) → slice_get all (n + 1 + k) ≡ slice_get ys (suc k)
behind all ys n same k = ap (slice_get all) (omega arith) ∙ same (suc k)

at_first : {Y : Type 0} (all ys : List Y) (n : ℕ) → ((k : ℕ) → slice_get all (n + k) ≡ slice_get ys k) → slice_get all n ≡ slice_get ys 0
at_first all ys n same = ap (slice_get all) (omega arith) ∙ same 0

nothing_left : {X Y : Type 0} (test : X → Bool) (xs : List X) → picked {Y = Y} test xs [] ≡ None
nothing_left test [] = refl
nothing_left test (x ∷ xs) = refl

picked_from : {X Y : Type 0} (test : X → Bool) (xs : List X) (all ys : List Y) (n : ℕ) → ((k : ℕ) → slice_get all (n + k) ≡ slice_get ys k) → option_and_then (slice_get all) (position_from test n xs) ≡ picked test xs ys
picked_from test [] all ys n same = refl
picked_from test (x ∷ xs) all [] n same =
    elim (cases_Bool (test x)) [
      | inl passes ↦ rw passes (at_first all [] n same)
      | inr fails ↦ rw fails (picked_from test xs all [] (n + 1) (λ k. behind all [] n same k) ∙ nothing_left test xs)
    ]
picked_from test (x ∷ xs) all (y ∷ ys) n same =
    elim (cases_Bool (test x)) [
      | inl passes ↦ rw passes (at_first all (y ∷ ys) n same)
      | inr fails ↦ rw fails (picked_from test xs all ys (n + 1) (behind all (y ∷ ys) n same))
    ]

-- what stands at the position of the first item that passes
picked_at : {X Y : Type 0} (test : X → Bool) (xs : List X) (ys : List Y) → option_and_then (slice_get ys) (position test xs) ≡ picked test xs ys
picked_at test xs ys = ap (option_and_then (slice_get ys)) (position_from-zero test xs) ∙ picked_from test xs ys ys 0 (λ k. ap (slice_get ys) (omega arith))

picked_more : {X Y : Type 0} (test : X → Bool) (xs : List X) (x : X) (ys : List Y) (y : Y) → length xs ≡ length ys → picked test (xs ++ x ∷ []) (ys ++ y ∷ []) ≡ or_else (picked test xs ys) (if test x then Some y else None)
picked_more test [] x [] y long = refl
picked_more test [] x (w ∷ ws) y long = absurd (omega arith)
picked_more test (z ∷ zs) x [] y long = absurd (omega arith)
picked_more test (z ∷ zs) x (w ∷ ws) y long =
    elim (cases_Bool (test z)) [
      | inl passes ↦ rw passes refl
      | inr fails ↦ rw fails (picked_more test zs x ws y (omega arith))
    ]

picked_one : {X Y : Type 0} (test : X → Bool) (xs : List X) (ys : List Y) → length xs ≡ length ys → list_any test xs ≡ true → (y : Y) × (picked test xs ys ≡ Some y)
picked_one test [] ys long any = absurd (cc)
picked_one test (z ∷ zs) [] long any = absurd (omega arith)
picked_one test (z ∷ zs) (w ∷ ws) long any =
    elim (cases_Bool (test z)) [
      | inl passes ↦ (w, rw passes refl)
      | inr fails ↦ (
          let any' : list_any test zs ≡ true = rw fails at any in
          let one = picked_one test zs ws (omega arith) any' in
          (one.0, rw fails one.1))
    ]

-- the first instance of a name, in any letter case
abbrev pub first_named : List Instance → List ℕ → Option Instance
first_named [] name = None
first_named (i ∷ is) name = if same_word name i.name then Some i else first_named is name

picked_first : (is : List Instance) (name : List ℕ) → picked (bytes_eq (folded name)) (map (λ (i : Instance). folded i.name) is) is ≡ first_named is name
picked_first [] name = refl
picked_first (i ∷ is) name =
    elim (cases_Bool (same_word name i.name)) [
      | inl passes ↦ rw passes refl
      | inr fails ↦ rw fails (picked_first is name)
    ]

pub named_first : (r : PlainRoutine) (name : List ℕ) → instance_named r name ≡ first_named r.instances name
named_first r name = picked_at (bytes_eq (folded name)) (map (λ (i : Instance). folded i.name) r.instances) r.instances ∙ picked_first r.instances name

first_among : (is : List Instance) (name : List ℕ) (i : Instance) → first_named is name ≡ Some i → Among is i
first_among [] name i found = absurd (cc)
first_among (j ∷ js) name i found =
    elim (cases_Bool (same_word name j.name)) [
      | inl passes ↦ (let same : Some j ≡ Some i = rw passes at found in inl (cc))
      | inr fails ↦ (let later : first_named js name ≡ Some i = rw fails at found in inr (first_among js name i later))
    ]

pub named_among : (r : PlainRoutine) (name : List ℕ) (i : Instance) → instance_named r name ≡ Some i → Among r.instances i
named_among r name i found = first_among r.instances name i (sym (named_first r name) ∙ found)

-- one more instance, of another name than those before
pub more_named : (names : List (List ℕ)) (blocks : List BlockRef) (n : List ℕ) (b : BlockRef) → length names ≡ length blocks → (name : List ℕ) → block_of (names ++ n ∷ []) (blocks ++ b ∷ []) name ≡ or_else (block_of names blocks name) (if same_word name n then Some b else None)
more_named names blocks n b long name =
    picked_at (same_word name) (names ++ n ∷ []) (blocks ++ b ∷ []) ∙ picked_more (same_word name) names n blocks b long
    ∙ ap (λ o. or_else o (if same_word name n then Some b else None)) (sym (picked_at (same_word name) names blocks))

-- one more instance, of the name of one before
pub again_named : (names : List (List ℕ)) (blocks : List BlockRef) (n : List ℕ) (b : BlockRef) → length names ≡ length blocks → is_among names n ≡ true → (name : List ℕ) → block_of names blocks name ≡ or_else (block_of names blocks name) (if same_word name n then Some b else None)
again_named names blocks n b long there name =
    elim (cases_Bool (same_word name n)) [
      | inl passes ↦ (
          let word : folded name ≡ folded n = (bytes_decides (folded name) (folded n)).0 passes in
          let any : list_any (same_word name) names ≡ true = ap (λ w. list_any (λ m. bytes_eq w (folded m)) names) word ∙ there in
          let one = picked_one (same_word name) names blocks long any in
          let found : block_of names blocks name ≡ Some one.0 = picked_at (same_word name) names blocks ∙ one.1 in
          rw (passes, found) refl)
      | inr fails ↦ rw fails (or_none (block_of names blocks name))
    ]
  where
    or_none : (o : Option BlockRef) → o ≡ or_else o None
    or_none None = refl
    or_none (Some x) = refl

first_more : (is : List Instance) (i : Instance) (name : List ℕ) → option_map (λ (j : Instance). j.of) (first_named (is ++ i ∷ []) name) ≡ or_else (option_map (λ (j : Instance). j.of) (first_named is name)) (if same_word name i.name then Some i.of else None)
first_more [] i name =
    elim (cases_Bool (same_word name i.name)) [
      | inl passes ↦ rw passes refl
      | inr fails ↦ rw fails refl
    ]
first_more (j ∷ js) i name =
    elim (cases_Bool (same_word name j.name)) [
      | inl passes ↦ rw passes refl
      | inr fails ↦ rw fails (first_more js i name)
    ]

-- one more instance of a list
pub named_on : (is xs : List Instance) (k : ℕ) (i : Instance) (find find' : List ℕ → Option BlockRef) → xs ≡ is → k < length xs → i ≡ get_or xs k i → ((name : List ℕ) → find name ≡ option_map (λ (j : Instance). j.of) (first_named (take k is) name))
    → ((name : List ℕ) → find' name ≡ or_else (find name) (if same_word name i.name then Some i.of else None)) → (name : List ℕ) → find' name ≡ option_map (λ (j : Instance). j.of) (first_named (take (k + 1) is) name)
named_on is xs k i find find' same within at were made name =
    let within' : k < length is = let e = ap length same in omega arith in
    let at' : i ≡ get_or is k i = at ∙ ap (λ l. get_or l k i) same in
    made name ∙ ap (λ o. or_else o (if same_word name i.name then Some i.of else None)) (were name) ∙ sym (first_more (take k is) i name)
    ∙ ap (λ l. option_map (λ (j : Instance). j.of) (first_named l name)) (ap (λ x. take k is ++ x ∷ []) at' ∙ sym (take_more is k i within'))

-- all instances of a routine
pub named_all : (r : PlainRoutine) (xs : List Instance) (k : ℕ) (find : List ℕ → Option BlockRef) → xs ≡ r.instances → length xs ≤ k → ((name : List ℕ) → find name ≡ option_map (λ (j : Instance). j.of) (first_named (take k r.instances) name)) → (name : List ℕ) → find name ≡ block_named r name
named_all r xs k find same past were name =
    let past' : length r.instances ≤ k = let e = ap length same in omega arith in
    were name ∙ ap (λ l. option_map (λ (j : Instance). j.of) (first_named l name)) (take_all k r.instances past') ∙ ap (option_map (λ (j : Instance). j.of)) (sym (named_first r name))

not_false : (b : Bool) → not b ≡ false → b ≡ true
not_false true is = refl
not_false false is = absurd (cc)

-- an instance that is pushed
pub pushed_again : (names names' : List (List ℕ)) (blocks : List BlockRef) (text n : List ℕ) (b : BlockRef) (added : Bool) → text ≡ n → length names ≡ length blocks → added ≡ not (is_among names text) → names' ≡ (if added then names ++ text ∷ [] else names) → added ≡ false
    → (name : List ℕ) → block_of names' blocks name ≡ or_else (block_of names blocks name) (if same_word name n then Some b else None)
pushed_again names names' blocks text n b added text_is long added_is names_are isnt name =
    let same : names' ≡ names = names_are ∙ ap (λ a. if a then names ++ text ∷ [] else names) isnt in
    let there : is_among names n ≡ true = ap (is_among names) (sym text_is) ∙ not_false (is_among names text) (sym added_is ∙ isnt) in
    ap (λ l. block_of l blocks name) same ∙ again_named names blocks n b long there name

pub pushed_more : (names names' : List (List ℕ)) (blocks blocks' : List BlockRef) (text n : List ℕ) (b : BlockRef) (added : Bool) → text ≡ n → length names ≡ length blocks → names' ≡ (if added then names ++ text ∷ [] else names) → added ≡ true
    → blocks' ≡ blocks ++ b ∷ [] → (name : List ℕ) → block_of names' blocks' name ≡ or_else (block_of names blocks name) (if same_word name n then Some b else None)
pushed_more names names' blocks blocks' text n b added text_is long names_are is blocks_are name =
    let same : names' ≡ names ++ n ∷ [] = names_are ∙ ap (λ a. if a then names ++ text ∷ [] else names) is ∙ ap (λ t. names ++ t ∷ []) text_is in
    (λ i. block_of (same i) (blocks_are i) name) ∙ more_named names blocks n b long name
