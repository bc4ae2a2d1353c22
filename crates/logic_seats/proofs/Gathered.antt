-- The names of the instances that a body calls, as they are gathered.
use Rattle.std.proofs.Common.{◌≡◌, ◌∙◌, ap, sym, subst, refl, arith, ℕ, ◌+◌, ◌<◌, length, drop, get_or, Bool, true, false, List, [], ◌∷◌, ◌++◌, inl, inr}
use Rattle.std.specs.Prelude.{◌||◌, not, nat_lt, if◌then◌else◌, is_some}
use Rattle.std.specs.List.{list_any, position_or_len}
use Rattle.std.specs.Str.{bytes_eq}
use Rattle.std.specs.Cmp.Lexicographic.{bytes_decides}
use Rattle.std.proofs.Math.Bool.{or_assoc}
use Rattle.std.proofs.lemmas.Bool.{cases_Bool, or_parts, or_right}
use Rattle.std.proofs.lemmas.Bool.Decides.{nat_tests}
use Rattle.std.proofs.lemmas.List.{drop_more}
use Rattle.std.proofs.lemmas.List.Folds.{list_any-append}
use Rattle.plant_types.specs.Words.{folded, same_word}
use Rattle.base_words.specs.Names.{find_name, is_among}
use Rattle.st_tree.specs.Plain.{PlainExpr, PlainBody}
use Rattle.st_tree.specs.declared.tree.Stmt.{Stmt}
use Rattle.st_tree.specs.declared.tree.Branch.{Branch}
use Rattle.st_tree.specs.declared.tree.Choice.{Choice}
use Rattle.st_tree.specs.declared.tree.Label.{Label}
use Rattle.st_tree.specs.View.{view_stmt, view_body, view_branch, view_branches, view_choice, view_choices}
use Rattle.st_tree.proofs.Views.{view_branch_is, view_choice_is}
use Rattle.logic_source.specs.Paths.{called_in_stmt, called_in, called_in_branches, called_in_choices}

-- names, and those that are still to be added, are all
abbrev pub Left : (names rest whole : List (List ℕ)) (start : List (List ℕ)) → Type 0
Left names rest whole start = (n : List ℕ) → (list_any (same_word n) names || list_any (same_word n) rest) ≡ (list_any (same_word n) start || list_any (same_word n) whole)

pub left_less : (names names' here rest whole start : List (List ℕ)) → Left names (here ++ rest) whole start → ((n : List ℕ) → list_any (same_word n) names' ≡ (list_any (same_word n) names || list_any (same_word n) here)) → Left names' rest whole start
left_less names names' here rest whole start before added n =
    ap (λ b. b || list_any (same_word n) rest) (added n) ∙ or_assoc (list_any (same_word n) names) (list_any (same_word n) here) (list_any (same_word n) rest)
    ∙ ap (λ b. list_any (same_word n) names || b) (sym (list_any-append (same_word n) here rest)) ∙ before n

or_none : (b : Bool) → (b || false) ≡ b
or_none true = refl
or_none false = refl

pub left_none : (names rest whole start : List (List ℕ)) → rest ≡ [] → Left names rest whole start → (n : List ℕ) → list_any (same_word n) names ≡ (list_any (same_word n) start || list_any (same_word n) whole)
left_none names rest whole start none before n = sym (or_none (list_any (same_word n) names)) ∙ ap (λ l. list_any (same_word n) names || list_any (same_word n) l) (sym none) ∙ before n

-- a name that is added, unless it is there
pub name_added : (names names' : List (List ℕ)) (name given : List ℕ) (is_new : Bool) → given ≡ name → is_new ≡ not (list_any (same_word given) names) → names' ≡ (if is_new then names ++ given ∷ [] else names)
    → (n : List ℕ) → list_any (same_word n) names' ≡ (list_any (same_word n) names || same_word n name)
name_added names names' name given is_new same new becomes n =
    elim (cases_Bool (list_any (same_word given) names)) [
      | inl there ↦ (
          let stays : names' ≡ names = becomes ∙ ap (λ b. if b then names ++ given ∷ [] else names) (new ∙ ap not there) in
          ap (list_any (same_word n)) stays ∙ known there)
      | inr none ↦ (
          let grows : names' ≡ names ++ given ∷ [] = becomes ∙ ap (λ b. if b then names ++ given ∷ [] else names) (new ∙ ap not none) in
          ap (list_any (same_word n)) grows ∙ list_any-append (same_word n) names (given ∷ []) ∙ ap (λ b. list_any (same_word n) names || b) (or_none (same_word n given) ∙ ap (same_word n) same))
    ]
  where
    word : (x : Bool) → same_word n name ≡ x → list_any (same_word given) names ≡ true → list_any (same_word n) names ≡ (list_any (same_word n) names || x)
    word false is there = sym (or_none (list_any (same_word n) names))
    word true is there =
        let equal : folded n ≡ folded given = (bytes_decides (folded n) (folded name)).0 is ∙ ap folded (sym same) in
        let here : list_any (same_word n) names ≡ true = ap (λ w. list_any (λ m. bytes_eq w (folded m)) names) equal ∙ there in
        here ∙ sym (or_right (list_any (same_word n) names) true refl)

    known : list_any (same_word given) names ≡ true → list_any (same_word n) names ≡ (list_any (same_word n) names || same_word n name)
    known there = word (same_word n name) refl there

not_there : {A : Type 0} (p : A → Bool) (xs : List A) → list_any p xs ≡ false → position_or_len p xs ≡ length xs
not_there p [] none = refl
not_there p (x ∷ xs) none = let parts = or_parts (p x) (list_any p xs) none in let rest = not_there p xs parts.1 in rw parts.0 (omega (arith, rest))

some_there : {A : Type 0} (p : A → Bool) (xs : List A) → list_any p xs ≡ true → position_or_len p xs < length xs
some_there p [] any = absurd (cc)
some_there p (x ∷ xs) any =
    elim (cases_Bool (p x)) [
      | inl is ↦ rw is (omega arith)
      | inr isnt ↦ (let rest = some_there p xs (rw isnt at any) in rw isnt (omega (arith, rest)))
    ]

-- a name is found where it is among names
pub found_there : (names : List (List ℕ)) (name : List ℕ) → is_some (find_name names name) ≡ is_among names name
found_there names name =
    elim (cases_Bool (is_among names name)) [
      | inl there ↦ (
          let less = some_there (same_word name) names there in
          let is : nat_lt (position_or_len (same_word name) names) (length names) ≡ true = grind (arith, nat_tests) in
          rw is (sym there))
      | inr none ↦ (
          let same = not_there (same_word name) names none in
          let isnt : nat_lt (position_or_len (same_word name) names) (length names) ≡ false = grind (arith, nat_tests) in
          rw isnt (sym none))
    ]

-- a step in a body, in branches and in choices
pub body_left : (body : List (Stmt (List ℕ))) (i : ℕ) (s : Stmt (List ℕ)) (names names' whole start : List (List ℕ)) → i < length body → s ≡ get_or body i s → Left names (called_in (view_body (drop i body))) whole start
    → ((n : List ℕ) → list_any (same_word n) names' ≡ (list_any (same_word n) names || list_any (same_word n) (called_in_stmt (view_stmt s)))) → Left names' (called_in (view_body (drop (i + 1) body))) whole start
body_left body i s names names' whole start within is before added =
    let rest = drop (i + 1) body in
    let split : drop i body ≡ s ∷ rest = drop_more body i s within ∙ ap (λ (x : Stmt (List ℕ)). x ∷ rest) (sym is) in
    left_less names names' (called_in_stmt (view_stmt s)) (called_in (view_body rest)) whole start (subst (λ l. Left names (called_in (view_body l)) whole start) split before) added

pub branches_left : (branches : List (Branch (List ℕ))) (i : ℕ) (b : Branch (List ℕ)) (names names' whole start : List (List ℕ)) → i < length branches → b ≡ get_or branches i b → Left names (called_in_branches (view_branches (drop i branches))) whole start
    → ((n : List ℕ) → list_any (same_word n) names' ≡ (list_any (same_word n) names || list_any (same_word n) (called_in (view_body b.body.items)))) → Left names' (called_in_branches (view_branches (drop (i + 1) branches))) whole start
branches_left branches i b names names' whole start within is before added =
    let rest = drop (i + 1) branches in
    let split : drop i branches ≡ b ∷ rest = drop_more branches i b within ∙ ap (λ (x : Branch (List ℕ)). x ∷ rest) (sym is) in
    let body : (view_branch b).1 ≡ view_body b.body.items = ap (λ (p : PlainExpr (List ℕ) × PlainBody (List ℕ)). p.1) (view_branch_is b) in
    left_less names names' (called_in (view_body b.body.items)) (called_in_branches (view_branches rest)) whole start
    (subst (λ l. Left names (called_in l ++ called_in_branches (view_branches rest)) whole start) body (subst (λ l. Left names (called_in_branches (view_branches l)) whole start) split before)) added

pub choices_left : (choices : List (Choice (List ℕ))) (i : ℕ) (c : Choice (List ℕ)) (names names' whole start : List (List ℕ)) → i < length choices → c ≡ get_or choices i c → Left names (called_in_choices (view_choices (drop i choices))) whole start
    → ((n : List ℕ) → list_any (same_word n) names' ≡ (list_any (same_word n) names || list_any (same_word n) (called_in (view_body c.body.items)))) → Left names' (called_in_choices (view_choices (drop (i + 1) choices))) whole start
choices_left choices i c names names' whole start within is before added =
    let rest = drop (i + 1) choices in
    let split : drop i choices ≡ c ∷ rest = drop_more choices i c within ∙ ap (λ (x : Choice (List ℕ)). x ∷ rest) (sym is) in
    let body : (view_choice c).1 ≡ view_body c.body.items = ap (λ (p : List Label × PlainBody (List ℕ)). p.1) (view_choice_is c) in
    left_less names names' (called_in (view_body c.body.items)) (called_in_choices (view_choices rest)) whole start
    (subst (λ l. Left names (called_in l ++ called_in_choices (view_choices rest)) whole start) body (subst (λ l. Left names (called_in_choices (view_choices l)) whole start) split before)) added
