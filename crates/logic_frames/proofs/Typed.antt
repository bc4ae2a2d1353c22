-- The variables and the instances of well-formed units have numbers.
use Rattle.std.proofs.Common.{◌≡◌, ◌∙◌, ap, sym, subst, refl, arith, ℕ, ◌<◌, Bool, true, false, if◌then◌else◌, List, [], ◌∷◌, ◌++◌, map, length, Option, Some, None, inl, inr}
use Rattle.std.specs.Prelude.{◌&&◌, is_some, is_none, not, nat_lt, filter_map, flat_map, position, option_and_then}
use Rattle.std.specs.List.{list_any, list_all, cons_option, position_or_len}
use Rattle.std.specs.Str.{bytes_eq}
use Rattle.std.specs.Cmp.Lexicographic.{bytes_decides}
use Rattle.std.proofs.lemmas.Bool.{cases_Bool, and_parts, or_left, or_right}
use Rattle.std.proofs.lemmas.Bool.Decides.{nat_tests}
use Rattle.plant_types.specs.Words.{folded, same_word}
use Rattle.plant_types.specs.declared.values.Kind.{Kind}
use Rattle.st_tree.specs.Kinds.{is_kind}
use Rattle.st_tree.specs.Plain.{PlainExpr}
use Rattle.logic_source.specs.SectionKind.{SectionKind}
use Rattle.logic_source.specs.SectionKind.TheVariants as sections
use Rattle.logic_source.specs.Sort.{Sort}
use Rattle.logic_source.specs.Sort.TheVariants as sort
use Rattle.logic_source.specs.StParserUnits.{PlainPou, PlainUnit}
use Rattle.logic_source.specs.First.{first_that}
use Rattle.logic_source.specs.DeclaredNames.{PlainDeclared, declared_in, find_declared, sort_kind, is_instance_sort}
use Rattle.logic_source.specs.Shared.{Shared, global, pou, shared_name, shared_in, as_global, global_named}
use Rattle.logic_source.specs.Scopes as scopes
use Rattle.logic_source.specs.Scopes.{or_other, is_external, variable_kind, can_control, is_control, sort_type, instance_type}
use Rattle.logic_source.proofs.Entries.{same_turned}
use Rattle.st_tree.specs.Fits.{all_fit}
use Rattle.logic_source.specs.Kinds.{context_of, initial_fits, sort_fits, instance_fits, declared_fits, pou_misfit}
use Rattle.logic_source.specs.declared.logic.Variable.{Variable}
use Rattle.logic_source.specs.declared.logic.Local.{Local}
use Rattle.logic_source.specs.declared.logic.Instance.{Instance}
use Rattle.plant_types.specs.declared.values.Kind.TheVariants as kinds
use Rattle.logic_source.specs.Source.{PlainRoutine, Source, global_cells}
use Rattle.logic_source.specs.Pous.{block_names}
use Rattle.logic_source.specs.Units.{local_of, instance_of, routine_of, source_in}
use Rattle.logic_source.specs.Names.{global_words, own_words, instance_words, find_word}
use Rattle.logic_source.specs.Seats.{own_or_global}
use Rattle.logic_source.proofs.Distinct.{pick_global, globals_picked}
use Rattle.logic_frames.specs.Numbers.{variable_number, instance_number}
use Rattle.logic_frames.proofs.Fitting.{and_then_some, some_kind}

module _ {A : Type 0} (p : A → Bool) where
  pub within : (xs : List A) → list_any p xs ≡ true → position_or_len p xs < length xs
  within [] any = absurd (cc)
  within (x ∷ xs) any =
      elim (cases_Bool (p x)) [
        | inl is ↦ rw is (omega arith)
        | inr isnt ↦ (let rest = within xs (rw isnt at any) in rw isnt (omega (arith, rest)))
      ]

  -- what a list has has a place in it
  pub placed_some : (xs : List A) → list_any p xs ≡ true → is_some (position p xs) ≡ true
  placed_some xs any =
      let less = within xs any in
      let is : nat_lt (position_or_len p xs) (length xs) ≡ true = grind (arith, nat_tests) in
      rw is refl

pub any_later : {A B : Type 0} (p : B → Bool) (f : A → B) (ys xs : List A) → list_any p (map f xs) ≡ true → list_any p (map f (ys ++ xs)) ≡ true
any_later p f [] xs any = any
any_later p f (y ∷ ys) xs any = or_right (p (f y)) (list_any p (map f (ys ++ xs))) (any_later p f ys xs any)

pub kind_is : (s : Sort) (k : Kind) → sort_kind s ≡ Some k → s ≡ sort.Kind k
kind_is (sort.Kind j) k is = let same : j ≡ k = cc in ap sort.Kind same
kind_is (sort.Block word) k is = absurd (cc)
kind_is (sort.Array bounds kind) k is = absurd (cc)

-- what is found first passes
pub first_is : {A : Type 0} (test : A → Bool) (xs : List A) (a : A) → first_that test xs ≡ Some a → test a ≡ true
first_is test [] a is = absurd (cc)
first_is test (x ∷ xs) a is =
    elim (cases_Bool (test x)) [
      | inl passes ↦ (let found : Some x ≡ Some a = (rw passes at is) in let same : x ≡ a = cc in subst (λ y. test y ≡ true) same passes)
      | inr fails ↦ first_is test xs a (rw fails at is)
    ]

pub first_passes : {A : Type 0} (test q : A → Bool) (xs : List A) (a : A) → list_all q xs ≡ true → first_that test xs ≡ Some a → q a ≡ true
first_passes test q [] a all is = absurd (cc)
first_passes test q (x ∷ xs) a all is =
    let parts = and_parts (q x) (list_all q xs) all in
    elim (cases_Bool (test x)) [
      | inl passes ↦ (let found : Some x ≡ Some a = (rw passes at is) in let same : x ≡ a = cc in subst (λ y. q y ≡ true) same parts.0)
      | inr fails ↦ first_passes test q xs a parts.1 (rw fails at is)
    ]

module _ (name : List ℕ) where
  abbrev pub has : List (List ℕ) → Bool
  has words = list_any (bytes_eq (folded name)) words

  pub local_here : (d : PlainDeclared) (k : Kind) (rest : List Local) → same_word d.name name ≡ true → is_external d.section ≡ false → d.sort ≡ sort.Kind k → has (own_words (local_of d ++ rest)) ≡ true
  local_here d k rest same own kind = rw own (rw kind (or_left (same_word name d.name) (has (own_words rest)) (same_turned name d.name ∙ same)))

  -- a variable that is declared as a routine's own
  own_has : (ds : List PlainDeclared) (d : PlainDeclared) (k : Kind) → find_declared ds name ≡ Some d → is_external d.section ≡ false → d.sort ≡ sort.Kind k → has (own_words (flat_map local_of ds)) ≡ true
  own_has [] d k found own kind = absurd (cc)
  own_has (e ∷ ds) d k found own kind =
      elim (cases_Bool (same_word e.name name)) [
        | inl is ↦ (
            let one : Some e ≡ Some d = (rw is at found) in
            let same : e ≡ d = cc in
            local_here e k (flat_map local_of ds) is (ap (λ (x : PlainDeclared). is_external x.section) same ∙ own) (ap (λ (x : PlainDeclared). x.sort) same ∙ kind))
        | inr isnt ↦ any_later (bytes_eq (folded name)) (λ (l : Local). folded l.name) (local_of e) (flat_map local_of ds) (own_has ds d k (rw isnt at found) own kind)
      ]

  abbrev words_of : List Variable → List (List ℕ)
  words_of globals = global_words globals

  global_here : (s : Shared) (d : PlainDeclared) (k : Kind) (rest : List Variable) → same_word (shared_name s) name ≡ true → as_global (Some s) ≡ Some d → d.sort ≡ sort.Kind k → has (words_of (cons_option (pick_global s) rest)) ≡ true
  global_here (global e) d k rest same is kind =
      let one : e ≡ d = cc in
      let of : e.sort ≡ sort.Kind k = ap (λ (x : PlainDeclared). x.sort) one ∙ kind in
      rw of (or_left (same_word name e.name) (has (words_of rest)) (same_turned name e.name ∙ same))
  global_here (pou p) d k rest same is kind = absurd (cc)

  option_later : (o : Option Variable) (rest : List Variable) → has (words_of rest) ≡ true → has (words_of (cons_option o rest)) ≡ true
  option_later None rest any = any
  option_later (Some v) rest any = or_right (same_word name v.name) (has (words_of rest)) any

  globals_have : (items : List Shared) (d : PlainDeclared) (k : Kind) → as_global (first_that (λ s. same_word (shared_name s) name) items) ≡ Some d → d.sort ≡ sort.Kind k → has (words_of (filter_map pick_global items)) ≡ true
  globals_have [] d k found kind = absurd (cc)
  globals_have (s ∷ items) d k found kind =
      elim (cases_Bool (same_word (shared_name s) name)) [
        | inl is ↦ global_here s d k (filter_map pick_global items) is (rw is at found) kind
        | inr isnt ↦ option_later (pick_global s) (filter_map pick_global items) (globals_have items d k (rw isnt at found) kind)
      ]

  -- a variable that is declared as a global
  global_has : (units : List PlainUnit) (d : PlainDeclared) (k : Kind) → global_named units name ≡ Some d → d.sort ≡ sort.Kind k → is_some (find_word (global_words (source_in units).globals) name) ≡ true
  global_has units d k found kind =
      placed_some (bytes_eq (folded name)) (global_words (source_in units).globals) (ap (λ gs. has (words_of gs)) (globals_picked units) ∙ globals_have (shared_in units) d k found kind)

  instance_here : (names : List (List ℕ)) (d : PlainDeclared) (word : List ℕ) (rest : List Instance) → same_word d.name name ≡ true → is_external d.section ≡ false → d.sort ≡ sort.Block word → has (instance_words (instance_of names d ++ rest)) ≡ true
  instance_here names d word rest same own of = rw own (rw of (or_left (same_word name d.name) (has (instance_words rest)) (same_turned name d.name ∙ same)))

  -- an instance that is declared as a routine's own
  instances_have : (names : List (List ℕ)) (ds : List PlainDeclared) (d : PlainDeclared) (word : List ℕ) → find_declared ds name ≡ Some d → is_external d.section ≡ false → d.sort ≡ sort.Block word → has (instance_words (flat_map (instance_of names) ds)) ≡ true
  instances_have names [] d word found own of = absurd (cc)
  instances_have names (e ∷ ds) d word found own of =
      elim (cases_Bool (same_word e.name name)) [
        | inl is ↦ (
            let one : Some e ≡ Some d = (rw is at found) in
            let same : e ≡ d = cc in
            instance_here names e word (flat_map (instance_of names) ds) is (ap (λ (x : PlainDeclared). is_external x.section) same ∙ own) (ap (λ (x : PlainDeclared). x.sort) same ∙ of))
        | inr isnt ↦ any_later (bytes_eq (folded name)) (λ (i : Instance). folded i.name) (instance_of names e) (flat_map (instance_of names) ds) (instances_have names ds d word (rw isnt at found) own of)
      ]

pub own_first : (base : ℕ) (o q : Option ℕ) → is_some o ≡ true → is_some (own_or_global base o q) ≡ true
own_first base None q there = absurd (cc)
own_first base (Some i) q there = refl

pub global_next : (base : ℕ) (o q : Option ℕ) → is_some q ≡ true → is_some (own_or_global base o q) ≡ true
global_next base None q there = there
global_next base (Some i) q there = refl

pub not_false : (b : Bool) → not b ≡ false → b ≡ true
not_false true is = refl
not_false false is = absurd (cc)

module _ (units : List PlainUnit) (p : PlainPou) (fits : pou_misfit units p ≡ false) where
  abbrev own : List PlainDeclared
  own = declared_in p.sections

  abbrev r : PlainRoutine
  r = routine_of (block_names units) p

  abbrev source : Source
  source = source_in units

  pub declared_all : list_all (declared_fits units own) own ≡ true
  declared_all = (and_parts (list_all (declared_fits units own) own) (all_fit (context_of units own) p.body) (not_false (list_all (declared_fits units own) own && all_fit (context_of units own) p.body) fits)).0

  local_numbered : (name : List ℕ) (d : PlainDeclared) (k : Kind) → find_declared own name ≡ Some d → is_external d.section ≡ false → sort_kind d.sort ≡ Some k → is_some (variable_number source r name) ≡ true
  local_numbered name d k found inside kind =
      own_first (global_cells source) (find_word (own_words r.locals) name) (find_word (global_words source.globals) name)
      (placed_some (bytes_eq (folded name)) (own_words r.locals) (own_has name own d k found inside (kind_is d.sort k kind)))

  global_numbered : (name : List ℕ) (d : PlainDeclared) (k : Kind) → global_named units name ≡ Some d → sort_kind d.sort ≡ Some k → is_some (variable_number source r name) ≡ true
  global_numbered name d k found kind =
      global_next (global_cells source) (find_word (own_words r.locals) name) (find_word (global_words source.globals) name) (global_has name units d k found (kind_is d.sort k kind))

  external_kind : (d : PlainDeclared) (k : Kind) → is_external d.section ≡ true → sort_kind d.sort ≡ Some k → declared_fits units own d ≡ true → is_kind k (scopes.global_kind units d.name) ≡ true
  external_kind d k outside kind fit =
      let by_kind : (if is_external d.section then is_none d.initial && is_kind k (scopes.global_kind units d.name) else initial_fits units own (Some k) d.initial) ≡ true = ap (sort_fits units own d) (sym (kind_is d.sort k kind)) ∙ fit in
      let both : is_none d.initial && is_kind k (scopes.global_kind units d.name) ≡ true = (rw outside at by_kind) in
      (and_parts (is_none d.initial) (is_kind k (scopes.global_kind units d.name)) both).1

  external_numbered : (name : List ℕ) (d : PlainDeclared) (k : Kind) → find_declared own name ≡ Some d → is_external d.section ≡ true → sort_kind d.sort ≡ Some k → is_some (variable_number source r name) ≡ true
  external_numbered name d k found outside kind =
      let fit = first_passes (λ (e : PlainDeclared). same_word e.name name) (declared_fits units own) own d declared_all found in
      let some = some_kind k (scopes.global_kind units d.name) (external_kind d k outside kind fit) in
      let g = and_then_some (λ (e : PlainDeclared). sort_kind e.sort) (global_named units d.name) some.0 some.1 in
      let same : folded d.name ≡ folded name = (bytes_decides (folded d.name) (folded name)).0 (first_is (λ (e : PlainDeclared). same_word e.name name) own d found) in
      global_next (global_cells source) (find_word (own_words r.locals) name) (find_word (global_words source.globals) name)
      (subst (λ w. is_some (position (bytes_eq w) (global_words source.globals)) ≡ true) same (global_has d.name units g.0 some.0 g.1 (kind_is g.0.sort some.0 g.2)))

  declared_numbered : (name : List ℕ) (d : PlainDeclared) (k : Kind) → find_declared own name ≡ Some d → sort_kind d.sort ≡ Some k → is_some (variable_number source r name) ≡ true
  declared_numbered name d k found kind =
      elim (cases_Bool (is_external d.section)) [
        | inl outside ↦ external_numbered name d k found outside kind
        | inr inside ↦ local_numbered name d k found inside kind
      ]

  by_search : (name : List ℕ) (k : Kind) (o q : Option PlainDeclared) → find_declared own name ≡ o → global_named units name ≡ q → option_and_then (λ (d : PlainDeclared). sort_kind d.sort) (or_other o q) ≡ Some k → is_some (variable_number source r name) ≡ true
  by_search name k (Some d) q found other kind = declared_numbered name d k found kind
  by_search name k None (Some d) found other kind = global_numbered name d k other kind
  by_search name k None None found other kind = absurd (cc)

  -- a variable that has a kind has a number
  pub variable_numbered : (name : List ℕ) (k : Kind) → variable_kind units own name ≡ Some k → is_some (variable_number source r name) ≡ true
  variable_numbered name k kind = by_search name k (find_declared own name) (global_named units name) refl refl kind

  controlled_by : (name : List ℕ) (o : Option PlainDeclared) → find_declared own name ≡ o → can_control o ≡ true → is_some (variable_number source r name) ≡ true
  controlled_by name None found control = absurd (cc)
  controlled_by name (Some d) found control =
      let parts = and_parts (not (is_external d.section)) (is_kind kinds.Dint (sort_kind d.sort)) control in
      let some = some_kind kinds.Dint (sort_kind d.sort) parts.1 in
      declared_numbered name d some.0 found some.1

  -- a control variable has a number
  pub control_numbered : (name : List ℕ) → is_control own name ≡ true → is_some (variable_number source r name) ≡ true
  control_numbered name control = controlled_by name (find_declared own name) refl control

  block_of : (d : PlainDeclared) (s : Sort) → is_some (sort_type units s) ≡ true → (word : List ℕ) × (s ≡ sort.Block word)
  block_of d (sort.Kind k) there = absurd (cc)
  block_of d (sort.Block word) there = (word, refl)
  block_of d (sort.Array bounds k) there = absurd (cc)

  pub not_external : (section : SectionKind) (e : Option (PlainExpr (List ℕ))) → instance_fits section e ≡ true → is_external section ≡ false
  not_external sections.Local e fit = refl
  not_external sections.External e fit = absurd (cc)
  not_external sections.Input e fit = refl
  not_external sections.Output e fit = refl
  not_external sections.Global e fit = refl

  instance_by_search : (name : List ℕ) (o q : Option PlainDeclared) → find_declared own name ≡ o → global_named units name ≡ q → ((d : PlainDeclared) → q ≡ Some d → is_instance_sort d.sort ≡ false)
      → is_some (option_and_then (λ (d : PlainDeclared). sort_type units d.sort) (or_other o q)) ≡ true → is_some (instance_number r name) ≡ true
  instance_by_search name (Some d) q found other globals there =
      let block = block_of d d.sort there in
      let fit = first_passes (λ (e : PlainDeclared). same_word e.name name) (declared_fits units own) own d declared_all found in
      let local : instance_fits d.section d.initial ≡ true = ap (sort_fits units own d) (sym block.1) ∙ fit in
      placed_some (bytes_eq (folded name)) (instance_words r.instances) (instances_have name (block_names units) own d block.0 found (not_external d.section d.initial local) block.1)
  instance_by_search name None (Some d) found other globals there =
      let block = block_of d d.sort there in
      let variable : is_instance_sort (sort.Block block.0) ≡ false = ap is_instance_sort (sym block.1) ∙ globals d refl in
      absurd (cc)
  instance_by_search name None None found other globals there = absurd (cc)

  -- an instance has a number, if no global is an instance
  pub instance_numbered : ((name : List ℕ) (d : PlainDeclared) → global_named units name ≡ Some d → is_instance_sort d.sort ≡ false) → (name : List ℕ) → is_some (instance_type units own name) ≡ true → is_some (instance_number r name) ≡ true
  instance_numbered globals name there = instance_by_search name (find_declared own name) (global_named units name) refl refl (globals name) there
