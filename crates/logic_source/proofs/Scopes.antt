-- What the names of a routine of well-formed units are: its variables, its instances and their members, with their kinds and paths.
use Rattle.std.proofs.Common.{◌≡◌, ◌∙◌, ap, sym, subst, refl, ℕ, ℤ, zero, suc, pos, ◌+◌, length, take, Bool, true, false, List, [], ◌∷◌, ◌++◌, map, Option, Some, None, slice_get, inl, inr}
use Rattle.std.specs.Prelude.{◌&&◌, if◌then◌else◌, is_some, is_none, option_map, option_and_then, unwrap_or, flat_map, filter_map}
use Rattle.std.specs.List.{list_all, cons_option}
use Rattle.std.specs.Option.{option_map_or}
use Rattle.std.specs.Ordering.{int_eq}
use Rattle.std.specs.Str.{bytes_eq}
use Rattle.std.specs.Cmp.Lexicographic.{bytes_decides}
use Rattle.std.proofs.lemmas.Bool.{cases_Bool, and_parts}
use Rattle.plant_types.specs.Values.{has_index, Path}
use Rattle.plant_types.specs.Words.{folded, same_word}
use Rattle.plant_types.specs.declared.values.Bounds.{Bounds}
use Rattle.plant_types.specs.declared.values.Kind.{Kind}
use Rattle.plant_types.specs.declared.values.Kind.TheVariants as kind
use Rattle.st_blocks.specs.Chains.{Among}
use Rattle.st_tree.specs.Kinds.{is_kind, same_kind}
use Rattle.st_tree.proofs.FittedLaws.{kind_is}
use Rattle.st_typing.specs.SectionKind.{SectionKind}
use Rattle.st_typing.specs.SectionKind.TheVariants as sections
use Rattle.st_typing.specs.Sort.{Sort}
use Rattle.st_typing.specs.Sort.TheVariants as sort
use Rattle.st_typing.specs.Units.{PlainPou, PlainUnit}
use Rattle.st_typing.specs.First.{first_that}
use Rattle.st_typing.specs.DeclaredNames.{PlainDeclared, declared_in, declared_words, find_declared, sort_kind, sort_array}
use Rattle.st_typing.specs.Shared.{Shared, global, pou, shared_name, shared_in, find_shared, as_global, is_block, global_named}
use Rattle.st_typing.specs.Scopes as scopes
use Rattle.st_typing.specs.Scopes.{or_other, is_external, variable_kind, element_kind}
use Rattle.st_typing.specs.Taken.{repeats}
use Rattle.st_typing.specs.Kinds.{initial_fits, is_array, array_stands, sort_fits, declared_fits}
use Rattle.logic_source.specs.declared.logic.Variable.{Variable}
use Rattle.logic_source.specs.declared.logic.Local.{Local}
use Rattle.logic_source.specs.declared.logic.Row.{Row}
use Rattle.logic_source.specs.declared.logic.Instance.{Instance}
use Rattle.logic_source.specs.Source.{PlainRoutine, Source, row_cells}
use Rattle.logic_source.specs.Seats.{own_or_global, row_first, row_number}
use Rattle.logic_source.specs.Pous.{pous_of, block_pous, block_names, pou_word}
use Rattle.logic_source.specs.Units.{local_by, local_of, row_by, own_row_of, block_ref, instance_by, instance_of, routine_of, source_in}
use Rattle.logic_source.specs.Names.{own_words, row_words, find_word, own_kind, global_kind, kind_named, row_named, array_named, element_kind_named, bounds_named}
use Rattle.logic_source.specs.Worlds.{words_of, path_of, path_in, index_word, element_path, globals_routine}
use Rattle.logic_source.specs.Ranges.{kind_at, element_at, local_kinds, row_kinds, own_kinds, all_kinds}
use Rattle.logic_source.proofs.Apart.{shared_word, pick_block}
use Rattle.logic_source.proofs.Distinct.{variable_by, array_by, pick_global, globals_picked, pick_global_row, global_rows_picked, global_row_named}
use Rattle.logic_source.proofs.Picked.{first_picked}
use Rattle.logic_source.proofs.Firsts.{finds, first_passes, first_is}
use Rattle.logic_source.proofs.Belows.{among_left}
use Rattle.logic_source.proofs.KindPaths.{Within, global_among, own_row_among, global_row_among}

-- ---- a declaration as a routine's own variable, array or instance, if it is one
abbrev pub own_by : PlainDeclared → Sort → Option Local
own_by d (sort.Kind kind) = Some (record { name = d.name; kind = kind })
own_by d (sort.Block word) = None
own_by d (sort.Array bounds kind) = None

abbrev pub pick_local : PlainDeclared → Option Local
pick_local d = if is_external d.section then None else own_by d d.sort

abbrev pub pick_row : PlainDeclared → Option Row
pick_row d = if is_external d.section then None else array_by d d.sort

abbrev pub held_by : List (List ℕ) → PlainDeclared → Sort → Option Instance
held_by types d (sort.Kind kind) = None
held_by types d (sort.Block word) = Some (record { name = d.name; of = block_ref types word })
held_by types d (sort.Array bounds kind) = None

abbrev pub pick_instance : List (List ℕ) → PlainDeclared → Option Instance
pick_instance types d = if is_external d.section then None else held_by types d d.sort

abbrev declared_word : PlainDeclared → List ℕ
declared_word d = folded d.name

abbrev local_word : Local → List ℕ
local_word l = folded l.name

abbrev row_word : Row → List ℕ
row_word row = folded row.name

abbrev instance_word : Instance → List ℕ
instance_word i = folded i.name

abbrev variable_word : Variable → List ℕ
variable_word v = folded v.name

one_local : (b : Bool) (d : PlainDeclared) (s : Sort) (rest : List Local) → (if b then [] else local_by d s) ++ rest ≡ cons_option (if b then None else own_by d s) rest
one_local true d s rest = refl
one_local false d (sort.Kind kind) rest = refl
one_local false d (sort.Block word) rest = refl
one_local false d (sort.Array bounds kind) rest = refl

locals_picked : (ds : List PlainDeclared) → flat_map local_of ds ≡ filter_map pick_local ds
locals_picked [] = refl
locals_picked (d ∷ ds) = ap (λ ls. local_of d ++ ls) (locals_picked ds) ∙ one_local (is_external d.section) d d.sort (filter_map pick_local ds)

one_row : (b : Bool) (d : PlainDeclared) (s : Sort) (rest : List Row) → (if b then [] else row_by d s) ++ rest ≡ cons_option (if b then None else array_by d s) rest
one_row true d s rest = refl
one_row false d (sort.Kind kind) rest = refl
one_row false d (sort.Block word) rest = refl
one_row false d (sort.Array bounds kind) rest = refl

rows_picked : (ds : List PlainDeclared) → flat_map own_row_of ds ≡ filter_map pick_row ds
rows_picked [] = refl
rows_picked (d ∷ ds) = ap (λ rows. own_row_of d ++ rows) (rows_picked ds) ∙ one_row (is_external d.section) d d.sort (filter_map pick_row ds)

one_instance : (types : List (List ℕ)) (b : Bool) (d : PlainDeclared) (s : Sort) (rest : List Instance) → (if b then [] else instance_by types d s) ++ rest ≡ cons_option (if b then None else held_by types d s) rest
one_instance types true d s rest = refl
one_instance types false d (sort.Kind kind) rest = refl
one_instance types false d (sort.Block word) rest = refl
one_instance types false d (sort.Array bounds kind) rest = refl

instances_picked : (types : List (List ℕ)) (ds : List PlainDeclared) → flat_map (instance_of types) ds ≡ filter_map (pick_instance types) ds
instances_picked types [] = refl
instances_picked types (d ∷ ds) = ap (λ is. instance_of types d ++ is) (instances_picked types ds) ∙ one_instance types (is_external d.section) d d.sort (filter_map (pick_instance types) ds)

local_same : (b : Bool) (d : PlainDeclared) (s : Sort) (l : Local) → (if b then None else own_by d s) ≡ Some l → local_word l ≡ declared_word d
local_same true d s l is = absurd (cc)
local_same false d (sort.Kind kind) l is = let e : record { name = d.name; kind = kind } ≡ l = cc in ap local_word (sym e)
local_same false d (sort.Block word) l is = absurd (cc)
local_same false d (sort.Array bounds kind) l is = absurd (cc)

row_same : (b : Bool) (d : PlainDeclared) (s : Sort) (row : Row) → (if b then None else array_by d s) ≡ Some row → row_word row ≡ declared_word d
row_same true d s row is = absurd (cc)
row_same false d (sort.Kind kind) row is = absurd (cc)
row_same false d (sort.Block word) row is = absurd (cc)
row_same false d (sort.Array bounds kind) row is = let e : record { name = d.name; kind = kind; bounds = bounds } ≡ row = cc in ap row_word (sym e)

instance_same : (types : List (List ℕ)) (b : Bool) (d : PlainDeclared) (s : Sort) (i : Instance) → (if b then None else held_by types d s) ≡ Some i → instance_word i ≡ declared_word d
instance_same types true d s i is = absurd (cc)
instance_same types false d (sort.Kind kind) i is = absurd (cc)
instance_same types false d (sort.Array bounds kind) i is = absurd (cc)
instance_same types false d (sort.Block word) i is = let e : record { name = d.name; of = block_ref types word } ≡ i = cc in ap instance_word (sym e)

global_by_sort : (d : PlainDeclared) (s : Sort) (v : Variable) → variable_by d s ≡ Some v → variable_word v ≡ declared_word d
global_by_sort d (sort.Kind kind) v is = let e : record { name = d.name; region = d.region; kind = kind } ≡ v = cc in ap variable_word (sym e)
global_by_sort d (sort.Block word) v is = absurd (cc)
global_by_sort d (sort.Array bounds kind) v is = absurd (cc)

global_same : (s : Shared) (v : Variable) → pick_global s ≡ Some v → variable_word v ≡ shared_word s
global_same (global d) v is = global_by_sort d d.sort v is
global_same (pou p) v is = absurd (cc)

block_by : (b : Bool) (p q : PlainPou) → (if b then Some p else None) ≡ Some q → pou_word q ≡ pou_word p
block_by true p q is = let e : p ≡ q = cc in ap pou_word (sym e)
block_by false p q is = absurd (cc)

pub block_same : (s : Shared) (q : PlainPou) → pick_block s ≡ Some q → pou_word q ≡ shared_word s
block_same (global d) q is = absurd (cc)
block_same (pou p) q is = block_by (is_block p.kind) p q is

-- a routine has the variables, the arrays and the instances that are declared as its own, name by name, and what is declared fits
pub record IsScope (units : List PlainUnit) (own : List PlainDeclared) (r : PlainRoutine) : Type 0 where
  pub locals : (name : List ℕ) → first_that (λ (l : Local). same_word l.name name) r.locals ≡ option_and_then pick_local (find_declared own name)
  pub rows : (name : List ℕ) → first_that (λ (row : Row). same_word row.name name) r.rows ≡ option_and_then pick_row (find_declared own name)
  pub instances : (name : List ℕ) → first_that (λ (i : Instance). same_word i.name name) r.instances ≡ option_and_then (pick_instance (block_names units)) (find_declared own name)
  pub fits : list_all (declared_fits units own) own ≡ true

pub routine_scope : (units : List PlainUnit) (p : PlainPou) → repeats (declared_words (declared_in p.sections)) ≡ false → list_all (declared_fits units (declared_in p.sections)) (declared_in p.sections) ≡ true
    → IsScope units (declared_in p.sections) (routine_of (block_names units) p)
routine_scope units p apart fits =
    let own = declared_in p.sections in
    let types = block_names units in
    record {
      locals = λ name. ap (first_that (λ (l : Local). same_word l.name name)) (locals_picked own) ∙ first_picked declared_word local_word pick_local (λ d l is. local_same (is_external d.section) d d.sort l is) own (folded name) apart;
      rows = λ name. ap (first_that (λ (row : Row). same_word row.name name)) (rows_picked own) ∙ first_picked declared_word row_word pick_row (λ d row is. row_same (is_external d.section) d d.sort row is) own (folded name) apart;
      instances = λ name.
          ap (first_that (λ (i : Instance). same_word i.name name)) (instances_picked types own) ∙ first_picked declared_word instance_word (pick_instance types) (λ d i is. instance_same types (is_external d.section) d d.sort i is) own (folded name) apart;
      fits = fits;
    }

pub globals_scope : (units : List PlainUnit) → IsScope units [] (globals_routine (source_in units))
globals_scope units = record { locals = λ name. refl; rows = λ name. refl; instances = λ name. refl; fits = refl }

-- ---- a routine's own variable of a name
own_among : (ls : List Local) (p : Path) (j : ℕ) (l : Local) → slice_get ls j ≡ Some l → Among (local_kinds ls p) (kind_at (folded l.name ∷ p) l.kind)
own_among [] p j l at = absurd (cc)
own_among (m ∷ ls) p zero l at = inl (let same : m ≡ l = cc in ap (λ (x : Local). kind_at (folded x.name ∷ p) x.kind) same)
own_among (m ∷ ls) p (suc j) l at = inr (own_among ls p j l at)

-- what is found of a routine's own variables
pub record IsOwn (r : PlainRoutine) (name : List ℕ) (l : Local) : Type 0 where
  pub number : ℕ
  pub found : find_word (own_words r.locals) name ≡ Some number
  pub at : slice_get r.locals number ≡ Some l
  pub word : folded l.name ≡ folded name

pub is_own : (r : PlainRoutine) (name : List ℕ) (l : Local) → first_that (λ (l : Local). same_word l.name name) r.locals ≡ Some l → IsOwn r name l
is_own r name l is =
    let f = finds local_word r.locals name (Some l) is in
    record { number = f.0; found = f.1; at = f.2; word = (bytes_decides (folded l.name) (folded name)).0 (first_is (λ (l : Local). same_word l.name name) r.locals l is) }

pub own_kind_is : (r : PlainRoutine) (name : List ℕ) (l : Local) → IsOwn r name l → own_kind r name ≡ Some l.kind
own_kind_is r name l own = ap (λ o. option_map (λ (l : Local). l.kind) (option_and_then (slice_get r.locals) o)) own.found ∙ ap (option_map (λ (l : Local). l.kind)) own.at

pub own_stands : (r : PlainRoutine) (name : List ℕ) (l : Local) (p : Path) → IsOwn r name l → Among (own_kinds r p) (kind_at (folded name ∷ p) l.kind)
own_stands r name l p own =
    among_left (local_kinds r.locals p) (row_kinds r.rows p) (kind_at (folded name ∷ p) l.kind) (subst (λ w. Among (local_kinds r.locals p) (kind_at (w ∷ p) l.kind)) own.word (own_among r.locals p own.number l own.at))

pub local_is : (d : PlainDeclared) (s : Sort) (k : Kind) → is_external d.section ≡ false → sort_kind s ≡ Some k → (if is_external d.section then None else own_by d s) ≡ Some (record { name = d.name; kind = k })
local_is d (sort.Kind j) k inside is = rw inside (let same : j ≡ k = cc in ap (λ x. Some (record { name = d.name; kind = x })) same)
local_is d (sort.Block word) k inside is = absurd (cc)
local_is d (sort.Array bounds kind) k inside is = absurd (cc)

local_none : (d : PlainDeclared) → is_external d.section ≡ true → pick_local d ≡ None
local_none d outside = rw outside refl

row_none : (d : PlainDeclared) → is_external d.section ≡ true → pick_row d ≡ None
row_none d outside = rw outside refl

-- ---- the names of a routine
module _ (units : List PlainUnit) (apart : repeats (map shared_word (shared_in units)) ≡ false) where
  abbrev source : Source
  source = source_in units

  abbrev blocks : List PlainPou
  blocks = block_pous (pous_of units)

  global_first : (name : List ℕ) → first_that (λ (v : Variable). same_word v.name name) source.globals ≡ option_and_then pick_global (find_shared units name)
  global_first name = ap (first_that (λ (v : Variable). same_word v.name name)) (globals_picked units) ∙ first_picked shared_word variable_word pick_global global_same (shared_in units) (folded name) apart

  global_by_kind : (d : PlainDeclared) (s : Sort) (k : Kind) → sort_kind s ≡ Some k → (v : Variable) × (variable_by d s ≡ Some v) × (v.kind ≡ k)
  global_by_kind d (sort.Kind j) k is = (record { name = d.name; region = d.region; kind = j }, refl, (let same : j ≡ k = cc in same))
  global_by_kind d (sort.Block word) k is = absurd (cc)
  global_by_kind d (sort.Array bounds kind) k is = absurd (cc)

  global_by_shared : (s : Option Shared) (k : Kind) → option_and_then (λ (g : PlainDeclared). sort_kind g.sort) (as_global s) ≡ Some k → (v : Variable) × (option_and_then pick_global s ≡ Some v) × (v.kind ≡ k)
  global_by_shared None k is = absurd (cc)
  global_by_shared (Some (global d)) k is = global_by_kind d d.sort k is
  global_by_shared (Some (pou p)) k is = absurd (cc)

  -- the first global of a name whose global has a kind has the kind
  global_at : (name : List ℕ) (k : Kind) → scopes.global_kind units name ≡ Some k → (v : Variable) × (first_that (λ (v : Variable). same_word v.name name) source.globals ≡ Some v) × (v.kind ≡ k)
  global_at name k is = let v = global_by_shared (find_shared units name) k is in (v.0, global_first name ∙ v.1, v.2)

  global_like : (a b : List ℕ) → folded a ≡ folded b → scopes.global_kind units a ≡ scopes.global_kind units b
  global_like a b same = λ i. option_and_then (λ (g : PlainDeclared). sort_kind g.sort) (as_global (first_that (λ s. bytes_eq (folded (shared_name s)) (same i)) (shared_in units)))

  module _ (own : List PlainDeclared) (r : PlainRoutine) (scope : IsScope units own r) where
    -- a variable of a kind: the kind by which bodies are meant is the kind, and its value is one of the kind where the routine's own values are
    pub record IsVariable (name : List ℕ) (k : Kind) : Type 0 where
      pub kind_is : kind_named source.globals r name ≡ k
      pub stands : (path : Path) → Within (all_kinds source) (own_kinds r (words_of path)) → Among (all_kinds source) (kind_at (path_in r path name) k)

    own_variable : (name : List ℕ) (l : Local) → IsOwn r name l → IsVariable name l.kind
    own_variable name l own = record {
      kind_is = ap (λ o. unwrap_or (or_other o (global_kind source.globals name)) kind.Bool) (own_kind_is r name l own);
      stands = λ path within.
          subst (λ o. Among (all_kinds source) (kind_at (if is_some o then folded name ∷ words_of path else path_of name) l.kind)) (sym own.found) (within (kind_at (folded name ∷ words_of path) l.kind) (own_stands r name l (words_of path) own));
    }

    global_variable : (name : List ℕ) (v : Variable) → first_that (λ (l : Local). same_word l.name name) r.locals ≡ None → first_that (λ (v : Variable). same_word v.name name) source.globals ≡ Some v → IsVariable name v.kind
    global_variable name v none is =
        let absent : find_word (own_words r.locals) name ≡ None = finds local_word r.locals name None none in
        let f = finds variable_word source.globals name (Some v) is in
        let word : folded v.name ≡ folded name = (bytes_decides (folded v.name) (folded name)).0 (first_is (λ (v : Variable). same_word v.name name) source.globals v is) in
        let no_own : own_kind r name ≡ None = ap (λ o. option_map (λ (l : Local). l.kind) (option_and_then (slice_get r.locals) o)) absent in
        let named : global_kind source.globals name ≡ Some v.kind = ap (λ o. option_map (λ (g : Variable). g.kind) (option_and_then (slice_get source.globals) o)) f.1 ∙ ap (option_map (λ (g : Variable). g.kind)) f.2 in
        let here : Among (all_kinds source) (kind_at (path_of name) v.kind) = subst (λ w. Among (all_kinds source) (kind_at (w ∷ []) v.kind)) word (global_among source f.0 v f.2) in
        record {
          kind_is = (λ i. unwrap_or (or_other (no_own i) (named i)) kind.Bool);
          stands = λ path within. subst (λ o. Among (all_kinds source) (kind_at (if is_some o then folded name ∷ words_of path else path_of name) v.kind)) (sym absent) here;
        }

    of_global : (name : List ℕ) (k : Kind) → first_that (λ (l : Local). same_word l.name name) r.locals ≡ None → scopes.global_kind units name ≡ Some k → IsVariable name k
    of_global name k none is = let v = global_at name k is in subst (IsVariable name) v.2 (global_variable name v.0 none v.1)

    external_kind : (d : PlainDeclared) (s : Sort) (k : Kind) → is_external d.section ≡ true → sort_kind s ≡ Some k → sort_fits units own d s ≡ true → scopes.global_kind units d.name ≡ Some k
    external_kind d (sort.Kind j) k outside is fits =
        let same : j ≡ k = cc in
        let both : (is_none d.initial && is_kind j (scopes.global_kind units d.name)) ≡ true = ap (λ b. if b then is_none d.initial && is_kind j (scopes.global_kind units d.name) else initial_fits units own (Some j) d.initial) (sym outside) ∙ fits in
        kind_is j (scopes.global_kind units d.name) (and_parts (is_none d.initial) (is_kind j (scopes.global_kind units d.name)) both).1 ∙ ap Some same
    external_kind d (sort.Block word) k outside is fits = absurd (cc)
    external_kind d (sort.Array bounds kind) k outside is fits = absurd (cc)

    declared_variable : (name : List ℕ) (k : Kind) (d : PlainDeclared) → find_declared own name ≡ Some d → sort_kind d.sort ≡ Some k → IsVariable name k
    declared_variable name k d found is =
        let first = scope.locals name ∙ ap (option_and_then pick_local) found in
        elim (cases_Bool (is_external d.section)) [
          | inl outside ↦
              let fit : declared_fits units own d ≡ true = first_passes (λ (e : PlainDeclared). same_word e.name name) (declared_fits units own) own d scope.fits found in
              let word : folded d.name ≡ folded name = (bytes_decides (folded d.name) (folded name)).0 (first_is (λ (e : PlainDeclared). same_word e.name name) own d found) in
              of_global name k (first ∙ local_none d outside) (sym (global_like d.name name word) ∙ external_kind d d.sort k outside is fit)
          | inr inside ↦
              let l : Local = record { name = d.name; kind = k } in
              own_variable name l (is_own r name l (first ∙ local_is d d.sort k inside is))
        ]

    variable_by_search : (name : List ℕ) (k : Kind) (o : Option PlainDeclared) → find_declared own name ≡ o → option_and_then (λ (d : PlainDeclared). sort_kind d.sort) (or_other o (global_named units name)) ≡ Some k → IsVariable name k
    variable_by_search name k (Some d) found is = declared_variable name k d found is
    variable_by_search name k None found is = of_global name k (scope.locals name ∙ ap (option_and_then pick_local) found) is

    -- what has a kind is a variable of the kind
    pub variable_at : (name : List ℕ) (k : Kind) → variable_kind units own name ≡ Some k → IsVariable name k
    variable_at name k is = variable_by_search name k (find_declared own name) refl is

    -- ---- an array of the routine, or a global one
    -- an array whose elements are of a kind: its kind and its bounds are those by which bodies are meant, and each element is one of the kind where the routine's own values are
    pub record IsArray (name : List ℕ) (k : Kind) : Type 0 where
      pub kind_is : element_kind_named source r name ≡ k
      pub numbered : (base : ℕ) → is_some (row_number source r base name) ≡ true
      pub stands : (path : Path) (i : ℤ) → Within (all_kinds source) (own_kinds r (words_of path)) → has_index (bounds_named source r name) i ≡ true → Among (all_kinds source) (element_at k (bounds_named source r name) (element_path r path name i))

    own_array : (name : List ℕ) (row : Row) → first_that (λ (row : Row). same_word row.name name) r.rows ≡ Some row → IsArray name row.kind
    own_array name row is =
        let f = finds row_word r.rows name (Some row) is in
        let word : folded row.name ≡ folded name = (bytes_decides (folded row.name) (folded name)).0 (first_is (λ (row : Row). same_word row.name name) r.rows row is) in
        let named : row_named r.rows name ≡ Some row = ap (option_and_then (slice_get r.rows)) f.1 ∙ f.2 in
        let whole : array_named source r name ≡ Some row = ap (λ o. or_other o (row_named source.rows name)) named in
        let bounds : bounds_named source r name ≡ row.bounds = ap (λ o. option_map_or (λ (row : Row). row.bounds) o (record { low = pos 0; high = pos 0 })) whole in
        record {
          kind_is = ap (λ o. option_map_or (λ (row : Row). row.kind) o kind.Bool) whole;
          numbered = λ base. ap (λ o. is_some (own_or_global (base + length r.locals) (option_map (λ k. row_cells (take k r.rows)) o) (option_map (λ n. length source.globals + n) (row_first source.rows name)))) f.1;
          stands = λ path i within inside.
              let element = element_at row.kind row.bounds (index_word i ∷ folded row.name ∷ words_of path) in
              let here = within element (own_row_among r (words_of path) f.0 row i f.2 (ap (λ b. has_index b i) (sym bounds) ∙ inside)) in
              subst (λ o. Among (all_kinds source) (element_at row.kind (bounds_named source r name) (index_word i ∷ (if is_some o then folded name ∷ words_of path else path_of name)))) (sym f.1)
              (subst (λ b. Among (all_kinds source) (element_at row.kind b (index_word i ∷ folded name ∷ words_of path))) (sym bounds) (subst (λ w. Among (all_kinds source) (element_at row.kind row.bounds (index_word i ∷ w ∷ words_of path))) word here));
        }

    global_row_first : (name : List ℕ) → first_that (λ (row : Row). same_word row.name name) source.rows ≡ option_and_then pick_global_row (find_shared units name)
    global_row_first name = ap (first_that (λ (row : Row). same_word row.name name)) (global_rows_picked units) ∙ first_picked shared_word row_word pick_global_row global_row_named (shared_in units) (folded name) apart

    global_array_at : (name : List ℕ) (row : Row) → first_that (λ (row : Row). same_word row.name name) r.rows ≡ None → first_that (λ (row : Row). same_word row.name name) source.rows ≡ Some row → IsArray name row.kind
    global_array_at name row none is =
        let absent : find_word (row_words r.rows) name ≡ None = finds row_word r.rows name None none in
        let f = finds row_word source.rows name (Some row) is in
        let word : folded row.name ≡ folded name = (bytes_decides (folded row.name) (folded name)).0 (first_is (λ (row : Row). same_word row.name name) source.rows row is) in
        let no_own : row_named r.rows name ≡ None = ap (option_and_then (slice_get r.rows)) absent in
        let named : row_named source.rows name ≡ Some row = ap (option_and_then (slice_get source.rows)) f.1 ∙ f.2 in
        let whole : array_named source r name ≡ Some row = λ i. or_other (no_own i) (named i) in
        let bounds : bounds_named source r name ≡ row.bounds = ap (λ o. option_map_or (λ (row : Row). row.bounds) o (record { low = pos 0; high = pos 0 })) whole in
        record {
          kind_is = ap (λ o. option_map_or (λ (row : Row). row.kind) o kind.Bool) whole;
          numbered = λ base. λ i. is_some (own_or_global (base + length r.locals) (option_map (λ k. row_cells (take k r.rows)) (absent i)) (option_map (λ n. length source.globals + n) (option_map (λ k. row_cells (take k source.rows)) (f.1 i))));
          stands = λ path i within inside.
              let here = global_row_among source f.0 row i f.2 (ap (λ b. has_index b i) (sym bounds) ∙ inside) in
              subst (λ o. Among (all_kinds source) (element_at row.kind (bounds_named source r name) (index_word i ∷ (if is_some o then folded name ∷ words_of path else path_of name)))) (sym absent)
              (subst (λ b. Among (all_kinds source) (element_at row.kind b (index_word i ∷ path_of name))) (sym bounds) (subst (λ w. Among (all_kinds source) (element_at row.kind row.bounds (index_word i ∷ w ∷ []))) word here));
        }

    array_by_sort : (d : PlainDeclared) (s : Sort) (k : Kind) → option_map (λ (a : Bounds × Kind). a.1) (sort_array s) ≡ Some k → (row : Row) × (array_by d s ≡ Some row) × (row.kind ≡ k)
    array_by_sort d (sort.Kind j) k is = absurd (cc)
    array_by_sort d (sort.Block word) k is = absurd (cc)
    array_by_sort d (sort.Array bounds j) k is = (record { name = d.name; kind = j; bounds = bounds }, refl, (let same : j ≡ k = cc in same))

    array_by_shared : (s : Option Shared) (k : Kind) → option_map (λ (a : Bounds × Kind). a.1) (option_and_then (λ (g : PlainDeclared). sort_array g.sort) (as_global s)) ≡ Some k → (row : Row) × (option_and_then pick_global_row s ≡ Some row) × (row.kind ≡ k)
    array_by_shared None k is = absurd (cc)
    array_by_shared (Some (global d)) k is = array_by_sort d d.sort k is
    array_by_shared (Some (pou p)) k is = absurd (cc)

    of_global_array : (name : List ℕ) (k : Kind) → first_that (λ (row : Row). same_word row.name name) r.rows ≡ None → option_map (λ (a : Bounds × Kind). a.1) (scopes.global_array units name) ≡ Some k → IsArray name k
    of_global_array name k none is =
        let row = array_by_shared (find_shared units name) k is in
        subst (IsArray name) row.2 (global_array_at name row.0 none (global_row_first name ∙ row.1))

    global_array_like : (a b : List ℕ) → folded a ≡ folded b → scopes.global_array units a ≡ scopes.global_array units b
    global_array_like a b same = λ i. option_and_then (λ (g : PlainDeclared). sort_array g.sort) (as_global (first_that (λ s. bytes_eq (folded (shared_name s)) (same i)) (shared_in units)))

    -- the global of a VAR_EXTERNAL array is an array of the same kind
    array_kind : (bounds : Bounds) (k : Kind) (o : Option (Bounds × Kind)) → is_array bounds k o ≡ true → option_map (λ (a : Bounds × Kind). a.1) o ≡ Some k
    array_kind bounds k None is = absurd (cc)
    array_kind bounds k (Some a) is =
        let high = (and_parts (int_eq bounds.low a.0.low) (int_eq bounds.high a.0.high && same_kind k a.1) is).1 in
        kind_is k (Some a.1) (and_parts (int_eq bounds.high a.0.high) (same_kind k a.1) high).1

    external_section : (s : SectionKind) (name : List ℕ) (bounds : Bounds) (k : Kind) → is_external s ≡ true → array_stands units name bounds k s ≡ true → is_array bounds k (scopes.global_array units name) ≡ true
    external_section sections.Local name bounds k outside stands = absurd (cc)
    external_section sections.Input name bounds k outside stands = absurd (cc)
    external_section sections.Output name bounds k outside stands = absurd (cc)
    external_section sections.External name bounds k outside stands = stands
    external_section sections.Global name bounds k outside stands = absurd (cc)

    external_array : (d : PlainDeclared) (s : Sort) (k : Kind) → is_external d.section ≡ true → option_map (λ (a : Bounds × Kind). a.1) (sort_array s) ≡ Some k → sort_fits units own d s ≡ true → option_map (λ (a : Bounds × Kind). a.1) (scopes.global_array units d.name) ≡ Some k
    external_array d (sort.Kind j) k outside is fits = absurd (cc)
    external_array d (sort.Block word) k outside is fits = absurd (cc)
    external_array d (sort.Array bounds j) k outside is fits =
        let same : j ≡ k = cc in
        let stands = (and_parts (is_none d.initial) (array_stands units d.name bounds j d.section) fits).1 in
        array_kind bounds j (scopes.global_array units d.name) (external_section d.section d.name bounds j outside stands) ∙ ap Some same

    declared_array : (name : List ℕ) (k : Kind) (d : PlainDeclared) → find_declared own name ≡ Some d → option_map (λ (a : Bounds × Kind). a.1) (sort_array d.sort) ≡ Some k → IsArray name k
    declared_array name k d found is =
        let first = scope.rows name ∙ ap (option_and_then pick_row) found in
        elim (cases_Bool (is_external d.section)) [
          | inl outside ↦
              let fit : declared_fits units own d ≡ true = first_passes (λ (e : PlainDeclared). same_word e.name name) (declared_fits units own) own d scope.fits found in
              let word : folded d.name ≡ folded name = (bytes_decides (folded d.name) (folded name)).0 (first_is (λ (e : PlainDeclared). same_word e.name name) own d found) in
              of_global_array name k (first ∙ row_none d outside) (ap (option_map (λ (a : Bounds × Kind). a.1)) (sym (global_array_like d.name name word)) ∙ external_array d d.sort k outside is fit)
          | inr inside ↦
              let row = array_by_sort d d.sort k is in
              let picked : pick_row d ≡ Some row.0 = rw inside row.1 in
              subst (IsArray name) row.2 (own_array name row.0 (first ∙ picked))
        ]

    array_by_search : (name : List ℕ) (k : Kind) (o : Option PlainDeclared) → find_declared own name ≡ o → option_map (λ (a : Bounds × Kind). a.1) (option_and_then (λ (d : PlainDeclared). sort_array d.sort) (or_other o (global_named units name))) ≡ Some k → IsArray name k
    array_by_search name k (Some d) found is = declared_array name k d found is
    array_by_search name k None found is = of_global_array name k (scope.rows name ∙ ap (option_and_then pick_row) found) is

    -- what has elements of a kind is an array of the kind
    pub array_at : (name : List ℕ) (k : Kind) → element_kind units own name ≡ Some k → IsArray name k
    array_at name k is = array_by_search name k (find_declared own name) refl is
