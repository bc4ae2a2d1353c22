-- A scope of a routine gives each name the number and the kind that the routine's definition gives it.
use Rattle.std.proofs.Common.{◌≡◌, ◌∙◌, ap, sym, refl, ℕ, zero, suc, pos, ◌+◌, take, Bool, List, [], ◌∷◌, map, length, Option, Some, None, unwrap_or, inl, inr, arith}
use Rattle.std.specs.Prelude.{not, position, slice_get, option_and_then, option_map}
use Rattle.std.specs.List.{prefix_len}
use Rattle.std.specs.Option.{option_map_or}
use Rattle.std.specs.Str.{bytes_eq}
use Rattle.std.proofs.lemmas.List.{length-map}
use Rattle.std.proofs.lemmas.List.Sums.{sum_by-cons}
use Rattle.std.proofs.lemmas.Option.{slice_get_cases, slice_get_past, slice_get_within, slice_get-map}
use Rattle.plant_types.specs.Values.{row_length}
use Rattle.plant_types.specs.Words.{folded}
use Rattle.plant_types.specs.declared.values.Kind.{Kind}
use Rattle.plant_types.specs.declared.values.Kind.TheVariants as kind
use Rattle.st_tree.specs.Plain.{PlainBody}
use Rattle.st_tree.specs.Mapping.{mapped_body}
use Rattle.st_tree.specs.Kinds.{KindsOf, resolved_body}
use Rattle.st_tree.specs.Numbers.{numbered}
use Rattle.logic_source.specs.Scopes.{or_other}
use Rattle.base_words.specs.Names.{find_name}
use Rattle.logic_source.specs.declared.logic.Local.{Local}
use Rattle.logic_source.specs.declared.logic.Row.{Row}
use Rattle.logic_source.specs.declared.logic.Variable.{Variable}
use Rattle.logic_source.specs.declared.logic.Instance.{Instance}
use Rattle.logic_source.specs.declared.logic.BlockRef.{BlockRef}
use Rattle.logic_source.specs.declared.logic.BlockRef.TheVariants.{Ton, Tof, RTrig, Declared}
use Rattle.logic_source.specs.Source.{PlainRoutine, Source, row_cells, global_cells}
use Rattle.logic_source.specs.Names.{find_word, own_words, global_words, row_words, row_named, instance_words, own_kind, global_kind, block_named, kind_named, output_kind_of, output_kind_named, element_kind_named, bounds_named, kinds_named, meant_in}
use Rattle.logic_source.specs.Seats.{own_or_global, row_first, member_number}
use Rattle.logic_source.proofs.Seats.{row_of_number}
use Rattle.logic_frames.specs.declared.names.Arrays.{Arrays}
use Rattle.logic_frames.specs.declared.names.Laid.{Laid}
use Rattle.logic_frames.specs.declared.names.Variables.{Variables}
use Rattle.logic_frames.specs.declared.scope.RoutineNames.{RoutineNames}
use Rattle.logic_frames.specs.Numbers.{shown_number, numbers}
use Rattle.logic_frames.specs.Scoped.{kind_among, array_among, block_among, laid, laid_from, scope_globals, scope_array, scope_element_kind, scope_bounds, AreArrays, AreVariables, AreMembers, IsScope, local_names, local_kinds, own_variables, global_variables, scope_variable, scope_kind, scope_instance, own_number, own_kind_of, input_among, output_among, output_kind_by, scope_input, scope_output, scope_output_kind, scope_kinds, flat_body}

prefix-map : {X Y : Type 0} (p : Y → Bool) (f : X → Y) (xs : List X) → prefix_len (λ x. p (f x)) xs ≡ prefix_len p (map f xs)
prefix-map p f [] = refl
prefix-map p f (x ∷ xs) = rw (prefix-map p f xs) refl

position-map : {X Y : Type 0} (p : Y → Bool) (f : X → Y) (xs : List X) → position (λ x. p (f x)) xs ≡ position p (map f xs)
position-map p f xs = rw (prefix-map (λ y. not (p y)) f xs, length-map xs f) refl

-- a name is found among names where it is found among their words
found : {X : Type 0} (named : X → List ℕ) (xs : List X) (name : List ℕ) → find_name (map named xs) name ≡ find_word (map (λ x. folded (named x)) xs) name
found named xs name = sym (position-map (λ word. bytes_eq (folded name) (folded word)) named xs) ∙ position-map (bytes_eq (folded name)) (λ x. folded (named x)) xs

-- one field of the item of a number
field_at : {X Y : Type 0} (f : X → Y) (xs : List X) (o : Option ℕ) → option_and_then (slice_get (map f xs)) o ≡ option_map f (option_and_then (slice_get xs) o)
field_at f xs None = refl
field_at f xs (Some k) = slice_get-map f xs k

local_name : Local → List ℕ
local_name l = l.name

own_found : (ls : List Local) (v : Variables) → AreVariables (own_variables ls) v → (name : List ℕ) → find_name v.names name ≡ find_word (own_words ls) name
own_found ls v are name = ap (λ ns. find_name ns name) are.names_are ∙ found (λ (l : Local). l.name) ls name

own_kind_found : (ls : List Local) (v : Variables) → AreVariables (own_variables ls) v → (name : List ℕ) → kind_among v name ≡ option_map (λ (l : Local). l.kind) (option_and_then (slice_get ls) (find_word (own_words ls) name))
own_kind_found ls v are name =
    (λ i. option_and_then (slice_get (are.kinds_are i)) (own_found ls v are name i)) ∙ field_at (λ (l : Local). l.kind) ls (find_word (own_words ls) name)

global_found : (gs : List Variable) (v : Variables) → AreVariables (global_variables gs) v → (name : List ℕ) → find_name v.names name ≡ find_word (global_words gs) name
global_found gs v are name = ap (λ ns. find_name ns name) are.names_are ∙ found (λ (g : Variable). g.name) gs name

global_kind_found : (gs : List Variable) (v : Variables) → AreVariables (global_variables gs) v → (name : List ℕ) → kind_among v name ≡ global_kind gs name
global_kind_found gs v are name =
    (λ i. option_and_then (slice_get (are.kinds_are i)) (global_found gs v are name i)) ∙ field_at (λ (g : Variable). g.kind) gs (find_word (global_words gs) name)

-- ---- what a name finds of arrays
laid_at : (n : ℕ) (rows : List Row) (k : ℕ) → slice_get (laid_from n rows) k ≡ option_map (λ (row : Row). laid row (n + row_cells (take k rows))) (slice_get rows k)
laid_at n [] k = refl
laid_at n (r ∷ rows) zero = let same : n ≡ n + row_cells [] = omega arith in ap (λ m. Some (laid r m)) same
laid_at n (r ∷ rows) (suc k) =
    let sum = sum_by-cons (λ (row : Row). row_length row.bounds) r (take k rows) in
    let same : n + row_length r.bounds + row_cells (take k rows) ≡ n + row_cells (r ∷ take k rows) = omega (arith, sum) in
    laid_at (n + row_length r.bounds) rows k ∙ ap (λ m. option_map (λ (row : Row). laid row m) (slice_get rows k)) same

-- the array of a name, and the number of its first element
record IsFound (from : ℕ) (rows : List Row) (arrays : Arrays) (name : List ℕ) : Type 0 where
  it : Option (Row × ℕ)
  among : array_among arrays name ≡ option_map (λ (p : Row × ℕ). laid p.0 (from + p.1)) it
  named : row_named rows name ≡ option_map (λ (p : Row × ℕ). p.0) it
  first : row_first rows name ≡ option_map (λ (p : Row × ℕ). p.1) it

array_found : (from : ℕ) (rows : List Row) (arrays : Arrays) (name : List ℕ) → AreArrays from rows arrays → IsFound from rows arrays name
array_found from rows arrays name are = by_number (find_word (row_words rows) name) refl
  where
    name_found : find_name arrays.names name ≡ find_word (row_words rows) name
    name_found = ap (λ ns. find_name ns name) are.names_are ∙ found (λ (row : Row). row.name) rows name

    by_number : (o : Option ℕ) → find_word (row_words rows) name ≡ o → IsFound from rows arrays name
    by_number None none = record {
      it = None;
      among = ap (option_and_then (slice_get arrays.laid.items)) (name_found ∙ none);
      named = ap (option_and_then (slice_get rows)) none;
      first = ap (option_map (λ k. row_cells (take k rows))) none;
    }
    by_number (Some k) at =
        let row = row_of_number rows name k at in
        record {
          it = Some (row.0, row_cells (take k rows));
          among = ap (option_and_then (slice_get arrays.laid.items)) (name_found ∙ at) ∙ ap (λ l. slice_get l k) are.laid_are ∙ laid_at from rows k ∙ ap (option_map (λ (row : Row). laid row (from + row_cells (take k rows)))) row.1;
          named = ap (option_and_then (slice_get rows)) at ∙ row.1;
          first = ap (option_map (λ k. row_cells (take k rows))) at;
        }

abbrev laid_both : ℕ → Option (Row × ℕ) → Option Laid
laid_both from o = option_map (λ (p : Row × ℕ). laid p.0 (from + p.1)) o

abbrev row_of_both : Option (Row × ℕ) → Option Row
row_of_both o = option_map (λ (p : Row × ℕ). p.0) o

number_of_both : (globals variables locals : ℕ) (o q : Option (Row × ℕ)) → own_or_global globals (option_map (λ (l : Laid). l.first) (laid_both locals o)) (option_map (λ (l : Laid). l.first) (laid_both variables q))
    ≡ own_or_global (globals + locals) (option_map (λ (p : Row × ℕ). p.1) o) (option_map (λ n. variables + n) (option_map (λ (p : Row × ℕ). p.1) q))
number_of_both globals variables locals None None = refl
number_of_both globals variables locals None (Some p) = refl
number_of_both globals variables locals (Some p) q = ap Some (omega arith)

kind_of_both : (m n : ℕ) (o q : Option (Row × ℕ)) → option_map_or (λ (l : Laid). l.kind) (or_other (laid_both m o) (laid_both n q)) kind.Bool ≡ option_map_or (λ (row : Row). row.kind) (or_other (row_of_both o) (row_of_both q)) kind.Bool
kind_of_both m n None None = refl
kind_of_both m n None (Some p) = refl
kind_of_both m n (Some p) q = refl

bounds_of_both : (m n : ℕ) (o q : Option (Row × ℕ))
    → option_map_or (λ (l : Laid). l.bounds) (or_other (laid_both m o) (laid_both n q)) (record { low = pos 0; high = pos 0 }) ≡ option_map_or (λ (row : Row). row.bounds) (or_other (row_of_both o) (row_of_both q)) (record { low = pos 0; high = pos 0 })
bounds_of_both m n None None = refl
bounds_of_both m n None (Some p) = refl
bounds_of_both m n (Some p) q = refl

-- the variables of the block type of a number
module _ (blocks : List PlainRoutine) (members : List Variables) (are : AreMembers blocks members) where
  pub members_long : length members ≡ length blocks
  members_long = sym (length-map members (λ (v : Variables). v.names)) ∙ ap length are.names_are ∙ length-map blocks (λ (b : PlainRoutine). local_names b.locals)

  pub members_each : (n : ℕ) (b : PlainRoutine) (v : Variables) → slice_get blocks n ≡ Some b → slice_get members n ≡ Some v → AreVariables (own_variables b.locals) v
  members_each n b v there known =
      let names : Some v.names ≡ Some (local_names b.locals) =
      ap (option_map (λ (x : Variables). x.names)) (sym known) ∙ sym (slice_get-map (λ (x : Variables). x.names) members n) ∙ ap (λ l. slice_get l n) are.names_are ∙ slice_get-map (λ (x : PlainRoutine). local_names x.locals) blocks n ∙ ap (option_map (λ (x : PlainRoutine). local_names x.locals)) there in
      let kinds : Some v.kinds.items ≡ Some (local_kinds b.locals) =
      ap (option_map (λ (x : Variables). x.kinds.items)) (sym known) ∙ sym (slice_get-map (λ (x : Variables). x.kinds.items) members n) ∙ ap (λ l. slice_get l n) are.kinds_are ∙ slice_get-map (λ (x : PlainRoutine). local_kinds x.locals) blocks n ∙ ap (option_map (λ (x : PlainRoutine). local_kinds x.locals)) there in
      record { names_are = cc; kinds_are = cc }

module _ (source : Source) (r : PlainRoutine) (scope : RoutineNames) (is : IsScope source r scope) where
  long : scope_globals scope ≡ global_cells source
  long = is.global_arrays_are.end_is

  own_array : (name : List ℕ) → IsFound (length r.locals) r.rows scope.own.now.arrays name
  own_array name = array_found (length r.locals) r.rows scope.own.now.arrays name is.own_arrays_are

  global_array : (name : List ℕ) → IsFound (length source.globals) source.rows scope.globals.now.arrays name
  global_array name = array_found (length source.globals) source.rows scope.globals.now.arrays name is.global_arrays_are

  array_is : (name : List ℕ) → scope_array scope name ≡ (numbers source r).array name
  array_is name =
      let own = own_array name in
      let other = global_array name in
      (λ i. unwrap_or (own_or_global (long i) (option_map (λ (l : Laid). l.first) (own.among i)) (option_map (λ (l : Laid). l.first) (other.among i))) 0)
      ∙ ap (λ o. unwrap_or o 0) (number_of_both (global_cells source) (length source.globals) (length r.locals) own.it other.it)
      ∙ (λ i. unwrap_or (own_or_global (global_cells source + length r.locals) (sym own.first i) (option_map (λ n. length source.globals + n) (sym other.first i))) 0)

  element_kind_is : (name : List ℕ) → scope_element_kind scope name ≡ element_kind_named source r name
  element_kind_is name =
      let own = own_array name in
      let other = global_array name in
      (λ i. option_map_or (λ (l : Laid). l.kind) (or_other (own.among i) (other.among i)) kind.Bool) ∙ kind_of_both (length r.locals) (length source.globals) own.it other.it
      ∙ (λ i. option_map_or (λ (row : Row). row.kind) (or_other (sym own.named i) (sym other.named i)) kind.Bool)

  bounds_is : (name : List ℕ) → scope_bounds scope name ≡ bounds_named source r name
  bounds_is name =
      let own = own_array name in
      let other = global_array name in
      (λ i. option_map_or (λ (l : Laid). l.bounds) (or_other (own.among i) (other.among i)) (record { low = pos 0; high = pos 0 })) ∙ bounds_of_both (length r.locals) (length source.globals) own.it other.it
      ∙ (λ i. option_map_or (λ (row : Row). row.bounds) (or_other (sym own.named i) (sym other.named i)) (record { low = pos 0; high = pos 0 }))

  variable_is : (name : List ℕ) → scope_variable scope name ≡ (numbers source r).variable name
  variable_is name = λ i. unwrap_or (own_or_global (long i) (own_found r.locals scope.own.now is.own_are name i) (global_found source.globals scope.globals.now is.globals_are name i)) 0

  kind_is : (name : List ℕ) → scope_kind scope name ≡ kind_named source.globals r name
  kind_is name = λ i. unwrap_or (or_other (own_kind_found r.locals scope.own.now is.own_are name i) (global_kind_found source.globals scope.globals.now is.globals_are name i)) kind.Bool

  instance_found : (name : List ℕ) → find_name scope.instances.now.names name ≡ find_word (instance_words r.instances) name
  instance_found name = ap (λ ns. find_name ns name) is.instances_are.names_are ∙ found (λ (i : Instance). i.name) r.instances name

  instance_is : (name : List ℕ) → scope_instance scope name ≡ (numbers source r).instance name
  instance_is name = λ i. unwrap_or (instance_found name i) 0

  block_is : (name : List ℕ) → block_among scope.instances.now name ≡ block_named r name
  block_is name =
      (λ i. option_and_then (slice_get (is.instances_are.blocks_are i)) (instance_found name i)) ∙ field_at (λ (i : Instance). i.of) r.instances (find_word (instance_words r.instances) name)

  -- what the variables of a block type give, where there is one
  member_is : (n : ℕ) (name : List ℕ) → own_number scope.members.now n name ≡ member_number source.blocks (Declared n) name
  member_is n name =
      elim ((slice_get_cases source.blocks n).1) [
        | inl there ↦ elim ((slice_get_cases scope.members.now n).1) [
          | inl known ↦ (
              let v = known.0 in
              let b = there.0 in
              ap (option_and_then (λ (x : Variables). find_name x.names name)) known.2 ∙ own_found b.locals v (members_each source.blocks scope.members.now is.members_are n b v there.2 known.2) name ∙ sym (ap (option_and_then (λ (x : PlainRoutine). find_word (own_words x.locals) name)) there.2))
          | inr past ↦ (let same = members_long source.blocks scope.members.now is.members_are in let within = slice_get_within source.blocks n there.0 there.2 in let p = past.0 in absurd (omega (arith, same, within, p)))
        ]
        | inr past ↦ (
            let same = members_long source.blocks scope.members.now is.members_are in
            let p = past.0 in
            ap (option_and_then (λ (x : Variables). find_name x.names name)) (slice_get_past scope.members.now n (omega (arith, same, p))) ∙ sym (ap (option_and_then (λ (x : PlainRoutine). find_word (own_words x.locals) name)) (slice_get_past source.blocks n p)))
      ]

  abbrev kind_of_variable : List ℕ → Option PlainRoutine → Kind
  kind_of_variable name b = option_map_or (λ (x : PlainRoutine). unwrap_or (own_kind x name) kind.Bool) b kind.Bool

  member_kind_is : (n : ℕ) (name : List ℕ) → unwrap_or (own_kind_of scope.members.now n name) kind.Bool ≡ output_kind_of source.blocks (Some (Declared n)) name
  member_kind_is n name =
      elim ((slice_get_cases source.blocks n).1) [
        | inl there ↦ elim ((slice_get_cases scope.members.now n).1) [
          | inl known ↦ (
              let v = known.0 in
              let b = there.0 in
              ap (λ o. unwrap_or (option_and_then (λ (x : Variables). kind_among x name) o) kind.Bool) known.2 ∙ ap (λ k. unwrap_or k kind.Bool) (own_kind_found b.locals v (members_each source.blocks scope.members.now is.members_are n b v there.2 known.2) name) ∙ sym (ap (kind_of_variable name) there.2))
          | inr past ↦ (let same = members_long source.blocks scope.members.now is.members_are in let within = slice_get_within source.blocks n there.0 there.2 in let p = past.0 in absurd (omega (arith, same, within, p)))
        ]
        | inr past ↦ (
            let same = members_long source.blocks scope.members.now is.members_are in
            let p = past.0 in
            ap (λ o. unwrap_or (option_and_then (λ (x : Variables). kind_among x name) o) kind.Bool) (slice_get_past scope.members.now n (omega (arith, same, p))) ∙ sym (ap (kind_of_variable name) (slice_get_past source.blocks n p)))
      ]

  input_by : (b : Option BlockRef) (name : List ℕ) → input_among scope.members.now b name ≡ option_and_then (λ x. member_number source.blocks x name) b
  input_by None name = refl
  input_by (Some Ton) name = refl
  input_by (Some Tof) name = refl
  input_by (Some RTrig) name = refl
  input_by (Some (Declared n)) name = member_is n name

  output_by : (b : Option BlockRef) (name : List ℕ) → output_among scope.members.now b name ≡ option_and_then (λ x. shown_number source x name) b
  output_by None name = refl
  output_by (Some Ton) name = refl
  output_by (Some Tof) name = refl
  output_by (Some RTrig) name = refl
  output_by (Some (Declared n)) name = member_is n name

  kind_by : (b : Option BlockRef) (name : List ℕ) → output_kind_by scope.members.now b name ≡ output_kind_of source.blocks b name
  kind_by None name = refl
  kind_by (Some Ton) name = refl
  kind_by (Some Tof) name = refl
  kind_by (Some RTrig) name = refl
  kind_by (Some (Declared n)) name = member_kind_is n name

  input_is : (instance name : List ℕ) → scope_input scope instance name ≡ (numbers source r).input_name instance name
  input_is instance name = ap (λ o. unwrap_or o 0) (input_by (block_among scope.instances.now instance) name ∙ ap (option_and_then (λ x. member_number source.blocks x name)) (block_is instance))

  output_is : (instance name : List ℕ) → scope_output scope instance name ≡ (numbers source r).output_name instance name
  output_is instance name = ap (λ o. unwrap_or o 0) (output_by (block_among scope.instances.now instance) name ∙ ap (option_and_then (λ x. shown_number source x name)) (block_is instance))

  output_kind_is : (instance name : List ℕ) → scope_output_kind scope instance name ≡ output_kind_named source.blocks r instance name
  output_kind_is instance name = kind_by (block_among scope.instances.now instance) name ∙ ap (λ o. output_kind_of source.blocks o name) (block_is instance)

  kinds_are : scope_kinds scope ≡ kinds_named source r
  kinds_are = λ i. record { variable = λ name. kind_is name i; output = λ instance name. output_kind_is instance name i; element = λ name. element_kind_is name i; bounds = λ name. bounds_is name i }

  abbrev maps_at : (body : PlainBody (List ℕ)) → (variable array : List ℕ → ℕ) (instance : List ℕ → ℕ) (input output : List ℕ → List ℕ → ℕ) (kinds : KindsOf (List ℕ)) → PlainBody ℕ
  maps_at body variable array instance input output kinds = mapped_body (record { variable = variable; array = array; instance = instance; input_name = input; output_name = output; node = λ e. e }) (resolved_body kinds (numbered 1 body))

  -- a body over numbers is the one that the definition gives
  pub flat_is : (body : PlainBody (List ℕ)) → flat_body scope 1 body ≡ mapped_body (numbers source r) (meant_in source r body)
  flat_is body = λ i. maps_at body (λ name. variable_is name i) (λ name. array_is name i) (λ name. instance_is name i) (λ instance name. input_is instance name i) (λ instance name. output_is instance name i) (kinds_are i)
