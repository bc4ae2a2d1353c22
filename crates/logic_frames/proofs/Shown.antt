-- The inputs and the outputs of instances of well-formed units have numbers.
use Rattle.std.proofs.Common.{◌≡◌, ◌∙◌, ap, sym, refl, arith, ℕ, suc, ◌+◌, Bool, true, false, if◌then◌else◌, List, [], ◌∷◌, ◌++◌, map, length, Option, Some, None, slice_get, inl, inr}
use Rattle.std.specs.Prelude.{is_some, nat_lt, filter, filter_map, flat_map, position, option_map, option_and_then, unwrap_or, codes}
use Rattle.std.specs.List.{list_any, cons_option, position_or_len}
use Rattle.std.specs.Str.{bytes_eq}
use Rattle.std.proofs.lemmas.Bool.{cases_Bool}
use Rattle.std.proofs.lemmas.Bool.Decides.{nat_tests}
use Rattle.std.proofs.lemmas.Option.{slice_get-map}
use Rattle.plant_types.specs.Words.{folded, same_word}
use Rattle.plant_types.specs.declared.values.Kind.{Kind}
use Rattle.base_words.specs.Names.{find_name, is_among}
use Rattle.logic_source.specs.SectionKind.{SectionKind}
use Rattle.logic_source.specs.SectionKind.TheVariants as sections
use Rattle.logic_source.specs.Sort.{Sort}
use Rattle.logic_source.specs.Sort.TheVariants as sort
use Rattle.logic_source.specs.StParserUnits.{PlainPou, PlainUnit}
use Rattle.logic_source.specs.First.{first_that}
use Rattle.logic_source.specs.DeclaredNames.{PlainDeclared, declared_in, first_declared, find_declared, sort_kind, is_instance_sort}
use Rattle.logic_source.specs.Shared.{Shared, global, pou, shared_name, shared_in, is_block, as_block, block_named, global_named}
use Rattle.logic_source.specs.BlockTypes.{BlockType, ton, tof, r_trig, declared_block, block_type, Member, is_input_section, is_output_section, member_of, members_in, timer_inputs, timer_outputs, inputs_of, outputs_of, find_member}
use Rattle.logic_source.specs.Scopes.{or_other, is_external, sort_type, instance_type, input_kind, output_kind}
use Rattle.logic_source.proofs.Entries.{same_turned}
use Rattle.logic_source.specs.Kinds.{instance_fits, sort_fits, declared_fits, pou_misfit}
use Rattle.logic_source.specs.declared.logic.Local.{Local}
use Rattle.logic_source.specs.declared.logic.Instance.{Instance}
use Rattle.logic_source.specs.declared.logic.BlockRef.TheVariants.{Ton, Tof, RTrig, Declared}
use Rattle.logic_source.specs.Source.{PlainRoutine}
use Rattle.logic_source.specs.Pous.{pous_of, block_pous, block_names}
use Rattle.logic_source.specs.Units.{local_of, block_ref, instance_by, instance_of, routine_of, source_in}
use Rattle.logic_source.specs.Names as names
use Rattle.logic_source.specs.Names.{own_words, find_word}
use Rattle.logic_source.specs.Seats.{timer_number, member_number}
use Rattle.logic_source.proofs.Apart.{pick_block, blocks_picked}
use Rattle.logic_frames.specs.Numbers.{timer_shows, shown_number, input_number, output_number}
use Rattle.logic_frames.proofs.Fitting.{and_then_some}
use Rattle.logic_frames.proofs.Typed.{within, placed_some, any_later, kind_is, first_passes, has, local_here, declared_all, not_external}

module _ {A : Type 0} (p : List ℕ → Bool) (word : A → List ℕ) where
  listed_there : (xs : List A) (a : A) → first_that (λ x. p (word x)) xs ≡ Some a → list_any p (map word xs) ≡ true
  listed_there [] a is = absurd (cc)
  listed_there (x ∷ xs) a is =
      elim (cases_Bool (p (word x))) [
        | inl passes ↦ rw passes refl
        | inr fails ↦ rw fails (listed_there xs a (rw fails at is))
      ]

  listed_at : (xs : List A) (a : A) → first_that (λ x. p (word x)) xs ≡ Some a → slice_get xs (position_or_len p (map word xs)) ≡ Some a
  listed_at [] a is = absurd (cc)
  listed_at (x ∷ xs) a is =
      elim (cases_Bool (p (word x))) [
        | inl passes ↦ (let same : Some x ≡ Some a = (rw passes at is) in rw passes same)
        | inr fails ↦ let later : 1 + position_or_len p (map word xs) ≡ suc (position_or_len p (map word xs)) = omega arith in rw (fails, later) (listed_at xs a (rw fails at is))
      ]

  -- the number of the first whose word passes
  pub first_number : (xs : List A) (a : A) → first_that (λ x. p (word x)) xs ≡ Some a → (n : ℕ) × (position p (map word xs) ≡ Some n) × (slice_get xs n ≡ Some a)
  first_number xs a is =
      let less = within p (map word xs) (listed_there xs a is) in
      let below : nat_lt (position_or_len p (map word xs)) (length (map word xs)) ≡ true = grind (arith, nat_tests) in
      (position_or_len p (map word xs), rw below refl, listed_at xs a is)

-- the number of a block type is that of the block of its name
block_more : (word : List ℕ) (b : Bool) (q p : PlainPou) (rest : List PlainPou) → same_word q.name word ≡ true → (if b then Some q else None) ≡ Some p → first_that (λ (x : PlainPou). same_word word x.name) (cons_option (if b then Some q else None) rest) ≡ Some p
block_more word false q p rest same is = absurd (cc)
block_more word true q p rest same is = let passes : same_word word q.name ≡ true = same_turned word q.name ∙ same in rw passes is

block_here : (word : List ℕ) (s : Shared) (p : PlainPou) (rest : List PlainPou) → same_word (shared_name s) word ≡ true → as_block (Some s) ≡ Some p → first_that (λ (x : PlainPou). same_word word x.name) (cons_option (pick_block s) rest) ≡ Some p
block_here word (global d) p rest same is = absurd (cc)
block_here word (pou q) p rest same is = block_more word (is_block q.kind) q p rest same is

block_skipped : (word : List ℕ) (b : Bool) (q : PlainPou) (rest : List PlainPou) → same_word q.name word ≡ false → first_that (λ (x : PlainPou). same_word word x.name) (cons_option (if b then Some q else None) rest) ≡ first_that (λ (x : PlainPou). same_word word x.name) rest
block_skipped word false q rest other = refl
block_skipped word true q rest other = let fails : same_word word q.name ≡ false = same_turned word q.name ∙ other in rw fails refl

block_later : (word : List ℕ) (s : Shared) (rest : List PlainPou) → same_word (shared_name s) word ≡ false → first_that (λ (x : PlainPou). same_word word x.name) (cons_option (pick_block s) rest) ≡ first_that (λ (x : PlainPou). same_word word x.name) rest
block_later word (global d) rest other = refl
block_later word (pou q) rest other = block_skipped word (is_block q.kind) q rest other

block_first : (items : List Shared) (word : List ℕ) (p : PlainPou) → as_block (first_that (λ s. same_word (shared_name s) word) items) ≡ Some p → first_that (λ (x : PlainPou). same_word word x.name) (filter_map pick_block items) ≡ Some p
block_first [] word p is = absurd (cc)
block_first (s ∷ items) word p is =
    elim (cases_Bool (same_word (shared_name s) word)) [
      | inl same ↦ block_here word s p (filter_map pick_block items) same (rw same at is)
      | inr other ↦ block_later word s (filter_map pick_block items) other ∙ block_first items word p (rw other at is)
    ]

module _ (units : List PlainUnit) where
  abbrev blocks : List PlainRoutine
  blocks = (source_in units).blocks

  abbrev type_names : List (List ℕ)
  type_names = block_names units

  -- the routine of a block is at the number of its name
  type_at : (word : List ℕ) (p : PlainPou) → block_named units word ≡ Some p → slice_get blocks (unwrap_or (find_name type_names word) (length type_names)) ≡ Some (routine_of type_names p)
  type_at word p is =
      let ps = block_pous (pous_of units) in
      let first : first_that (λ (x : PlainPou). same_word word x.name) ps ≡ Some p = ap (first_that (λ (x : PlainPou). same_word word x.name)) (blocks_picked units) ∙ block_first (shared_in units) word p is in
      let number = first_number (same_word word) (λ (x : PlainPou). x.name) ps p first in
      let same : unwrap_or (find_name type_names word) (length type_names) ≡ number.0 = ap (λ o. unwrap_or o (length type_names)) number.1 in
      ap (slice_get blocks) same ∙ slice_get-map (routine_of type_names) ps number.0 ∙ ap (option_map (routine_of type_names)) number.2

-- the kind of the member that is found
abbrev kind_found : List Member → List ℕ → Option Kind
kind_found members name = option_and_then (λ m. m.kind) (find_member members name)

of_two : (a b : Bool) (x y : Member) (m n : ℕ) (k : Kind) → option_and_then (λ m. m.kind) (if a then Some x else if b then Some y else None) ≡ Some k → is_some (if a then Some m else if b then Some n else None) ≡ true
of_two true b x y m n k is = refl
of_two false true x y m n k is = refl
of_two false false x y m n k is = absurd (cc)

of_two_turned : (a b : Bool) (x y : Member) (m n : ℕ) (k : Kind) → option_and_then (λ m. m.kind) (if a then Some x else if b then Some y else None) ≡ Some k → is_some (if b then Some n else if a then Some m else None) ≡ true
of_two_turned true true x y m n k is = refl
of_two_turned true false x y m n k is = refl
of_two_turned false true x y m n k is = refl
of_two_turned false false x y m n k is = absurd (cc)

of_one : (a : Bool) (x : Member) (k : Kind) → option_and_then (λ m. m.kind) (if a then Some x else None) ≡ Some k → is_some {T = ℕ} (if a then Some 0 else None) ≡ true
of_one true x k is = refl
of_one false x k is = absurd (cc)

module _ (name : List ℕ) (k : Kind) where
  timer_in : kind_found timer_inputs name ≡ Some k → is_some (timer_number name) ≡ true
  timer_in is = rw (same_turned name (codes "IN"), same_turned name (codes "PT")) (of_two (same_word (codes "IN") name) (same_word (codes "PT") name) _ _ 0 1 k is)

  timer_out : kind_found timer_outputs name ≡ Some k → is_some (timer_shows name) ≡ true
  timer_out is = rw (same_turned name (codes "Q"), same_turned name (codes "ET")) (of_two_turned (same_word (codes "Q") name) (same_word (codes "ET") name) _ _ 0 1 k is)

  trigger_in : kind_found (inputs_of r_trig) name ≡ Some k → is_some {T = ℕ} (if same_word name (codes "CLK") then Some 0 else None) ≡ true
  trigger_in is = rw (same_turned name (codes "CLK")) (of_one (same_word (codes "CLK") name) _ k is)

  trigger_out : kind_found (outputs_of r_trig) name ≡ Some k → is_some {T = ℕ} (if same_word name (codes "Q") then Some 0 else None) ≡ true
  trigger_out is = rw (same_turned name (codes "Q")) (of_one (same_word (codes "Q") name) _ k is)

  -- a member of a block is a variable of its own
  module _ (test : SectionKind → Bool) (inside : (s : SectionKind) → test s ≡ true → is_external s ≡ false) where
    member_has : (taken : List (List ℕ)) (ds : List PlainDeclared) → kind_found (map member_of (filter (λ d. test d.section) (first_declared taken ds))) name ≡ Some k → has name (own_words (flat_map local_of ds)) ≡ true
    member_has taken [] is = absurd (cc)
    member_has taken (d ∷ ds) is =
        elim (cases_Bool (is_among taken d.name)) [
          | inl again ↦ later (member_has taken ds (rw again at is))
          | inr new ↦
              elim (cases_Bool (test d.section)) [
                | inl chosen ↦
                    elim (cases_Bool (same_word d.name name)) [
                      | inl same ↦ (let kind : sort_kind d.sort ≡ Some k = (rw (new, chosen, same) at is) in local_here name d k (flat_map local_of ds) same (inside d.section chosen) (kind_is d.sort k kind))
                      | inr other ↦ later (member_has (taken ++ d.name ∷ []) ds (rw (new, chosen, other) at is))
                    ]
                | inr left ↦ later (member_has (taken ++ d.name ∷ []) ds (rw (new, left) at is))
              ]
        ]
      where
        later : has name (own_words (flat_map local_of ds)) ≡ true → has name (own_words (flat_map local_of (d ∷ ds))) ≡ true
        later there = any_later (bytes_eq (folded name)) (λ (l : Local). folded l.name) (local_of d) (flat_map local_of ds) there

    pub member_there : (p : PlainPou) → kind_found (members_in test p) name ≡ Some k → is_some (find_word (own_words (flat_map local_of (declared_in p.sections))) name) ≡ true
    member_there p is = placed_some (bytes_eq (folded name)) (own_words (flat_map local_of (declared_in p.sections))) (member_has [] (declared_in p.sections) is)

  input_inside : (s : SectionKind) → is_input_section s ≡ true → is_external s ≡ false
  input_inside sections.Local is = refl
  input_inside sections.External is = absurd (cc)
  input_inside sections.Input is = refl
  input_inside sections.Output is = refl
  input_inside sections.Global is = refl

  output_inside : (s : SectionKind) → is_output_section s ≡ true → is_external s ≡ false
  output_inside sections.Local is = refl
  output_inside sections.External is = absurd (cc)
  output_inside sections.Input is = refl
  output_inside sections.Output is = refl
  output_inside sections.Global is = refl

  module _ (units : List PlainUnit) where
    declared_member : (n : ℕ) (p : PlainPou) → slice_get (blocks units) n ≡ Some (routine_of (type_names units) p) → is_some (find_word (own_words (flat_map local_of (declared_in p.sections))) name) ≡ true
        → is_some (member_number (blocks units) (Declared n) name) ≡ true
    declared_member n p at there = ap (λ o. is_some (option_and_then (λ (b : PlainRoutine). find_word (own_words b.locals) name) o)) at ∙ there

    input_by : (t u v : Bool) (o : Option PlainPou) (n : ℕ) (of : BlockType) → (if t then Some ton else if u then Some tof else if v then Some r_trig else option_map declared_block o) ≡ Some of
        → ((p : PlainPou) → o ≡ Some p → slice_get (blocks units) n ≡ Some (routine_of (type_names units) p)) → kind_found (inputs_of of) name ≡ Some k
        → is_some (member_number (blocks units) (if t then Ton else if u then Tof else if v then RTrig else Declared n) name) ≡ true
    input_by true u v o n of is at kind = let same : of ≡ ton = cc in timer_in (ap (λ b. kind_found (inputs_of b) name) (sym same) ∙ kind)
    input_by false true v o n of is at kind = let same : of ≡ tof = cc in timer_in (ap (λ b. kind_found (inputs_of b) name) (sym same) ∙ kind)
    input_by false false true o n of is at kind = let same : of ≡ r_trig = cc in trigger_in (ap (λ b. kind_found (inputs_of b) name) (sym same) ∙ kind)
    input_by false false false None n of is at kind = absurd (cc)
    input_by false false false (Some p) n of is at kind =
        let same : of ≡ declared_block p = cc in
        declared_member n p (at p refl) (member_there is_input_section input_inside p (ap (λ b. kind_found (inputs_of b) name) (sym same) ∙ kind))

    output_by : (t u v : Bool) (o : Option PlainPou) (n : ℕ) (of : BlockType) → (if t then Some ton else if u then Some tof else if v then Some r_trig else option_map declared_block o) ≡ Some of
        → ((p : PlainPou) → o ≡ Some p → slice_get (blocks units) n ≡ Some (routine_of (type_names units) p)) → kind_found (outputs_of of) name ≡ Some k
        → is_some (shown_number (source_in units) (if t then Ton else if u then Tof else if v then RTrig else Declared n) name) ≡ true
    output_by true u v o n of is at kind = let same : of ≡ ton = cc in timer_out (ap (λ b. kind_found (outputs_of b) name) (sym same) ∙ kind)
    output_by false true v o n of is at kind = let same : of ≡ tof = cc in timer_out (ap (λ b. kind_found (outputs_of b) name) (sym same) ∙ kind)
    output_by false false true o n of is at kind = let same : of ≡ r_trig = cc in trigger_out (ap (λ b. kind_found (outputs_of b) name) (sym same) ∙ kind)
    output_by false false false None n of is at kind = absurd (cc)
    output_by false false false (Some p) n of is at kind =
        let same : of ≡ declared_block p = cc in
        declared_member n p (at p refl) (member_there is_output_section output_inside p (ap (λ b. kind_found (outputs_of b) name) (sym same) ∙ kind))

    -- an input that has a kind has a number, and so has an output
    input_there : (word : List ℕ) (of : BlockType) → block_type units word ≡ Some of → kind_found (inputs_of of) name ≡ Some k → is_some (member_number (blocks units) (block_ref (type_names units) word) name) ≡ true
    input_there word of is kind =
        input_by (same_word word (codes "TON")) (same_word word (codes "TOF")) (same_word word (codes "R_TRIG")) (block_named units word) (unwrap_or (find_name (type_names units) word) (length (type_names units))) of is (type_at units word) kind

    output_there : (word : List ℕ) (of : BlockType) → block_type units word ≡ Some of → kind_found (outputs_of of) name ≡ Some k → is_some (shown_number (source_in units) (block_ref (type_names units) word) name) ≡ true
    output_there word of is kind =
        output_by (same_word word (codes "TON")) (same_word word (codes "TOF")) (same_word word (codes "R_TRIG")) (block_named units word) (unwrap_or (find_name (type_names units) word) (length (type_names units))) of is (type_at units word) kind

-- the first instance of a name is the one that is declared first
module _ (name : List ℕ) (words : List (List ℕ)) where
  abbrev named_so : Instance → Bool
  named_so i = bytes_eq (folded name) (folded i.name)

  instance_skipped : (outside : Bool) (e : PlainDeclared) (s : Sort) (rest : List Instance) → same_word e.name name ≡ false → first_that named_so ((if outside then [] else instance_by words e s) ++ rest) ≡ first_that named_so rest
  instance_skipped true e s rest other = refl
  instance_skipped false e (sort.Kind kind) rest other = refl
  instance_skipped false e (sort.Array bounds kind) rest other = refl
  instance_skipped false e (sort.Block word) rest other = let fails : same_word name e.name ≡ false = same_turned name e.name ∙ other in rw fails refl

  instance_first : (ds : List PlainDeclared) (d : PlainDeclared) (word : List ℕ) → find_declared ds name ≡ Some d → is_external d.section ≡ false → d.sort ≡ sort.Block word
      → first_that named_so (flat_map (instance_of words) ds) ≡ Some (record { name = d.name; of = block_ref words word })
  instance_first [] d word found own of = absurd (cc)
  instance_first (e ∷ ds) d word found own of =
      elim (cases_Bool (same_word e.name name)) [
        | inl is ↦ (
            let one : Some e ≡ Some d = (rw is at found) in
            let same : d ≡ e = cc in
            here e (flat_map (instance_of words) ds) (sym same) is)
        | inr isnt ↦ instance_skipped (is_external e.section) e e.sort (flat_map (instance_of words) ds) isnt ∙ instance_first ds d word (rw isnt at found) own of
      ]
    where
      here : (e : PlainDeclared) (rest : List Instance) → e ≡ d → same_word e.name name ≡ true → first_that named_so (instance_of words e ++ rest) ≡ Some (record { name = d.name; of = block_ref words word })
      here e rest same is =
          let inside : is_external e.section ≡ false = ap (λ (x : PlainDeclared). is_external x.section) same ∙ own in
          let block : e.sort ≡ sort.Block word = ap (λ (x : PlainDeclared). x.sort) same ∙ of in
          let passes : same_word name e.name ≡ true = same_turned name e.name ∙ is in
          rw inside (rw block (rw passes (ap (λ (x : PlainDeclared). Some (record { name = x.name; of = block_ref words word })) same)))

module _ (units : List PlainUnit) (p : PlainPou) (fits : pou_misfit units p ≡ false) (variables : (name : List ℕ) (d : PlainDeclared) → global_named units name ≡ Some d → is_instance_sort d.sort ≡ false) where
  abbrev own : List PlainDeclared
  own = declared_in p.sections

  abbrev r : PlainRoutine
  r = routine_of (block_names units) p

  -- what the instance of a name is of
  abbrev IsOf : List ℕ → BlockType → Type 0
  IsOf name of = (word : List ℕ) × (block_type units word ≡ Some of) × (names.block_named r name ≡ Some (block_ref (block_names units) word))

  own_instance : (name : List ℕ) (d : PlainDeclared) (word : List ℕ) → find_declared own name ≡ Some d → d.sort ≡ sort.Block word → names.block_named r name ≡ Some (block_ref (block_names units) word)
  own_instance name d word found block =
      let fit = first_passes (λ (e : PlainDeclared). same_word e.name name) (declared_fits units own) own d (declared_all units p fits) found in
      let local : instance_fits d.section d.initial ≡ true = ap (sort_fits units own d) (sym block) ∙ fit in
      let first = instance_first name (block_names units) own d word found (not_external units p fits d.section d.initial local) block in
      let number = first_number (bytes_eq (folded name)) (λ (i : Instance). folded i.name) r.instances (record { name = d.name; of = block_ref (block_names units) word }) first in
      ap (λ o. option_map (λ (i : Instance). i.of) (option_and_then (slice_get r.instances) o)) number.1 ∙ ap (option_map (λ (i : Instance). i.of)) number.2

  own_type : (name : List ℕ) (of : BlockType) (d : PlainDeclared) (s : Sort) → d.sort ≡ s → find_declared own name ≡ Some d → sort_type units s ≡ Some of → IsOf name of
  own_type name of d (sort.Kind k) sorted found is = absurd (cc)
  own_type name of d (sort.Array bounds k) sorted found is = absurd (cc)
  own_type name of d (sort.Block word) sorted found is = (word, is, own_instance name d word found sorted)

  no_type : (name : List ℕ) (of : BlockType) (s : Sort) → is_instance_sort s ≡ false → sort_type units s ≡ Some of → IsOf name of
  no_type name of (sort.Kind k) variable is = absurd (cc)
  no_type name of (sort.Array bounds k) variable is = absurd (cc)
  no_type name of (sort.Block word) variable is = absurd (cc)

  type_by : (name : List ℕ) (of : BlockType) (o q : Option PlainDeclared) → find_declared own name ≡ o → global_named units name ≡ q → option_and_then (λ (d : PlainDeclared). sort_type units d.sort) (or_other o q) ≡ Some of → IsOf name of
  type_by name of (Some d) q found other is = own_type name of d d.sort refl found is
  type_by name of None (Some d) found other is = no_type name of d.sort (variables name d other) is
  type_by name of None None found other is = absurd (cc)

  type_is : (name : List ℕ) (of : BlockType) → instance_type units own name ≡ Some of → IsOf name of
  type_is name of is = type_by name of (find_declared own name) (global_named units name) refl refl is

  -- an input that has a kind has a number
  pub input_numbered : (instance name : List ℕ) (k : Kind) → input_kind units own instance name ≡ Some k → is_some (input_number (source_in units) r instance name) ≡ true
  input_numbered instance name k is =
      let m = and_then_some (λ m. m.kind) _ k is in
      let t = and_then_some (λ t. find_member (inputs_of t) name) (instance_type units own instance) m.0 m.1 in
      let of = type_is instance t.0 t.1 in
      let kind : kind_found (inputs_of t.0) name ≡ Some k = ap (option_and_then (λ m. m.kind)) t.2 ∙ m.2 in
      ap (λ o. is_some (option_and_then (λ b. member_number (source_in units).blocks b name) o)) of.2 ∙ input_there name k units of.0 t.0 of.1 kind

  -- an output that has a kind has a number
  pub output_numbered : (instance name : List ℕ) (k : Kind) → output_kind units own instance name ≡ Some k → is_some (output_number (source_in units) r instance name) ≡ true
  output_numbered instance name k is =
      let m = and_then_some (λ m. m.kind) _ k is in
      let t = and_then_some (λ t. find_member (outputs_of t) name) (instance_type units own instance) m.0 m.1 in
      let of = type_is instance t.0 t.1 in
      let kind : kind_found (outputs_of t.0) name ≡ Some k = ap (option_and_then (λ m. m.kind)) t.2 ∙ m.2 in
      ap (λ o. is_some (option_and_then (λ b. shown_number (source_in units) b name) o)) of.2 ∙ output_there name k units of.0 t.0 of.1 kind
