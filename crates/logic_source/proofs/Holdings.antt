-- The instances of a routine of well-formed units, and their inputs and outputs, with their kinds and paths.
use Rattle.std.proofs.Common.{◌≡◌, ◌∙◌, ap, sym, subst, refl, ℕ, ℤ, zero, suc, Bool, true, false, List, [], ◌∷◌, ◌++◌, map, Option, Some, None, slice_get, inl, inr}
use Rattle.std.specs.Prelude.{if◌then◌else◌, option_map, option_and_then, unwrap_or, filter, cond, codes}
use Rattle.std.specs.List.{list_all, All}
use Rattle.std.specs.Option.{option_map_or}
use Rattle.std.specs.Str.{bytes_eq}
use Rattle.std.specs.Cmp.Lexicographic.{bytes_decides}
use Rattle.std.proofs.lemmas.Bool.{both_ways}
use Rattle.std.proofs.lemmas.List.Elements.{All-head, All-tail}
use Rattle.std.proofs.lemmas.Option.{slice_get-map}
use Rattle.plant_types.specs.Words.{folded, same_word}
use Rattle.plant_types.specs.Values.{truth, Path}
use Rattle.plant_types.specs.declared.values.Kind.{Kind}
use Rattle.plant_types.specs.declared.values.Kind.TheVariants as kind
use Rattle.base_words.specs.Names.{find_name}
use Rattle.base_words.specs.Names as index
use Rattle.st_blocks.specs.Chains.{Among}
use Rattle.st_tree.specs.Plain.{PlainExpr}
use Rattle.st_tree.proofs.RangeLaws.{InRange, truth_in}
use Rattle.st_typing.specs.SectionKind.{SectionKind}
use Rattle.st_typing.specs.SectionKind.TheVariants as sections
use Rattle.st_typing.specs.Sort.{Sort}
use Rattle.st_typing.specs.Sort.TheVariants as sort
use Rattle.st_typing.specs.Units.{PlainPou, PlainUnit}
use Rattle.st_typing.specs.First.{first_that}
use Rattle.st_typing.specs.DeclaredNames.{PlainDeclared, declared_in, declared_words, find_declared, first_declared, sort_kind, is_instance_sort}
use Rattle.st_typing.specs.Shared.{Shared, global, pou, shared_in, find_shared, as_block, global_named, block_named}
use Rattle.st_typing.specs.BlockTypes.{BlockType, ton, tof, r_trig, declared_block, block_type, Member, member_of, members_in, is_input_section, is_output_section, inputs_of, outputs_of, find_member}
use Rattle.st_typing.specs.Scopes.{or_other, is_external, sort_type, instance_type}
use Rattle.st_typing.specs.Taken.{repeats}
use Rattle.st_typing.specs.Kinds.{instance_fits, sort_fits, declared_fits}
use Rattle.std_blocks.specs.Calls.{Call}
use Rattle.std_blocks.specs.Timers as timers
use Rattle.std_blocks.specs.Edges.{r_trig as edge}
use Rattle.logic_source.specs.declared.logic.Local.{Local}
use Rattle.logic_source.specs.declared.logic.Instance.{Instance}
use Rattle.logic_source.specs.declared.logic.BlockRef.{BlockRef}
use Rattle.logic_source.specs.declared.logic.BlockRef.TheVariants.{Ton, Tof, RTrig, Declared}
use Rattle.logic_source.specs.Source.{PlainRoutine, Source}
use Rattle.logic_source.specs.Pous.{pous_of, block_pous, block_names, pou_word}
use Rattle.logic_source.specs.Units.{block_ref, routine_of, source_in}
use Rattle.logic_source.specs.Names.{find_word, instance_named, own_kind, output_kind_of}
use Rattle.logic_source.specs.Blocks.{AreBelow}
use Rattle.logic_source.specs.Worlds.{World, in_word, pt_word, clk_word, timer_output, output_at}
use Rattle.logic_source.specs.Ranges.{KindAt, kind_at, own_kinds, block_kinds, instance_kinds, kinds_rule, routine_kinds, all_kinds, AllInRange}
use Rattle.logic_source.proofs.Agreeing.{among_at}
use Rattle.logic_source.proofs.Apart.{shared_word, pick_block, blocks_picked}
use Rattle.logic_source.proofs.Belows.{name_of}
use Rattle.logic_source.proofs.Growing.{fused}
use Rattle.logic_source.proofs.Picked.{first_picked}
use Rattle.logic_source.proofs.Firsts.{finds, first_passes, first_is, self_first, word_found}
use Rattle.logic_source.proofs.Elapsing.{ton_timed, tof_timed}
use Rattle.logic_source.proofs.KindPaths.{Within, left_within, value_in, type_kinds}
use Rattle.logic_source.proofs.Scopes.{pick_local, pick_instance, held_by, IsScope, IsOwn, is_own, own_kind_is, own_stands, local_is, block_same, routine_scope}

-- what holds of a block or program's declarations: no name is declared twice, and each declaration fits
pub record IsDeclaredWell (units : List PlainUnit) (p : PlainPou) : Type 0 where
  pub once : repeats (declared_words (declared_in p.sections)) ≡ false
  pub fit : list_all (declared_fits units (declared_in p.sections)) (declared_in p.sections) ≡ true

-- ---- the members of a declared block type
pub among_map : {A B : Type 0} (f : A → B) (xs : List A) (b : B) → Among (map f xs) b → (a : A) × Among xs a × (f a ≡ b)
among_map f [] b here = elim here [ ]
among_map f (x ∷ xs) b (inl is) = (x, inl refl, is)
among_map f (x ∷ xs) b (inr later) = let a = among_map f xs b later in (a.0, inr a.1, a.2)

among_filter : {A : Type 0} (test : A → Bool) (xs : List A) (a : A) → Among (filter test xs) a → Among xs a × (test a ≡ true)
among_filter test [] a here = elim here [ ]
among_filter test (x ∷ xs) a here = by_test (test x) refl here (λ later. among_filter test xs a later)
  where
    by_test : (b : Bool) → test x ≡ b → Among (cond b (x ∷ filter test xs) (filter test xs)) a → (Among (filter test xs) a → Among xs a × (test a ≡ true)) → Among (x ∷ xs) a × (test a ≡ true)
    by_test true passes (inl is) rest = (inl is, ap test (sym is) ∙ passes)
    by_test true passes (inr later) rest = (inr (rest later).0, (rest later).1)
    by_test false fails later rest = (inr (rest later).0, (rest later).1)

among_first : (before : List (List ℕ)) (ds : List PlainDeclared) (d : PlainDeclared) → Among (first_declared before ds) d → Among ds d
among_first before [] d here = elim here [ ]
among_first before (e ∷ ds) d here = by_test (index.is_among before e.name) here (λ later. among_first before ds d later) (λ later. among_first (before ++ e.name ∷ []) ds d later)
  where
    by_test : (b : Bool) → Among (if b then first_declared before ds else e ∷ first_declared (before ++ e.name ∷ []) ds) d → (Among (first_declared before ds) d → Among ds d) → (Among (first_declared (before ++ e.name ∷ []) ds) d → Among ds d) → Among (e ∷ ds) d
    by_test true later skipped rest = inr (skipped later)
    by_test false (inl is) skipped rest = inl is
    by_test false (inr later) skipped rest = inr (rest later)

first_among : {A : Type 0} (test : A → Bool) (xs : List A) (a : A) → first_that test xs ≡ Some a → Among xs a
first_among test [] a is = absurd (cc)
first_among test (x ∷ xs) a is = by_test (test x) is (λ later. first_among test xs a later)
  where
    by_test : (b : Bool) → (if b then Some x else first_that test xs) ≡ Some a → (first_that test xs ≡ Some a → Among xs a) → Among (x ∷ xs) a
    by_test true found rest = inl (cc)
    by_test false later rest = inr (rest later)

-- a member of a declared block type is declared with the member's name and kind in a section of its sort
record IsMember (q : PlainPou) (test : SectionKind → Bool) (name : List ℕ) (k : Kind) : Type 0 where
  d : PlainDeclared
  among : Among (declared_in q.sections) d
  word : folded d.name ≡ folded name
  section : test d.section ≡ true
  kind : sort_kind d.sort ≡ Some k

is_member : (q : PlainPou) (test : SectionKind → Bool) (name : List ℕ) (k : Kind) (m : Member) → find_member (members_in test q) name ≡ Some m → m.kind ≡ Some k → IsMember q test name k
is_member q test name k m found kind =
    let ds = declared_in q.sections in
    let a = among_map member_of (filter (λ d. test d.section) (first_declared [] ds)) m (first_among (λ (m : Member). same_word m.name name) (members_in test q) m found) in
    let b = among_filter (λ (d : PlainDeclared). test d.section) (first_declared [] ds) a.0 a.1 in
    let word : folded m.name ≡ folded name = (bytes_decides (folded m.name) (folded name)).0 (first_is (λ (m : Member). same_word m.name name) (members_in test q) m found) in
    record {
      d = a.0;
      among = among_first [] ds a.0 b.0;
      word = ap (λ (m : Member). folded m.name) a.2 ∙ word;
      section = b.1;
      kind = ap (λ (m : Member). m.kind) a.2 ∙ kind;
    }

not_external : (test : SectionKind → Bool) → test sections.External ≡ false → (s : SectionKind) → test s ≡ true → is_external s ≡ false
not_external test isnt sections.Local is = refl
not_external test isnt sections.Input is = refl
not_external test isnt sections.Output is = refl
not_external test isnt sections.External is = absurd (both_ways (test sections.External) isnt is)
not_external test isnt sections.Global is = refl

module _ (units : List PlainUnit) where
  -- the member is the routine's own variable
  member_own : (q : PlainPou) (test : SectionKind → Bool) (name : List ℕ) (k : Kind) → IsDeclaredWell units q → test sections.External ≡ false → IsMember q test name k → (l : Local) × IsOwn (routine_of (block_names units) q) name l × (l.kind ≡ k)
  member_own q test name k well isnt member =
      let r = routine_of (block_names units) q in
      let scope = routine_scope units q well.once well.fit in
      let found : find_declared (declared_in q.sections) name ≡ Some member.d = self_first (λ (d : PlainDeclared). folded d.name) (declared_in q.sections) member.d (folded name) well.once member.among member.word in
      let l : Local = record { name = member.d.name; kind = k } in
      (l, is_own r name l (scope.locals name ∙ ap (option_and_then pick_local) found ∙ local_is member.d member.d.sort k (not_external test isnt member.d.section member.section) member.kind), refl)

-- ---- block types by word
abbrev pub blocks : List PlainUnit → List PlainPou
blocks units = block_pous (pous_of units)

-- a block type is the one of a number in the source
abbrev pub Meets : List PlainUnit → BlockType → BlockRef → Type 0
Meets units ton b = b ≡ Ton
Meets units tof b = b ≡ Tof
Meets units r_trig b = b ≡ RTrig
Meets units (declared_block q) b = (n : ℕ) × (b ≡ Declared n) × (slice_get (blocks units) n ≡ Some q)

module _ (units : List PlainUnit) (apart : repeats (map shared_word (shared_in units)) ≡ false) where
  picked_is : (s : Option Shared) → option_and_then pick_block s ≡ as_block s
  picked_is None = refl
  picked_is (Some (global d)) = refl
  picked_is (Some (pou p)) = refl

  -- the block of a word has its number
  block_numbered : (word : List ℕ) (q : PlainPou) → block_named units word ≡ Some q → (n : ℕ) × (find_name (block_names units) word ≡ Some n) × (slice_get (blocks units) n ≡ Some q)
  block_numbered word q is =
      let first : first_that (λ (p : PlainPou). same_word p.name word) (blocks units) ≡ Some q =
      ap (first_that (λ (p : PlainPou). same_word p.name word)) (blocks_picked units) ∙ first_picked shared_word pou_word pick_block block_same (shared_in units) (folded word) apart ∙ picked_is (find_shared units word) ∙ is in
      let f = finds pou_word (blocks units) word (Some q) first in
      (f.0, word_found (block_names units) word ∙ ap (λ ws. find_word ws word) (sym (fused folded name_of (blocks units))) ∙ f.1, f.2)

  meets_by : (a b c : Bool) (o : Option PlainPou) (n : Option ℕ) (many : ℕ) (t : BlockType) → ((q : PlainPou) → o ≡ Some q → (m : ℕ) × (n ≡ Some m) × (slice_get (blocks units) m ≡ Some q))
      → (if a then Some ton else if b then Some tof else if c then Some r_trig else option_map declared_block o) ≡ Some t → Meets units t (if a then Ton else if b then Tof else if c then RTrig else Declared (unwrap_or n many))
  meets_by true b c o n many t numbered is = subst (λ x. Meets units x Ton) (let same : ton ≡ t = cc in same) refl
  meets_by false true c o n many t numbered is = subst (λ x. Meets units x Tof) (let same : tof ≡ t = cc in same) refl
  meets_by false false true o n many t numbered is = subst (λ x. Meets units x RTrig) (let same : r_trig ≡ t = cc in same) refl
  meets_by false false false None n many t numbered is = absurd (cc)
  meets_by false false false (Some q) n many t numbered is =
      let same : declared_block q ≡ t = cc in
      let m = numbered q refl in
      subst (λ x. Meets units x (Declared (unwrap_or n many))) same (m.0, ap (λ o. Declared (unwrap_or o many)) m.1, m.2)

  meets : (word : List ℕ) (t : BlockType) → block_type units word ≡ Some t → Meets units t (block_ref (block_names units) word)
  meets word t is =
      meets_by (same_word word (codes "TON")) (same_word word (codes "TOF")) (same_word word (codes "R_TRIG")) (block_named units word) (find_name (block_names units) word) _ t (block_numbered word) is

  -- ---- the instances of a routine
  module _ (own : List PlainDeclared) (r : PlainRoutine) (scope : IsScope units own r) (no_globals : (name : List ℕ) (d : PlainDeclared) → global_named units name ≡ Some d → is_instance_sort d.sort ≡ false) where
    -- the instance of a name, of a block type
    pub record IsInstance (name : List ℕ) (t : BlockType) : Type 0 where
      pub i : Instance
      pub among : Among r.instances i
      pub named : instance_named r name ≡ Some i
      pub word : folded i.name ≡ folded name
      pub meets : Meets units t i.of

    local_section : (s : SectionKind) (e : Option (PlainExpr (List ℕ))) → instance_fits s e ≡ true → is_external s ≡ false
    local_section sections.Local e fits = refl
    local_section sections.Input e fits = refl
    local_section sections.Output e fits = refl
    local_section sections.External e fits = absurd (cc)
    local_section sections.Global e fits = refl

    held_instance : (name : List ℕ) (d : PlainDeclared) (word : List ℕ) (t : BlockType) → find_declared own name ≡ Some d → d.sort ≡ sort.Block word → block_type units word ≡ Some t → IsInstance name t
    held_instance name d word t found of is =
        let fit = first_passes (λ (e : PlainDeclared). same_word e.name name) (declared_fits units own) own d scope.fits found in
        let inside = local_section d.section d.initial (ap (sort_fits units own d) (sym of) ∙ fit) in
        let i : Instance = record { name = d.name; of = block_ref (block_names units) word } in
        let picked : pick_instance (block_names units) d ≡ Some i = rw inside (ap (held_by (block_names units) d) of) in
        let first : first_that (λ (i : Instance). same_word i.name name) r.instances ≡ Some i = scope.instances name ∙ ap (option_and_then (pick_instance (block_names units))) found ∙ picked in
        let f = finds (λ (i : Instance). folded i.name) r.instances name (Some i) first in
        record {
          i = i;
          among = among_at r.instances f.0 i f.2;
          named = ap (option_and_then (slice_get r.instances)) f.1 ∙ f.2;
          word = (bytes_decides (folded d.name) (folded name)).0 (first_is (λ (i : Instance). same_word i.name name) r.instances i first);
          meets = meets word t is;
        }

    by_sort : (name : List ℕ) (d : PlainDeclared) (s : Sort) (t : BlockType) → find_declared own name ≡ Some d → d.sort ≡ s → sort_type units s ≡ Some t → IsInstance name t
    by_sort name d (sort.Kind k) t found of is = absurd (cc)
    by_sort name d (sort.Array bounds k) t found of is = absurd (cc)
    by_sort name d (sort.Block word) t found of is = held_instance name d word t found of is

    no_global : {P : Type 0} (s : Sort) (t : BlockType) → is_instance_sort s ≡ false → sort_type units s ≡ Some t → P
    no_global (sort.Kind k) t there is = absurd (cc)
    no_global (sort.Block word) t there is = absurd (cc)
    no_global (sort.Array bounds k) t there is = absurd (cc)

    by_search : (name : List ℕ) (t : BlockType) (o q : Option PlainDeclared) → find_declared own name ≡ o → global_named units name ≡ q → option_and_then (λ (d : PlainDeclared). sort_type units d.sort) (or_other o q) ≡ Some t → IsInstance name t
    by_search name t (Some d) q found other is = by_sort name d d.sort t found refl is
    by_search name t None (Some d) found other is = no_global d.sort t (no_globals name d other) is
    by_search name t None None found other is = absurd (cc)

    -- what has a block type is an instance of it
    pub instance_at : (name : List ℕ) (t : BlockType) → instance_type units own name ≡ Some t → IsInstance name t
    instance_at name t is = by_search name t (find_declared own name) (global_named units name) refl refl is

-- ---- the inputs and outputs of instances
each_at : {A : Type 0} (P : A → Type 0) (xs : List A) (n : ℕ) (x : A) → All P xs → slice_get xs n ≡ Some x → P x
each_at P [] n x all at = absurd (cc)
each_at P (y ∷ ys) zero x all at = let same : y ≡ x = cc in subst P same (All-head P y ys all)
each_at P (y ∷ ys) (suc n) x all at = each_at P ys n x (All-tail P y ys all) at

-- a name that is a word, as it is found
word_of : (name word : List ℕ) → same_word word name ≡ true → folded name ≡ folded word
word_of name word is = sym ((bytes_decides (folded word) (folded name)).0 is)

kind_of_member : (name : List ℕ) (j k : Kind) (m : Member) → Some (record { name = name; kind = Some j }) ≡ Some m → m.kind ≡ Some k → j ≡ k
kind_of_member name j k m is kind =
    let same : record { name = name; kind = Some j } ≡ m = cc in
    let both : Some j ≡ Some k = ap (λ (m : Member). m.kind) same ∙ kind in
    cc

module _ (units : List PlainUnit) (order : List ℕ) (below : AreBelow (source_in units).blocks order) (well : All (IsDeclaredWell units) (blocks units)) where
  abbrev source : Source
  source = source_in units

  abbrev kinds : BlockRef → Path → List KindAt
  kinds b path = block_kinds (routine_kinds source.blocks) b path

  -- the routine of a block type's number
  routine_at : (n : ℕ) (q : PlainPou) → slice_get (blocks units) n ≡ Some q → slice_get source.blocks n ≡ Some (routine_of (block_names units) q)
  routine_at n q at = slice_get-map (routine_of (block_names units)) (blocks units) n ∙ ap (option_map (routine_of (block_names units))) at

  -- a member of a declared block type stands among its values, with its kind
  declared_stands : (all : List KindAt) (n : ℕ) (q : PlainPou) (test : SectionKind → Bool) (path : Path) (name : List ℕ) (k : Kind) → slice_get (blocks units) n ≡ Some q → test sections.External ≡ false → IsMember q test name k
      → Within all (routine_kinds source.blocks n path) → Among all (kind_at (folded name ∷ path) k)
  declared_stands all n q test path name k at isnt member within =
      let r = routine_of (block_names units) q in
      let l = member_own units q test name k (each_at (IsDeclaredWell units) (blocks units) n q well at) isnt member in
      let rule = type_kinds source.blocks order n r below (routine_at n q at) in
      let here : Within all (kinds_rule (routine_kinds source.blocks) r path) = subst (λ f. Within all (f path)) rule within in
      let mine = left_within all (own_kinds r path) (instance_kinds (routine_kinds source.blocks) r.instances path) here in
      mine (kind_at (folded name ∷ path) k) (subst (λ j. Among (own_kinds r path) (kind_at (folded name ∷ path) j)) l.2 (own_stands r name l.0 path l.1))

  module _ (all : List KindAt) (path : Path) (name : List ℕ) (k : Kind) (m : Member) (of_kind : m.kind ≡ Some k) where
    timer_stands : (a b : Bool) → same_word (codes "IN") name ≡ a → same_word (codes "PT") name ≡ b
        → (if a then Some (record { name = codes "IN"; kind = Some kind.Bool }) else if b then Some (record { name = codes "PT"; kind = Some kind.Time }) else None) ≡ Some m
        → Within all (kinds Ton path) → Among all (kind_at (folded name ∷ path) k)
    timer_stands true b first second is within =
        let j = kind_of_member (codes "IN") kind.Bool k m is of_kind in
        subst (λ v. Among all v) (λ i. kind_at (sym (word_of name (codes "IN") first) i ∷ path) (j i)) (within (kind_at (in_word ∷ path) kind.Bool) (inl refl))
    timer_stands false true first second is within =
        let j = kind_of_member (codes "PT") kind.Time k m is of_kind in
        subst (λ v. Among all v) (λ i. kind_at (sym (word_of name (codes "PT") second) i ∷ path) (j i)) (within (kind_at (pt_word ∷ path) kind.Time) (inr (inl refl)))
    timer_stands false false first second is within = absurd (cc)

    trigger_stands : (a : Bool) → same_word (codes "CLK") name ≡ a → (if a then Some (record { name = codes "CLK"; kind = Some kind.Bool }) else None) ≡ Some m → Within all (kinds RTrig path) → Among all (kind_at (folded name ∷ path) k)
    trigger_stands true first is within =
        let j = kind_of_member (codes "CLK") kind.Bool k m is of_kind in
        subst (λ v. Among all v) (λ i. kind_at (sym (word_of name (codes "CLK") first) i ∷ path) (j i)) (within (kind_at (clk_word ∷ path) kind.Bool) (inl refl))
    trigger_stands false first is within = absurd (cc)

    -- an input of an instance stands among the instance's values, with its kind
    pub input_stands : (t : BlockType) (b : BlockRef) → Meets units t b → find_member (inputs_of t) name ≡ Some m → Within all (kinds b path) → Among all (kind_at (folded name ∷ path) k)
    input_stands ton b meets is within = timer_stands (same_word (codes "IN") name) (same_word (codes "PT") name) refl refl is (subst (λ b. Within all (kinds b path)) meets within)
    input_stands tof b meets is within = timer_stands (same_word (codes "IN") name) (same_word (codes "PT") name) refl refl is (subst (λ b. Within all (kinds b path)) meets within)
    input_stands r_trig b meets is within = trigger_stands (same_word (codes "CLK") name) refl is (subst (λ b. Within all (kinds b path)) meets within)
    input_stands (declared_block q) b meets is within = declared_stands all meets.0 q is_input_section path name k meets.2 refl (is_member q is_input_section name k m is of_kind) (subst (λ b. Within all (kinds b path)) meets.1 within)

  module _ (name : List ℕ) (k : Kind) (m : Member) (of_kind : m.kind ≡ Some k) where
    -- Q isn't ET
    q_is : same_word (codes "Q") name ≡ true → same_word name (codes "ET") ≡ false
    q_is first = ap (λ w. bytes_eq w (folded (codes "ET"))) (word_of name (codes "Q") first)

    et_is : same_word (codes "ET") name ≡ true → same_word name (codes "ET") ≡ true
    et_is second = (bytes_decides (folded name) (folded (codes "ET"))).1 (word_of name (codes "ET") second)

    abbrev timer_found : Bool → Bool → Option Member
    timer_found a b = if a then Some (record { name = codes "Q"; kind = Some kind.Bool }) else if b then Some (record { name = codes "ET"; kind = Some kind.Time }) else None

    abbrev trigger_found : Bool → Option Member
    trigger_found a = if a then Some (record { name = codes "Q"; kind = Some kind.Bool }) else None

    timer_kind : (a b : Bool) → same_word (codes "Q") name ≡ a → same_word (codes "ET") name ≡ b → timer_found a b ≡ Some m → (if same_word name (codes "ET") then kind.Time else kind.Bool) ≡ k
    timer_kind true b first second is = rw (q_is first) (kind_of_member (codes "Q") kind.Bool k m is of_kind)
    timer_kind false true first second is = rw (et_is second) (kind_of_member (codes "ET") kind.Time k m is of_kind)
    timer_kind false false first second is = absurd (cc)

    trigger_kind : (a : Bool) → trigger_found a ≡ Some m → kind.Bool ≡ k
    trigger_kind true is = kind_of_member (codes "Q") kind.Bool k m is of_kind
    trigger_kind false is = absurd (cc)

    -- the kind by which bodies are meant is that of the output
    pub output_kind_is : (t : BlockType) (b : BlockRef) → Meets units t b → find_member (outputs_of t) name ≡ Some m → output_kind_of source.blocks (Some b) name ≡ k
    output_kind_is ton b meets is = ap (λ b. output_kind_of source.blocks (Some b) name) meets ∙ timer_kind (same_word (codes "Q") name) (same_word (codes "ET") name) refl refl is
    output_kind_is tof b meets is = ap (λ b. output_kind_of source.blocks (Some b) name) meets ∙ timer_kind (same_word (codes "Q") name) (same_word (codes "ET") name) refl refl is
    output_kind_is r_trig b meets is = ap (λ b. output_kind_of source.blocks (Some b) name) meets ∙ trigger_kind (same_word (codes "Q") name) is
    output_kind_is (declared_block q) b meets is =
        let r = routine_of (block_names units) q in
        let l = member_own units q is_output_section name k (each_at (IsDeclaredWell units) (blocks units) meets.0 q well meets.2) refl (is_member q is_output_section name k m is of_kind) in
        ap (λ b. output_kind_of source.blocks (Some b) name) meets.1
        ∙ ap (λ o. option_map_or (λ (b : PlainRoutine). unwrap_or (own_kind b name) kind.Bool) o kind.Bool) (routine_at meets.0 q meets.2) ∙ ap (λ o. unwrap_or o kind.Bool) (own_kind_is r name l.0 l.1) ∙ l.2

    module _ (w : World) (path : Path) (holds : AllInRange source w) where
      timer_shown : (a b : Bool) (outputs : Bool × ℤ) → same_word (codes "Q") name ≡ a → same_word (codes "ET") name ≡ b → timer_found a b ≡ Some m → InRange kind.Time outputs.1 → InRange k (timer_output outputs name)
      timer_shown true b outputs first second is timed = rw (q_is first) (subst (λ j. InRange j (truth outputs.0)) (kind_of_member (codes "Q") kind.Bool k m is of_kind) (truth_in outputs.0))
      timer_shown false true outputs first second is timed = rw (et_is second) (subst (λ j. InRange j outputs.1) (kind_of_member (codes "ET") kind.Time k m is of_kind) timed)
      timer_shown false false outputs first second is timed = absurd (cc)

      -- an output of an instance whose values stand among all is in the range of its kind
      pub output_in : (t : BlockType) (b : BlockRef) → Meets units t b → find_member (outputs_of t) name ≡ Some m → Within (all_kinds source) (kinds b path) → InRange k (output_at w path (Some b) name)
      output_in ton b meets is within =
          subst (λ b. InRange k (output_at w path (Some b) name)) (sym meets) (timer_shown (same_word (codes "Q") name) (same_word (codes "ET") name) (timers.ton (w.calls path)) refl refl is (ton_timed (w.calls path) (holds.calls path)))
      output_in tof b meets is within =
          subst (λ b. InRange k (output_at w path (Some b) name)) (sym meets) (timer_shown (same_word (codes "Q") name) (same_word (codes "ET") name) (timers.tof (w.calls path)) refl refl is (tof_timed (w.calls path) (holds.calls path)))
      output_in r_trig b meets is within =
          subst (λ b. InRange k (output_at w path (Some b) name)) (sym meets) (subst (λ j. InRange j (output_at w path (Some RTrig) name)) (trigger_kind (same_word (codes "Q") name) is) (truth_in (edge (map (λ (c : Call). c.input) (w.calls path)))))
      output_in (declared_block q) b meets is within =
          subst (λ b. InRange k (output_at w path (Some b) name)) (sym meets.1)
          (value_in source w (kind_at (folded name ∷ path) k) holds
          (declared_stands (all_kinds source) meets.0 q is_output_section path name k meets.2 refl (is_member q is_output_section name k m is of_kind) (subst (λ b. Within (all_kinds source) (kinds b path)) meets.1 within)))
