-- The order of well-formed units lists each block type of their source after those that it declares.
use Rattle.std.proofs.Common.{◌≡◌, ◌∙◌, ap, sym, subst, refl, ℕ, zero, suc, ◌+◌, ◌<◌, Bool, true, false, cond, if◌then◌else◌, List, [], ◌∷◌, ◌++◌, map, length, take, Option, Some, None, slice_get, inl, inr, arith}
use Rattle.std.proofs.lemmas.Bool.{or_parts}
use Rattle.std.proofs.lemmas.List.{map-append, length-map}
use Rattle.std.proofs.lemmas.List.Elements.{filter-append}
use Rattle.std.proofs.lemmas.Iterator.Adapters.{position_from-zero}
use Rattle.std.proofs.lemmas.Option.{slice_get-map, slice_get_within}
use Rattle.std.specs.Prelude.{◌⊎◌, flat_map, option_map, unwrap_or}
use Rattle.std.specs.List.{position_from}
use Rattle.std.specs.Str.{bytes_eq}
use Rattle.std.specs.Cmp.Lexicographic.{bytes_decides}
use Rattle.plant_types.specs.Words.{folded, same_word}
use Rattle.base_words.specs.Names.{find_name}
use Rattle.st_blocks.specs.Chains.{Among}
use Rattle.st_blocks.specs.Blocks.{first_of, IsOrder, AreOrdered}
use Rattle.st_typing.specs.Sort.{Sort}
use Rattle.st_typing.specs.Sort.TheVariants as sort
use Rattle.st_typing.specs.SectionKind.{SectionKind}
use Rattle.st_typing.specs.Units.{PlainDeclaration, PlainSection, PlainPou, PlainUnit}
use Rattle.st_typing.specs.DeclaredNames.{PlainDeclared, declared_as, declared_together, declared_by, declared_in}
use Rattle.st_typing.specs.Shared.{is_block}
use Rattle.st_typing.specs.Scopes.{is_external}
use Rattle.st_typing.specs.Taken.{is_among, repeats}
use Rattle.st_typing.proofs.Entries.{turned}
use Rattle.st_typing.specs.Blocks.{declaration_types, section_types, block_of, pou_blocks, blocks_among, blocks_of}
use Rattle.st_typing.specs.Faults.{AreTyped}
use Rattle.logic_source.specs.declared.logic.Instance.{Instance}
use Rattle.logic_source.specs.declared.logic.BlockRef.TheVariants.{Ton, Tof, RTrig, Declared}
use Rattle.logic_source.specs.Source.{PlainRoutine}
use Rattle.logic_source.specs.Pous.{pous_of, block_pous, pou_word}
use Rattle.logic_source.specs.Units.{block_ref, instance_by, instance_of, routine_of, source_in}
use Rattle.logic_source.specs.Blocks.{Declares, AreBelow}
use Rattle.logic_source.proofs.Apart.{typed_blocks_apart}

abbrev pub name_of : PlainPou → List ℕ
name_of p = p.name

-- the blocks that are ordered are those of the source
block_more : (b : Bool) (p : PlainPou) (rest : List PlainPou) → (if b then block_of p ∷ [] else []) ++ map block_of rest ≡ map block_of (cond b (p ∷ rest) rest)
block_more true p rest = refl
block_more false p rest = refl

blocks_in : (ps : List PlainPou) → blocks_among ps ≡ map block_of (block_pous ps)
blocks_in [] = refl
blocks_in (p ∷ ps) = ap (λ bs. pou_blocks p ++ bs) (blocks_in ps) ∙ block_more (is_block p.kind) p (block_pous ps)

pub blocks_are : (units : List PlainUnit) → blocks_of units ≡ map block_of (block_pous (pous_of units))
blocks_are [] = refl
blocks_are (u ∷ us) =
    (λ k. blocks_in u.pous k ++ blocks_are us k)
    ∙ sym (ap (map block_of) (filter-append (λ p. is_block p.kind) u.pous (pous_of us)) ∙ map-append block_of (block_pous u.pous) (block_pous (pous_of us)))

-- a number counted from another one
counted : (i : ℕ) (o : Option ℕ) → option_map (λ n. i + 1 + n) o ≡ option_map (λ n. i + n) (option_map suc o)
counted i None = refl
counted i (Some n) = ap Some (omega arith)

from_more : (i : ℕ) (found : Bool) (later : Option ℕ) (o : Option ℕ) → later ≡ option_map (λ n. i + 1 + n) o → cond found (Some i) later ≡ option_map (λ n. i + n) (if found then Some 0 else option_map suc o)
from_more i true later o is = ap Some (omega arith)
from_more i false later o is = is ∙ counted i o

from_first : (i : ℕ) (ps : List PlainPou) (word : List ℕ) → position_from (same_word word) i (map name_of ps) ≡ option_map (λ n. i + n) (first_of (map block_of ps) (folded word))
from_first i [] word = refl
from_first i (p ∷ ps) word =
    from_more i (bytes_eq (folded word) (folded p.name)) (position_from (same_word word) (i + 1) (map name_of ps)) (first_of (map block_of ps) (folded word)) (from_first (i + 1) ps word)

same_number : (o : Option ℕ) → option_map (λ n. 0 + n) o ≡ o
same_number None = refl
same_number (Some n) = ap Some (omega arith)

-- what is found among the names is the first block type of the name
pub first_found : (ps : List PlainPou) (word : List ℕ) → find_name (map name_of ps) word ≡ first_of (map block_of ps) (folded word)
first_found ps word = position_from-zero (same_word word) (map name_of ps) ∙ from_first 0 ps word ∙ same_number (first_of (map block_of ps) (folded word))

-- where no two have one name, each is the first of its name
apart_later : (w : List ℕ) (ps : List PlainPou) (n : ℕ) (p : PlainPou) → is_among (map pou_word ps) w ≡ false → slice_get ps n ≡ Some p → bytes_eq w (pou_word p) ≡ false
apart_later w [] n p none is = absurd (cc)
apart_later w (q ∷ qs) zero p none is =
    let same : q ≡ p = cc in
    ap (λ x. bytes_eq w (pou_word x)) (sym same) ∙ (or_parts (bytes_eq w (pou_word q)) (is_among (map pou_word qs) w) none).0
apart_later w (q ∷ qs) (suc n) p none is = apart_later w qs n p (or_parts (bytes_eq w (pou_word q)) (is_among (map pou_word qs) w) none).1 is

pub each_first : (ps : List PlainPou) (n : ℕ) (p : PlainPou) → repeats (map pou_word ps) ≡ false → slice_get ps n ≡ Some p → first_of (map block_of ps) (folded p.name) ≡ Some n
each_first [] n p apart is = absurd (cc)
each_first (q ∷ qs) zero p apart is =
    let same : q ≡ p = cc in
    let here : bytes_eq (folded p.name) (folded q.name) ≡ true = (bytes_decides (folded p.name) (folded q.name)).1 (ap pou_word (sym same)) in
    rw here refl
each_first (q ∷ qs) (suc n) p apart is =
    let parts = or_parts (is_among (map pou_word qs) (pou_word q)) (repeats (map pou_word qs)) apart in
    let other : bytes_eq (folded p.name) (folded q.name) ≡ false = turned (folded p.name) (folded q.name) ∙ apart_later (pou_word q) qs n p parts.0 is in
    rw other (ap (option_map suc) (each_first qs n p parts.1 is))

-- what is among the lists that are made of a list's elements
among_append : {A : Type 0} (xs ys : List A) (a : A) → Among (xs ++ ys) a → Among xs a ⊎ Among ys a
among_append [] ys a here = inr here
among_append (x ∷ xs) ys a (inl is) = inl (inl is)
among_append (x ∷ xs) ys a (inr later) =
    elim (among_append xs ys a later) [
      | inl left ↦ inl (inr left)
      | inr right ↦ inr right
    ]

pub among_left : {A : Type 0} (xs ys : List A) (a : A) → Among xs a → Among (xs ++ ys) a
among_left [] ys a here = elim here [ ]
among_left (x ∷ xs) ys a (inl is) = inl is
among_left (x ∷ xs) ys a (inr later) = inr (among_left xs ys a later)

pub among_right : {A : Type 0} (xs ys : List A) (a : A) → Among ys a → Among (xs ++ ys) a
among_right [] ys a here = here
among_right (x ∷ xs) ys a here = inr (among_right xs ys a here)

pub among_flat : {A B : Type 0} (f : A → List B) (xs : List A) (b : B) → Among (flat_map f xs) b → (a : A) × Among xs a × Among (f a) b
among_flat f [] b here = elim here [ ]
among_flat f (x ∷ xs) b here =
    elim (among_append (f x) (flat_map f xs) b here) [
      | inl left ↦ (x, inl refl, left)
      | inr right ↦ let r = among_flat f xs b right in (r.0, inr r.1, r.2)
    ]

pub flat_among : {A B : Type 0} (f : A → List B) (xs : List A) (a : A) (b : B) → Among xs a → Among (f a) b → Among (flat_map f xs) b
flat_among f [] a b here inside = elim here [ ]
flat_among f (x ∷ xs) a b (inl is) inside = among_left (f x) (flat_map f xs) b (rw is inside)
flat_among f (x ∷ xs) a b (inr later) inside = among_right (f x) (flat_map f xs) b (flat_among f xs a b later inside)

among_map : {A B : Type 0} (f : A → B) (xs : List A) (b : B) → Among (map f xs) b → (a : A) × (f a ≡ b)
among_map f [] b here = elim here [ ]
among_map f (x ∷ xs) b (inl is) = (x, is)
among_map f (x ∷ xs) b (inr later) = among_map f xs b later

-- an instance is declared as one of the block types that are listed
pub instance_at : (names : List (List ℕ)) (outside : Bool) (d : PlainDeclared) (s : Sort) (i : Instance) → Among (if outside then [] else instance_by names d s) i → (word : List ℕ) × (s ≡ sort.Block word) × (i.of ≡ block_ref names word)
instance_at names true d s i here = elim here [ ]
instance_at names false d (sort.Kind kind) i here = elim here [ ]
instance_at names false d (sort.Block word) i (inl is) = (word, refl, ap (λ (x : Instance). x.of) (sym is))
instance_at names false d (sort.Block word) i (inr none) = elim none [ ]
instance_at names false d (sort.Array bounds kind) i here = elim here [ ]

declared_sort : (section : SectionKind) (e : PlainDeclaration) (d : PlainDeclared) → Among (declared_together section e) d → e.sort ≡ d.sort
declared_sort section e d here = ap (λ (x : PlainDeclared). x.sort) (among_map (declared_as section e) e.names d here).1

pub declared_type : (sections : List PlainSection) (d : PlainDeclared) (word : List ℕ) → Among (declared_in sections) d → d.sort ≡ sort.Block word → Among (flat_map section_types sections) word
declared_type sections d word here is =
    let s = among_flat declared_by sections d here in
    let e = among_flat (declared_together s.0.kind) s.0.declarations d s.2 in
    let named : e.0.sort ≡ sort.Block word = declared_sort s.0.kind e.0 d e.2 ∙ is in
    let listed : Among (declaration_types e.0) word = rw named (inl refl) in
    flat_among section_types sections s.0 word s.1 (flat_among declaration_types s.0.declarations e.0 word e.1 listed)

pub declared_word : (names : List (List ℕ)) (p : PlainPou) (b : ℕ) → Declares (routine_of names p) b → (word : List ℕ) × Among (block_of p).instances word × (block_ref names word ≡ Declared b)
declared_word names p b declares =
    let d = among_flat (instance_of names) (declared_in p.sections) declares.0 declares.1 in
    let w = instance_at names (is_external d.0.section) d.0 d.0.sort declares.0 d.2 in
    (w.0, declared_type p.sections d.0 w.0 d.1 w.1, sym w.2 ∙ declares.2)

ref_found : (t u v : Bool) (o : Option ℕ) (n b : ℕ) → (if t then Ton else if u then Tof else if v then RTrig else Declared (unwrap_or o n)) ≡ Declared b → b < n → o ≡ Some b
ref_found true u v o n b is within = absurd (cc)
ref_found false true v o n b is within = absurd (cc)
ref_found false false true o n b is within = absurd (cc)
ref_found false false false None n b is within = let same : n ≡ b = cc in absurd (omega (arith, same, within))
ref_found false false false (Some m) n b is within = let same : m ≡ b = cc in ap Some same

some_at : {A : Type 0} (xs : List A) (n : ℕ) → n < length xs → (a : A) × (slice_get xs n ≡ Some a)
some_at [] n within = absurd (omega (arith, within))
some_at (x ∷ xs) zero within = (x, refl)
some_at (x ∷ xs) (suc n) within = some_at xs n (omega (arith, within))

mapped_at : {A B : Type 0} (f : A → B) (o : Option A) (b : B) → option_map f o ≡ Some b → (a : A) × (o ≡ Some a) × (f a ≡ b)
mapped_at f None b is = absurd (cc)
mapped_at f (Some a) b is = (a, refl, cc)

module _ (ps : List PlainPou) (order : List ℕ) (apart : repeats (map pou_word ps) ≡ false) (ordered : IsOrder (map block_of ps) order) where
  abbrev names : List (List ℕ)
  names = map name_of ps

  abbrev blocks : List PlainRoutine
  blocks = map (routine_of names) ps

  long : length blocks ≡ length ps
  long = length-map ps (routine_of names)

  listed : (n : ℕ) → n < length blocks → Among order n
  listed n within =
      let p = some_at ps n (omega (arith, within, long)) in
      ordered.whole (folded p.0.name) n (each_first ps n p.0 apart p.1)

  ranged : (n : ℕ) → Among order n → n < length blocks
  ranged n here =
      let b = ordered.first n here in
      let below = slice_get_within (map block_of ps) n b.0 b.1 in
      let same = length-map ps block_of in
      omega (arith, below, same, long)

  later : (k a b : ℕ) (r : PlainRoutine) → slice_get order k ≡ Some a → slice_get blocks a ≡ Some r → Declares r b → b < length blocks → Among (take k order) b
  later k a b r at is declares within =
      let p = mapped_at (routine_of names) (slice_get ps a) r (sym (slice_get-map (routine_of names) ps a) ∙ is) in
      let declares' : Declares (routine_of names p.0) b = subst (λ x. Declares x b) (sym p.2) declares in
      let w = declared_word names p.0 b declares' in
      let many = length-map ps name_of in
      let found : find_name names w.0 ≡ Some b = ref_found _ _ _ (find_name names w.0) (length names) b w.2 (omega (arith, within, long, many)) in
      ordered.after k a b (block_of p.0) w.0 at (slice_get-map block_of ps a ∙ ap (option_map block_of) p.1) w.1 (sym (first_found ps w.0) ∙ found)

  pub pous_below : AreBelow blocks order
  pous_below = record { whole = listed; within = ranged; once = ordered.once; after = later }

-- the order of well-formed units is one of the block types of their source
pub typed_below : (units : List PlainUnit) (order : List ℕ) → AreTyped units → AreOrdered (blocks_of units) order → AreBelow (source_in units).blocks order
typed_below units order typed ordered =
    let moved : IsOrder (map block_of (block_pous (pous_of units))) order = rw (sym (blocks_are units)) ordered.ordered in
    pous_below (block_pous (pous_of units)) order (typed_blocks_apart units typed) moved
