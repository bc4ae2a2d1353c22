-- Values and standard blocks that are listed one after another.
use Rattle.std.proofs.Common.{◌≡◌, ◌∙◌, ap, sym, subst, refl, arith, ℕ, ℤ, zero, suc, pos, ◌+◌, ◌+ℤ◌, List, [], ◌∷◌, ◌++◌, map, take, Option, Some, slice_get, append-nil, append_assoc}
use Rattle.std.proofs.lemmas.Int.{ints}
use Rattle.std.proofs.lemmas.List.{map-append}
use Rattle.plant_types.specs.Words.{folded}
use Rattle.plant_types.specs.declared.values.Bounds.{Bounds}
use Rattle.plant_types.specs.declared.values.Kind.{Kind}
use Rattle.logic_source.specs.declared.logic.Local.{Local}
use Rattle.logic_source.specs.declared.logic.Row.{Row}
use Rattle.logic_source.specs.declared.logic.Instance.{Instance}
use Rattle.logic_source.specs.Source.{PlainRoutine}
use Rattle.plant_types.specs.Values.{Path}
use Rattle.logic_source.specs.Worlds.{index_word}
use Rattle.logic_source.specs.Layout.{ClockAt, elements_from, element_values, block_clocks, instance_clocks, clocks_rule, routine_clocks, program_clocks}
use Rattle.logic_source.specs.Ranges.{KindAt, kind_at, element_at, local_kinds, row_kinds, block_kinds, instance_kinds, kinds_rule, routine_kinds, program_kinds}
use Rattle.logic_carry.specs.declared.lists.ValueAt.{ValueAt}
use Rattle.logic_carry.specs.declared.lists.StandardAt.{StandardAt}
use Rattle.logic_carry.specs.Paths.{Grows, path_key, IsAt, IsPlace}
use Rattle.logic_carry.specs.Shapes.{IsNumbered}
use Rattle.logic_carry.specs.Lists.{AreValues, AreStandards, Lists}
use Rattle.logic_carry.proofs.Tables.{grows_on, grows_none, at_later, place_later}
use Rattle.logic_carry.proofs.Naming.{take_next}

module _ (words : List ℕ → Option ℕ) where
  pub values_later : (old new : ℕ → Option ℕ) → Grows old new → (vs : List ValueAt) (ks : List KindAt) → AreValues words old vs ks → AreValues words new vs ks
  values_later old new grows [] [] are = tt
  values_later old new grows [] (k ∷ ks) are = elim are [ ]
  values_later old new grows (v ∷ vs) [] are = elim are [ ]
  values_later old new grows (v ∷ vs) (k ∷ ks) are = (place_later words old new grows v.path k.path k.bounds are.0, are.1, are.2, values_later old new grows vs ks are.3)

  values_more : (numbers : ℕ → Option ℕ) (vs : List ValueAt) (ks : List KindAt) (v : ValueAt) (k : KindAt) → AreValues words numbers vs ks → IsPlace words numbers v.path k.path k.bounds → v.kind ≡ k.kind → v.bounds ≡ k.bounds → AreValues words numbers (vs ++ v ∷ []) (ks ++ k ∷ [])
  values_more numbers [] [] v k are at kind bounds = (at, kind, bounds, tt)
  values_more numbers [] (x ∷ xs) v k are at kind bounds = elim are [ ]
  values_more numbers (y ∷ ys) [] v k are at kind bounds = elim are [ ]
  values_more numbers (y ∷ ys) (x ∷ xs) v k are at kind bounds = (are.0, are.1, are.2, values_more numbers ys xs v k are.3 at kind bounds)

  pub standards_later : (old new : ℕ → Option ℕ) → Grows old new → (ss : List StandardAt) (cs : List ClockAt) → AreStandards words old ss cs → AreStandards words new ss cs
  standards_later old new grows [] [] are = tt
  standards_later old new grows [] (c ∷ cs) are = elim are [ ]
  standards_later old new grows (s ∷ ss) [] are = elim are [ ]
  standards_later old new grows (s ∷ ss) (c ∷ cs) are = (at_later words words old new (grows_none words) grows s.path c.path are.0, are.1, standards_later old new grows ss cs are.2)

  standards_more : (numbers : ℕ → Option ℕ) (ss : List StandardAt) (cs : List ClockAt) (s : StandardAt) (c : ClockAt) → AreStandards words numbers ss cs → IsAt words numbers s.path c.path → s.of ≡ c.of → AreStandards words numbers (ss ++ s ∷ []) (cs ++ c ∷ [])
  standards_more numbers [] [] s c are at of = (at, of, tt)
  standards_more numbers [] (x ∷ xs) s c are at of = elim are [ ]
  standards_more numbers (y ∷ ys) [] s c are at of = elim are [ ]
  standards_more numbers (y ∷ ys) (x ∷ xs) s c are at of = (are.0, are.1, standards_more numbers ys xs s c are.2 at of)

  -- nothing is added
  pub lists_none : (numbers : ℕ → Option ℕ) (vs : List ValueAt) (ss : List StandardAt) → Lists words numbers numbers vs vs ss ss [] []
  lists_none numbers vs ss = record {
    grows = grows_none numbers;
    values_are = λ before are. subst (AreValues words numbers vs) (sym (append-nil before)) are;
    standards_are = λ before are. subst (AreStandards words numbers ss) (sym (append-nil before)) are;
  }

  -- the table grows alone
  pub lists_later : (old new : ℕ → Option ℕ) (vs : List ValueAt) (ss : List StandardAt) → Grows old new → Lists words old new vs vs ss ss [] []
  lists_later old new vs ss grows = record {
    grows = grows;
    values_are = λ before are. subst (AreValues words new vs) (sym (append-nil before)) (values_later old new grows vs before are);
    standards_are = λ before are. subst (AreStandards words new ss) (sym (append-nil before)) (standards_later old new grows ss before are);
  }

  -- what is added, and then more
  pub lists_on : (a b c : ℕ → Option ℕ) (vs vs' vs'' : List ValueAt) (ss ss' ss'' : List StandardAt) (ks ks' : List KindAt) (cs cs' : List ClockAt)
      → Lists words a b vs vs' ss ss' ks cs → Lists words b c vs' vs'' ss' ss'' ks' cs' → Lists words a c vs vs'' ss ss'' (ks ++ ks') (cs ++ cs')
  lists_on a b c vs vs' vs'' ss ss' ss'' ks ks' cs cs' first more = record {
    grows = grows_on a b c first.grows more.grows;
    values_are = λ before are. subst (AreValues words c vs'') (append_assoc before ks ks') (more.values_are (before ++ ks) (first.values_are before are));
    standards_are = λ before are. subst (AreStandards words c ss'') (append_assoc before cs cs') (more.standards_are (before ++ cs) (first.standards_are before are));
  }

  -- the table grows, and then more is added
  pub lists_grown : (a b c d : ℕ → Option ℕ) (vs vs' vs'' : List ValueAt) (ss ss' ss'' : List StandardAt) (ks ks' all : List KindAt) (cs cs' both : List ClockAt)
      → Lists words a b vs vs' ss ss' ks cs → Grows b c → Lists words c d vs' vs'' ss' ss'' ks' cs' → all ≡ ks ++ ks' → both ≡ cs ++ cs' → Lists words a d vs vs'' ss ss'' all both
  lists_grown a b c d vs vs' vs'' ss ss' ss'' ks ks' all cs cs' both first grows more all_is both_is =
      let later = lists_on b c d vs' vs' vs'' ss' ss' ss'' [] ks' [] cs' (lists_later b c vs' ss' grows) more in
      let whole = lists_on a b d vs vs' vs'' ss ss' ss'' ks ks' cs cs' first later in
      subst (λ k. Lists words a d vs vs'' ss ss'' k both) (sym all_is) (subst (λ c. Lists words a d vs vs'' ss ss'' (ks ++ ks') c) (sym both_is) whole)

  -- a value is added
  pub list_value : (numbers : ℕ → Option ℕ) (vs : List ValueAt) (ss : List StandardAt) (v : ValueAt) (k : KindAt) → IsPlace words numbers v.path k.path k.bounds → v.kind ≡ k.kind → v.bounds ≡ k.bounds → Lists words numbers numbers vs (vs ++ v ∷ []) ss ss (k ∷ []) []
  list_value numbers vs ss v k at kind bounds = record {
    grows = grows_none numbers;
    values_are = λ before are. values_more numbers vs before v k are at kind bounds;
    standards_are = λ before are. subst (AreStandards words numbers ss) (sym (append-nil before)) are;
  }

  -- a standard block is added
  pub list_block_at : (numbers : ℕ → Option ℕ) (vs : List ValueAt) (ss : List StandardAt) (s : StandardAt) (c : ClockAt) → IsAt words numbers s.path c.path → s.of ≡ c.of → Lists words numbers numbers vs vs ss (ss ++ s ∷ []) [] (c ∷ [])
  list_block_at numbers vs ss s c at of = record {
    grows = grows_none numbers;
    values_are = λ before are. subst (AreValues words numbers vs) (sym (append-nil before)) are;
    standards_are = λ before are. standards_more numbers ss before s c are at of;
  }

  -- a path goes on by a name
  pub path_below : (old new : ℕ → Option ℕ) (path below : ℕ) (q : Path) (name : List ℕ) (word : ℕ) → IsAt words old path q → IsNumbered words name word → Grows old new → new (path_key path word) ≡ Some below → IsAt words new below (folded name ∷ q)
  path_below old new path below q name word at is grows key =
      (path, word, record { spelled = name; same = refl; found = is.found; small = is.small }, key, at_later words words old new (grows_none words) grows path q at)

-- ---- one more of each list

local_kinds_more : (done : List Local) (l : Local) (q : Path) → local_kinds (done ++ l ∷ []) q ≡ local_kinds done q ++ kind_at (folded l.name ∷ q) l.kind ∷ []
local_kinds_more [] l q = refl
local_kinds_more (x ∷ xs) l q = ap (λ ks. kind_at (folded x.name ∷ q) x.kind ∷ ks) (local_kinds_more xs l q)

row_kinds_more : (done : List Row) (row : Row) (q : Path) → row_kinds (done ++ row ∷ []) q ≡ row_kinds done q ++ map (element_at row.kind row.bounds) (element_values row.bounds (folded row.name ∷ q))
row_kinds_more [] row q = append-nil (map (element_at row.kind row.bounds) (element_values row.bounds (folded row.name ∷ q)))
row_kinds_more (x ∷ xs) row q =
    let here = map (element_at x.kind x.bounds) (element_values x.bounds (folded x.name ∷ q)) in
    ap (λ ks. here ++ ks) (row_kinds_more xs row q) ∙ sym (append_assoc here (row_kinds xs q) (map (element_at row.kind row.bounds) (element_values row.bounds (folded row.name ∷ q))))

instance_kinds_more : (inner : ℕ → Path → List KindAt) (done : List Instance) (i : Instance) (q : Path) → instance_kinds inner (done ++ i ∷ []) q ≡ instance_kinds inner done q ++ block_kinds inner i.of (folded i.name ∷ q)
instance_kinds_more inner [] i q = append-nil (block_kinds inner i.of (folded i.name ∷ q))
instance_kinds_more inner (x ∷ xs) i q =
    ap (λ ks. block_kinds inner x.of (folded x.name ∷ q) ++ ks) (instance_kinds_more inner xs i q) ∙ sym (append_assoc (block_kinds inner x.of (folded x.name ∷ q)) (instance_kinds inner xs q) (block_kinds inner i.of (folded i.name ∷ q)))

instance_clocks_more : (inner : ℕ → Path → List ClockAt) (done : List Instance) (i : Instance) (q : Path) → instance_clocks inner (done ++ i ∷ []) q ≡ instance_clocks inner done q ++ block_clocks inner i.of (folded i.name ∷ q)
instance_clocks_more inner [] i q = append-nil (block_clocks inner i.of (folded i.name ∷ q))
instance_clocks_more inner (x ∷ xs) i q =
    ap (λ cs. block_clocks inner x.of (folded x.name ∷ q) ++ cs) (instance_clocks_more inner xs i q) ∙ sym (append_assoc (block_clocks inner x.of (folded x.name ∷ q)) (instance_clocks inner xs q) (block_clocks inner i.of (folded i.name ∷ q)))

program_kinds_more : (blocks done : List PlainRoutine) (r : PlainRoutine) → program_kinds blocks (done ++ r ∷ []) ≡ program_kinds blocks done ++ kinds_rule (routine_kinds blocks) r (folded r.name ∷ [])
program_kinds_more blocks [] r = append-nil (kinds_rule (routine_kinds blocks) r (folded r.name ∷ []))
program_kinds_more blocks (x ∷ xs) r =
    let here = kinds_rule (routine_kinds blocks) x (folded x.name ∷ []) in
    ap (λ ks. here ++ ks) (program_kinds_more blocks xs r) ∙ sym (append_assoc here (program_kinds blocks xs) (kinds_rule (routine_kinds blocks) r (folded r.name ∷ [])))

program_clocks_more : (blocks done : List PlainRoutine) (r : PlainRoutine) → program_clocks blocks (done ++ r ∷ []) ≡ program_clocks blocks done ++ clocks_rule (routine_clocks blocks) r (folded r.name ∷ [])
program_clocks_more blocks [] r = append-nil (clocks_rule (routine_clocks blocks) r (folded r.name ∷ []))
program_clocks_more blocks (x ∷ xs) r =
    let here = clocks_rule (routine_clocks blocks) x (folded x.name ∷ []) in
    ap (λ ks. here ++ ks) (program_clocks_more blocks xs r) ∙ sym (append_assoc here (program_clocks blocks xs) (clocks_rule (routine_clocks blocks) r (folded r.name ∷ [])))

elements_more : (i : ℤ) (n : ℕ) (q : Path) → elements_from i (suc n) q ≡ elements_from i n q ++ (index_word (i +ℤ pos n) ∷ q) ∷ []
elements_more i zero q = let same : i ≡ i +ℤ pos 0 = omega (arith, ints) in ap (λ j. (index_word j ∷ q) ∷ []) same
elements_more i (suc n) q =
    let same : (i +ℤ pos 1) +ℤ pos n ≡ i +ℤ pos (suc n) = omega (arith, ints) in
    ap (λ ps. (index_word i ∷ q) ∷ ps) (elements_more (i +ℤ pos 1) n q ∙ ap (λ j. elements_from (i +ℤ pos 1) n q ++ (index_word j ∷ q) ∷ []) same)

pub element_kinds_more : (k : Kind) (bounds : Bounds) (n : ℕ) (q : Path)
    → map (element_at k bounds) (elements_from bounds.low (n + 1) q) ≡ map (element_at k bounds) (elements_from bounds.low n q) ++ element_at k bounds (index_word (bounds.low +ℤ pos n) ∷ q) ∷ []
element_kinds_more k bounds n q =
    (let more : n + 1 ≡ suc n = omega arith in ap (λ m. map (element_at k bounds) (elements_from bounds.low m q)) more)
    ∙ ap (map (element_at k bounds)) (elements_more bounds.low n q)
    ∙ map-append (element_at k bounds) (elements_from bounds.low n q) ((index_word (bounds.low +ℤ pos n) ∷ q) ∷ [])

-- the same of the first of them, by their places
pub local_kinds_next : (ls : List Local) (n : ℕ) (l : Local) (q : Path) → slice_get ls n ≡ Some l → local_kinds (take (n + 1) ls) q ≡ local_kinds (take n ls) q ++ kind_at (folded l.name ∷ q) l.kind ∷ []
local_kinds_next ls n l q at = ap (λ xs. local_kinds xs q) (take_next ls n l at) ∙ local_kinds_more (take n ls) l q

pub row_kinds_next : (rows : List Row) (n : ℕ) (row : Row) (q : Path) → slice_get rows n ≡ Some row → row_kinds (take (n + 1) rows) q ≡ row_kinds (take n rows) q ++ map (element_at row.kind row.bounds) (element_values row.bounds (folded row.name ∷ q))
row_kinds_next rows n row q at = ap (λ xs. row_kinds xs q) (take_next rows n row at) ∙ row_kinds_more (take n rows) row q

pub instance_kinds_next : (inner : ℕ → Path → List KindAt) (is : List Instance) (n : ℕ) (i : Instance) (q : Path) → slice_get is n ≡ Some i → instance_kinds inner (take (n + 1) is) q ≡ instance_kinds inner (take n is) q ++ block_kinds inner i.of (folded i.name ∷ q)
instance_kinds_next inner is n i q at = ap (λ xs. instance_kinds inner xs q) (take_next is n i at) ∙ instance_kinds_more inner (take n is) i q

pub instance_clocks_next : (inner : ℕ → Path → List ClockAt) (is : List Instance) (n : ℕ) (i : Instance) (q : Path) → slice_get is n ≡ Some i → instance_clocks inner (take (n + 1) is) q ≡ instance_clocks inner (take n is) q ++ block_clocks inner i.of (folded i.name ∷ q)
instance_clocks_next inner is n i q at = ap (λ xs. instance_clocks inner xs q) (take_next is n i at) ∙ instance_clocks_more inner (take n is) i q

pub program_kinds_next : (blocks rs : List PlainRoutine) (n : ℕ) (r : PlainRoutine) → slice_get rs n ≡ Some r → program_kinds blocks (take (n + 1) rs) ≡ program_kinds blocks (take n rs) ++ kinds_rule (routine_kinds blocks) r (folded r.name ∷ [])
program_kinds_next blocks rs n r at = ap (program_kinds blocks) (take_next rs n r at) ∙ program_kinds_more blocks (take n rs) r

pub program_clocks_next : (blocks rs : List PlainRoutine) (n : ℕ) (r : PlainRoutine) → slice_get rs n ≡ Some r → program_clocks blocks (take (n + 1) rs) ≡ program_clocks blocks (take n rs) ++ clocks_rule (routine_clocks blocks) r (folded r.name ∷ [])
program_clocks_next blocks rs n r at = ap (program_clocks blocks) (take_next rs n r at) ∙ program_clocks_more blocks (take n rs) r
