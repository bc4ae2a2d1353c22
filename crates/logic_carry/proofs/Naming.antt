-- Names with their numbers, one after another.
use Rattle.std.proofs.Common.{◌≡◌, ◌∙◌, ap, sym, subst, refl, arith, ℕ, zero, suc, ◌+◌, List, [], ◌∷◌, ◌++◌, take, length, Option, Some, slice_get}
use Rattle.logic_source.specs.declared.logic.Local.{Local}
use Rattle.logic_source.specs.declared.logic.Row.{Row}
use Rattle.logic_source.specs.declared.logic.Instance.{Instance}
use Rattle.logic_source.specs.Source.{PlainRoutine}
use Rattle.logic_carry.specs.declared.words.Own.{Own}
use Rattle.logic_carry.specs.declared.words.OwnRow.{OwnRow}
use Rattle.logic_carry.specs.declared.words.NamedInstance.{NamedInstance}
use Rattle.logic_carry.specs.declared.words.Shape.{Shape}
use Rattle.logic_carry.specs.declared.lists.Program.{Program}
use Rattle.logic_carry.specs.Paths.{Grows}
use Rattle.logic_carry.specs.Shapes.{IsNumbered, AreOwn, IsRow, AreRows, IsPart, AreParts, IsShape, AreShapes, ArePrograms}

-- one more of a list
take_one : {A : Type 0} (xs : List A) (i : ℕ) (x : A) → slice_get xs i ≡ Some x → take (suc i) xs ≡ take i xs ++ x ∷ []
take_one [] i x at = absurd (cc)
take_one (y ∷ ys) zero x at = let same : y ≡ x = cc in ap (λ z. z ∷ []) same
take_one (y ∷ ys) (suc i) x at = ap (λ zs. y ∷ zs) (take_one ys i x at)

pub take_next : {A : Type 0} (xs : List A) (i : ℕ) (x : A) → slice_get xs i ≡ Some x → take (i + 1) xs ≡ take i xs ++ x ∷ []
take_next xs i x at = (let more : i + 1 ≡ suc i = omega arith in ap (λ n. take n xs) more) ∙ take_one xs i x at

module _ (words later : List ℕ → Option ℕ) (grows : Grows words later) where
  pub number_later : (name : List ℕ) (word : ℕ) → IsNumbered words name word → IsNumbered later name word
  number_later name word is = record { found = grows name word is.found; small = is.small }

  pub own_later : (os : List Own) (ls : List Local) → AreOwn words os ls → AreOwn later os ls
  own_later [] [] are = tt
  own_later [] (l ∷ ls) are = elim are [ ]
  own_later (o ∷ os) [] are = elim are [ ]
  own_later (o ∷ os) (l ∷ ls) are = (number_later l.name o.word are.0, are.1, own_later os ls are.2)

  pub rows_later : (os : List OwnRow) (rows : List Row) → AreRows words os rows → AreRows later os rows
  rows_later [] [] are = tt
  rows_later [] (row ∷ rows) are = elim are [ ]
  rows_later (o ∷ os) [] are = elim are [ ]
  rows_later (o ∷ os) (row ∷ rows) are = (record { named = number_later row.name o.word are.0.named; kind_is = are.0.kind_is; bounds_are = are.0.bounds_are; measured = are.0.measured }, rows_later os rows are.1)

  pub parts_later : (ps : List NamedInstance) (is : List Instance) → AreParts words ps is → AreParts later ps is
  parts_later [] [] are = tt
  parts_later [] (i ∷ is) are = elim are [ ]
  parts_later (p ∷ ps) [] are = elim are [ ]
  parts_later (p ∷ ps) (i ∷ is) are = (record { named = number_later i.name p.word are.0.named; of_is = are.0.of_is }, parts_later ps is are.1)

module _ (words : List ℕ → Option ℕ) where
  pub own_with : (os : List Own) (ls : List Local) (o : Own) (l : Local) → AreOwn words os ls → IsNumbered words l.name o.word → o.kind ≡ l.kind → AreOwn words (os ++ o ∷ []) (ls ++ l ∷ [])
  own_with [] [] o l are is kind = (is, kind, tt)
  own_with [] (x ∷ xs) o l are is kind = elim are [ ]
  own_with (y ∷ ys) [] o l are is kind = elim are [ ]
  own_with (y ∷ ys) (x ∷ xs) o l are is kind = (are.0, are.1, own_with ys xs o l are.2 is kind)

  rows_with : (os : List OwnRow) (rows : List Row) (o : OwnRow) (row : Row) → AreRows words os rows → IsRow words o row → AreRows words (os ++ o ∷ []) (rows ++ row ∷ [])
  rows_with [] [] o row are is = (is, tt)
  rows_with [] (x ∷ xs) o row are is = elim are [ ]
  rows_with (y ∷ ys) [] o row are is = elim are [ ]
  rows_with (y ∷ ys) (x ∷ xs) o row are is = (are.0, rows_with ys xs o row are.1 is)

  parts_with : (ps : List NamedInstance) (is : List Instance) (p : NamedInstance) (i : Instance) → AreParts words ps is → IsPart words p i → AreParts words (ps ++ p ∷ []) (is ++ i ∷ [])
  parts_with [] [] p i are it = (it, tt)
  parts_with [] (x ∷ xs) p i are it = elim are [ ]
  parts_with (y ∷ ys) [] p i are it = elim are [ ]
  parts_with (y ∷ ys) (x ∷ xs) p i are it = (are.0, parts_with ys xs p i are.1 it)

-- one more of them, where the words are more by then
module _ (words later : List ℕ → Option ℕ) (grows : Grows words later) where
  pub own_next : (os : List Own) (ls : List Local) (n : ℕ) (o : Own) (l : Local) → AreOwn words os (take n ls) → slice_get ls n ≡ Some l → IsNumbered later l.name o.word → o.kind ≡ l.kind → AreOwn later (os ++ o ∷ []) (take (n + 1) ls)
  own_next os ls n o l are at is kind = subst (AreOwn later (os ++ o ∷ [])) (sym (take_next ls n l at)) (own_with later os (take n ls) o l (own_later words later grows os (take n ls) are) is kind)

  pub rows_next : (os : List OwnRow) (rows : List Row) (n : ℕ) (o : OwnRow) (row : Row) → AreRows words os (take n rows) → slice_get rows n ≡ Some row → IsRow later o row → AreRows later (os ++ o ∷ []) (take (n + 1) rows)
  rows_next os rows n o row are at is = subst (AreRows later (os ++ o ∷ [])) (sym (take_next rows n row at)) (rows_with later os (take n rows) o row (rows_later words later grows os (take n rows) are) is)

  pub parts_next : (ps : List NamedInstance) (is : List Instance) (n : ℕ) (p : NamedInstance) (i : Instance) → AreParts words ps (take n is) → slice_get is n ≡ Some i → IsPart later p i → AreParts later (ps ++ p ∷ []) (take (n + 1) is)
  parts_next ps is n p i are at it = subst (AreParts later (ps ++ p ∷ [])) (sym (take_next is n i at)) (parts_with later ps (take n is) p i (parts_later words later grows ps (take n is) are) it)

-- ---- one of them, by its place
pub own_at : (words : List ℕ → Option ℕ) (os : List Own) (ls : List Local) (n : ℕ) (o : Own) → AreOwn words os ls → slice_get os n ≡ Some o → (l : Local) × (slice_get ls n ≡ Some l) × IsNumbered words l.name o.word × (o.kind ≡ l.kind)
own_at words [] [] n o are at = absurd (cc)
own_at words [] (l ∷ ls) n o are at = elim are [ ]
own_at words (x ∷ os) [] n o are at = elim are [ ]
own_at words (x ∷ os) (l ∷ ls) zero o are at = let same : x ≡ o = cc in (l, refl, subst (λ (y : Own). IsNumbered words l.name y.word) same are.0, subst (λ (y : Own). y.kind ≡ l.kind) same are.1)
own_at words (x ∷ os) (l ∷ ls) (suc n) o are at = own_at words os ls n o are.2 at

pub row_at : (words : List ℕ → Option ℕ) (os : List OwnRow) (rows : List Row) (n : ℕ) (o : OwnRow) → AreRows words os rows → slice_get os n ≡ Some o → (row : Row) × (slice_get rows n ≡ Some row) × IsRow words o row
row_at words [] [] n o are at = absurd (cc)
row_at words [] (row ∷ rows) n o are at = elim are [ ]
row_at words (x ∷ os) [] n o are at = elim are [ ]
row_at words (x ∷ os) (row ∷ rows) zero o are at = let same : x ≡ o = cc in (row, refl, subst (λ (y : OwnRow). IsRow words y row) same are.0)
row_at words (x ∷ os) (row ∷ rows) (suc n) o are at = row_at words os rows n o are.1 at

pub part_at : (words : List ℕ → Option ℕ) (ps : List NamedInstance) (is : List Instance) (n : ℕ) (p : NamedInstance) → AreParts words ps is → slice_get ps n ≡ Some p → (i : Instance) × (slice_get is n ≡ Some i) × IsPart words p i
part_at words [] [] n p are at = absurd (cc)
part_at words [] (i ∷ is) n p are at = elim are [ ]
part_at words (x ∷ ps) [] n p are at = elim are [ ]
part_at words (x ∷ ps) (i ∷ is) zero p are at = let same : x ≡ p = cc in (i, refl, subst (λ (y : NamedInstance). IsPart words y i) same are.0)
part_at words (x ∷ ps) (i ∷ is) (suc n) p are at = part_at words ps is n p are.1 at

pub program_at : (words : List ℕ → Option ℕ) (ps : List Program) (rs : List PlainRoutine) (n : ℕ) (p : Program) → ArePrograms words ps rs → slice_get ps n ≡ Some p → (r : PlainRoutine) × (slice_get rs n ≡ Some r) × IsNumbered words r.name p.word × IsShape words p.shape r
program_at words [] [] n p are at = absurd (cc)
program_at words [] (r ∷ rs) n p are at = elim are [ ]
program_at words (x ∷ ps) [] n p are at = elim are [ ]
program_at words (x ∷ ps) (r ∷ rs) zero p are at = let same : x ≡ p = cc in (r, refl, subst (λ (y : Program). IsNumbered words r.name y.word) same are.0, subst (λ (y : Program). IsShape words y.shape r) same are.1)
program_at words (x ∷ ps) (r ∷ rs) (suc n) p are at = program_at words ps rs n p are.2 at

-- the shape of a number is that of the block type of the number
pub shape_at : (words : List ℕ → Option ℕ) (shapes : List Shape) (blocks : List PlainRoutine) (n : ℕ) (s : Shape) → AreShapes words shapes blocks → slice_get shapes n ≡ Some s → (r : PlainRoutine) × (slice_get blocks n ≡ Some r) × IsShape words s r
shape_at words [] [] n s are at = absurd (cc)
shape_at words [] (r ∷ rs) n s are at = elim are [ ]
shape_at words (x ∷ xs) [] n s are at = elim are [ ]
shape_at words (x ∷ xs) (r ∷ rs) zero s are at = let same : x ≡ s = cc in (r, refl, subst (λ (y : Shape). IsShape words y r) same are.0)
shape_at words (x ∷ xs) (r ∷ rs) (suc n) s are at = shape_at words xs rs n s are.1 at

-- the block type of a number has the shape of the number
pub shape_of : (words : List ℕ → Option ℕ) (shapes : List Shape) (blocks : List PlainRoutine) (n : ℕ) (r : PlainRoutine) → AreShapes words shapes blocks → slice_get blocks n ≡ Some r → (s : Shape) × (slice_get shapes n ≡ Some s) × IsShape words s r
shape_of words [] [] n r are at = absurd (cc)
shape_of words [] (x ∷ rs) n r are at = elim are [ ]
shape_of words (s ∷ ss) [] n r are at = elim are [ ]
shape_of words (s ∷ ss) (x ∷ rs) zero r are at = let same : x ≡ r = cc in (s, refl, subst (λ (y : PlainRoutine). IsShape words s y) same are.0)
shape_of words (s ∷ ss) (x ∷ rs) (suc n) r are at = shape_of words ss rs n r are.1 at

-- ---- there are as many
pub own_count : (words : List ℕ → Option ℕ) (os : List Own) (ls : List Local) → AreOwn words os ls → length os ≡ length ls
own_count words [] [] are = refl
own_count words [] (l ∷ ls) are = elim are [ ]
own_count words (o ∷ os) [] are = elim are [ ]
own_count words (o ∷ os) (l ∷ ls) are = ap suc (own_count words os ls are.2)

pub rows_count : (words : List ℕ → Option ℕ) (os : List OwnRow) (rows : List Row) → AreRows words os rows → length os ≡ length rows
rows_count words [] [] are = refl
rows_count words [] (row ∷ rows) are = elim are [ ]
rows_count words (o ∷ os) [] are = elim are [ ]
rows_count words (o ∷ os) (row ∷ rows) are = ap suc (rows_count words os rows are.1)

pub parts_count : (words : List ℕ → Option ℕ) (ps : List NamedInstance) (is : List Instance) → AreParts words ps is → length ps ≡ length is
parts_count words [] [] are = refl
parts_count words [] (i ∷ is) are = elim are [ ]
parts_count words (p ∷ ps) [] are = elim are [ ]
parts_count words (p ∷ ps) (i ∷ is) are = ap suc (parts_count words ps is are.1)

pub programs_count : (words : List ℕ → Option ℕ) (ps : List Program) (rs : List PlainRoutine) → ArePrograms words ps rs → length ps ≡ length rs
programs_count words [] [] are = refl
programs_count words [] (r ∷ rs) are = elim are [ ]
programs_count words (p ∷ ps) [] are = elim are [ ]
programs_count words (p ∷ ps) (r ∷ rs) are = ap suc (programs_count words ps rs are.2)

pub shapes_count : (words : List ℕ → Option ℕ) (ss : List Shape) (rs : List PlainRoutine) → AreShapes words ss rs → length ss ≡ length rs
shapes_count words [] [] are = refl
shapes_count words [] (r ∷ rs) are = elim are [ ]
shapes_count words (s ∷ ss) [] are = elim are [ ]
shapes_count words (s ∷ ss) (r ∷ rs) are = ap suc (shapes_count words ss rs are.1)
