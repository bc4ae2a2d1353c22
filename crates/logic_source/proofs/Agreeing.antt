-- The rules of this crate ask only for the block types that a routine declares.
use Rattle.std.proofs.Common.{◌≡◌, ◌∙◌, ap, refl, ℕ, zero, suc, List, [], ◌∷◌, ◌++◌, Option, Some, None, slice_get, inl, inr}
use Rattle.std.specs.Prelude.{option_and_then}
use Rattle.plant_types.specs.Words.{folded}
use Rattle.st_tree.specs.Meaning.{Ran, run_all}
use Rattle.st_blocks.specs.Chains.{Among}
use Rattle.logic_source.specs.declared.logic.Instance.{Instance}
use Rattle.logic_source.specs.declared.logic.BlockRef.{BlockRef}
use Rattle.logic_source.specs.declared.logic.BlockRef.TheVariants.{Ton, Tof, RTrig, Declared}
use Rattle.logic_source.specs.Source.{PlainRoutine, Source}
use Rattle.logic_source.specs.Names.{find_word, instance_words, instance_named, block_named, meant_in}
use Rattle.logic_source.specs.Blocks.{Declares, AsksDeclared}
use Rattle.plant_types.specs.Values.{Path}
use Rattle.logic_source.specs.Worlds.{World, called, called_named, path_in, element_path, assign, output_at, words_of, routine_space, run_rule, block_begun, instances_begun, begun, begin_rule}
use Rattle.logic_source.specs.Layout.{ClockAt, block_values, instance_values, own_values, values_rule, block_clocks, instance_clocks, clocks_rule}
use Rattle.logic_source.specs.Ranges.{KindAt, block_kinds, instance_kinds, own_kinds, kinds_rule}

-- two families agree on the block types that instances are of
abbrev pub AgreeOn : {A : Type 0} → (ℕ → A) → (ℕ → A) → List Instance → Type 0
AgreeOn {A} f g is = (i : Instance) (n : ℕ) → Among is i → i.of ≡ Declared n → f n ≡ g n

agree_declared : {A : Type 0} (f g : ℕ → A) (r : PlainRoutine) → ((n : ℕ) → Declares r n → f n ≡ g n) → AgreeOn f g r.instances
agree_declared f g r agree i n here is = agree n (i, here, is)

agree_later : {A : Type 0} (f g : ℕ → A) (i : Instance) (is : List Instance) → AgreeOn f g (i ∷ is) → AgreeOn f g is
agree_later f g i is agree j n here of_is = agree j n (inr here) of_is

-- values
block_values_agree : (f g : ℕ → Path → List Path) (b : BlockRef) (path : Path) → ((n : ℕ) → b ≡ Declared n → f n ≡ g n) → block_values f b path ≡ block_values g b path
block_values_agree f g Ton path agree = refl
block_values_agree f g Tof path agree = refl
block_values_agree f g RTrig path agree = refl
block_values_agree f g (Declared n) path agree = ap (λ (h : Path → List Path). h path) (agree n refl)

values_agree : (f g : ℕ → Path → List Path) (is : List Instance) (path : Path) → AgreeOn f g is → instance_values f is path ≡ instance_values g is path
values_agree f g [] path agree = refl
values_agree f g (i ∷ is) path agree =
    let first = block_values_agree f g i.of (folded i.name ∷ path) (λ n is_of. agree i n (inl refl) is_of) in
    let rest = values_agree f g is path (agree_later f g i is agree) in
    λ k. first k ++ rest k

pub values_ask : AsksDeclared values_rule
values_ask f g r agree = λ k path. own_values r path ++ values_agree f g r.instances path (agree_declared f g r agree) k

-- kinds of values
block_kinds_agree : (f g : ℕ → Path → List KindAt) (b : BlockRef) (path : Path) → ((n : ℕ) → b ≡ Declared n → f n ≡ g n) → block_kinds f b path ≡ block_kinds g b path
block_kinds_agree f g Ton path agree = refl
block_kinds_agree f g Tof path agree = refl
block_kinds_agree f g RTrig path agree = refl
block_kinds_agree f g (Declared n) path agree = ap (λ (h : Path → List KindAt). h path) (agree n refl)

kinds_agree : (f g : ℕ → Path → List KindAt) (is : List Instance) (path : Path) → AgreeOn f g is → instance_kinds f is path ≡ instance_kinds g is path
kinds_agree f g [] path agree = refl
kinds_agree f g (i ∷ is) path agree =
    let first = block_kinds_agree f g i.of (folded i.name ∷ path) (λ n is_of. agree i n (inl refl) is_of) in
    let rest = kinds_agree f g is path (agree_later f g i is agree) in
    λ k. first k ++ rest k

pub kinds_ask : AsksDeclared kinds_rule
kinds_ask f g r agree = λ k path. own_kinds r path ++ kinds_agree f g r.instances path (agree_declared f g r agree) k

-- standard blocks
block_clocks_agree : (f g : ℕ → Path → List ClockAt) (b : BlockRef) (path : Path) → ((n : ℕ) → b ≡ Declared n → f n ≡ g n) → block_clocks f b path ≡ block_clocks g b path
block_clocks_agree f g Ton path agree = refl
block_clocks_agree f g Tof path agree = refl
block_clocks_agree f g RTrig path agree = refl
block_clocks_agree f g (Declared n) path agree = ap (λ (h : Path → List ClockAt). h path) (agree n refl)

clocks_agree : (f g : ℕ → Path → List ClockAt) (is : List Instance) (path : Path) → AgreeOn f g is → instance_clocks f is path ≡ instance_clocks g is path
clocks_agree f g [] path agree = refl
clocks_agree f g (i ∷ is) path agree =
    let first = block_clocks_agree f g i.of (folded i.name ∷ path) (λ n is_of. agree i n (inl refl) is_of) in
    let rest = clocks_agree f g is path (agree_later f g i is agree) in
    λ k. first k ++ rest k

pub clocks_ask : AsksDeclared clocks_rule
clocks_ask f g r agree = λ k path. clocks_agree f g r.instances path (agree_declared f g r agree) k

-- runs
called_agree : (t : ℕ) (f g : ℕ → Path → World → Ran World) (path : Path) (w : World) (name : List ℕ) (b : BlockRef) → ((n : ℕ) → b ≡ Declared n → f n ≡ g n) → called t f path w name b ≡ called t g path w name b
called_agree t f g path w name Ton agree = refl
called_agree t f g path w name Tof agree = refl
called_agree t f g path w name RTrig agree = refl
called_agree t f g path w name (Declared n) agree = ap (λ (h : Path → World → Ran World). h (name ∷ path) w) (agree n refl)

pub among_at : {A : Type 0} (xs : List A) (n : ℕ) (x : A) → slice_get xs n ≡ Some x → Among xs x
among_at [] n x is = absurd (cc)
among_at (y ∷ ys) zero x is = inl (cc)
among_at (y ∷ ys) (suc n) x is = inr (among_at ys n x is)

among_found : {A : Type 0} (xs : List A) (o : Option ℕ) (x : A) → option_and_then (slice_get xs) o ≡ Some x → Among xs x
among_found xs None x is = absurd (cc)
among_found xs (Some n) x is = among_at xs n x is

-- what a routine's name finds is among its instances
pub named_among : (r : PlainRoutine) (name : List ℕ) (i : Instance) → instance_named r name ≡ Some i → Among r.instances i
named_among r name i is = among_found r.instances (find_word (instance_words r.instances) name) i is

named_agree : (t : ℕ) (f g : ℕ → Path → World → Ran World) (r : PlainRoutine) (path : Path) (w : World) (name : List ℕ) → AgreeOn f g r.instances → (o : Option Instance) → instance_named r name ≡ o → called_named t f path w o ≡ called_named t g path w o
named_agree t f g r path w name agree None is = refl
named_agree t f g r path w name agree (Some i) is = called_agree t f g path w i.name i.of (λ n of_is. agree i n (named_among r name i is) of_is)

space_agrees : (t : ℕ) (f g : ℕ → Path → World → Ran World) (r : PlainRoutine) (path : Path) → AgreeOn f g r.instances → routine_space t f r path ≡ routine_space t g r path
space_agrees t f g r path agree = λ k. record {
  path = path;
  get = λ w name. w.values (path_in r path name);
  put = λ w name n. assign w (path_in r path name) n;
  get_at = λ w name bounds i. w.values (element_path r path name i);
  put_at = λ w name bounds i n. assign w (element_path r path name i) n;
  get_output = λ w instance name. output_at w (words_of (instance ∷ path)) (block_named r instance) name;
  put_input = λ w instance name n. assign w (words_of (name ∷ instance ∷ path)) n;
  enter = λ w instance. named_agree t f g r path w instance agree (instance_named r instance) refl k;
}

pub runs_ask : (source : Source) (t : ℕ) → AsksDeclared (run_rule source t)
runs_ask source t f g r agree = λ k path w. run_all (space_agrees t f g r path (agree_declared f g r agree) k) (meant_in source r r.body) w

-- initial values
block_begun_agree : (f g : ℕ → Path → World → World) (path : Path) (b : BlockRef) (w : World) → ((n : ℕ) → b ≡ Declared n → f n ≡ g n) → block_begun f path b w ≡ block_begun g path b w
block_begun_agree f g path Ton w agree = refl
block_begun_agree f g path Tof w agree = refl
block_begun_agree f g path RTrig w agree = refl
block_begun_agree f g path (Declared n) w agree = ap (λ (h : Path → World → World). h path w) (agree n refl)

begun_agree : (f g : ℕ → Path → World → World) (path : Path) (is : List Instance) (w : World) → AgreeOn f g is → instances_begun f path is w ≡ instances_begun g path is w
begun_agree f g path [] w agree = refl
begun_agree f g path (i ∷ is) w agree =
    let first = block_begun_agree f g (i.name ∷ path) i.of w (λ n is_of. agree i n (inl refl) is_of) in
    ap (instances_begun f path is) first ∙ begun_agree f g path is (block_begun g (i.name ∷ path) i.of w) (agree_later f g i is agree)

pub begins_ask : (source : Source) → AsksDeclared (begin_rule source)
begins_ask source f g r agree = λ k path w. begun_agree f g path r.instances (begun source r path w) (agree_declared f g r agree) k
