-- Where the inputs and outputs of instances stand, and which instance a name finds.
use Rattle.std.proofs.Common.{◌≡◌, ◌∙◌, ap, sym, subst, refl, arith, ℕ, ◌+◌, Bool, true, false, List, [], ◌∷◌, Option, Some, None, slice_get}
use Rattle.std.specs.Prelude.{if◌then◌else◌, option_and_then, codes}
use Rattle.std.specs.Cmp.Lexicographic.{bytes_decides}
use Rattle.std.proofs.lemmas.Option.{slice_get-map}
use Rattle.plant_types.specs.Words.{folded, same_word}
use Rattle.logic_source.specs.declared.logic.Instance.{Instance}
use Rattle.logic_source.specs.declared.logic.BlockRef.{BlockRef}
use Rattle.logic_source.specs.declared.logic.BlockRef.TheVariants.{Ton, Tof, RTrig, Declared}
use Rattle.logic_source.specs.Source.{PlainRoutine}
use Rattle.logic_source.specs.Names.{own_words, instance_words, find_word, instance_named}
use Rattle.logic_source.specs.Blocks.{AreBelow}
use Rattle.plant_types.specs.Values.{Path}
use Rattle.logic_source.specs.Worlds.{in_word, pt_word, clk_word}
use Rattle.logic_source.specs.Layout.{ClockAt, block_values, values_rule, routine_values, block_clocks, routine_clocks}
use Rattle.logic_source.specs.Seats.{StandsFrom, member_number, is_of_standard}
use Rattle.logic_source.proofs.Levels.{by_its_rule}
use Rattle.logic_source.proofs.Agreeing.{values_ask}
use Rattle.logic_source.proofs.Seats.{mapped_at, own_at, variable_among, word_at}

-- a name that is a word has its small letters
pub word_is : (name word : List ℕ) → same_word name word ≡ true → folded name ≡ folded word
word_is name word is = (bytes_decides (folded name) (folded word)).0 is

module _ (all : List Path) (base : ℕ) (path : Path) (name : List ℕ) (m : ℕ) where
  timer_at : StandsFrom all base ((in_word ∷ path) ∷ (pt_word ∷ path) ∷ []) → (a b : Bool) → same_word name (codes "IN") ≡ a → same_word name (codes "PT") ≡ b → (if a then Some 0 else if b then Some 1 else None) ≡ Some m
      → slice_get all (base + m) ≡ Some (folded name ∷ path)
  timer_at stands true b first second numbered =
      let same : 0 ≡ m = cc in
      ap (λ n. slice_get all (base + n)) (sym same) ∙ stands 0 (in_word ∷ path) refl ∙ ap (λ w. Some (w ∷ path)) (sym (word_is name (codes "IN") first))
  timer_at stands false true first second numbered =
      let same : 1 ≡ m = cc in
      ap (λ n. slice_get all (base + n)) (sym same) ∙ stands 1 (pt_word ∷ path) refl ∙ ap (λ w. Some (w ∷ path)) (sym (word_is name (codes "PT") second))
  timer_at stands false false first second numbered = absurd (cc)

  trigger_at : StandsFrom all base ((clk_word ∷ path) ∷ []) → (a : Bool) → same_word name (codes "CLK") ≡ a → (if a then Some 0 else None) ≡ Some m → slice_get all (base + m) ≡ Some (folded name ∷ path)
  trigger_at stands true first numbered =
      let same : 0 ≡ m = cc in
      ap (λ n. slice_get all (base + n)) (sym same) ∙ stands 0 (clk_word ∷ path) refl ∙ ap (λ w. Some (w ∷ path)) (sym (word_is name (codes "CLK") first))
  trigger_at stands false first numbered = absurd (cc)

  module _ (blocks : List PlainRoutine) (order : List ℕ) (below : AreBelow blocks order) where
    declared_at : (n : ℕ) → StandsFrom all base (routine_values blocks n path) → (o : Option PlainRoutine) → slice_get blocks n ≡ o → option_and_then (λ (b : PlainRoutine). find_word (own_words b.locals) name) o ≡ Some m
        → slice_get all (base + m) ≡ Some (folded name ∷ path)
    declared_at n stands None is numbered = absurd (cc)
    declared_at n stands (Some b) is numbered =
        let rule = by_its_rule (λ path. []) values_rule blocks order below values_ask n b is in
        let stands' : StandsFrom all base (values_rule (routine_values blocks) b path) = subst (λ l. StandsFrom all base l) (λ k. rule k path) stands in
        stands' m (folded name ∷ path) (variable_among blocks b path m (folded name ∷ path) (own_at b.locals path name m numbered))

    -- where an instance's values stand from a number on, there a member of it has the path of its name
    pub member_at : (b : BlockRef) → StandsFrom all base (block_values (routine_values blocks) b path) → member_number blocks b name ≡ Some m → slice_get all (base + m) ≡ Some (folded name ∷ path)
    member_at Ton stands numbered = timer_at stands (same_word name (codes "IN")) (same_word name (codes "PT")) refl refl numbered
    member_at Tof stands numbered = timer_at stands (same_word name (codes "IN")) (same_word name (codes "PT")) refl refl numbered
    member_at RTrig stands numbered = trigger_at stands (same_word name (codes "CLK")) refl numbered
    member_at (Declared n) stands numbered = declared_at n stands (slice_get blocks n) refl numbered

from_zero : {A : Type 0} (all : List A) (base : ℕ) (a : A) → slice_get all (base + 0) ≡ Some a → slice_get all base ≡ Some a
from_zero all base a at = let same : base ≡ base + 0 = omega arith in ap (slice_get all) same ∙ at

-- a standard block stands at the number of its instance
pub clock_at : (blocks : List PlainRoutine) (all : List ClockAt) (base : ℕ) (path : Path) (b : BlockRef) → is_of_standard b ≡ true → StandsFrom all base (block_clocks (routine_clocks blocks) b path) → slice_get all base ≡ Some (record { of = b; path = path })
clock_at blocks all base path Ton is stands = from_zero all base (record { of = Ton; path = path }) (stands 0 (record { of = Ton; path = path }) refl)
clock_at blocks all base path Tof is stands = from_zero all base (record { of = Tof; path = path }) (stands 0 (record { of = Tof; path = path }) refl)
clock_at blocks all base path RTrig is stands = from_zero all base (record { of = RTrig; path = path }) (stands 0 (record { of = RTrig; path = path }) refl)
clock_at blocks all base path (Declared n) is stands = absurd (cc)

-- the instance of a name's number is the one that the name finds, and has its small letters
pub instance_of_number : (r : PlainRoutine) (name : List ℕ) (k : ℕ) → find_word (instance_words r.instances) name ≡ Some k → (i : Instance) × (slice_get r.instances k ≡ Some i) × (instance_named r name ≡ Some i) × (folded i.name ≡ folded name)
instance_of_number r name k found =
    let word = λ (i : Instance). folded i.name in
    let i = mapped_at word (slice_get r.instances k) (folded name) (sym (slice_get-map word r.instances k) ∙ word_at (instance_words r.instances) name k found) in
    (i.0, i.1, ap (option_and_then (slice_get r.instances)) found ∙ i.1, i.2)
