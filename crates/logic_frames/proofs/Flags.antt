-- Flags of the block types that programs reach.
use Rattle.std.proofs.Common.{◌≡◌, ◌≢◌, ◌∙◌, ap, sym, subst, refl, ℕ, zero, suc, ◌+◌, ◌<◌, ◌≤◌, Bool, true, false, List, [], ◌∷◌, ◌++◌, take, drop, length, get_or, set, map, Option, Some, None, inl, inr, arith}
use Rattle.std.specs.Prelude.{◌⊎◌, nat_eq, nat_lt, slice_get, replicate}
use Rattle.std.proofs.lemmas.Bool.{cases_Bool}
use Rattle.std.proofs.lemmas.Bool.Decides.{nat_tests}
use Rattle.std.proofs.lemmas.List.{drop_more, drop_all, take_more, length-set, length-replicate, get_or-set_same, get_or-set_other, set_past}
use Rattle.std.proofs.lemmas.Option.{slice_get_within}
use Rattle.st_blocks.specs.Chains.{Among}
use Rattle.st_blocks.specs.Blocks.{Once}
use Rattle.logic_source.specs.declared.logic.Instance.{Instance}
use Rattle.logic_source.specs.declared.logic.BlockRef.{BlockRef}
use Rattle.logic_source.specs.declared.logic.BlockRef.TheVariants.{Ton, Tof, RTrig, Declared}
use Rattle.logic_source.specs.declared.logic.Routine.{Routine}
use Rattle.logic_source.specs.Source.{PlainRoutine, Source, view_routine}
use Rattle.logic_source.specs.Blocks.{Declares, DeclaresThere, HasItsTypes, AreBelow}
use Rattle.logic_source.specs.Paths.{is_called}
use Rattle.logic_source.proofs.Layouts.{all_at}
use Rattle.logic_frames.specs.Reached.{AsksFor, flagged, AreReached, counts, number_of, numbers_of, flag_all, flag_asked, flag_programs, flag_onward, flag_back, reached}

-- how many flags there are
all_length : (flags : List Bool) (ns : List ℕ) → length (flag_all flags ns) ≡ length flags
all_length flags [] = refl
all_length flags (n ∷ ns) = all_length (set flags n true) ns ∙ length-set flags n true

set_keeps : (flags : List Bool) (n m : ℕ) → flagged flags m ≡ true → flagged (set flags n true) m ≡ true
set_keeps flags n m is =
    elim (cases_Bool (nat_eq m n)) [
      | inl same ↦ (
          let equal : m ≡ n = grind (arith, nat_tests) in
          elim (cases_Bool (nat_lt n (length flags))) [
            | inl inside ↦ (let less : n < length flags = grind (arith, nat_tests) in subst (λ k. flagged (set flags n true) k ≡ true) (sym equal) (get_or-set_same flags n true false less))
            | inr outside ↦ (let past : length flags ≤ n = grind (arith, nat_tests) in ap (λ l. flagged l m) (set_past flags n true past) ∙ is)
          ])
      | inr other ↦ (let apart : m ≢ n = grind (arith, nat_tests) in get_or-set_other flags n m true false apart ∙ is)
    ]

all_keeps : (flags : List Bool) (ns : List ℕ) (m : ℕ) → flagged flags m ≡ true → flagged (flag_all flags ns) m ≡ true
all_keeps flags [] m is = is
all_keeps flags (n ∷ ns) m is = all_keeps (set flags n true) ns m (set_keeps flags n m is)

all_has : (flags : List Bool) (ns : List ℕ) (m : ℕ) → m < length flags → Among ns m → flagged (flag_all flags ns) m ≡ true
all_has flags [] m within here = elim here [ ]
all_has flags (n ∷ ns) m within (inl same) =
    all_keeps (set flags n true) ns m (subst (λ k. flagged (set flags k true) m ≡ true) (sym same) (get_or-set_same flags m true false within))
all_has flags (n ∷ ns) m within (inr later) = let long = length-set flags n true in all_has (set flags n true) ns m (omega (arith, within, long)) later

all_only : (flags : List Bool) (ns : List ℕ) (m : ℕ) → (Among ns m → ⊥) → flagged (flag_all flags ns) m ≡ true → flagged flags m ≡ true
all_only flags [] m none is = is
all_only flags (n ∷ ns) m none is =
    let apart : m ≢ n = (λ same. none (inl (sym same))) in
    sym (get_or-set_other flags n m true false apart) ∙ all_only (set flags n true) ns m (λ later. none (inr later)) is

-- the numbers of the instances that count
among_right : (xs ys : List ℕ) (m : ℕ) → Among ys m → Among (xs ++ ys) m
among_right [] ys m here = here
among_right (x ∷ xs) ys m here = inr (among_right xs ys m here)

numbers_have : (counted : List ℕ → Bool) (is : List Instance) (i : Instance) (m : ℕ) → Among is i → i.of ≡ Declared m → counted i.name ≡ true → Among (numbers_of counted is) m
numbers_have counted [] i m here of_is counts = elim here [ ]
numbers_have counted (j ∷ is) i m (inl same) of_is counts =
    subst (λ (x : Instance). Among (number_of (counted x.name) x.of ++ numbers_of counted is) m) (sym same)
    (subst (λ b. Among (number_of b i.of ++ numbers_of counted is) m) (sym counts) (subst (λ b. Among (number_of true b ++ numbers_of counted is) m) (sym of_is) (inl refl)))
numbers_have counted (j ∷ is) i m (inr later) of_is counts = among_right (number_of (counted j.name) j.of) (numbers_of counted is) m (numbers_have counted is i m later of_is counts)

number_is : (b : Bool) (block : BlockRef) (rest : List ℕ) (m : ℕ) → Among (number_of b block ++ rest) m → (block ≡ Declared m) ⊎ Among rest m
number_is false block rest m here = inr here
number_is true Ton rest m here = inr here
number_is true Tof rest m here = inr here
number_is true RTrig rest m here = inr here
number_is true (Declared n) rest m (inl same) = inl (ap Declared same)
number_is true (Declared n) rest m (inr later) = inr later

numbers_only : (counted : List ℕ → Bool) (is : List Instance) (m : ℕ) → Among (numbers_of counted is) m → (i : Instance) × Among is i × (i.of ≡ Declared m)
numbers_only counted [] m here = elim here [ ]
numbers_only counted (j ∷ is) m here =
    elim (number_is (counted j.name) j.of (numbers_of counted is) m here) [
      | inl of_is ↦ (j, inl refl, of_is)
      | inr later ↦ (let it = numbers_only counted is m later in (it.0, inr it.1, it.2))
    ]

-- what a routine asks for
module _ (calls : Bool) (r : PlainRoutine) (flags : List Bool) where
  asked_has : (m : ℕ) → m < length flags → AsksFor calls r m → flagged (flag_asked calls flags r) m ≡ true
  asked_has m within asks =
      all_has flags (numbers_of (counts calls r) r.instances) m within (numbers_have (counts calls r) r.instances asks.0 m asks.1 asks.2 (counted asks.0.name calls asks.3))
    where
      counted : (name : List ℕ) (only : Bool) → (only ≡ true → is_called r name ≡ true) → counts only r name ≡ true
      counted name true is = is refl
      counted name false is = refl

  asked_only : (m : ℕ) → (Declares r m → ⊥) → flagged (flag_asked calls flags r) m ≡ true → flagged flags m ≡ true
  asked_only m none is = all_only flags (numbers_of (counts calls r) r.instances) m (λ here. none (numbers_only (counts calls r) r.instances m here)) is

pub all_append : (flags : List Bool) (xs ys : List ℕ) → flag_all flags (xs ++ ys) ≡ flag_all (flag_all flags xs) ys
all_append flags [] ys = refl
all_append flags (x ∷ xs) ys = all_append (set flags x true) xs ys

-- a step through instances
pub instance_flagged : (counted : List ℕ → Bool) (list : List Instance) (i : ℕ) (x : Instance) (flags flags' whole : List Bool) → i < length list → x ≡ get_or list i x → flag_all flags (numbers_of counted (drop i list)) ≡ whole → flags' ≡ flag_all flags (number_of (counted x.name) x.of)
    → flag_all flags' (numbers_of counted (drop (i + 1) list)) ≡ whole
instance_flagged counted list i x flags flags' whole within is before step =
    let rest = drop (i + 1) list in
    let split : drop i list ≡ x ∷ rest = drop_more list i x within ∙ ap (λ (y : Instance). y ∷ rest) (sym is) in
    ap (λ l. flag_all l (numbers_of counted rest)) step ∙ sym (all_append flags (number_of (counted x.name) x.of) (numbers_of counted rest)) ∙ ap (λ l. flag_all flags (numbers_of counted l)) (sym split) ∙ before

pub instances_done : (counted : List ℕ → Bool) (list : List Instance) (i : ℕ) (flags whole : List Bool) → length list ≤ i → flag_all flags (numbers_of counted (drop i list)) ≡ whole → flags ≡ whole
instances_done counted list i flags whole past before = ap (λ l. flag_all flags (numbers_of counted l)) (sym (drop_all i list past)) ∙ before

-- a step through programs
pub program_flagged : (calls : Bool) (list : List Routine) (i : ℕ) (x : Routine) (flags flags' whole : List Bool) → i < length list → x ≡ get_or list i x → flag_programs calls flags (map view_routine (drop i list)) ≡ whole → flags' ≡ flag_asked calls flags (view_routine x)
    → flag_programs calls flags' (map view_routine (drop (i + 1) list)) ≡ whole
program_flagged calls list i x flags flags' whole within is before step =
    let rest = drop (i + 1) list in
    let split : drop i list ≡ x ∷ rest = drop_more list i x within ∙ ap (λ (y : Routine). y ∷ rest) (sym is) in
    ap (λ l. flag_programs calls l (map view_routine rest)) step ∙ ap (λ l. flag_programs calls flags (map view_routine l)) (sym split) ∙ before

pub programs_done : (calls : Bool) (list : List Routine) (i : ℕ) (flags whole : List Bool) → length list ≤ i → flag_programs calls flags (map view_routine (drop i list)) ≡ whole → flags ≡ whole
programs_done calls list i flags whole past before = ap (λ l. flag_programs calls flags (map view_routine l)) (sym (drop_all i list past)) ∙ before

pub asks_declared : (calls : Bool) (r : PlainRoutine) (m : ℕ) → AsksFor calls r m → Declares r m
asks_declared calls r m asks = (asks.0, asks.1, asks.2)

pub declared_asks : (r : PlainRoutine) (m : ℕ) → Declares r m → AsksFor false r m
declared_asks r m declares = (declares.0, declares.1, declares.2, λ is. absurd (cc))

-- programs
programs_length : (calls : Bool) (flags : List Bool) (ps : List PlainRoutine) → length (flag_programs calls flags ps) ≡ length flags
programs_length calls flags [] = refl
programs_length calls flags (p ∷ ps) = programs_length calls (flag_asked calls flags p) ps ∙ all_length flags (numbers_of (counts calls p) p.instances)

programs_keep : (calls : Bool) (flags : List Bool) (ps : List PlainRoutine) (m : ℕ) → flagged flags m ≡ true → flagged (flag_programs calls flags ps) m ≡ true
programs_keep calls flags [] m is = is
programs_keep calls flags (p ∷ ps) m is = programs_keep calls (flag_asked calls flags p) ps m (all_keeps flags (numbers_of (counts calls p) p.instances) m is)

programs_have : (calls : Bool) (flags : List Bool) (ps : List PlainRoutine) (k m : ℕ) (p : PlainRoutine) → slice_get ps k ≡ Some p → m < length flags → AsksFor calls p m → flagged (flag_programs calls flags ps) m ≡ true
programs_have calls flags [] k m p at within asks = absurd (cc)
programs_have calls flags (q ∷ ps) zero m p at within asks =
    let same : q ≡ p = cc in
    programs_keep calls (flag_asked calls flags q) ps m (subst (λ x. flagged (flag_asked calls flags x) m ≡ true) (sym same) (asked_has calls p flags m within asks))
programs_have calls flags (q ∷ ps) (suc k) m p at within asks =
    let long = all_length flags (numbers_of (counts calls q) q.instances) in
    programs_have calls (flag_asked calls flags q) ps k m p at (omega (arith, within, long)) asks

-- block types, the last of an order first
module _ (calls : Bool) (blocks : List PlainRoutine) where
  -- none asks for one that is listed from it on
  abbrev pub IsBack : List ℕ → Type 0
  IsBack [] = Unit {0}
  IsBack (n ∷ ns) = ((r : PlainRoutine) (b : ℕ) → slice_get blocks n ≡ Some r → Declares r b → Among (n ∷ ns) b → ⊥) × IsBack ns

  pub onward_by : (o : Option PlainRoutine) (n : ℕ) (flags : List Bool) → slice_get blocks n ≡ o → (b : Bool) → flagged flags n ≡ b → (P : List Bool → Type 0) → P flags → ((r : PlainRoutine) → o ≡ Some r → b ≡ true → P (flag_asked calls flags r)) → P (flag_onward calls blocks n flags)
  onward_by o n flags at false is P same more = rw is same
  onward_by None n flags at true is P same more = rw (is, at) same
  onward_by (Some r) n flags at true is P same more = rw (is, at) (more r refl refl)

  onward_length : (n : ℕ) (flags : List Bool) → length (flag_onward calls blocks n flags) ≡ length flags
  onward_length n flags = onward_by (slice_get blocks n) n flags refl (flagged flags n) refl (λ l. length l ≡ length flags) refl (λ r at is. all_length flags (numbers_of (counts calls r) r.instances))

  onward_keeps : (n : ℕ) (flags : List Bool) (m : ℕ) → flagged flags m ≡ true → flagged (flag_onward calls blocks n flags) m ≡ true
  onward_keeps n flags m is =
      onward_by (slice_get blocks n) n flags refl (flagged flags n) refl (λ l. flagged l m ≡ true) is (λ r at on. all_keeps flags (numbers_of (counts calls r) r.instances) m is)

  onward_only : (n : ℕ) (flags : List Bool) (m : ℕ) → ((r : PlainRoutine) → slice_get blocks n ≡ Some r → Declares r m → ⊥) → flagged (flag_onward calls blocks n flags) m ≡ true → flagged flags m ≡ true
  onward_only n flags m none =
      onward_by (slice_get blocks n) n flags refl (flagged flags n) refl (λ l. flagged l m ≡ true → flagged flags m ≡ true) (λ is. is) (λ r at on is. asked_only calls r flags m (none r at) is)

  onward_has : (n : ℕ) (flags : List Bool) (r : PlainRoutine) (m : ℕ) → slice_get blocks n ≡ Some r → flagged flags n ≡ true → m < length flags → AsksFor calls r m → flagged (flag_onward calls blocks n flags) m ≡ true
  onward_has n flags r m at on within asks = rw (on, at) (asked_has calls r flags m within asks)

  back_length : (ns : List ℕ) (flags : List Bool) → length (flag_back calls blocks ns flags) ≡ length flags
  back_length [] flags = refl
  back_length (n ∷ ns) flags = onward_length n (flag_back calls blocks ns flags) ∙ back_length ns flags

  back_keeps : (ns : List ℕ) (flags : List Bool) (m : ℕ) → flagged flags m ≡ true → flagged (flag_back calls blocks ns flags) m ≡ true
  back_keeps [] flags m is = is
  back_keeps (n ∷ ns) flags m is = onward_keeps n (flag_back calls blocks ns flags) m (back_keeps ns flags m is)

  -- what a flagged one of the order asks for is flagged
  back_has : (ns : List ℕ) (flags : List Bool) → IsBack ns → (a m : ℕ) (r : PlainRoutine) → Among ns a → slice_get blocks a ≡ Some r → m < length flags → flagged (flag_back calls blocks ns flags) a ≡ true → AsksFor calls r m
      → flagged (flag_back calls blocks ns flags) m ≡ true
  back_has [] flags back a m r here at within on asks = elim here [ ]
  back_has (n ∷ ns) flags back a m r here at within on asks =
      let before = flag_back calls blocks ns flags in
      let long = back_length ns flags in
      let kept : flagged before a ≡ true = onward_only n before a (λ q is declares. back.0 q a is declares here) on in
      elim here [
        | inl same ↦ onward_has n before r m (ap (slice_get blocks) same ∙ at) (ap (flagged before) same ∙ kept) (omega (arith, within, long)) asks
        | inr later ↦ onward_keeps n before m (back_has ns flags back.1 a m r later at within kept asks)
      ]

  back_add : (ns : List ℕ) (n : ℕ) (flags : List Bool) → flag_back calls blocks (ns ++ n ∷ []) flags ≡ flag_back calls blocks ns (flag_onward calls blocks n flags)
  back_add [] n flags = refl
  back_add (m ∷ ns) n flags = ap (flag_onward calls blocks m) (back_add ns n flags)

pub get_or_is : (xs : List ℕ) (j x : ℕ) → slice_get xs j ≡ Some x → get_or xs j x ≡ x
get_or_is [] j x at = absurd (cc)
get_or_is (y ∷ ys) zero x at = cc
get_or_is (y ∷ ys) (suc j) x at = get_or_is ys j x at

-- a step back through an order
pub back_flagged : (calls : Bool) (blocks : List PlainRoutine) (order : List ℕ) (left n : ℕ) (flags flags' whole : List Bool) → left < length order → slice_get order left ≡ Some n → flag_back calls blocks (take (left + 1) order) flags ≡ whole → flags' ≡ flag_onward calls blocks n flags
    → flag_back calls blocks (take left order) flags' ≡ whole
back_flagged calls blocks order left n flags flags' whole within at before step =
    let split : take (left + 1) order ≡ take left order ++ n ∷ [] = take_more order left n within ∙ ap (λ x. take left order ++ x ∷ []) (get_or_is order left n at) in
    ap (flag_back calls blocks (take left order)) step ∙ sym (back_add calls blocks (take left order) n flags) ∙ ap (λ l. flag_back calls blocks l flags) (sym split) ∙ before

-- an order that lists each after those that it declares
behind_once : (order : List ℕ) → Once order → (k b : ℕ) → Among (take k order) b → Among (drop k order) b → ⊥
behind_once [] once zero b early late = elim early [ ]
behind_once [] once (suc k) b early late = elim early [ ]
behind_once (a ∷ order) once zero b early late = elim early [ ]
behind_once (a ∷ order) once (suc k) b (inl same) late = once.0 (subst (Among order) (sym same) (among_drop order k b late))
  where
    among_drop : (xs : List ℕ) (j x : ℕ) → Among (drop j xs) x → Among xs x
    among_drop xs zero x here = here
    among_drop [] (suc j) x here = here
    among_drop (y ∷ ys) (suc j) x here = inr (among_drop ys j x here)
behind_once (a ∷ order) once (suc k) b (inr later) late = behind_once order once.1 k b later late

module _ (calls : Bool) (source : Source) (order : List ℕ) (below : AreBelow source.blocks order) (types : HasItsTypes source) where
  -- the rest of the order from a place on
  back_from : (ns : List ℕ) (k : ℕ) → drop k order ≡ ns → IsBack calls source.blocks ns
  back_from [] k is = tt
  back_from (n ∷ ns) k is =
      let at : slice_get order k ≡ Some n = dropped order k n ns is in (
        λ r b there declares here.
            let inside = all_at (DeclaresThere source.blocks) source.blocks n r types.in_blocks there b declares in
            behind_once order below.once k b (below.after k n b r at there declares inside) (subst (λ l. Among l b) (sym is) here),
        back_from ns (k + 1) (next order k n ns is),
      )
    where
      dropped : (xs : List ℕ) (j x : ℕ) (ys : List ℕ) → drop j xs ≡ x ∷ ys → slice_get xs j ≡ Some x
      dropped [] zero x ys is = absurd (cc)
      dropped [] (suc j) x ys is = absurd (cc)
      dropped (z ∷ zs) zero x ys is = let same : z ≡ x = cc in ap Some same
      dropped (z ∷ zs) (suc j) x ys is = dropped zs j x ys is

      next : (xs : List ℕ) (j x : ℕ) (ys : List ℕ) → drop j xs ≡ x ∷ ys → drop (j + 1) xs ≡ ys
      next [] zero x ys is = absurd (cc)
      next [] (suc j) x ys is = absurd (cc)
      next (z ∷ zs) zero x ys is = let same : zs ≡ ys = cc in same
      next (z ∷ zs) (suc j) x ys is = ap (λ m. drop m (z ∷ zs)) (let one : suc j + 1 ≡ suc (j + 1) = omega arith in one) ∙ next zs j x ys is

  abbrev all : List Bool
  all = reached calls source.programs source.blocks order

  abbrev none : List Bool
  none = replicate (length source.blocks) false

  abbrev first : List Bool
  first = flag_programs calls none source.programs

  many : length first ≡ length source.blocks
  many = programs_length calls none source.programs ∙ length-replicate (length source.blocks) false

  -- the flags are those of what programs reach
  pub are_reached : AreReached calls source all
  are_reached = record {
    by_programs = λ k n p at asks.
        let inside = all_at (DeclaresThere source.blocks) source.programs k p types.in_programs at n (asks_declared calls p n asks) in
        let long = length-replicate (length source.blocks) false in
        back_keeps calls source.blocks order first n (programs_have calls none source.programs k n p at (omega (arith, inside, long)) asks);
    by_blocks = λ a n r at on asks.
        let inside = all_at (DeclaresThere source.blocks) source.blocks a r types.in_blocks at n (asks_declared calls r n asks) in
        let long = many in
        back_has calls source.blocks order first (back_from order 0 refl) a n r (below.whole a (slice_get_within source.blocks a r at)) at (omega (arith, inside, long)) on asks;
  }

  pub reached_length : length all ≡ length source.blocks
  reached_length = back_length calls source.blocks order first ∙ many
