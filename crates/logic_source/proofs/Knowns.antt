-- Each instance in the source of well-formed units is of a standard block, or of a block type of the source.
use Rattle.std.proofs.Common.{◌≡◌, ◌∙◌, ap, sym, refl, ℕ, suc, ◌<◌, Bool, true, false, not, if◌then◌else◌, List, [], ◌∷◌, map, length, Option, Some, None, inl, inr, arith}
use Rattle.std.specs.Prelude.{◌&&◌, ◌||◌, is_some, option_map, filter_map, unwrap_or, codes}
use Rattle.std.specs.List.{list_any, list_all, cons_option, All}
use Rattle.std.specs.Str.{bytes_eq}
use Rattle.std.proofs.lemmas.Bool.{cases_Bool, and_parts, or_parts, or_cases, or_left, or_right, both_ways}
use Rattle.std.proofs.lemmas.List.{length-map}
use Rattle.std.proofs.lemmas.List.Elements.{All-nil, All-cons, All-head, All-tail, All-filter}
use Rattle.plant_types.specs.Words.{folded, same_word}
use Rattle.base_words.specs.Names.{find_name}
use Rattle.st_blocks.specs.Chains.{Among}
use Rattle.st_blocks.specs.Blocks.{first_of}
use Rattle.st_typing.specs.Units.{PlainPou, PlainUnit}
use Rattle.st_typing.specs.First.{first_that}
use Rattle.st_typing.specs.DeclaredNames.{declared_in, declared_words}
use Rattle.st_typing.specs.Shared.{Shared, global, pou, shared_name, shared_in, as_block, is_block, block_named, global_named}
use Rattle.st_typing.specs.BlockTypes.{ton, tof, r_trig, declared_block, block_type}
use Rattle.st_typing.specs.Scopes.{is_external}
use Rattle.st_typing.specs.Taken.{repeats}
use Rattle.st_typing.specs.Known.{body_known, declared_known, sort_known, option_known, globals_misnamed, pou_misnamed}
use Rattle.st_typing.proofs.Entries.{same_turned}
use Rattle.st_typing.specs.Blocks.{block_of}
use Rattle.st_typing.specs.Faults.{AreTyped}
use Rattle.logic_source.specs.declared.logic.BlockRef.TheVariants.{Ton, Tof, RTrig, Declared}
use Rattle.logic_source.specs.Source.{PlainRoutine}
use Rattle.logic_source.specs.Pous.{pous_of, block_pous, program_pous, block_names}
use Rattle.logic_source.specs.Units.{instance_of, routine_of, source_in}
use Rattle.logic_source.specs.Blocks.{Declares, DeclaresThere, HasItsTypes}
use Rattle.logic_source.proofs.Apart.{none_misnamed, pick_block, blocks_picked}
use Rattle.logic_source.proofs.Belows.{name_of, first_found, among_flat, instance_at}
use Rattle.logic_source.proofs.Distinct.{each_pou}

-- a block that is found among what is shared is one of the blocks
block_or_rest : (word : List ℕ) (b : Bool) (p : PlainPou) (rest : List PlainPou) → same_word p.name word ≡ true → is_some (if b then Some p else None) ≡ true → list_any (same_word word) (map name_of (cons_option (if b then Some p else None) rest)) ≡ true
block_or_rest word false p rest same there = absurd (cc)
block_or_rest word true p rest same there = or_left (same_word word p.name) (list_any (same_word word) (map name_of rest)) (same_turned word p.name ∙ same)

rest_has : (word : List ℕ) (o : Option PlainPou) (rest : List PlainPou) → list_any (same_word word) (map name_of rest) ≡ true → list_any (same_word word) (map name_of (cons_option o rest)) ≡ true
rest_has word None rest there = there
rest_has word (Some p) rest there = or_right (same_word word p.name) (list_any (same_word word) (map name_of rest)) there

here_has : (word : List ℕ) (s : Shared) (rest : List PlainPou) → same_word (shared_name s) word ≡ true → is_some (as_block (Some s)) ≡ true → list_any (same_word word) (map name_of (cons_option (pick_block s) rest)) ≡ true
here_has word (global d) rest same there = absurd (cc)
here_has word (pou p) rest same there = block_or_rest word (is_block p.kind) p rest same there

blocks_have : (items : List Shared) (word : List ℕ) → is_some (as_block (first_that (λ s. same_word (shared_name s) word) items)) ≡ true → list_any (same_word word) (map name_of (filter_map pick_block items)) ≡ true
blocks_have [] word there = absurd (cc)
blocks_have (s ∷ items) word there =
    elim (cases_Bool (same_word (shared_name s) word)) [
      | inl is ↦ here_has word s (filter_map pick_block items) is (rw is at there)
      | inr not_is ↦ rest_has word (pick_block s) (filter_map pick_block items) (blocks_have items word (rw not_is at there))
    ]

-- a word of a list has a number in it
numbered : (found : Bool) (o : Option ℕ) (many : ℕ) → ((n : ℕ) × (o ≡ Some n) × (n < many)) → (n : ℕ) × ((if found then Some 0 else option_map suc o) ≡ Some n) × (n < suc many)
numbered true o many later = (0, refl, omega arith)
numbered false o many later = (suc later.0, ap (option_map suc) later.1, omega (arith, later.2))

first_there : (ps : List PlainPou) (word : List ℕ) → list_any (same_word word) (map name_of ps) ≡ true → (n : ℕ) × (first_of (map block_of ps) (folded word) ≡ Some n) × (n < length ps)
first_there [] word any = absurd (cc)
first_there (p ∷ ps) word any =
    elim (cases_Bool (bytes_eq (folded word) (folded p.name))) [
      | inl is ↦ (0, rw is refl, omega arith)
      | inr not_is ↦
          elim (or_cases (same_word word p.name) (list_any (same_word word) (map name_of ps)) any) [
            | inl here ↦ absurd (both_ways (same_word word p.name) not_is here)
            | inr later ↦ numbered_at p ps word not_is (first_there ps word later)
          ]
    ]
  where
    numbered_at : (p : PlainPou) (ps : List PlainPou) (word : List ℕ) → bytes_eq (folded word) (folded p.name) ≡ false → ((n : ℕ) × (first_of (map block_of ps) (folded word) ≡ Some n) × (n < length ps)) → (n : ℕ) × (first_of (map block_of (p ∷ ps)) (folded word) ≡ Some n) × (n < length (p ∷ ps))
    numbered_at p ps word not_is later = (suc later.0, rw not_is (ap (option_map suc) later.1), omega (arith, later.2))

ref_within : (t u v : Bool) (o : Option PlainPou) (k : ℕ) (n many : ℕ) → is_some (if t then Some ton else if u then Some tof else if v then Some r_trig else option_map declared_block o) ≡ true
    → (if t then Ton else if u then Tof else if v then RTrig else Declared k) ≡ Declared n → (is_some o ≡ true → k < many) → n < many
ref_within true u v o k n many there is within = absurd (cc)
ref_within false true v o k n many there is within = absurd (cc)
ref_within false false true o k n many there is within = absurd (cc)
ref_within false false false None k n many there is within = absurd (cc)
ref_within false false false (Some p) k n many there is within = let same : k ≡ n = cc in let below = within refl in omega (arith, same, below)

module _ (units : List PlainUnit) where
  abbrev ps : List PlainPou
  ps = block_pous (pous_of units)

  number_within : (word : List ℕ) → is_some (block_named units word) ≡ true → unwrap_or (find_name (block_names units) word) (length (block_names units)) < length ps
  number_within word there =
      let any : list_any (same_word word) (map name_of ps) ≡ true = ap (λ qs. list_any (same_word word) (map name_of qs)) (blocks_picked units) ∙ blocks_have (shared_in units) word there in
      let first = first_there ps word any in
      let number : unwrap_or (find_name (block_names units) word) (length (block_names units)) ≡ first.0 = ap (λ o. unwrap_or o (length (block_names units))) (first_found ps word ∙ first.1) in
      omega (arith, number, first.2)

  among_passes : {A : Type 0} (p : A → Bool) (xs : List A) (x : A) → list_all p xs ≡ true → Among xs x → p x ≡ true
  among_passes p [] x all here = elim here [ ]
  among_passes p (y ∷ ys) x all (inl is) = ap p (sym is) ∙ (and_parts (p y) (list_all p ys) all).0
  among_passes p (y ∷ ys) x all (inr later) = among_passes p ys x (and_parts (p y) (list_all p ys) all).1 later

  declares_there : (p : PlainPou) → list_all (declared_known units (declared_in p.sections)) (declared_in p.sections) ≡ true → (n : ℕ) → Declares (routine_of (block_names units) p) n → n < length ps
  declares_there p known n declares =
      let own = declared_in p.sections in
      let names = block_names units in
      let d = among_flat (instance_of names) own declares.0 declares.1 in
      let w = instance_at names (is_external d.0.section) d.0 d.0.sort declares.0 d.2 in
      let h = among_passes (declared_known units own) own d.0 known d.1 in
      let q = and_parts (sort_known units d.0.sort && option_known units own d.0.initial) (not (is_external d.0.section) || is_some (global_named units d.0.name)) h in
      let r = and_parts (sort_known units d.0.sort) (option_known units own d.0.initial) q.0 in
      let there : is_some (block_type units w.0) ≡ true = ap (sort_known units) (sym w.1) ∙ r.0 in
      ref_within (same_word w.0 (codes "TON")) (same_word w.0 (codes "TOF")) (same_word w.0 (codes "R_TRIG")) (block_named units w.0) (unwrap_or (find_name names w.0) (length names)) n (length ps) there (sym w.2 ∙ declares.2) (number_within w.0)

  pou_known : (p : PlainPou) → pou_misnamed units p ≡ false → list_all (declared_known units (declared_in p.sections)) (declared_in p.sections) ≡ true
  pou_known p e =
      let own = declared_in p.sections in
      let both = list_all (declared_known units own) own && body_known units own p.body in
      (and_parts (list_all (declared_known units own) own) (body_known units own p.body) (not_false both (or_parts (repeats (declared_words own)) (not both) e).1)).0
    where
      not_false : (b : Bool) → not b ≡ false → b ≡ true
      not_false true e = refl
      not_false false e = absurd (cc)

  abbrev blocks : List PlainRoutine
  blocks = map (routine_of (block_names units)) ps

  one_there : (p : PlainPou) → pou_misnamed units p ≡ false → DeclaresThere blocks (routine_of (block_names units) p)
  one_there p e n declares =
      let below = declares_there p (pou_known p e) n declares in
      let many = length-map ps (routine_of (block_names units)) in
      omega (arith, below, many)

  all_there : (qs : List PlainPou) → All (λ p. pou_misnamed units p ≡ false) qs → All (DeclaresThere blocks) (map (routine_of (block_names units)) qs)
  all_there [] each = All-nil (DeclaresThere blocks)
  all_there (p ∷ qs) each =
      All-cons (DeclaresThere blocks) (routine_of (block_names units) p) (map (routine_of (block_names units)) qs) (one_there p (All-head (λ p. pou_misnamed units p ≡ false) p qs each)) (all_there qs (All-tail (λ p. pou_misnamed units p ≡ false) p qs each))

-- the source of well-formed units has the block types of all its instances
pub typed_types : (units : List PlainUnit) → AreTyped units → HasItsTypes (source_in units)
typed_types units typed =
    let e = typed.are_few.are_shallow.are_short.constant.are_apart.kinded.named.names in
    let pous = pous_of units in
    let each = each_pou (globals_misnamed units) (pou_misnamed units) 0 units (none_misnamed units e).1 in
    record {
      in_programs = all_there units (program_pous pous) (All-filter (λ p. not (is_block p.kind)) (λ p. pou_misnamed units p ≡ false) pous each);
      in_blocks = all_there units (block_pous pous) (All-filter (λ p. is_block p.kind) (λ p. pou_misnamed units p ≡ false) pous each);
    }
