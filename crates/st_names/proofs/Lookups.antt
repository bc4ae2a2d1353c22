-- What a name stands for among entries, and among the declarations that they were made of.
use Rattle.std.proofs.Common.{◌≡◌, ◌∙◌, ap, sym, refl, ℕ, Bool, true, false, List, [], ◌∷◌, ◌++◌, map, Option, Some, None, inl, inr}
use Rattle.std.proofs.lemmas.Bool.{cases_Bool, or_parts}
use Rattle.std.specs.Prelude.{◌||◌, is_some, option_map, option_and_then, if◌then◌else◌, codes}
use Rattle.std.specs.Str.{bytes_eq}
use Rattle.std.specs.Cmp.Lexicographic.{bytes_decides}
use Rattle.plant_types.specs.Words.{folded, same_word}
use Rattle.st_parser.specs.Units.{PlainPou, PlainUnit}
use Rattle.st_names.specs.First.{first_that}
use Rattle.st_names.specs.DeclaredNames.{PlainDeclared, find_declared}
use Rattle.st_names.specs.Shared.{Shared, global, pou, shared_name, shared_in, find_shared, as_global, as_block, is_block, global_named, block_named}
use Rattle.st_names.specs.BlockTypes.{BlockType, block_type, declared_block, ton, tof, r_trig, inputs_of, outputs_of, Member, find_member, members_in, is_input_section, is_output_section}
use Rattle.st_names.specs.Scopes.{or_other}
use Rattle.st_names.specs.Taken.{is_standard}
use Rattle.st_names.specs.Tables.{value_of, with_entry, with_entries}
use Rattle.st_names.specs.Kept.{members_of, member_entry, named_of, shared_entry, shared_entries, own_entry, own_entries}
use Rattle.st_names.specs.declared.named.Members.{Members}
use Rattle.st_names.specs.declared.named.Named.{Named}
use Rattle.st_names.specs.declared.named.Named.TheVariants as named
use Rattle.st_names.proofs.Entries.{same_turned}

or_none : {T : Type 0} (o : Option T) → or_other o None ≡ o
or_none (Some x) = refl
or_none None = refl

or_there : {T : Type 0} (o p : Option T) → is_some o ≡ true → or_other o p ≡ o
or_there (Some x) p is = refl
or_there None p is = absurd (cc)

or_next : {T : Type 0} (o p : Option T) (b : Bool) (x : T) → or_other (or_other o (if b then Some x else None)) p ≡ or_other o (if b then Some x else p)
or_next (Some y) p b x = refl
or_next None p true x = refl
or_next None p false x = refl

module _ {T : Type 0} where
  value_same : (es : List (List ℕ × T)) (a b : List ℕ) → folded a ≡ folded b → value_of es a ≡ value_of es b
  value_same [] a b e = refl
  value_same (k ∷ ks) a b e = λ i. if bytes_eq (e i) (folded k.0) then Some k.1 else value_same ks a b e i

  value_append : (ks : List (List ℕ × T)) (e : List ℕ × T) (name : List ℕ) → value_of (ks ++ e ∷ []) name ≡ or_other (value_of ks name) (if same_word name e.0 then Some e.1 else None)
  value_append [] e name = refl
  value_append (k ∷ ks) e name =
      elim (cases_Bool (same_word name k.0)) [
        | inl is ↦ rw is refl
        | inr not_is ↦ rw not_is (value_append ks e name)
      ]

  value_with : (ks : List (List ℕ × T)) (e : List ℕ × T) (name : List ℕ) → value_of (with_entry ks e) name ≡ or_other (value_of ks name) (if same_word name e.0 then Some e.1 else None)
  value_with ks e name =
      elim (cases_Bool (is_some (value_of ks e.0))) [
        | inl there ↦ rw there
            (elim (cases_Bool (same_word name e.0)) [
              | inl same ↦ let at = value_same ks name e.0 ((bytes_decides (folded name) (folded e.0)).0 same) in sym (or_there (value_of ks name) (if same_word name e.0 then Some e.1 else None) (ap is_some at ∙ there))
              | inr other ↦ rw other (sym (or_none (value_of ks name)))
            ])
        | inr absent ↦ rw absent (value_append ks e name)
      ]

  -- entries that are added one after another keep the first value of each name
  pub value_entries : (ks es : List (List ℕ × T)) (name : List ℕ) → value_of (with_entries ks es) name ≡ or_other (value_of ks name) (value_of es name)
  value_entries ks [] name = sym (or_none (value_of ks name))
  value_entries ks (e ∷ es) name =
      value_entries (with_entry ks e) es name ∙ ap (λ o. or_other o (value_of es name)) (value_with ks e name) ∙ or_next (value_of ks name) (value_of es name) (same_word name e.0) e.1

  value_map : {A : Type 0} (key : A → List ℕ) (value : A → T) (xs : List A) (name : List ℕ) → value_of (map (λ x. (key x, value x)) xs) name ≡ option_map value (first_that (λ x. same_word (key x) name) xs)
  value_map key value [] name = refl
  value_map key value (x ∷ xs) name =
      elim (cases_Bool (same_word (key x) name)) [
        | inl is ↦ rw (same_turned name (key x), is) refl
        | inr not_is ↦ rw (same_turned name (key x), not_is) (value_map key value xs name)
      ]

shared_found : (units : List PlainUnit) (name : List ℕ) → value_of (shared_entries units) name ≡ option_map named_of (find_shared units name)
shared_found units name = value_entries [] (map shared_entry (shared_in units)) name ∙ value_map shared_name named_of (shared_in units) name

itself : {T : Type 0} (o : Option T) → option_map (λ x. x) o ≡ o
itself (Some x) = refl
itself None = refl

pub own_found : (ds : List PlainDeclared) (name : List ℕ) → value_of (own_entries ds) name ≡ find_declared ds name
own_found ds name = value_entries [] (map own_entry ds) name ∙ value_map (λ d. d.name) (λ d. d) ds name ∙ itself (find_declared ds name)

pub member_found : (ms : List Member) (name : List ℕ) → value_of (with_entries [] (map member_entry ms)) name ≡ option_map (λ m. m.kind) (find_member ms name)
member_found ms name = value_entries [] (map member_entry ms) name ∙ value_map (λ m. m.name) (λ m. m.kind) ms name

abbrev pub global_in : Option Named → Option PlainDeclared
global_in None = None
global_in (Some (named.Global d)) = Some d
global_in (Some (named.Block m)) = None
global_in (Some named.Program) = None

abbrev pub block_in : Option Named → Option Members
block_in None = None
block_in (Some (named.Global d)) = None
block_in (Some (named.Block m)) = Some m
block_in (Some named.Program) = None

global_kept : (s : Option Shared) → global_in (option_map named_of s) ≡ as_global s
global_kept None = refl
global_kept (Some (global d)) = refl
global_kept (Some (pou p)) =
    elim (cases_Bool (is_block p.kind)) [
      | inl is ↦ rw is refl
      | inr not_is ↦ rw not_is refl
    ]

block_kept : (s : Option Shared) → block_in (option_map named_of s) ≡ option_map members_of (as_block s)
block_kept None = refl
block_kept (Some (global d)) = refl
block_kept (Some (pou p)) =
    elim (cases_Bool (is_block p.kind)) [
      | inl is ↦ rw is refl
      | inr not_is ↦ rw not_is refl
    ]

pub global_found : (units : List PlainUnit) (name : List ℕ) (n : Option Named) → n ≡ value_of (shared_entries units) name → global_in n ≡ global_named units name
global_found units name n is = ap global_in (is ∙ shared_found units name) ∙ global_kept (find_shared units name)

pub block_found : (units : List PlainUnit) (name : List ℕ) (n : Option Named) → n ≡ value_of (shared_entries units) name → block_in n ≡ option_map members_of (block_named units name)
block_found units name n is = ap block_in (is ∙ shared_found units name) ∙ block_kept (find_shared units name)

kept_some : {A B : Type 0} (f : A → B) (o : Option A) → is_some (option_map f o) ≡ is_some o
kept_some f (Some x) = refl
kept_some f None = refl

-- a word is a block type's where it is a standard block's, or a function block's
pub is_type : (units : List PlainUnit) (word : List ℕ) → (is_standard word || is_some (option_map members_of (block_named units word))) ≡ is_some (block_type units word)
is_type units word =
    elim (cases_Bool (same_word word (codes "TON"))) [
      | inl is ↦ rw is refl
      | inr not_ton ↦ rw not_ton
          (elim (cases_Bool (same_word word (codes "TOF"))) [
            | inl is ↦ rw is refl
            | inr not_tof ↦ rw not_tof
                (elim (cases_Bool (same_word word (codes "R_TRIG"))) [
                  | inl is ↦ rw is refl
                  | inr not_trig ↦ rw not_trig (kept_some members_of (block_named units word) ∙ sym (kept_some declared_block (block_named units word)))
                ])
          ])
    ]

module _ (units : List PlainUnit) (word : List ℕ) where
  -- the members of a timer are those of TON
  pub timer_type : {X : Type 0} (f : BlockType → X) → f ton ≡ f tof → (same_word word (codes "TON") || same_word word (codes "TOF")) ≡ true → option_map f (block_type units word) ≡ Some (f ton)
  timer_type f alike is =
      elim (cases_Bool (same_word word (codes "TON"))) [
        | inl so ↦ rw so refl
        | inr not_so ↦ let so = rw not_so at is in rw (not_so, so) (ap Some (sym alike))
      ]

  pub trigger_type : (same_word word (codes "TON") || same_word word (codes "TOF")) ≡ false → same_word word (codes "R_TRIG") ≡ true → block_type units word ≡ Some r_trig
  trigger_type not_timer is = let parts = or_parts (same_word word (codes "TON")) (same_word word (codes "TOF")) not_timer in rw (parts.0, parts.1, is) refl

  pub other_type : (same_word word (codes "TON") || same_word word (codes "TOF")) ≡ false → same_word word (codes "R_TRIG") ≡ false → block_type units word ≡ option_map declared_block (block_named units word)
  other_type not_timer is = let parts = or_parts (same_word word (codes "TON")) (same_word word (codes "TOF")) not_timer in rw (parts.0, parts.1, is) refl

module _ (m : Members) (name : List ℕ) where
  input_of_block : (o : Option PlainPou) → Some m ≡ option_map members_of o → value_of m.inputs name ≡ option_map (λ n. n.kind) (option_and_then (λ t. find_member (inputs_of t) name) (option_map declared_block o))
  input_of_block None e = absurd (cc)
  input_of_block (Some p) e = let is : m ≡ members_of p = cc in ap (λ (x : Members). value_of x.inputs name) is ∙ member_found (members_in is_input_section p) name

  output_of_block : (o : Option PlainPou) → Some m ≡ option_map members_of o → value_of m.outputs name ≡ option_map (λ n. n.kind) (option_and_then (λ t. find_member (outputs_of t) name) (option_map declared_block o))
  output_of_block None e = absurd (cc)
  output_of_block (Some p) e = let is : m ≡ members_of p = cc in ap (λ (x : Members). value_of x.outputs name) is ∙ member_found (members_in is_output_section p) name

  -- the input of a function block's instance
  pub input_kept : (units : List PlainUnit) (word : List ℕ) → (same_word word (codes "TON") || same_word word (codes "TOF")) ≡ false → same_word word (codes "R_TRIG") ≡ false → Some m ≡ option_map members_of (block_named units word)
      → value_of m.inputs name ≡ option_map (λ n. n.kind) (option_and_then (λ t. find_member (inputs_of t) name) (block_type units word))
  input_kept units word no_timer no_trigger is =
      input_of_block (block_named units word) is ∙ ap (λ o. option_map (λ n. n.kind) (option_and_then (λ t. find_member (inputs_of t) name) o)) (sym (other_type units word no_timer no_trigger))

  -- and its output
  pub output_kept : (units : List PlainUnit) (word : List ℕ) → (same_word word (codes "TON") || same_word word (codes "TOF")) ≡ false → same_word word (codes "R_TRIG") ≡ false → Some m ≡ option_map members_of (block_named units word)
      → value_of m.outputs name ≡ option_map (λ n. n.kind) (option_and_then (λ t. find_member (outputs_of t) name) (block_type units word))
  output_kept units word no_timer no_trigger is =
      output_of_block (block_named units word) is ∙ ap (λ o. option_map (λ n. n.kind) (option_and_then (λ t. find_member (outputs_of t) name) o)) (sym (other_type units word no_timer no_trigger))
