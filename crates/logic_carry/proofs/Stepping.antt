-- One more of a list is listed.
use Rattle.std.proofs.Common.{◌≡◌, ◌≤◌, ◌<◌, ◌∙◌, ap, sym, refl, arith, ℕ, zero, suc, pos, ◌+◌, ◌+ℤ◌, List, [], ◌∷◌, ◌++◌, map, take, length, Option, Some, None, slice_get, append_assoc}
use Rattle.std.specs.Option.{option_map_or}
use Rattle.std.proofs.lemmas.Int.{ints}
use Rattle.std.proofs.lemmas.List.{take_all}
use Rattle.plant_types.specs.Words.{folded}
use Rattle.plant_types.specs.declared.values.Bounds.{Bounds}
use Rattle.plant_types.specs.declared.values.Kind.{Kind}
use Rattle.logic_source.specs.declared.logic.Local.{Local}
use Rattle.logic_source.specs.declared.logic.Row.{Row}
use Rattle.logic_source.specs.declared.logic.Instance.{Instance}
use Rattle.logic_source.specs.declared.logic.Variable.{Variable}
use Rattle.logic_source.specs.Source.{PlainRoutine}
use Rattle.logic_source.specs.Blocks.{levels}
use Rattle.plant_types.specs.Values.{Path}
use Rattle.logic_source.specs.Worlds.{index_word, path_of}
use Rattle.logic_source.specs.Layout.{ClockAt, elements_from, element_values, block_clocks, instance_clocks, clocks_rule, routine_clocks, program_clocks}
use Rattle.logic_source.specs.Ranges.{KindAt, kind_at, element_at, local_kinds, row_kinds, own_kinds, block_kinds, instance_kinds, kinds_rule, routine_kinds, program_kinds, global_kind_at}
use Rattle.logic_carry.specs.declared.words.Own.{Own}
use Rattle.logic_carry.specs.declared.words.OwnRow.{OwnRow}
use Rattle.logic_carry.specs.declared.words.NamedInstance.{NamedInstance}
use Rattle.logic_carry.specs.declared.lists.Program.{Program}
use Rattle.logic_carry.specs.declared.lists.ValueAt.{ValueAt}
use Rattle.logic_carry.specs.declared.lists.StandardAt.{StandardAt}
use Rattle.logic_carry.specs.Paths.{Grows, path_key, element_word, IsIndex, IsAt, IsPlace}
use Rattle.logic_carry.specs.Shapes.{AreOwn, IsMeasured, AreRows, IsPart, AreParts, ArePrograms, IsShape, as_local}
use Rattle.logic_carry.specs.Lists.{Lists}
use Rattle.logic_carry.proofs.Tables.{grows_on, grows_none, at_later}
use Rattle.logic_carry.proofs.Naming.{own_at, row_at, part_at, program_at, own_count, rows_count, parts_count, programs_count}
use Rattle.logic_carry.proofs.Listing.{lists_grown, list_value, path_below, local_kinds_next, row_kinds_next, instance_kinds_next, instance_clocks_next, program_kinds_next, program_clocks_next, element_kinds_more}

-- the kinds of an instance, and its standard blocks, so many levels deep
abbrev pub deep_kinds : List PlainRoutine → ℕ → ℕ → Path → List KindAt
deep_kinds blocks depth = levels (λ path. []) kinds_rule blocks depth

abbrev pub deep_clocks : List PlainRoutine → ℕ → ℕ → Path → List ClockAt
deep_clocks blocks depth = levels (λ path. []) clocks_rule blocks depth

module _ (words : List ℕ → Option ℕ) (start now new : ℕ → Option ℕ) (vs vs' : List ValueAt) (ss ss' : List StandardAt) (path below : ℕ) (q : Path) (n : ℕ) where
  pub own_step : (own : List Own) (locals : List Local) (o : Own) → AreOwn words own locals → slice_get own n ≡ Some o → IsAt words start path q → Lists words start now vs vs' ss ss' (local_kinds (take n locals) q) []
      → Grows now new → new (path_key path o.word) ≡ Some below → Lists words start new vs (vs' ++ record { path = below; kind = o.kind; bounds = None } ∷ []) ss ss' (local_kinds (take (n + 1) locals) q) []
  own_step own locals o are at at_q so_far grows key =
      let l = own_at words own locals n o are at in
      let v : ValueAt = record { path = below; kind = o.kind; bounds = None } in
      let here = path_below words start new path below q l.0.name o.word at_q l.2 (grows_on start now new so_far.grows grows) key in
      let one : List KindAt = kind_at (folded l.0.name ∷ q) l.0.kind ∷ [] in
      let more = list_value words new vs' ss' v (kind_at (folded l.0.name ∷ q) l.0.kind) here l.3 refl in
      lists_grown words start now new new vs vs' (vs' ++ v ∷ []) ss ss' ss' (local_kinds (take n locals) q) one (local_kinds (take (n + 1) locals) q) [] [] [] so_far grows more (local_kinds_next locals n l.0 q l.1) refl

  pub element_step : (k : Kind) (bounds : Bounds) (first word : ℕ) → IsIndex bounds.low first → word ≡ element_word (first + n) → first + n < 9223372036854775808 → IsAt words start path q → Lists words start now vs vs' ss ss' (map (element_at k bounds) (elements_from bounds.low n q)) []
      → Grows now new → new (path_key path word) ≡ Some below → Lists words start new vs (vs' ++ record { path = below; kind = k; bounds = Some bounds } ∷ []) ss ss' (map (element_at k bounds) (elements_from bounds.low (n + 1) q)) []
  element_step k bounds first word first_is word_is small at_q so_far grows key =
      let v : ValueAt = record { path = below; kind = k; bounds = Some bounds } in
      let e = element_at k bounds (index_word (bounds.low +ℤ pos n) ∷ q) in
      let here : IsPlace words new below e.path (Some bounds) = record {
        index = bounds.low +ℤ pos n;
        shift = first + n;
        shift_is = omega (arith, ints, first_is);
        array = q;
        path_is = refl;
        parent = path;
        array_at = at_later words words start new (grows_none words) (grows_on start now new so_far.grows grows) path q at_q;
        found = ap (λ (x : ℕ). new (path_key path x)) (sym word_is) ∙ key;
        small = small;
      } in
      let more = list_value words new vs' ss' v e here refl refl in
      lists_grown words start now new new vs vs' (vs' ++ v ∷ []) ss ss' ss' (map (element_at k bounds) (elements_from bounds.low n q)) (e ∷ []) (map (element_at k bounds) (elements_from bounds.low (n + 1) q)) [] [] [] so_far grows more (element_kinds_more k bounds n q) refl

  module _ (later : ℕ → Option ℕ) (vs'' : List ValueAt) (ss'' : List StandardAt) where
    pub row_step : (own : List OwnRow) (arrays : List Row) (o : OwnRow) → AreRows words own arrays → slice_get own n ≡ Some o → IsAt words start path q → Lists words start now vs vs' ss ss' (row_kinds (take n arrays) q) []
        → Grows now new → new (path_key path o.word) ≡ Some below
        → ((p : Path) → IsMeasured o → IsAt words new below p → Lists words new later vs' vs'' ss' ss'' (map (element_at o.kind o.bounds) (element_values o.bounds p)) [])
        → Lists words start later vs vs'' ss ss'' (row_kinds (take (n + 1) arrays) q) []
    row_step own arrays o are at at_q so_far grows key lists =
        let r = row_at words own arrays n o are at in
        let here = path_below words start new path below q r.0.name o.word at_q r.2.named (grows_on start now new so_far.grows grows) key in
        let p = folded r.0.name ∷ q in
        let more = lists p r.2.measured here in
        let same : map (element_at o.kind o.bounds) (element_values o.bounds p) ≡ map (element_at r.0.kind r.0.bounds) (element_values r.0.bounds p) = λ i. map (element_at (r.2.kind_is i) (r.2.bounds_are i)) (element_values (r.2.bounds_are i) p) in
        lists_grown words start now new later vs vs' vs'' ss ss' ss'' (row_kinds (take n arrays) q) (map (element_at o.kind o.bounds) (element_values o.bounds p)) (row_kinds (take (n + 1) arrays) q) [] [] [] so_far grows more
        (row_kinds_next arrays n r.0 q r.1 ∙ ap (λ ks. row_kinds (take n arrays) q ++ ks) (sym same)) refl

    pub part_step : (blocks : List PlainRoutine) (depth : ℕ) (r : PlainRoutine) (parts : List NamedInstance) (p : NamedInstance) → AreParts words parts r.instances → slice_get parts n ≡ Some p → IsAt words start path q
        → Lists words start now vs vs' ss ss' (own_kinds r q ++ instance_kinds (deep_kinds blocks depth) (take n r.instances) q) (instance_clocks (deep_clocks blocks depth) (take n r.instances) q)
        → ((i : Instance) → IsPart words p i → IsAt words now path q → Lists words now later vs' vs'' ss' ss'' (block_kinds (deep_kinds blocks depth) i.of (folded i.name ∷ q)) (block_clocks (deep_clocks blocks depth) i.of (folded i.name ∷ q)))
        → Lists words start later vs vs'' ss ss'' (own_kinds r q ++ instance_kinds (deep_kinds blocks depth) (take (n + 1) r.instances) q) (instance_clocks (deep_clocks blocks depth) (take (n + 1) r.instances) q)
    part_step blocks depth r parts p are at at_q so_far lists =
        let i = part_at words parts r.instances n p are at in
        let more = lists i.0 i.2 (at_later words words start now (grows_none words) so_far.grows path q at_q) in
        let inside = folded i.0.name ∷ q in
        let own = own_kinds r q in
        let before = instance_kinds (deep_kinds blocks depth) (take n r.instances) q in
        let cut = instance_clocks (deep_clocks blocks depth) (take n r.instances) q in
        let ks = block_kinds (deep_kinds blocks depth) i.0.of inside in
        let cs = block_clocks (deep_clocks blocks depth) i.0.of inside in
        let kinds : own ++ instance_kinds (deep_kinds blocks depth) (take (n + 1) r.instances) q ≡ (own ++ before) ++ ks =
        ap (λ xs. own ++ xs) (instance_kinds_next (deep_kinds blocks depth) r.instances n i.0 q i.1) ∙ sym (append_assoc own before ks) in
        let clocks : instance_clocks (deep_clocks blocks depth) (take (n + 1) r.instances) q ≡ cut ++ cs = instance_clocks_next (deep_clocks blocks depth) r.instances n i.0 q i.1 in
        lists_grown words start now now later vs vs' vs'' ss ss' ss'' (own ++ before) ks (own ++ instance_kinds (deep_kinds blocks depth) (take (n + 1) r.instances) q) cut cs (instance_clocks (deep_clocks blocks depth) (take (n + 1) r.instances) q) so_far (grows_none now) more kinds clocks

-- a program, at the path of its name
module _ (words : List ℕ → Option ℕ) (start now new later : ℕ → Option ℕ) (vs vs' vs'' : List ValueAt) (ss ss' ss'' : List StandardAt) (below n : ℕ) where
  pub program_step : (blocks routines : List PlainRoutine) (programs : List Program) (p : Program) → ArePrograms words programs routines → slice_get programs n ≡ Some p
      → Lists words start now vs vs' ss ss' (program_kinds blocks (take n routines)) (program_clocks blocks (take n routines))
      → Grows now new → new (path_key 0 p.word) ≡ Some below
      → ((r : PlainRoutine) (at : Path) → IsShape words p.shape r → IsAt words new below at → Lists words new later vs' vs'' ss' ss'' (kinds_rule (routine_kinds blocks) r at) (clocks_rule (routine_clocks blocks) r at))
      → Lists words start later vs vs'' ss ss'' (program_kinds blocks (take (n + 1) routines)) (program_clocks blocks (take (n + 1) routines))
  program_step blocks routines programs p are at so_far grows key lists =
      let r = program_at words programs routines n p are at in
      let top : IsAt words start 0 [] = refl in
      let here = path_below words start new 0 below [] r.0.name p.word top r.2 (grows_on start now new so_far.grows grows) key in
      let more = lists r.0 (folded r.0.name ∷ []) r.3 here in
      lists_grown words start now new later vs vs' vs'' ss ss' ss'' (program_kinds blocks (take n routines)) (kinds_rule (routine_kinds blocks) r.0 (folded r.0.name ∷ [])) (program_kinds blocks (take (n + 1) routines))
      (program_clocks blocks (take n routines)) (clocks_rule (routine_clocks blocks) r.0 (folded r.0.name ∷ [])) (program_clocks blocks (take (n + 1) routines)) so_far grows more
      (program_kinds_next blocks routines n r.0 r.1) (program_clocks_next blocks routines n r.0 r.1)

-- ---- all of a list
pub own_all : (words : List ℕ → Option ℕ) (own : List Own) (locals : List Local) (n : ℕ) → AreOwn words own locals → length own ≤ n → take n locals ≡ locals
own_all words own locals n are past = let count = own_count words own locals are in take_all n locals (omega (arith, count, past))

pub rows_all : (words : List ℕ → Option ℕ) (own : List OwnRow) (rows : List Row) (n : ℕ) → AreRows words own rows → length own ≤ n → take n rows ≡ rows
rows_all words own rows n are past = let count = rows_count words own rows are in take_all n rows (omega (arith, count, past))

pub parts_all : (words : List ℕ → Option ℕ) (parts : List NamedInstance) (is : List Instance) (n : ℕ) → AreParts words parts is → length parts ≤ n → take n is ≡ is
parts_all words parts is n are past = let count = parts_count words parts is are in take_all n is (omega (arith, count, past))

pub programs_all : (words : List ℕ → Option ℕ) (programs : List Program) (rs : List PlainRoutine) (n : ℕ) → ArePrograms words programs rs → length programs ≤ n → take n rs ≡ rs
programs_all words programs rs n are past = let count = programs_count words programs rs are in take_all n rs (omega (arith, count, past))

-- the kinds of global variables are those of variables at no path
pub globals_as_own : (globals : List Variable) → local_kinds (map as_local globals) [] ≡ map global_kind_at globals
globals_as_own [] = refl
globals_as_own (g ∷ gs) = ap (λ ks. kind_at (path_of g.name) g.kind ∷ ks) (globals_as_own gs)

-- ---- what a block type has, a level deeper
pub kinds_deeper : (blocks : List PlainRoutine) (depth n : ℕ) (r : PlainRoutine) (q : Path) → slice_get blocks n ≡ Some r → deep_kinds blocks (suc depth) n q ≡ kinds_rule (deep_kinds blocks depth) r q
kinds_deeper blocks depth n r q at = ap (λ o. option_map_or (kinds_rule (deep_kinds blocks depth)) o (λ path. []) q) at

pub clocks_deeper : (blocks : List PlainRoutine) (depth n : ℕ) (r : PlainRoutine) (q : Path) → slice_get blocks n ≡ Some r → deep_clocks blocks (suc depth) n q ≡ clocks_rule (deep_clocks blocks depth) r q
clocks_deeper blocks depth n r q at = ap (λ o. option_map_or (clocks_rule (deep_clocks blocks depth)) o (λ path. []) q) at

pub kinds_past : (blocks : List PlainRoutine) (depth n : ℕ) (q : Path) → slice_get blocks n ≡ None → deep_kinds blocks depth n q ≡ []
kinds_past blocks zero n q none = refl
kinds_past blocks (suc depth) n q none = ap (λ o. option_map_or (kinds_rule (deep_kinds blocks depth)) o (λ path. []) q) none

pub clocks_past : (blocks : List PlainRoutine) (depth n : ℕ) (q : Path) → slice_get blocks n ≡ None → deep_clocks blocks depth n q ≡ []
clocks_past blocks zero n q none = refl
clocks_past blocks (suc depth) n q none = ap (λ o. option_map_or (clocks_rule (deep_clocks blocks depth)) o (λ path. []) q) none

-- where no level is left nothing is listed
pub kinds_flat : (blocks : List PlainRoutine) (depth n : ℕ) (q : Path) → depth ≡ 0 → deep_kinds blocks depth n q ≡ []
kinds_flat blocks depth n q none = ap (λ d. deep_kinds blocks d n q) none

pub clocks_flat : (blocks : List PlainRoutine) (depth n : ℕ) (q : Path) → depth ≡ 0 → deep_clocks blocks depth n q ≡ []
clocks_flat blocks depth n q none = ap (λ d. deep_clocks blocks d n q) none

pub past_end : {A : Type 0} (xs : List A) (n : ℕ) → length xs ≤ n → slice_get xs n ≡ None
past_end [] n past = refl
past_end (x ∷ xs) zero past = absurd (omega (arith, past))
past_end (x ∷ xs) (suc n) past = past_end xs n (omega (arith, past))

-- levels by two numbers that are one
pub kinds_at_depth : (blocks : List PlainRoutine) (d e n : ℕ) (q : Path) → d ≡ e → deep_kinds blocks d n q ≡ deep_kinds blocks e n q
kinds_at_depth blocks d e n q same = ap (λ k. deep_kinds blocks k n q) same

pub clocks_at_depth : (blocks : List PlainRoutine) (d e n : ℕ) (q : Path) → d ≡ e → deep_clocks blocks d n q ≡ deep_clocks blocks e n q
clocks_at_depth blocks d e n q same = ap (λ k. deep_clocks blocks k n q) same
