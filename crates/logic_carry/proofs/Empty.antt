-- Block types that are marked have no values and no standard blocks.
use Rattle.std.proofs.Common.{◌≡◌, ◌∙◌, ap, sym, refl, arith, ℕ, zero, suc, Bool, true, false, List, [], ◌∷◌, ◌++◌, length, get_or, Option, Some, None, slice_get}
use Rattle.std.specs.Prelude.{◌==◌, ◌&&◌}
use Rattle.std.specs.List.{list_all}
use Rattle.std.proofs.lemmas.Bool.{and_parts}
use Rattle.std.proofs.lemmas.Bool.Decides.{nat_tests}
use Rattle.plant_types.specs.Words.{folded}
use Rattle.logic_source.specs.declared.logic.Local.{Local}
use Rattle.logic_source.specs.declared.logic.Row.{Row}
use Rattle.logic_source.specs.declared.logic.Instance.{Instance}
use Rattle.logic_source.specs.declared.logic.BlockRef.{BlockRef}
use Rattle.logic_source.specs.declared.logic.BlockRef.TheVariants.{Ton, Tof, RTrig, Declared}
use Rattle.logic_source.specs.Source.{PlainRoutine}
use Rattle.plant_types.specs.Values.{Path}
use Rattle.logic_source.specs.Layout.{ClockAt, block_clocks, instance_clocks, clocks_rule}
use Rattle.logic_source.specs.Ranges.{KindAt, local_kinds, row_kinds, block_kinds, instance_kinds, kinds_rule}
use Rattle.logic_carry.specs.declared.words.Own.{Own}
use Rattle.logic_carry.specs.declared.words.OwnRow.{OwnRow}
use Rattle.logic_carry.specs.declared.words.NamedInstance.{NamedInstance}
use Rattle.logic_carry.specs.declared.words.Shape.{Shape}
use Rattle.logic_carry.specs.declared.lists.TypeTable.{TypeTable}
use Rattle.logic_carry.specs.Marks.{is_marked, holds_nothing}
use Rattle.logic_carry.specs.Shapes.{AreOwn, AreRows, AreParts, IsShape, AreTable}
use Rattle.logic_carry.proofs.Naming.{shape_of, own_count, rows_count}
use Rattle.logic_carry.proofs.Stepping.{deep_kinds, deep_clocks, kinds_deeper, clocks_deeper, kinds_past, clocks_past}

none_long : {A : Type 0} (xs : List A) → length xs ≡ 0 → xs ≡ []
none_long [] none = refl
none_long (x ∷ xs) none = absurd (omega (arith, none))

is_none : {A : Type 0} (xs : List A) → (length xs == 0) ≡ true → length xs ≡ 0
is_none xs none = grind (arith, nat_tests)

own_none : (words : List ℕ → Option ℕ) (own : List Own) (locals : List Local) → AreOwn words own locals → length own ≡ 0 → locals ≡ []
own_none words own locals are none = let many = own_count words own locals are in none_long locals (omega (arith, many, none))

rows_none : (words : List ℕ → Option ℕ) (own : List OwnRow) (rows : List Row) → AreRows words own rows → length own ≡ 0 → rows ≡ []
rows_none words own rows are none = let many = rows_count words own rows are in none_long rows (omega (arith, many, none))

-- nothing is there at a path
abbrev pub Nothing : List KindAt → List ClockAt → Type 0
Nothing kinds clocks = (kinds ≡ []) × (clocks ≡ [])

module _ (words : List ℕ → Option ℕ) (marks : List Bool) (inner : ℕ → Path → List KindAt) (clocked : ℕ → Path → List ClockAt) (none : (n : ℕ) (q : Path) → get_or marks n false ≡ true → Nothing (inner n q) (clocked n q)) where
  pub block_none : (of : BlockRef) (q : Path) → is_marked marks of ≡ true → Nothing (block_kinds inner of q) (block_clocks clocked of q)
  block_none Ton q marked = absurd (cc)
  block_none Tof q marked = absurd (cc)
  block_none RTrig q marked = absurd (cc)
  block_none (Declared n) q marked = none n q marked

  parts_none : (ps : List NamedInstance) (is : List Instance) (q : Path) → AreParts words ps is → list_all (λ (p : NamedInstance). is_marked marks p.of) ps ≡ true → Nothing (instance_kinds inner is q) (instance_clocks clocked is q)
  parts_none [] [] q are all = (refl, refl)
  parts_none [] (i ∷ is) q are all = elim are [ ]
  parts_none (p ∷ ps) [] q are all = elim are [ ]
  parts_none (p ∷ ps) (i ∷ is) q are all =
      let both = and_parts (is_marked marks p.of) (list_all (λ (x : NamedInstance). is_marked marks x.of) ps) all in
      let first = block_none i.of (folded i.name ∷ q) (ap (is_marked marks) (sym are.0.of_is) ∙ both.0) in
      let rest = parts_none ps is q are.1 both.1 in
      ((λ k. first.0 k ++ rest.0 k), (λ k. first.1 k ++ rest.1 k))

  rule_none : (s : Shape) (r : PlainRoutine) (q : Path) → IsShape words s r → holds_nothing marks s ≡ true → Nothing (kinds_rule inner r q) (clocks_rule clocked r q)
  rule_none s r q is holds =
      let parts = list_all (λ (p : NamedInstance). is_marked marks p.of) s.parts.items in
      let a = and_parts ((length s.own.items == 0) && (length s.rows.items == 0)) parts holds in
      let b = and_parts (length s.own.items == 0) (length s.rows.items == 0) a.0 in
      let own = own_none words s.own.items r.locals is.own (is_none s.own.items b.0) in
      let rows = rows_none words s.rows.items r.rows is.rows (is_none s.rows.items b.1) in
      let inside = parts_none s.parts.items r.instances q is.parts a.1 in
      ((λ k. (local_kinds (own k) q ++ row_kinds (rows k) q) ++ inside.0 k), inside.1)

module _ (words : List ℕ → Option ℕ) (table : TypeTable) (blocks : List PlainRoutine) (are : AreTable words table blocks) where
  by_block : (d : ℕ) → ((m : ℕ) (p : Path) → get_or table.marks.items m false ≡ true → Nothing (deep_kinds blocks d m p) (deep_clocks blocks d m p)) → (n : ℕ) (q : Path) → get_or table.marks.items n false ≡ true → (o : Option PlainRoutine) → slice_get blocks n ≡ o → Nothing (deep_kinds blocks (suc d) n q) (deep_clocks blocks (suc d) n q)
  by_block d below n q marked None at = (kinds_past blocks (suc d) n q at, clocks_past blocks (suc d) n q at)
  by_block d below n q marked (Some r) at =
      let s = shape_of words table.blocks.items blocks n r are.blocks_are at in
      let holds = are.marked n s.0 marked s.1 in
      let none = rule_none words table.marks.items (deep_kinds blocks d) (deep_clocks blocks d) below s.0 r q s.2 holds in
      (kinds_deeper blocks d n r q at ∙ none.0, clocks_deeper blocks d n r q at ∙ none.1)

  pub type_none : (d n : ℕ) (q : Path) → get_or table.marks.items n false ≡ true → Nothing (deep_kinds blocks d n q) (deep_clocks blocks d n q)
  type_none zero n q marked = (refl, refl)
  type_none (suc d) n q marked = by_block d (type_none d) n q marked (slice_get blocks n) refl

  -- nor has an instance of one that is marked
  pub part_none : (d : ℕ) (of : BlockRef) (q : Path) → is_marked table.marks.items of ≡ true → Nothing (block_kinds (deep_kinds blocks d) of q) (block_clocks (deep_clocks blocks d) of q)
  part_none d of q marked = block_none words table.marks.items (deep_kinds blocks d) (deep_clocks blocks d) (type_none d) of q marked
