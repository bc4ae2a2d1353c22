-- Shapes with their routines, one after another.
use Rattle.std.proofs.Common.{◌≡◌, sym, subst, ℕ, ◌+◌, List, [], ◌∷◌, ◌++◌, map, take, Option, Some, slice_get}
use Rattle.logic_source.specs.Source.{PlainRoutine, Source}
use Rattle.logic_carry.specs.declared.words.Shape.{Shape}
use Rattle.logic_carry.specs.declared.lists.Program.{Program}
use Rattle.logic_carry.specs.declared.lists.SourceShape.{SourceShape}
use Rattle.logic_carry.specs.declared.lists.TypeTable.{TypeTable}
use Rattle.logic_carry.specs.Paths.{Grows}
use Rattle.logic_carry.specs.Shapes.{IsNumbered, IsShape, AreShapes, ArePrograms, AreTable, IsSourceShape, as_local, timer_inputs, trigger_inputs}
use Rattle.logic_carry.proofs.Naming.{take_next, number_later, own_later, rows_later, parts_later}

module _ (words later : List ℕ → Option ℕ) (grows : Grows words later) where
  pub shape_later : (s : Shape) (r : PlainRoutine) → IsShape words s r → IsShape later s r
  shape_later s r is = record { own = own_later words later grows s.own.items r.locals is.own; rows = rows_later words later grows s.rows.items r.rows is.rows; parts = parts_later words later grows s.parts.items r.instances is.parts }

  pub shapes_later : (ss : List Shape) (rs : List PlainRoutine) → AreShapes words ss rs → AreShapes later ss rs
  shapes_later [] [] are = tt
  shapes_later [] (r ∷ rs) are = elim are [ ]
  shapes_later (s ∷ ss) [] are = elim are [ ]
  shapes_later (s ∷ ss) (r ∷ rs) are = (shape_later s r are.0, shapes_later ss rs are.1)

  pub programs_later : (ps : List Program) (rs : List PlainRoutine) → ArePrograms words ps rs → ArePrograms later ps rs
  programs_later [] [] are = tt
  programs_later [] (r ∷ rs) are = elim are [ ]
  programs_later (p ∷ ps) [] are = elim are [ ]
  programs_later (p ∷ ps) (r ∷ rs) are = (number_later words later grows r.name p.word are.0, shape_later p.shape r are.1, programs_later ps rs are.2)

  pub table_later : (table : TypeTable) (blocks : List PlainRoutine) → AreTable words table blocks → AreTable later table blocks
  table_later table blocks are = record {
    blocks_are = shapes_later table.blocks.items blocks are.blocks_are;
    marked = are.marked;
    timer_is = own_later words later grows table.timer.items timer_inputs are.timer_is;
    trigger_is = own_later words later grows table.trigger.items trigger_inputs are.trigger_is;
  }

  pub source_later : (shape : SourceShape) (source : Source) → IsSourceShape words shape source → IsSourceShape later shape source
  source_later shape source is = record {
    globals = own_later words later grows shape.globals.items (map as_local source.globals) is.globals;
    rows = rows_later words later grows shape.rows.items source.rows is.rows;
    programs = programs_later shape.programs.items source.programs is.programs;
    table = table_later shape.table source.blocks is.table;
  }

module _ (words : List ℕ → Option ℕ) where
  shapes_with : (ss : List Shape) (rs : List PlainRoutine) (s : Shape) (r : PlainRoutine) → AreShapes words ss rs → IsShape words s r → AreShapes words (ss ++ s ∷ []) (rs ++ r ∷ [])
  shapes_with [] [] s r are is = (is, tt)
  shapes_with [] (x ∷ xs) s r are is = elim are [ ]
  shapes_with (y ∷ ys) [] s r are is = elim are [ ]
  shapes_with (y ∷ ys) (x ∷ xs) s r are is = (are.0, shapes_with ys xs s r are.1 is)

  programs_with : (ps : List Program) (rs : List PlainRoutine) (p : Program) (r : PlainRoutine) → ArePrograms words ps rs → IsNumbered words r.name p.word → IsShape words p.shape r → ArePrograms words (ps ++ p ∷ []) (rs ++ r ∷ [])
  programs_with [] [] p r are named is = (named, is, tt)
  programs_with [] (x ∷ xs) p r are named is = elim are [ ]
  programs_with (y ∷ ys) [] p r are named is = elim are [ ]
  programs_with (y ∷ ys) (x ∷ xs) p r are named is = (are.0, are.1, programs_with ys xs p r are.2 named is)

module _ (words later : List ℕ → Option ℕ) (grows : Grows words later) where
  pub shapes_next : (ss : List Shape) (rs : List PlainRoutine) (n : ℕ) (s : Shape) (r : PlainRoutine) → AreShapes words ss (take n rs) → slice_get rs n ≡ Some r → IsShape later s r → AreShapes later (ss ++ s ∷ []) (take (n + 1) rs)
  shapes_next ss rs n s r are at is = subst (AreShapes later (ss ++ s ∷ [])) (sym (take_next rs n r at)) (shapes_with later ss (take n rs) s r (shapes_later words later grows ss (take n rs) are) is)

  pub programs_next : (ps : List Program) (rs : List PlainRoutine) (n : ℕ) (p : Program) (r : PlainRoutine) → ArePrograms words ps (take n rs) → slice_get rs n ≡ Some r → IsNumbered later r.name p.word → IsShape later p.shape r → ArePrograms later (ps ++ p ∷ []) (take (n + 1) rs)
  programs_next ps rs n p r are at named is = subst (ArePrograms later (ps ++ p ∷ [])) (sym (take_next rs n r at)) (programs_with later ps (take n rs) p r (programs_later words later grows ps (take n rs) are) named is)
