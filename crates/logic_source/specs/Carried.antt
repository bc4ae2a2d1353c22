-- What goes over from one source to another when a plant is changed while it runs.
use Rattle.std.specs.Prelude.{Bool, true, false, ◌&&◌, if◌then◌else◌, List, Option, Some, None, option_map}
use Rattle.plant_types.specs.declared.values.Bounds.{Bounds}
use Rattle.st_tree.specs.Kinds.{same_kind}
use Rattle.st_typing.specs.First.{first_that}
use Rattle.logic_source.specs.declared.logic.BlockRef.{BlockRef}
use Rattle.logic_source.specs.declared.logic.BlockRef.TheVariants.{Ton, Tof, RTrig}
use Rattle.logic_source.specs.Source.{Source}
use Rattle.logic_source.specs.Names.{same_bounds}
use Rattle.plant_types.specs.Values.{Path}
use Rattle.logic_source.specs.Worlds.{World, same_path, opening}
use Rattle.logic_source.specs.Layout.{ClockAt, all_clocks}
use Rattle.logic_source.specs.Ranges.{KindAt, all_kinds}

-- two instances are of the same standard block
abbrev pub same_standard : BlockRef → BlockRef → Bool
same_standard Ton Ton = true
same_standard Tof Tof = true
same_standard RTrig RTrig = true
same_standard _ _ = false

-- two are there, and are the same by a test
abbrev pub both_same : {A : Type 0} → (A → A → Bool) → Option A → Option A → Bool
both_same same (Some a) (Some b) = same a b
both_same same _ _ = false

-- two values are elements of arrays with the same bounds, or both are none
abbrev pub same_array : Option Bounds → Option Bounds → Bool
same_array None None = true
same_array None (Some b) = false
same_array (Some a) None = false
same_array (Some a) (Some b) = same_bounds a b

-- two values are of one kind, and if they are elements, their arrays have the same bounds
abbrev pub same_value : KindAt → KindAt → Bool
same_value a b = same_kind a.kind b.kind && same_array a.bounds b.bounds

-- the value of a path among these, as which it is declared: the first, where several have it
abbrev pub value_by_path : List KindAt → Path → Option KindAt
value_by_path kinds path = first_that (λ (v : KindAt). same_path v.path path) kinds

-- which standard block is at a path among these: the first, where several are
abbrev pub block_by_path : List ClockAt → Path → Option BlockRef
block_by_path clocks path = option_map (λ (c : ClockAt). c.of) (first_that (λ (c : ClockAt). same_path c.path path) clocks)

-- the value of a path goes over: both sources have one there, of equal kind, and an element's array has equal bounds; the inputs of standard blocks count too
abbrev pub keeps_value : Source → Source → Path → Bool
keeps_value old new path = both_same same_value (value_by_path (all_kinds old) path) (value_by_path (all_kinds new) path)

-- the calls of the standard block at a path go over: both sources have one there, the same
abbrev pub keeps_calls : Source → Source → Path → Bool
keeps_calls old new path = both_same same_standard (block_by_path (all_clocks old) path) (block_by_path (all_clocks new) path)

-- the world of the new source after a change, by that of the old one: variables of equal path and kind keep their values, an array's elements if its bounds are equal too, and standard blocks of equal path and type their calls; all else begins as before the new source's first scan
abbrev pub carried : Source → Source → World → World
carried old new w = record {
  values = λ path. if keeps_value old new path then w.values path else (opening new).values path;
  calls = λ path. if keeps_calls old new path then w.calls path else (opening new).calls path;
}
