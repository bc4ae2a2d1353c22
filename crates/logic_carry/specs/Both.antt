-- Two sources by the same numbers of words and of paths.
use Rattle.std.specs.Prelude.{◌≡◌, ◌<◌, ℕ, ℤ, List, Option, map}
use Rattle.base_words.specs.Names.{find_name}
use Rattle.logic_source.specs.Source.{Source}
use Rattle.logic_source.specs.Worlds.{World, opening}
use Rattle.logic_source.specs.Layout.{IsDistinctlyNamed, cell_paths, all_clocks}
use Rattle.logic_source.specs.Ranges.{all_kinds}
use Rattle.logic_source.specs.Carried.{carried}
use Rattle.logic_cells.specs.declared.clock.Clock.{Clock}
use Rattle.logic_frames.specs.Stands.{clock_in}
use Rattle.logic_carry.specs.declared.both.SourceList.{SourceList}
use Rattle.logic_carry.specs.declared.both.Both.{Both}
use Rattle.logic_carry.specs.declared.lists.Listed.{Listed}
use Rattle.logic_carry.specs.Paths.{Grows, AreNumbered}
use Rattle.logic_carry.specs.Lists.{AreValues, AreStandards, numbers_in}

-- these are all values and all standard blocks of a source, by the numbers of their paths
pub record IsListing (words : List ℕ → Option ℕ) (numbers : ℕ → Option ℕ) (listing : SourceList) (source : Source) : Type 0 where
  pub values_are : AreValues words numbers listing.values.items (all_kinds source)
  pub standards_are : AreStandards words numbers listing.standards.items (all_clocks source)

-- a list has all values and all standard blocks of a source, by a table that goes on from an older one
pub record IsListed (words : List ℕ → Option ℕ) (older : ℕ → Option ℕ) (listed : Listed) (source : Source) : Type 0 where
  pub grows : Grows older (numbers_in listed)
  pub values_are : AreValues words (numbers_in listed) listed.values.items (all_kinds source)
  pub standards_are : AreStandards words (numbers_in listed) listed.standards.items (all_clocks source)

-- these are those of an old source and of a new one, and all numbers of paths are below one
pub record AreBoth (words : List ℕ → Option ℕ) (both : Both) (old new : Source) : Type 0 where
  pub numbers : ℕ → Option ℕ
  pub count : ℕ
  pub numbered : AreNumbered numbers count
  pub below : count < both.paths
  pub old_is : IsListing words numbers both.old old
  pub new_is : IsListing words numbers both.new new

-- the same by the numbers of words among names, of sources whose declared names are distinct
pub record ArePair (both : Both) (old new : Source) : Type 0 where
  pub names : List (List ℕ)
  pub are : AreBoth (find_name names) both old new
  pub old_named : IsDistinctlyNamed old
  pub new_named : IsDistinctlyNamed new

-- from the values of an old source's world, and those before the new one's first scan, those of the world that goes over are made
abbrev pub CarriesValues : Both → (before here after : List ℤ) → Type 0
CarriesValues both before here after = (old new : Source) (w : World) → ArePair both old new → before ≡ map w.values (cell_paths old) → here ≡ map (opening new).values (cell_paths new) → after ≡ map (carried old new w).values (cell_paths new)

-- the same of clocks
abbrev pub CarriesClocks : Both → (before here after : List Clock) → Type 0
CarriesClocks both before here after = (old new : Source) (w : World) → ArePair both old new → before ≡ map (clock_in w) (all_clocks old) → here ≡ map (clock_in (opening new)) (all_clocks new) → after ≡ map (clock_in (carried old new w)) (all_clocks new)
