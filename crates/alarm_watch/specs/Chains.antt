-- Chains of alarms by global: each links to the one before it that has the same global. A link is one more than the alarm's number, and 0 for none.
use Rattle.std.specs.Prelude.{◌≡◌, ℕ, ◌+◌, ◌<◌, ◌≤◌, ℤ, Bool, false, Option, Some, None, List, length, map, slice_get, slice_index, slice_index_or}
use Rattle.alarm_watch.specs.declared.watched.Watch.{Watch}

-- each link goes to an earlier alarm
abbrev pub GoesDown : List ℕ → Type 0
GoesDown next = (e : ℕ) → e < length next → slice_index next e ≤ e

-- each chain begins at an alarm that is there
abbrev pub HaveTops : List ℕ → List ℕ → Type 0
HaveTops first next = (g : ℕ) → slice_index first g ≤ length next

-- an alarm has a global
abbrev pub HasKey : List (Option ℕ) → ℕ → ℕ → Type 0
HasKey keys n g = slice_index_or keys n None ≡ Some g

-- a global's chain begins at the last of its alarms, and each alarm links to the one before it that has the same global
pub record AreChains (keys : List (Option ℕ)) (first next : List ℕ) : Type 0 where
  pub size : length next ≡ length keys
  pub down : GoesDown next
  pub tops : HaveTops first next
  pub last : (g n : ℕ) → HasKey keys n g → n < slice_index first g
  pub begins : (g e : ℕ) → slice_index first g ≡ e + 1 → HasKey keys e g
  pub before : (g e n : ℕ) → HasKey keys e g → HasKey keys n g → n < e → n < slice_index next e
  pub links : (g e d : ℕ) → HasKey keys e g → slice_index next e ≡ d + 1 → HasKey keys d g

-- where the alarms of each global stand in a list of alarms, of which there are so many: from its start up to that of the next
pub record AreRanges (count : ℕ) (starts alarms : List ℕ) : Type 0 where
  pub rises : (g : ℕ) → g + 1 < length starts → slice_index starts g ≤ slice_index starts (g + 1)
  pub within : (g : ℕ) → g < length starts → slice_index starts g ≤ length alarms
  pub numbers : (p : ℕ) → p < length alarms → slice_index alarms p < count

-- a list of alarms begins as another one did, and the others are alarms too
pub record IsLonger (count : ℕ) (old new : List ℕ) : Type 0 where
  pub longer : length old ≤ length new
  pub front : (p : ℕ) → p < length old → slice_index new p ≡ slice_index old p
  pub numbers : (p : ℕ) → length old ≤ p → p < length new → slice_index new p < count

-- an alarm stands among those of a range
pub record StandsIn (alarms : List ℕ) (from end n : ℕ) : Type 0 where
  pub place : ℕ
  pub low : from ≤ place
  pub high : place < end
  pub is : slice_index alarms place ≡ n

-- each alarm that has a global stands in its range
pub record HaveRanges (keys : List (Option ℕ)) (starts alarms : List ℕ) : Type 0 where
  pub there : (g n : ℕ) → HasKey keys n g → g + 1 < length starts
  pub stand : (g n : ℕ) → HasKey keys n g → StandsIn alarms (slice_index starts g) (slice_index starts (g + 1)) n

-- an alarm that isn't marked has a global whose value is what it was
abbrev pub ChangesAreMarked : List (Option ℕ) → (ℕ → ℤ) → (ℕ → ℤ) → List Bool → Type 0
ChangesAreMarked keys before now marks = (n g : ℕ) → HasKey keys n g → slice_get marks n ≡ Some false → before g ≡ now g

-- the same of the globals from one up to before another
abbrev pub ChangesOfAreMarked : ℕ → ℕ → List (Option ℕ) → (ℕ → ℤ) → (ℕ → ℤ) → List Bool → Type 0
ChangesOfAreMarked from end keys before now marks = (n g : ℕ) → from ≤ g → g < end → HasKey keys n g → slice_get marks n ≡ Some false → before g ≡ now g

-- the globals of alarms' conditions
abbrev pub condition_keys : List Watch → List (Option ℕ)
condition_keys watches = map (λ watch. Some watch.condition) watches

-- the globals that suppress alarms, if they have one
abbrev pub suppress_keys : List Watch → List (Option ℕ)
suppress_keys watches = map (λ watch. watch.suppress) watches

-- the ranges by condition and by suppression are those of what alarms watch
pub record IsIndex (watches : List Watch) (condition_starts condition_alarms suppress_starts suppress_alarms : List ℕ) : Type 0 where
  pub few : length watches < 4294967296
  pub condition_ranges : AreRanges (length watches) condition_starts condition_alarms
  pub conditions : HaveRanges (condition_keys watches) condition_starts condition_alarms
  pub suppress_ranges : AreRanges (length watches) suppress_starts suppress_alarms
  pub suppressions : HaveRanges (suppress_keys watches) suppress_starts suppress_alarms
