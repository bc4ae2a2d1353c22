-- Where the instances of a routine lie, by a table of what is known of each block type.
use Rattle.std.specs.Prelude.{ℕ, ◌+◌, ◌<◌, ◌^◌, Bool, true, false, List, [], ◌∷◌, slice_get}
use Rattle.std.specs.List.{list_any}
use Rattle.std.specs.Option.{option_map_or}
use Rattle.logic_source.specs.declared.logic.Instance.{Instance}
use Rattle.logic_source.specs.declared.logic.BlockRef.{BlockRef}
use Rattle.logic_source.specs.declared.logic.BlockRef.TheVariants.{Ton, Tof, RTrig, Declared}
use Rattle.logic_cells.specs.declared.clock.Standard.TheVariants as standard
use Rattle.logic_walk.specs.declared.frame.SeatOf.{SeatOf}
use Rattle.logic_walk.specs.declared.frame.SeatOf.TheVariants as seat_of
use Rattle.logic_walk.specs.declared.frame.Seat.{Seat}
use Rattle.logic_seats.specs.declared.seats.Extent.{Extent}
use Rattle.logic_seats.specs.declared.seats.Callee.{Callee}

-- so many values, clocks and path numbers
abbrev pub extent : (values clocks paths : ℕ) → Extent
extent values clocks paths = record { values = values; clocks = clocks; paths = paths }

-- each number fits the type that it is kept in
pub record Fits (e : Extent) : Type 0 where
  pub values : e.values < 2 ^ 64
  pub clocks : e.clocks < 2 ^ 64
  pub paths : e.paths < 2 ^ 32

abbrev pub plus : Extent → Extent → Extent
plus a b = extent (a.values + b.values) (a.clocks + b.clocks) (a.paths + b.paths)

-- what an instance has, by a table; nothing past its end
abbrev pub extent_by : List Callee → BlockRef → Extent
extent_by table Ton = extent 2 1 0
extent_by table Tof = extent 2 1 0
extent_by table RTrig = extent 1 1 0
extent_by table (Declared n) = option_map_or (λ (p : Callee). p.extent) (slice_get table n) (extent 0 0 0)

-- what the seat of an instance is of, by a table
abbrev pub seated_by : List Callee → BlockRef → SeatOf
seated_by table Ton = seat_of.Standard standard.Ton
seated_by table Tof = seat_of.Standard standard.Tof
seated_by table RTrig = seat_of.Standard standard.RTrig
seated_by table (Declared n) = seat_of.Frame (option_map_or (λ (p : Callee). p.place) (slice_get table n) 0)

-- what an instance adds to its routine: path numbers only if the routine calls it
abbrev pub extent_called : (is_called : Bool) → Extent → Extent
extent_called true e = e
extent_called false e = extent e.values e.clocks 0

-- whether an instance has initial values below it, by a table
abbrev pub starts_by : List Callee → BlockRef → Bool
starts_by table Ton = false
starts_by table Tof = false
starts_by table RTrig = false
starts_by table (Declared n) = option_map_or (λ (p : Callee). p.has_starts) (slice_get table n) false

-- one of the instances has
abbrev pub any_starts : List Callee → List Instance → Bool
any_starts table is = list_any (λ (i : Instance). starts_by table i.of) is

-- the seat of an instance at an extent
abbrev pub seat_by : List Callee → (is_called : Bool) → Extent → Instance → Seat
seat_by table is_called at i = record { name = i.name; of = seated_by table i.of; values = at.values; clocks = at.clocks; paths = at.paths; is_called = is_called }

-- the seats of instances, from where the first begins, by the names that are called, and where the last ends
abbrev pub seats_by : List Callee → (List ℕ → Bool) → Extent → List Instance → List Seat
seats_by table called at [] = []
seats_by table called at (i ∷ is) = seat_by table (called i.name) at i ∷ seats_by table called (plus at (extent_called (called i.name) (extent_by table i.of))) is

abbrev pub ends_by : List Callee → (List ℕ → Bool) → Extent → List Instance → Extent
ends_by table called at [] = at
ends_by table called at (i ∷ is) = ends_by table called (plus at (extent_called (called i.name) (extent_by table i.of))) is
