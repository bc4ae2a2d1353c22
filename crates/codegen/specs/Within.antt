-- Whether what a frame names, and what its code names, is among given values and clocks.
use Rattle.std.specs.Prelude.{◌≡◌, ◌<◌, ◌≤◌, ℕ, ◌+◌, Bool, true, nat_lt, ◌&&◌, if◌then◌else◌, List, [], ◌∷◌, length, Option, Some, None, slice_get}
use Rattle.std.specs.List.{list_all}
use Rattle.plant_types.specs.declared.values.Bounds.{Bounds}
use Rattle.st_tree.specs.View.{view_body}
use Rattle.st_tree.specs.Mapping.{Known, body_known}
use Rattle.logic_cells.specs.declared.clock.Standard.{Standard}
use Rattle.logic_cells.specs.declared.clock.Standard.TheVariants as standard
use Rattle.logic_walk.specs.declared.frame.SeatOf.{SeatOf}
use Rattle.logic_walk.specs.declared.frame.SeatOf.TheVariants as seat_of
use Rattle.logic_walk.specs.declared.frame.Seat.{Seat}
use Rattle.logic_walk.specs.declared.frame.Base.{Base}
use Rattle.logic_walk.specs.declared.frame.Frame.{Frame}
use Rattle.logic_walk.specs.Frames.{of_first}
use Rattle.logic_walk.specs.Walks.{slot_of, member_slot, base_of}
use Rattle.acc_vm.specs.Operands.{row_slots}
use Rattle.acc_vm.specs.Codes.{PlainCode}
use Rattle.vm_slices.specs.Slots.{Names, NamesClock}

-- each element of an array is there, by a test of values and the slot of the first one
abbrev pub has_row : (has_value : ℕ → Bool) → ℕ → Bounds → Bool
has_row has_value first bounds = list_all has_value (row_slots bounds (first ∷ []))

-- by tests that tell which values and which clocks there are
module _ (has_value has_clock : ℕ → Bool) where
  -- an input of an instance is there
  abbrev pub has_input : Option Seat → Base → ℕ → Bool
  has_input None base name = true
  has_input (Some seat) base name = has_value (member_slot base seat name)

  -- an output is: the clock of a standard block, or a value of a frame's instance
  abbrev pub has_shown : SeatOf → Base → Seat → ℕ → Bool
  has_shown (seat_of.Standard of) base seat name = has_clock (base.clocks + seat.clocks)
  has_shown (seat_of.Frame k) base seat name = has_value (member_slot base seat name)

  abbrev pub has_output : Option Seat → Base → ℕ → Bool
  has_output None base name = true
  has_output (Some seat) base name = has_shown seat.of base seat name

  -- PT of a standard block is; R_TRIG has none
  abbrev pub has_pt : Standard → Base → Seat → Bool
  has_pt standard.Ton base seat = has_value (member_slot base seat 1)
  has_pt standard.Tof base seat = has_value (member_slot base seat 1)
  has_pt standard.RTrig base seat = true

  -- what a call of an instance names is, where whether what each frame names is there is given
  abbrev pub has_called : (ℕ → Base → Bool) → SeatOf → Base → Seat → Bool
  has_called inner (seat_of.Standard of) base seat = has_clock (base.clocks + seat.clocks) && (has_value (member_slot base seat 0) && has_pt of base seat)
  has_called inner (seat_of.Frame k) base seat = if seat.is_called then inner k (base_of base seat) else true

  abbrev pub has_instance : (ℕ → Base → Bool) → Option Seat → Base → Bool
  has_instance inner None base = true
  has_instance inner (Some seat) base = has_called inner seat.of base seat

  module _ (globals : ℕ) where
    -- which names of a routine at a base stand for what is there
    abbrev pub there : (ℕ → Base → Bool) → List Seat → Base → Known ℕ
    there inner seats base = record {
      has_variable = λ v. has_value (slot_of globals base v);
      has_array = λ v bounds. has_row has_value (slot_of globals base v) bounds;
      has_instance = λ instance. has_instance inner (slice_get seats instance) base;
      has_input = λ instance name. has_input (slice_get seats instance) base name;
      has_output = λ instance name. has_output (slice_get seats instance) base name;
    }

    abbrev pub routine_there : (ℕ → Base → Bool) → Frame → Base → Bool
    routine_there inner frame base = body_known (there inner frame.seats.items base) (view_body frame.body.items)

    -- what the frame of a number among so many first ones names at a base is there, and what the frames name that it comes to call
    abbrev pub frame_there : List Frame → (limit k : ℕ) → Base → Bool
    frame_there frames = of_first (λ base. true) routine_there frames

-- what the frame of a number names as a program at a base is there, by the tests
abbrev pub IsThere : (has_value has_clock : ℕ → Bool) → (globals : ℕ) → List Frame → (first : ℕ) → Base → Type 0
IsThere has_value has_clock globals frames first base = frame_there has_value has_clock globals frames (length frames) first base ≡ true

-- a number is one of 32 bits
abbrev pub fits : ℕ → Bool
fits n = nat_lt n 4294967296

-- each slot and each clock that the frame of a number names as a program at a base is a number of 32 bits
abbrev pub NamesFit : (globals : ℕ) → List Frame → (first : ℕ) → Base → Type 0
NamesFit globals frames first base = IsThere fits fits globals frames first base

-- code names values and clocks alone that are there, by the tests, and needs no more cells than up to the last of them
pub record NamesOnly (has_value has_clock : ℕ → Bool) (code : PlainCode) : Type 0 where
  pub values : (s : ℕ) → Names code.instrs s → has_value s ≡ true
  pub clocks : (k : ℕ) → NamesClock code.instrs k → has_clock k ≡ true
  pub values_end : (n : ℕ) → ((s : ℕ) → has_value s ≡ true → s < n) → code.values ≤ n
  pub clocks_end : (n : ℕ) → ((k : ℕ) → has_clock k ≡ true → k < n) → code.clocks ≤ n

-- whatever the tests, where what a frame names as a program is there, code names what is there alone
abbrev pub NamesAsFrame : List Frame → (globals first : ℕ) → Base → PlainCode → Type 0
NamesAsFrame frames globals first base code = (has_value has_clock : ℕ → Bool) → IsThere has_value has_clock globals frames first base → NamesOnly has_value has_clock code
