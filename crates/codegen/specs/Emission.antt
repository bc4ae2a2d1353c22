-- What the emission of a routine's code knows, and what it appends.
use Rattle.std.specs.Prelude.{◌≡◌, ◌<◌, ◌≤◌, ◌+◌, ◌^◌, ℕ, true, List, [], ◌∷◌, ◌++◌, length, Option}
use Rattle.plant_types.specs.declared.values.Bounds.{Bounds}
use Rattle.plant_types.specs.declared.values.Place.{Place}
use Rattle.st_tree.specs.declared.tree.Binary.{Binary}
use Rattle.st_tree.specs.Plain.{PlainExpr, literal, read, output_of, element, unary, binary, PlainArgument, PlainStmt, PlainBody, Branches, Choices}
use Rattle.st_tree.specs.Meaning.{literal_worth}
use Rattle.st_tree.specs.Mapping.{Known}
use Rattle.logic_walk.specs.declared.frame.Seat.{Seat}
use Rattle.logic_walk.specs.declared.frame.Base.{Base}
use Rattle.logic_walk.specs.declared.frame.Frame.{Frame}
use Rattle.logic_walk.specs.Frames.{InTurn, AreInTurn, frame_paths}
use Rattle.logic_walk.specs.Walks.{HasRoom, slot_of, paths_within}
use Rattle.acc_vm.specs.declared.instr.Instr.TheVariants as instr
use Rattle.vm_sizes.specs.declared.counts.Count.{Count}
use Rattle.vm_sizes.specs.Sizes.{inputs_lines, outputs_lines, entered, stmt_lines, body_lines, frame_lines, branches_lines, choices_lines}
use Rattle.vm_sizes.specs.Counts.{lines_at}
use Rattle.codegen.specs.declared.scope.PlacedFrame.{PlacedFrame}
use Rattle.codegen.specs.declared.scope.PlacedRoutine.{PlacedRoutine}
use Rattle.codegen.specs.Codes as codes
use Rattle.codegen.specs.Codes.{Line, Coder, frame_part, AreSteady}
use Rattle.codegen.specs.Within.{there, frame_there, fits}

-- a table has the lines of so many first frames
pub record AreLines (frames : List Frame) (limit : ℕ) (table : List Count) : Type 0 where
  pub within : limit ≤ length frames
  pub long : length table ≡ limit
  pub lines : (k : ℕ) → frame_lines frames limit k ≡ lines_at table k

-- a scope's table has the lines of the frames before its own; each base below it stays below 2 ^ 128, and each path number at it and below it is below 2 ^ 32;
-- and the bounds of each FOR of a frame are constant DINTs
pub record IsLaid (s : PlacedRoutine) : Type 0 where
  pub lines : AreLines s.frames.now s.limit s.table.now
  pub bases : HasRoom s.base (s.limit + 1)
  pub paths : s.path + length (paths_within s.frames.now s.limit s.seats.now) ≤ 2 ^ 32
  pub own : InTurn (frame_paths s.frames.now s.limit) s.seats.now
  pub in_turn : AreInTurn s.frames.now
  pub steady : AreSteady s.frames.now

-- which names of a scope's routine stand for numbers of 32 bits: those of its variables, of each element of its arrays and of its instances, with all that the frames name that it comes to call
abbrev pub named : PlacedRoutine → Known ℕ
named s = there fits fits s.globals (frame_there fits fits s.globals s.frames.now s.limit) s.seats.now s.base

-- the code of each of so many first frames
abbrev pub coders : ℕ → List Frame → ℕ → ℕ → Coder
coders globals frames limit k = (frame_part globals frames limit k).code

-- a placed frame is one of those whose lines its table has; each base at it and below it stays below 2 ^ 128, each path number below 2 ^ 32, the bounds of each FOR are constant DINTs, and what it names are numbers of 32 bits
pub record IsPlaced (p : PlacedFrame) : Type 0 where
  pub there : p.number < p.limit
  pub lines : AreLines p.frames.now p.limit p.table.now
  pub bases : HasRoom p.base p.limit
  pub paths : p.path + length (frame_paths p.frames.now p.limit p.number) ≤ 2 ^ 32
  pub in_turn : AreInTurn p.frames.now
  pub steady : AreSteady p.frames.now
  pub named : frame_there fits fits p.globals p.frames.now p.limit p.number p.base ≡ true

-- the code of a placed frame, from a line's number on
abbrev pub frame_code : PlacedFrame → ℕ → List Line
frame_code p = coders p.globals p.frames.now p.limit p.number p.base p.path

-- what stands behind the left operand of an operator, by its right operand and the lines of this
abbrev pub operator_code : (globals : ℕ) → Base → Place → Binary → PlainExpr ℕ → (right : List Line) → List Line
operator_code globals base place op (literal n) right = (instr.BinaryLiteral op (literal_worth n), place) ∷ []
operator_code globals base place op (read v) right = (instr.BinarySlot op (slot_of globals base v), place) ∷ []
operator_code globals base place op (output_of instance name) right = (instr.Push, place) ∷ (right ++ (instr.Binary op, place) ∷ [])
operator_code globals base place op (element v bounds index) right = (instr.Push, place) ∷ (right ++ (instr.Binary op, place) ∷ [])
operator_code globals base place op (unary other a) right = (instr.Push, place) ∷ (right ++ (instr.Binary op, place) ∷ [])
operator_code globals base place op (binary other a b) right = (instr.Push, place) ∷ (right ++ (instr.Binary op, place) ∷ [])

-- the code of the parts of a routine in a scope
abbrev pub expr_code : PlacedRoutine → Place → PlainExpr ℕ → List Line
expr_code s = codes.expr_code s.globals s.seats.now (lines_at s.table.now) (coders s.globals s.frames.now s.limit) s.base s.path

abbrev pub store_code : PlacedRoutine → Place → ℕ → Bounds → (index value : PlainExpr ℕ) → List Line
store_code s = codes.store_code s.globals s.seats.now (lines_at s.table.now) (coders s.globals s.frames.now s.limit) s.base s.path

abbrev pub inputs_code : PlacedRoutine → Place → Option Seat → List (PlainArgument ℕ) → List Line
inputs_code s = codes.inputs_code s.globals s.seats.now (lines_at s.table.now) (coders s.globals s.frames.now s.limit) s.base s.path

abbrev pub outputs_code : PlacedRoutine → Place → Option Seat → List (PlainArgument ℕ) → List Line
outputs_code s = codes.outputs_code s.globals s.seats.now (lines_at s.table.now) (coders s.globals s.frames.now s.limit) s.base s.path

abbrev pub enter_code : PlacedRoutine → Place → Option Seat → ℕ → List Line
enter_code s = codes.enter_code s.globals s.seats.now (lines_at s.table.now) (coders s.globals s.frames.now s.limit) s.base s.path

abbrev pub call_code : PlacedRoutine → Place → Option Seat → List (PlainArgument ℕ) → ℕ → List Line
call_code s = codes.call_code s.globals s.seats.now (lines_at s.table.now) (coders s.globals s.frames.now s.limit) s.base s.path

abbrev pub stmt_code : PlacedRoutine → PlainStmt ℕ → ℕ → List Line
stmt_code s = codes.stmt_code s.globals s.seats.now (lines_at s.table.now) (coders s.globals s.frames.now s.limit) s.base s.path

abbrev pub body_code : PlacedRoutine → PlainBody ℕ → ℕ → List Line
body_code s = codes.body_code s.globals s.seats.now (lines_at s.table.now) (coders s.globals s.frames.now s.limit) s.base s.path

abbrev pub branches_code : PlacedRoutine → Place → Branches ℕ → (ℕ → List Line) → ℕ → ℕ → List Line
branches_code s = codes.branches_code s.globals s.seats.now (lines_at s.table.now) (coders s.globals s.frames.now s.limit) s.base s.path

abbrev pub choices_code : PlacedRoutine → Place → Choices ℕ → (ℕ → List Line) → ℕ → ℕ → List Line
choices_code s = codes.choices_code s.globals s.seats.now (lines_at s.table.now) (coders s.globals s.frames.now s.limit) s.base s.path

-- how many lines the parts of a routine in a scope are; branches and choices, with so many behind them
abbrev pub enter_long : PlacedRoutine → Option Seat → ℕ
enter_long s seat = entered 2 (lines_at s.table.now) seat

abbrev pub call_long : PlacedRoutine → Option Seat → List (PlainArgument ℕ) → ℕ
call_long s seat arguments = inputs_lines seat arguments + enter_long s seat + outputs_lines arguments

abbrev pub stmt_long : PlacedRoutine → PlainStmt ℕ → ℕ
stmt_long s = stmt_lines s.seats.now (lines_at s.table.now)

abbrev pub body_long : PlacedRoutine → PlainBody ℕ → ℕ
body_long s = body_lines s.seats.now (lines_at s.table.now)

abbrev pub branches_long : PlacedRoutine → Branches ℕ → ℕ → ℕ
branches_long s = branches_lines s.seats.now (lines_at s.table.now)

abbrev pub choices_long : PlacedRoutine → Choices ℕ → ℕ → ℕ
choices_long s = choices_lines s.seats.now (lines_at s.table.now)
