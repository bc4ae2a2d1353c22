-- How much code the frames of a table become: instructions, words of stack, and what a run of it costs. A frame is laid out anew for each instance that is called.
use Rattle.std.specs.Prelude.{ℕ, Bool, zero, suc, ℤ, pos, ◌+◌, max, if◌then◌else◌, List, [], ◌∷◌, length, Option, Some, None, Ok, Err, slice_get}
use Rattle.std.specs.Option.{option_map_or}
use Rattle.st_tree.specs.declared.tree.Label.{Label}
use Rattle.st_tree.specs.declared.controls.Span.{Span}
use Rattle.st_tree.specs.Plain.{PlainExpr, literal, read, output_of, element, unary, binary, PlainArgument, input, output}
use Rattle.st_tree.specs.Plain.{PlainStmt, empty, assign, store, call, if_else, case_of, for_to, PlainBody, done, next, Branches, no_branch, branch, Choices, no_choice, choice}
use Rattle.st_tree.specs.View.{view_body}
use Rattle.st_tree.specs.Operators.{Outcome}
use Rattle.st_tree.specs.Constants.{constant_of}
use Rattle.st_tree.specs.Controls.{control_values}
use Rattle.st_tree.specs.Costs.{body_cost, body_size}
use Rattle.logic_walk.specs.declared.frame.SeatOf.{SeatOf}
use Rattle.logic_walk.specs.declared.frame.SeatOf.TheVariants as seat_of
use Rattle.logic_walk.specs.declared.frame.Seat.{Seat}
use Rattle.logic_walk.specs.declared.frame.Frame.{Frame}
use Rattle.logic_walk.specs.Frames.{of_first}

-- the number that a constant expression gives; none where it traps, or isn't constant
abbrev pub number_of : Option Outcome → Option ℤ
number_of (Some (Ok n)) = Some n
number_of (Some (Err trap)) = None
number_of None = None

abbrev pub constant_number : PlainExpr ℕ → Option ℤ
constant_number e = number_of (constant_of e)

-- the step of a FOR, which is 1 where none is written
abbrev pub step_number : Option (PlainExpr ℕ) → Option ℤ
step_number None = Some (pos 1)
step_number (Some e) = constant_number e

abbrev pub span_from : Option ℤ → Option ℤ → Option ℤ → Option Span
span_from (Some from) (Some to) (Some step) = Some (record { from = from; to = to; step = step })
span_from (Some from) (Some to) None = None
span_from (Some from) None step = None
span_from None to step = None

-- the span of a FOR of constant bounds and step
abbrev pub constant_span : (from to : PlainExpr ℕ) → Option (PlainExpr ℕ) → Option Span
constant_span from to by = span_from (constant_number from) (constant_number to) (step_number by)

-- the turns of a span; none where there is no span
abbrev pub turns_of : Option Span → ℕ
turns_of None = 0
turns_of (Some span) = length (control_values span)

-- the turns of a FOR
abbrev pub frame_turns : (from to : PlainExpr ℕ) → Option (PlainExpr ℕ) → ℕ
frame_turns from to by = turns_of (constant_span from to by)

-- an operator with its operands: a literal or a variable on the right stands in the operator's instruction, and before any other one the left operand goes onto the stack
abbrev pub binary_lines : PlainExpr ℕ → (left right : ℕ) → ℕ
binary_lines (literal n) left right = left + 1
binary_lines (read v) left right = left + 1
binary_lines (output_of instance name) left right = left + right + 2
binary_lines (element v bounds index) left right = left + right + 2
binary_lines (unary op a) left right = left + right + 2
binary_lines (binary op a b) left right = left + right + 2

-- the instructions of an expression
abbrev pub expr_lines : PlainExpr ℕ → ℕ
expr_lines (literal n) = 1
expr_lines (read v) = 1
expr_lines (output_of instance name) = 1
expr_lines (element v bounds index) = expr_lines index + 1
expr_lines (unary op a) = expr_lines a + 1
expr_lines (binary op a b) = binary_lines b (expr_lines a) (expr_lines b)

abbrev pub binary_words : PlainExpr ℕ → (left right : ℕ) → ℕ
binary_words (literal n) left right = left
binary_words (read v) left right = left
binary_words (output_of instance name) left right = max left (right + 1)
binary_words (element v bounds index) left right = max left (right + 1)
binary_words (unary op a) left right = max left (right + 1)
binary_words (binary op a b) left right = max left (right + 1)

-- the words of stack of an expression
abbrev pub expr_words : PlainExpr ℕ → ℕ
expr_words (literal n) = 0
expr_words (read v) = 0
expr_words (output_of instance name) = 0
expr_words (element v bounds index) = expr_words index
expr_words (unary op a) = expr_words a
expr_words (binary op a b) = binary_words b (expr_words a) (expr_words b)

-- an input that is there takes its value by one instruction
abbrev pub put_lines : Option Seat → ℕ
put_lines None = 0
put_lines (Some seat) = 1

abbrev pub inputs_lines : Option Seat → List (PlainArgument ℕ) → ℕ
inputs_lines seat [] = 0
inputs_lines seat (input name e ∷ rest) = expr_lines e + put_lines seat + inputs_lines seat rest
inputs_lines seat (output name v ∷ rest) = inputs_lines seat rest

abbrev pub inputs_words : List (PlainArgument ℕ) → ℕ
inputs_words [] = 0
inputs_words (input name e ∷ rest) = max (expr_words e) (inputs_words rest)
inputs_words (output name v ∷ rest) = inputs_words rest

abbrev pub outputs_lines : List (PlainArgument ℕ) → ℕ
outputs_lines [] = 0
outputs_lines (input name e ∷ rest) = outputs_lines rest
outputs_lines (output name v ∷ rest) = 2 + outputs_lines rest

-- a FOR of no turn is no instruction
abbrev pub for_lines : (turns body : ℕ) → ℕ
for_lines zero body = 0
for_lines (suc n) body = body + 2

-- and needs no word of stack; one of some turns needs two beside its body's
abbrev pub for_words : (turns body : ℕ) → ℕ
for_words zero body = 0
for_words (suc n) body = 2 + body

-- a choice: a jump for each label, one past its body, the body, and one to the end; a choice without a label is no instruction
abbrev pub choice_lines : List Label → (body rest : ℕ) → ℕ
choice_lines [] body rest = rest
choice_lines (label ∷ labels) body rest = length (label ∷ labels) + 1 + (body + 1 + rest)

-- what a call of an instance becomes, by what each frame becomes: a standard block so much, and an instance of a frame that isn't marked as called nothing
abbrev pub entered_by : (standard : ℕ) → (ℕ → ℕ) → SeatOf → Bool → ℕ
entered_by standard inner (seat_of.Standard of) is_called = standard
entered_by standard inner (seat_of.Frame k) is_called = if is_called then inner k else 0

abbrev pub entered : (standard : ℕ) → (ℕ → ℕ) → Option Seat → ℕ
entered standard inner None = 0
entered standard inner (Some seat) = entered_by standard inner seat.of seat.is_called

-- what the body of an instance costs, by what each frame costs: a standard block 1
abbrev pub seat_cost : (ℕ → ℕ) → SeatOf → ℕ
seat_cost inner (seat_of.Standard of) = 1
seat_cost inner (seat_of.Frame k) = inner k

abbrev pub called_cost : (ℕ → ℕ) → List Seat → ℕ → ℕ
called_cost inner seats instance = option_map_or (λ (seat : Seat). seat_cost inner seat.of) (slice_get seats instance) 0

-- by the instances of a routine, and what each frame before its own becomes
module _ (seats : List Seat) (inner : ℕ → ℕ) where
  abbrev mutual
    -- the instructions of a statement
    pub stmt_lines : PlainStmt ℕ → ℕ
    stmt_lines (empty number) = 0
    stmt_lines (assign number v e) = expr_lines e + 1
    stmt_lines (store number v bounds index value) = expr_lines index + expr_lines value + 2
    stmt_lines (call number instance arguments) =
        inputs_lines (slice_get seats instance) arguments + entered 2 inner (slice_get seats instance) + outputs_lines arguments
    stmt_lines (if_else number branches last) = branches_lines branches (body_lines last)
    stmt_lines (case_of number e choices last) = expr_lines e + choices_lines choices (body_lines last)
    stmt_lines (for_to number v from to by body) = for_lines (frame_turns from to by) (body_lines body)

    -- the instructions of a body
    pub body_lines : PlainBody ℕ → ℕ
    body_lines done = 0
    body_lines (next s rest) = stmt_lines s + body_lines rest

    -- each branch is its test, a jump, its body, and a jump to the end; what is done where none is taken follows
    pub branches_lines : Branches ℕ → (last : ℕ) → ℕ
    branches_lines no_branch last = last
    branches_lines (branch test body rest) last = expr_lines test + 1 + (body_lines body + 1 + branches_lines rest last)

    pub choices_lines : Choices ℕ → (last : ℕ) → ℕ
    choices_lines no_choice last = last
    choices_lines (choice labels body rest) last = choice_lines labels (body_lines body) (choices_lines rest last)

  abbrev mutual
    -- the words of stack of a statement
    pub stmt_words : PlainStmt ℕ → ℕ
    stmt_words (empty number) = 0
    stmt_words (assign number v e) = expr_words e
    stmt_words (store number v bounds index value) = max (expr_words index) (expr_words value + 1)
    stmt_words (call number instance arguments) = max (inputs_words arguments) (entered 0 inner (slice_get seats instance))
    stmt_words (if_else number branches last) = max (branches_words branches) (body_words last)
    stmt_words (case_of number e choices last) = max (expr_words e) (max (choices_words choices) (body_words last))
    stmt_words (for_to number v from to by body) = for_words (frame_turns from to by) (body_words body)

    -- the words of stack of a body
    pub body_words : PlainBody ℕ → ℕ
    body_words done = 0
    body_words (next s rest) = max (stmt_words s) (body_words rest)

    pub branches_words : Branches ℕ → ℕ
    branches_words no_branch = 0
    branches_words (branch test body rest) = max (expr_words test) (max (body_words body) (branches_words rest))

    pub choices_words : Choices ℕ → ℕ
    choices_words no_choice = 0
    choices_words (choice labels body rest) = max (body_words body) (choices_words rest)

-- what a routine is, by what each frame before its own is: its instructions, its words of stack, its cost
abbrev pub routine_lines : (ℕ → ℕ) → Frame → ℕ
routine_lines inner frame = body_lines frame.seats.items inner (view_body frame.body.items)

abbrev pub routine_words : (ℕ → ℕ) → Frame → ℕ
routine_words inner frame = body_words frame.seats.items inner (view_body frame.body.items)

abbrev pub routine_cost : (ℕ → ℕ) → Frame → ℕ
routine_cost inner frame = body_cost frame_turns (called_cost inner frame.seats.items) (view_body frame.body.items)

-- how large a routine is: as its cost, but all branches count, and a FOR as one of one turn
abbrev pub routine_size : (ℕ → ℕ) → Frame → ℕ
routine_size inner frame = body_size (called_cost inner frame.seats.items) (view_body frame.body.items)

-- the same of the frame of a number among so many first ones; 0 if it isn't one of them
unfoldable pub frame_lines : List Frame → (limit k : ℕ) → ℕ
frame_lines frames = of_first 0 routine_lines frames

unfoldable pub frame_words : List Frame → (limit k : ℕ) → ℕ
frame_words frames = of_first 0 routine_words frames

unfoldable pub frame_cost : List Frame → (limit k : ℕ) → ℕ
frame_cost frames = of_first 0 routine_cost frames

unfoldable pub frame_size : List Frame → (limit k : ℕ) → ℕ
frame_size frames = of_first 0 routine_size frames
