-- What an expression and a body mean, by cases on the plain tree.
use Rattle.std.specs.Prelude.{ℕ, ℤ, pos, int_lt, Bool, false, not, ◌&&◌, ◌||◌, if◌then◌else◌, Option, Some, None, Result, Ok, Err, List, [], ◌∷◌}
use Rattle.plant_types.specs.declared.values.Bounds.{Bounds}
use Rattle.plant_types.specs.declared.values.Trap.{Trap}
use Rattle.plant_types.specs.Values as values
use Rattle.plant_types.specs.Values.{indexed}
use Rattle.st_tree.specs.declared.tree.Literal.{Literal}
use Rattle.st_tree.specs.declared.tree.Literal.TheVariants.{Integer, Value}
use Rattle.st_tree.specs.declared.tree.Label.{Label}
use Rattle.st_tree.specs.Plain.{PlainExpr, literal, read, output_of, element, unary, binary, PlainArgument, input, output}
use Rattle.st_tree.specs.Plain.{PlainStmt, empty, assign, store, call, if_else, case_of, for_to, PlainBody, done, next, Branches, no_branch, branch, Choices, no_choice, choice}
use Rattle.st_tree.specs.Operators.{Outcome, eval_unary, eval_binary}
use Rattle.st_tree.specs.Controls.{control_values, span_of}

-- a literal as a whole number
abbrev pub literal_worth : Literal → ℤ
literal_worth (Integer n) = n
literal_worth (Value v) = values.worth v

abbrev pub then_one : Outcome → (ℤ → Outcome) → Outcome
then_one (Ok x) f = f x
then_one (Err trap) f = Err trap

-- both operands have an outcome, and the left one's trap wins
abbrev pub then_two : Outcome → Outcome → (ℤ → ℤ → Outcome) → Outcome
then_two a b f = then_one a (λ x. then_one b (f x))

-- what an expression reads: the values of variables and of instances' outputs, and those of arrays' elements, by the arrays' bounds and the indexes
pub record ValuesOf (V : Type 0) : Type 0 where
  pub variable : V → ℤ
  pub output : V → V → ℤ
  pub element : V → Bounds → ℤ → ℤ

-- the outcome of an expression, by the values that it reads; the index of an element is tested before the element is read
abbrev pub value_of : {V : Type 0} → ValuesOf V → PlainExpr V → Outcome
value_of values (literal n) = Ok (literal_worth n)
value_of values (read v) = Ok (values.variable v)
value_of values (output_of instance name) = Ok (values.output instance name)
value_of values (element v bounds index) = then_one (then_one (value_of values index) (indexed bounds)) (λ n. Ok (values.element v bounds n))
value_of values (unary op a) = then_one (value_of values a) (eval_unary op)
value_of values (binary op a b) = then_two (value_of values a) (value_of values b) (eval_binary op)

-- where a run traps: the path of the program's and the instances' names as declared, the innermost first, and the number of the statement in its body
pub record Spot : Type 0 where
  pub path : List (List ℕ)
  pub statement : ℕ

-- how a run ends, and the world that it leaves
pub data Ran (W : Type 0) : Type 0 where
  Done : W → Ran W
  Trapped : (world : W) (spot : Spot) (trap : Trap) → Ran W

-- what a body's variables and instances mean in worlds of the type W, and the path of the body
pub record Space (V W : Type 0) : Type 0 where
  pub path : List (List ℕ)
  -- a variable's value, and the world after a variable is assigned a value
  pub get : W → V → ℤ
  pub put : W → V → ℤ → W
  -- the same of an array's element, by the array's bounds and its index
  pub get_at : W → V → Bounds → ℤ → ℤ
  pub put_at : W → V → Bounds → ℤ → ℤ → W
  -- the same of an instance's output and of an instance's input
  pub get_output : W → V → V → ℤ
  pub put_input : W → V → V → ℤ → W
  -- what an instance does when it is called, after its inputs were assigned
  pub enter : W → V → Ran W

abbrev pub then_run : {W : Type 0} → Ran W → (W → Ran W) → Ran W
then_run (Done w) rest = rest w
then_run (Trapped w spot trap) rest = Trapped w spot trap

abbrev pub with_value : {A W : Type 0} → W → Spot → Result A Trap → (A → Ran W) → Ran W
with_value w spot (Ok a) rest = rest a
with_value w spot (Err trap) rest = Trapped w spot trap

-- the body runs once for each value of the control variable, which keeps the last one afterwards
abbrev pub turns : {W : Type 0} → (W → ℤ → W) → (W → Ran W) → List ℤ → W → Ran W
turns set body [] w = Done w
turns set body (n ∷ ns) w = then_run (body (set w n)) (turns set body ns)

-- a label fits from its low end to its high end
abbrev pub label_fits : ℤ → Label → Bool
label_fits n label = not (int_lt n label.low) && not (int_lt label.high n)

abbrev pub labels_fit : ℤ → List Label → Bool
labels_fit n [] = false
labels_fit n (label ∷ labels) = label_fits n label || labels_fit n labels

-- one of several branches was taken, or all were passed over
pub data Chosen (W : Type 0) : Type 0 where
  Took : Ran W → Chosen W
  Passed : W → Chosen W

abbrev pub or_else : {W : Type 0} → Chosen W → (W → Ran W) → Ran W
or_else (Took r) last = r
or_else (Passed w) last = last w

abbrev pub on_test : {W : Type 0} → W → Spot → Outcome → (W → Ran W) → (W → Chosen W) → Chosen W
on_test w spot (Ok n) body later = if values.is_true n then Took (body w) else later w
on_test w spot (Err trap) body later = Took (Trapped w spot trap)

-- the place of a statement
abbrev pub statement_spot : {V W : Type 0} → Space V W → ℕ → Spot
statement_spot space number = record { path = space.path; statement = number }

-- the values that an expression reads in a world
abbrev pub values_in : {V W : Type 0} → Space V W → W → ValuesOf V
values_in space w = record { variable = space.get w; output = space.get_output w; element = space.get_at w }

-- the outcome of an expression in a world
abbrev pub outcome : {V W : Type 0} → Space V W → W → PlainExpr V → Outcome
outcome space w e = value_of (values_in space w) e

-- the outcome of an index in a world, once it is tested
abbrev pub index_of : {V W : Type 0} → Space V W → W → Bounds → PlainExpr V → Outcome
index_of space w bounds index = then_one (outcome space w index) (indexed bounds)

-- the outcome of the step of a FOR, which is 1 where none is written
abbrev pub step_of : {V W : Type 0} → Space V W → W → Option (PlainExpr V) → Outcome
step_of space w None = Ok (pos 1)
step_of space w (Some e) = outcome space w e

-- the inputs of a call are evaluated and assigned one after another as written
abbrev pub take_inputs : {V W : Type 0} → Space V W → ℕ → V → List (PlainArgument V) → W → Ran W
take_inputs space number instance [] w = Done w
take_inputs space number instance (input name e ∷ rest) w =
    with_value w (statement_spot space number) (outcome space w e) (λ n. take_inputs space number instance rest (space.put_input w instance name n))
take_inputs space number instance (output name v ∷ rest) w = take_inputs space number instance rest w

-- the outputs of a call are assigned one after another as written
abbrev pub give_outputs : {V W : Type 0} → Space V W → V → List (PlainArgument V) → W → W
give_outputs space instance [] w = w
give_outputs space instance (input name e ∷ rest) w = give_outputs space instance rest w
give_outputs space instance (output name v ∷ rest) w = give_outputs space instance rest (space.put w v (space.get_output w instance name))

abbrev mutual
  -- what a statement does
  pub run : {V W : Type 0} → Space V W → PlainStmt V → W → Ran W
  run space (empty number) w = Done w
  run space (assign number v e) w = with_value w (statement_spot space number) (outcome space w e) (λ n. Done (space.put w v n))
  -- the index is evaluated and tested first, then the right side is evaluated
  run space (store number v bounds index value) w =
      with_value w (statement_spot space number) (index_of space w bounds index) (λ i.
      with_value w (statement_spot space number) (outcome space w value) (λ n. Done (space.put_at w v bounds i n)))
  run space (call number instance arguments) w =
      then_run (then_run (take_inputs space number instance arguments w) (λ u. space.enter u instance)) (λ u. Done (give_outputs space instance arguments u))
  run space (if_else number branches last) w = or_else (first_true space number branches w) (run_all space last)
  run space (case_of number e choices last) w =
      with_value w (statement_spot space number) (outcome space w e) (λ n. or_else (first_fit space n choices w) (run_all space last))
  run space (for_to number v from to by body) w =
      with_value w (statement_spot space number) (span_of (outcome space w from) (outcome space w to) (step_of space w by)) (λ span.
      turns (λ u n. space.put u v n) (run_all space body) (control_values span) w)

  -- what a body does
  pub run_all : {V W : Type 0} → Space V W → PlainBody V → W → Ran W
  run_all space done w = Done w
  run_all space (next s rest) w = then_run (run space s w) (run_all space rest)

  -- the first branch whose test is TRUE; later tests aren't evaluated
  pub first_true : {V W : Type 0} → Space V W → ℕ → Branches V → W → Chosen W
  first_true space number no_branch w = Passed w
  first_true space number (branch test body rest) w =
      on_test w (statement_spot space number) (outcome space w test) (run_all space body) (first_true space number rest)

  -- the first choice with a label that fits
  pub first_fit : {V W : Type 0} → Space V W → ℤ → Choices V → W → Chosen W
  first_fit space n no_choice w = Passed w
  first_fit space n (choice labels body rest) w = if labels_fit n labels then Took (run_all space body w) else first_fit space n rest w
