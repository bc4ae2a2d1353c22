-- How many lines code has.
use Rattle.std.proofs.Common.{◌≡◌, refl, arith, ℕ, zero, suc, ◌+◌, Bool, true, false, List, [], ◌∷◌, ◌++◌, length, length-append, Option, Some, None, if◌then◌else◌}
use Rattle.std.specs.Prelude.{slice_get}
use Rattle.plant_types.specs.declared.values.Place.{Place}
use Rattle.st_tree.specs.declared.tree.Binary.{Binary}
use Rattle.st_tree.specs.declared.tree.Label.{Label}
use Rattle.st_tree.specs.declared.controls.Span.{Span}
use Rattle.st_tree.specs.Plain.{PlainExpr, literal, read, output_of, element, unary, binary, PlainArgument, input, output, PlainStmt, empty, assign, store, call, if_else, case_of, for_to, PlainBody, done, next, Branches, no_branch, branch, Choices, no_choice, choice}
use Rattle.st_tree.specs.Controls.{control_values}
use Rattle.logic_walk.specs.declared.frame.SeatOf.{SeatOf}
use Rattle.logic_walk.specs.declared.frame.SeatOf.TheVariants as seat_of
use Rattle.logic_walk.specs.declared.frame.Seat.{Seat}
use Rattle.logic_walk.specs.declared.frame.Base.{Base}
use Rattle.acc_vm.specs.declared.instr.Instr.TheVariants as instr
use Rattle.vm_sizes.specs.Sizes.{constant_span, turns_of, for_lines, choice_lines, expr_lines, binary_lines, put_lines, inputs_lines, outputs_lines, entered, entered_by, stmt_lines, body_lines, branches_lines, choices_lines}
use Rattle.codegen.specs.Codes.{Line, Coder, place_of, binary_code, put_code, branch_code, labels_code, choice_code, loop_code, for_code, expr_code, inputs_code, outputs_code, enter_by, enter_code, call_code, stmt_code, body_code, branches_code, choices_code}

one_more : (c : List Line) (l : Line) (m : ℕ) → length c ≡ m → length (c ++ l ∷ []) ≡ m + 1
one_more c l m h = let a = length-append c (l ∷ []) in omega arith

stacked : (c d : List Line) (l x : Line) (m n : ℕ) → length c ≡ m → length d ≡ n → length (c ++ (l ∷ (d ++ x ∷ []))) ≡ m + n + 2
stacked c d l x m n h g = let a = length-append c (l ∷ (d ++ x ∷ [])) in let b = length-append d (x ∷ []) in omega arith

pub binary_long : (globals : ℕ) (base : Base) (place : Place) (op : Binary) (b : PlainExpr ℕ) (c d : List Line) (m n : ℕ) → length c ≡ m → length d ≡ n → length (binary_code globals base place op b c d) ≡ binary_lines b m n
binary_long globals base place op (literal x) c d m n h g = one_more c _ m h
binary_long globals base place op (read v) c d m n h g = one_more c _ m h
binary_long globals base place op (output_of instance name) c d m n h g = stacked c d _ _ m n h g
binary_long globals base place op (element v bounds index) c d m n h g = stacked c d _ _ m n h g
binary_long globals base place op (unary other a) c d m n h g = stacked c d _ _ m n h g
binary_long globals base place op (binary other a b) c d m n h g = stacked c d _ _ m n h g

put_long : (seat : Option Seat) (base : Base) (place : Place) (name : ℕ) → length (put_code seat base place name) ≡ put_lines seat
put_long None base place name = refl
put_long (Some seat) base place name = refl

pub labels_long : (place : Place) (labels : List Label) (to : ℕ) → length (labels_code place labels to) ≡ length labels
labels_long place [] to = refl
labels_long place (label ∷ labels) to = let h = labels_long place labels to in omega arith

called_long : (b : Bool) (c : List Line) (n : ℕ) → length c ≡ n → length (if b then c else []) ≡ (if b then n else 0)
called_long true c n h = h
called_long false c n h = refl

-- as many lines from every instruction's number on
abbrev pub Long : (ℕ → List Line) → ℕ → Type 0
Long c n = (pc : ℕ) → length (c pc) ≡ n

pub branch_long : (place : Place) (test : List Line) (t : ℕ) (body : ℕ → List Line) (b : ℕ) (rest : ℕ → List Line) (r : ℕ) → length test ≡ t → Long body b → Long rest r → Long (branch_code place test t body b rest r) (t + 1 + (b + 1 + r))
branch_long place test t body b rest r h g k pc =
    let p = pc + t + 1 in
    let q = p + b + 1 in
    let tail = body p ++ ((instr.Jump (q + r), place) ∷ rest q) in
    let x = length-append test ((instr.JumpUnless q, place) ∷ tail) in
    let y = length-append (body p) ((instr.Jump (q + r), place) ∷ rest q) in
    let z = g p in
    let u = k q in
    omega arith

pub choice_long : (place : Place) (labels : List Label) (body : ℕ → List Line) (b : ℕ) (rest : ℕ → List Line) (r : ℕ) → Long body b → Long rest r → Long (choice_code place labels body b rest r) (choice_lines labels b r)
choice_long place [] body b rest r g k pc = k pc
choice_long place (label ∷ labels) body b rest r g k pc =
    let all = label ∷ labels in
    let p = pc + length all + 1 in
    let q = p + b + 1 in
    let tail = body p ++ ((instr.Jump (q + r), place) ∷ rest q) in
    let l = labels_long place all p in
    let x = length-append (labels_code place all p) ((instr.Jump q, place) ∷ tail) in
    let y = length-append (body p) ((instr.Jump (q + r), place) ∷ rest q) in
    let z = g p in
    let u = k q in
    omega arith

loop_long : (place : Place) (slot : ℕ) (span : Span) (turns : ℕ) (body : ℕ → List Line) (b : ℕ) → Long body b → Long (loop_code place slot span turns body) (for_lines turns b)
loop_long place slot span zero body b h pc = refl
loop_long place slot span (suc n) body b h pc = let x = one_more (body (pc + 1)) (instr.Turn slot span.step (pc + 1), place) b (h (pc + 1)) in omega arith

pub for_long : (place : Place) (slot : ℕ) (span : Option Span) (body : ℕ → List Line) (b : ℕ) → Long body b → Long (for_code place slot span body) (for_lines (turns_of span) b)
for_long place slot None body b h pc = refl
for_long place slot (Some span) body b h pc = loop_long place slot span (length (control_values span)) body b h pc

module _ (globals : ℕ) (seats : List Seat) (lines : ℕ → ℕ) (inner : ℕ → Coder) (base : Base) (path : ℕ) where
  pub expr_long : (place : Place) (e : PlainExpr ℕ) → length (expr_code globals seats lines inner base path place e) ≡ expr_lines e
  expr_long place (literal n) = refl
  expr_long place (read v) = refl
  expr_long place (output_of instance name) = refl
  expr_long place (element v bounds index) = one_more (expr_code globals seats lines inner base path place index) _ (expr_lines index) (expr_long place index)
  expr_long place (unary op a) = one_more (expr_code globals seats lines inner base path place a) _ (expr_lines a) (expr_long place a)
  expr_long place (binary op a b) = binary_long globals base place op b _ _ (expr_lines a) (expr_lines b) (expr_long place a) (expr_long place b)

  pub inputs_long : (place : Place) (seat : Option Seat) (arguments : List (PlainArgument ℕ)) → length (inputs_code globals seats lines inner base path place seat arguments) ≡ inputs_lines seat arguments
  inputs_long place seat [] = refl
  inputs_long place seat (input name e ∷ rest) =
      let c = expr_code globals seats lines inner base path place e in
      let d = put_code seat base place name in
      let r = inputs_code globals seats lines inner base path place seat rest in
      let x = length-append c (d ++ r) in
      let y = length-append d r in
      let a = expr_long place e in
      let b = put_long seat base place name in
      let h = inputs_long place seat rest in
      omega arith
  inputs_long place seat (output name v ∷ rest) = inputs_long place seat rest

  pub outputs_long : (place : Place) (seat : Option Seat) (arguments : List (PlainArgument ℕ)) → length (outputs_code globals seats lines inner base path place seat arguments) ≡ outputs_lines arguments
  outputs_long place seat [] = refl
  outputs_long place seat (input name e ∷ rest) = outputs_long place seat rest
  outputs_long place seat (output name v ∷ rest) = let h = outputs_long place seat rest in omega arith

  module _ (inner_long : (k : ℕ) (at : Base) (way pc : ℕ) → length (inner k at way pc) ≡ lines k) where
    pub enter_by_long : (place : Place) (of : SeatOf) (seat : Seat) (pc : ℕ) → length (enter_by globals seats lines inner base path place of seat pc) ≡ entered_by 2 lines of seat.is_called
    enter_by_long place (seat_of.Standard of) seat pc = refl
    enter_by_long place (seat_of.Frame k) seat pc = called_long seat.is_called _ (lines k) (inner_long k _ _ pc)

    pub enter_long : (place : Place) (seat : Option Seat) (pc : ℕ) → length (enter_code globals seats lines inner base path place seat pc) ≡ entered 2 lines seat
    enter_long place None pc = refl
    enter_long place (Some seat) pc = enter_by_long place seat.of seat pc

    call_long : (place : Place) (seat : Option Seat) (arguments : List (PlainArgument ℕ)) (pc : ℕ)
        → length (call_code globals seats lines inner base path place seat arguments pc) ≡ inputs_lines seat arguments + entered 2 lines seat + outputs_lines arguments
    call_long place seat arguments pc =
        let c = inputs_code globals seats lines inner base path place seat arguments in
        let d = enter_code globals seats lines inner base path place seat (pc + inputs_lines seat arguments) in
        let e = outputs_code globals seats lines inner base path place seat arguments in
        let x = length-append c (d ++ e) in
        let y = length-append d e in
        let h = inputs_long place seat arguments in
        let g = enter_long place seat (pc + inputs_lines seat arguments) in
        let k = outputs_long place seat arguments in
        omega arith

    mutual
      pub stmt_long : (s : PlainStmt ℕ) → Long (stmt_code globals seats lines inner base path s) (stmt_lines seats lines s)
      stmt_long (empty number) pc = refl
      stmt_long (assign number v e) pc = one_more (expr_code globals seats lines inner base path (place_of path number) e) _ (expr_lines e) (expr_long (place_of path number) e)
      stmt_long (store number v bounds index value) pc =
          let place = place_of path number in
          stacked (expr_code globals seats lines inner base path place index) (expr_code globals seats lines inner base path place value) _ _ (expr_lines index) (expr_lines value) (expr_long place index) (expr_long place value)
      stmt_long (call number instance arguments) pc = call_long (place_of path number) (slice_get seats instance) arguments pc
      stmt_long (if_else number branches last) pc = branches_long (place_of path number) branches (body_code globals seats lines inner base path last) (body_lines seats lines last) (body_long last) pc
      stmt_long (case_of number e choices last) pc =
          let c = expr_code globals seats lines inner base path (place_of path number) e in
          let d = choices_code globals seats lines inner base path (place_of path number) choices (body_code globals seats lines inner base path last) (body_lines seats lines last) (pc + expr_lines e) in
          let x = length-append c d in
          let y = expr_long (place_of path number) e in
          let z = choices_long (place_of path number) choices (body_code globals seats lines inner base path last) (body_lines seats lines last) (body_long last) (pc + expr_lines e) in
          omega arith
      stmt_long (for_to number v from to by body) pc = for_long (place_of path number) _ (constant_span from to by) (body_code globals seats lines inner base path body) (body_lines seats lines body) (body_long body) pc

      pub body_long : (body : PlainBody ℕ) → Long (body_code globals seats lines inner base path body) (body_lines seats lines body)
      body_long done pc = refl
      body_long (next s rest) pc =
          let c = stmt_code globals seats lines inner base path s pc in
          let d = body_code globals seats lines inner base path rest (pc + stmt_lines seats lines s) in
          let x = length-append c d in
          let y = stmt_long s pc in
          let z = body_long rest (pc + stmt_lines seats lines s) in
          omega arith

      pub branches_long : (place : Place) (branches : Branches ℕ) (last : ℕ → List Line) (n : ℕ) → Long last n → Long (branches_code globals seats lines inner base path place branches last n) (branches_lines seats lines branches n)
      branches_long place no_branch last n h pc = h pc
      branches_long place (branch test body rest) last n h pc =
          branch_long place _ (expr_lines test) (body_code globals seats lines inner base path body) (body_lines seats lines body) (branches_code globals seats lines inner base path place rest last n) (branches_lines seats lines rest n)
          (expr_long place test) (body_long body) (branches_long place rest last n h) pc

      pub choices_long : (place : Place) (choices : Choices ℕ) (last : ℕ → List Line) (n : ℕ) → Long last n → Long (choices_code globals seats lines inner base path place choices last n) (choices_lines seats lines choices n)
      choices_long place no_choice last n h pc = h pc
      choices_long place (choice labels body rest) last n h pc =
          choice_long place labels (body_code globals seats lines inner base path body) (body_lines seats lines body) (choices_code globals seats lines inner base path place rest last n) (choices_lines seats lines rest n)
          (body_long body) (choices_long place rest last n h) pc
