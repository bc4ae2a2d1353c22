-- Three bodies, and their code by the definitions.
use Rattle.std.proofs.Common.{◌≡◌, ℕ, pos, List, [], ◌∷◌, Some, refl}
use Rattle.plant_types.specs.declared.values.Bounds.{Bounds}
use Rattle.st_tree.specs.declared.tree.Literal.TheVariants.{Integer}
use Rattle.st_tree.specs.declared.tree.Binary.TheVariants.{Less, Add, Multiply}
use Rattle.st_tree.specs.declared.tree.Label.{Label}
use Rattle.st_tree.specs.Plain.{PlainExpr, literal, read, element, binary}
use Rattle.st_tree.specs.Plain.{PlainBody, assign, store, if_else, case_of, for_to, done, next, branch, no_branch, choice, no_choice}
use Rattle.logic_walk.specs.declared.frame.Base.{Base}
use Rattle.acc_vm.specs.declared.instr.Instr.{Instr}
use Rattle.acc_vm.specs.declared.instr.Instr.TheVariants as instr
use Rattle.vm_sizes.specs.Sizes.{body_lines, body_words}
use Rattle.codegen.specs.Codes.{body_code, instrs_of}
use Rattle.codegen.specs.Pairs.{joined_of}

abbrev number : ℕ → PlainExpr ℕ
number n = literal (Integer (pos n))

-- a routine of two globals and no instance, whose own values begin at 10
abbrev base : Base
base = record { values = 10; clocks = 0 }

abbrev code : PlainBody ℕ → List Instr
code body = instrs_of (body_code 2 [] (λ k. 0) (λ k base path pc. []) base 0 body 0)

-- IF 1 < own THEN global := own * (own + 2); ELSE own := 0; END_IF
abbrev if_body : PlainBody ℕ
if_body = next (if_else 1 (branch (binary Less (number 1) (read 2)) (next (assign 2 0 (binary Multiply (read 2) (binary Add (read 2) (number 2)))) done) no_branch) (next (assign 3 2 (number 0)) done)) done

if_code : code if_body ≡ instr.Literal (pos 1) ∷ instr.BinarySlot Less 10 ∷ instr.JumpUnless 10
    ∷ instr.Load 10 ∷ instr.Push ∷ instr.Load 10 ∷ instr.BinaryLiteral Add (pos 2) ∷ instr.Binary Multiply ∷ instr.Store 0 ∷ instr.Jump 12
    ∷ instr.Literal (pos 0) ∷ instr.Store 10 ∷ []
if_code = refl

if_size : body_lines [] (λ k. 0) if_body ≡ 12
if_size = refl

if_room : body_words [] (λ k. 0) if_body ≡ 1
if_room = refl

abbrev label : ℕ → ℕ → Label
label low high = record { low = pos low; high = pos high }

-- FOR own := 1 TO 5 BY 2 DO CASE own OF 1, 3..4: global := own; END_CASE END_FOR
abbrev for_body : PlainBody ℕ
for_body = next (for_to 1 2 (number 1) (number 5) (Some (number 2)) (next (case_of 2 (read 2) (choice (label 1 1 ∷ label 3 4 ∷ []) (next (assign 3 0 (read 2)) done) no_choice) done) done)) done

for_code_is : code for_body ≡ instr.Begin 10 (pos 1) (pos 2)
    ∷ instr.Load 10 ∷ instr.JumpWithin 5 (label 1 1) ∷ instr.JumpWithin 5 (label 3 4) ∷ instr.Jump 8
    ∷ instr.Load 10 ∷ instr.Store 0 ∷ instr.Jump 8
    ∷ instr.Turn 10 (pos 2) 1 ∷ []
for_code_is = refl

abbrev bounds : Bounds
bounds = record { low = pos 1; high = pos 3 }

-- array[own] := array[own] + 1; the array's elements are own values behind own
abbrev element_body : PlainBody ℕ
element_body = next (store 1 3 bounds (read 2) (binary Add (element 3 bounds (read 2)) (number 1))) done

-- each pair of its instructions is done at once, and the second one of each stays where it is
element_code_is : joined_of (body_code 2 [] (λ k. 0) (λ k base path pc. []) base 0 element_body 0) ≡ instr.LoadLocate 10 bounds ∷ instr.Locate bounds
    ∷ instr.LoadLoadAt 10 11 bounds ∷ instr.LoadAt 11 bounds
    ∷ instr.BinaryLiteralStoreAt Add 11 (pos 1) bounds ∷ instr.StoreAt 11 bounds ∷ []
element_code_is = refl
