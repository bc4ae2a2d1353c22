-- Runs by other numbers, and what a run keeps.
use Rattle.std.proofs.Common.{ℕ, ℤ, List, refl}
use Rattle.st_tree.specs.Meaning.{Ran, Done, Trapped}
use Rattle.logic_cells.specs.Cells.{PlainCells}
use Rattle.plant_types.specs.Values.{Path}
use Rattle.acc_vm.specs.declared.instr.Instr.{Instr}
use Rattle.plant_types.specs.declared.values.Place.{Place}
use Rattle.acc_vm.specs.Machine.{Run, Over, Unfinished, Stuck, exec}
use Rattle.std.specs.Prelude.{map}
use Rattle.acc_vm.specs.Operands.{renamed}
use Rattle.vm_slices.specs.Renaming.{TellsApart, StandsFor}
use Rattle.vm_slices.specs.Alike.{EndAlike, GoAlike, IsKept, EndsIn, Leaves}
use Rattle.vm_slices.specs.Laws.{BothAfter}
use Rattle.acc_vm.specs.Operands.{operands}
use Rattle.vm_slices.proofs.Steps.{itself, Like, runs}
use Rattle.vm_slices.proofs.Standing.{kept_by_itself, Stands, suit}

pub end_weaker : (R Q : PlainCells → PlainCells → Type 0) → ((w v : PlainCells) → R w v → Q w v) → (r q : Ran PlainCells) → EndAlike R r q → EndAlike Q r q
end_weaker R Q h (Done w) (Done v) e = h w v e
end_weaker R Q h (Trapped w spot trap) (Trapped v other reason) e = (h w v e.0, e.1, e.2)
end_weaker R Q h (Done w) (Trapped v other reason) e = e
end_weaker R Q h (Trapped w spot trap) (Done v) e = e

pub weaker : (R Q : PlainCells → PlainCells → Type 0) → ((w v : PlainCells) → R w v → Q w v) → (a b : Run) → GoAlike R a b → GoAlike Q a b
weaker R Q h (Over r left) (Over q rest) e = (end_weaker R Q h r q e.0, e.1)
weaker R Q h (Over r left) Unfinished e = e
weaker R Q h (Over r left) Stuck e = e
weaker R Q h Unfinished (Over q rest) e = e
weaker R Q h Unfinished Unfinished e = tt
weaker R Q h Unfinished Stuck e = e
weaker R Q h Stuck (Over q rest) e = e
weaker R Q h Stuck Unfinished e = e
weaker R Q h Stuck Stuck e = tt

ends_in : (R : PlainCells → PlainCells → Type 0) (P : PlainCells → Type 0) → ((w v : PlainCells) → R w v → P w) → (r q : Ran PlainCells) → EndAlike R r q → EndsIn P r
ends_in R P h (Done w) (Done v) e = h w v e
ends_in R P h (Trapped w spot trap) (Trapped v other reason) e = h w v e.0
ends_in R P h (Done w) (Trapped v other reason) e = absurd e
ends_in R P h (Trapped w spot trap) (Done v) e = absurd e

leaves : (R : PlainCells → PlainCells → Type 0) (P : PlainCells → Type 0) → ((w v : PlainCells) → R w v → P w) → (a b : Run) → GoAlike R a b → Leaves P a
leaves R P h (Over r left) (Over q rest) e = ends_in R P h r q e.0
leaves R P h (Over r left) Unfinished e = absurd e
leaves R P h (Over r left) Stuck e = absurd e
leaves R P h Unfinished b e = tt
leaves R P h Stuck b e = tt

-- a run of code by other numbers goes as that of the code does
pub renamed_runs : (t room : ℕ) (names : List Path) (code : List Instr) (places : List Place) (f g : ℕ → ℕ) (fuel pc : ℕ) (acc : ℤ) (stack : List ℤ) (cells small : PlainCells)
    → TellsApart f g code → StandsFor f g code cells small
    → GoAlike (BothAfter f g code cells small) (exec t room names code places fuel pc acc stack cells) (exec t room names (map (renamed f g) code) places fuel pc acc stack small)
renamed_runs t room names code places f g fuel pc acc stack cells small apart stands =
    let all = runs (Stands f g code apart cells small) f g t room names code places (suit f g code apart cells small) fuel in
    let first : Stands f g code apart cells small cells small =
    record { stands = stands; kept = record { values = λ s not. refl; clocks = λ k not. refl; shape = record { values = refl; clocks = refl } }; shape = record { values = refl; clocks = refl } } in
    let like : Like (Stands f g code apart cells small) f g (GoAlike (Stands f g code apart cells small)) (exec t room names code places fuel pc acc stack cells) (exec t room names (map (renamed f g) code) places fuel pc acc stack small) = all.on pc acc acc stack cells small refl first in
    weaker (Stands f g code apart cells small) (BothAfter f g code cells small) (λ w v h. record { stands = h.stands; kept = h.kept; shape = h.shape }) _ _ like.is

-- a run keeps what its code doesn't write
pub keeps : (t room : ℕ) (names : List Path) (code : List Instr) (places : List Place) (fuel pc : ℕ) (acc : ℤ) (stack : List ℤ) (cells : PlainCells)
    → Leaves (IsKept code cells) (exec t room names code places fuel pc acc stack cells)
keeps t room names code places fuel pc acc stack cells =
    leaves (BothAfter itself itself code cells cells) (IsKept code cells) (λ w v h. h.kept) _ (exec t room names (map (renamed itself itself) code) places fuel pc acc stack cells)
    (renamed_runs t room names code places itself itself fuel pc acc stack cells cells (record { values = λ s r a b e. e; clocks = λ k l a b e. e; rows = λ pc i at. kept_by_itself (operands i) }) (record { values = λ s a. refl; clocks = λ k a. refl }))
