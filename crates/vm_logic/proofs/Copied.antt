-- A copy of what is ready to run is ready to run.
use Rattle.std.proofs.Common.{◌≡◌, ◌∙◌, sym, subst, ℕ, List, map}
use Rattle.logic_source.specs.declared.logic.Variable.{Variable}
use Rattle.logic_source.specs.Source.{Source}
use Rattle.logic_source.specs.Worlds.{opening}
use Rattle.logic_cells.specs.Cells.{PlainCells}
use Rattle.logic_walk.specs.declared.frame.Frame.{Frame}
use Rattle.logic_frames.specs.Stands.{StandFor}
use Rattle.acc_vm.specs.Codes.{PlainCode}
use Rattle.vm_logic.specs.declared.headings.Heading.{Heading}
use Rattle.logic_source.specs.declared.logic.Row.{Row}
use Rattle.vm_logic.specs.Headings.{view_heading, AreDeclared}
use Rattle.vm_logic.specs.Framed.{IsFramed}
use Rattle.vm_logic.specs.Kept.{IsKept}

-- what holds of parts holds of equal parts
pub framed_same : (source made : Source) (order o : List ℕ) (frames f : List Frame) (names n : List (List ℕ)) (values v clocks c paths p : List ℕ) (codes d : List PlainCode)
    → made ≡ source → o ≡ order → f ≡ frames → n ≡ names → v ≡ values → c ≡ clocks → p ≡ paths → d ≡ codes
    → IsFramed source order frames names values clocks paths codes → IsFramed made o f n v c p d
framed_same source made order o frames f names n values v clocks c paths p codes d e1 e2 e3 e4 e5 e6 e7 e8 h =
    subst (λ x. IsFramed x o f n v c p d) (sym e1)
    (subst (λ x. IsFramed source x f n v c p d) (sym e2)
    (subst (λ x. IsFramed source order x n v c p d) (sym e3)
    (subst (λ x. IsFramed source order frames x v c p d) (sym e4)
    (subst (λ x. IsFramed source order frames names x c p d) (sym e5)
    (subst (λ x. IsFramed source order frames names values x p d) (sym e6)
    (subst (λ x. IsFramed source order frames names values clocks x d) (sym e7)
    (subst (λ x. IsFramed source order frames names values clocks paths x) (sym e8) h)))))))

-- and so does what is kept, where headings are the same but for where they are in memory
pub kept_same : (source made : Source) (order o : List ℕ) (first : ℕ) (globals g : List Variable) (programs h : List Heading) (cells k : PlainCells) (begin : ℕ)
    → made ≡ source → o ≡ order → g ≡ globals → map view_heading h ≡ map view_heading programs → k ≡ cells → IsKept source order first globals programs cells begin → IsKept made o first g h k begin
kept_same source made order o first globals g programs h cells k begin e1 e2 e3 e4 e5 kept =
    subst (λ x. IsKept x o first g h k begin) (sym e1)
    (subst (λ x. IsKept source x first g h k begin) (sym e2)
    (record { first_is = kept.first_is; globals_are = e3 ∙ kept.globals_are; programs_are = e4 ∙ kept.programs_are; opens = subst (λ x. StandFor source x (opening source)) (sym e5) kept.opens; begins = kept.begins }))

-- the same of the other declarations
pub declared_same : (source made : Source) (rows r : List Row) (blocks b : List Heading) → made ≡ source → r ≡ rows → map view_heading b ≡ map view_heading blocks → AreDeclared source rows blocks → AreDeclared made r b
declared_same source made rows r blocks b e1 e2 e3 are = subst (λ x. AreDeclared x r b) (sym e1) (record { rows_are = e2 ∙ are.rows_are; blocks_are = e3 ∙ are.blocks_are })
