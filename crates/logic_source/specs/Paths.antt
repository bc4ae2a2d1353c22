-- The paths at which a source's statements run, and their texts.
use Rattle.std.specs.Prelude.{ℕ, Bool, if◌then◌else◌, List, [], ◌∷◌, ◌++◌, map, codes}
use Rattle.std.specs.List.{list_any}
use Rattle.plant_types.specs.Words.{same_word}
use Rattle.st_tree.specs.Plain.{PlainStmt, empty, assign, store, call, if_else, case_of, for_to, PlainBody, done, next, Branches, no_branch, branch, Choices, no_choice, choice}
use Rattle.logic_source.specs.declared.logic.Instance.{Instance}
use Rattle.logic_source.specs.declared.logic.BlockRef.{BlockRef}
use Rattle.logic_source.specs.declared.logic.BlockRef.TheVariants.{Ton, Tof, RTrig, Declared}
use Rattle.logic_source.specs.Source.{PlainRoutine, Source}
use Rattle.logic_source.specs.Blocks.{by_type}
use Rattle.plant_types.specs.Values.{Path}

abbrev mutual
  -- the instances that a statement calls, in order of text
  pub called_in_stmt : {V : Type 0} → PlainStmt V → List V
  called_in_stmt (empty number) = []
  called_in_stmt (assign number v e) = []
  called_in_stmt (store number v bounds index value) = []
  called_in_stmt (call number instance arguments) = instance ∷ []
  called_in_stmt (if_else number branches last) = called_in_branches branches ++ called_in last
  called_in_stmt (case_of number e choices last) = called_in_choices choices ++ called_in last
  called_in_stmt (for_to number v from to by body) = called_in body

  -- the instances that a body calls, in order of text
  pub called_in : {V : Type 0} → PlainBody V → List V
  called_in done = []
  called_in (next s rest) = called_in_stmt s ++ called_in rest

  pub called_in_branches : {V : Type 0} → Branches V → List V
  called_in_branches no_branch = []
  called_in_branches (branch e body rest) = called_in body ++ called_in_branches rest

  pub called_in_choices : {V : Type 0} → Choices V → List V
  called_in_choices no_choice = []
  called_in_choices (choice labels body rest) = called_in body ++ called_in_choices rest

-- a routine calls its instance of a name
abbrev pub is_called : PlainRoutine → List ℕ → Bool
is_called r name = list_any (same_word name) (called_in r.body)

-- the paths below an instance: none below a standard block
abbrev pub block_paths : (ℕ → List Path) → List ℕ → BlockRef → List Path
block_paths inner name Ton = []
block_paths inner name Tof = []
block_paths inner name RTrig = []
block_paths inner name (Declared n) = map (λ path. path ++ name ∷ []) (inner n)

-- the paths below instances in turn; none below one that the routine doesn't call
abbrev pub instance_paths : (ℕ → List Path) → PlainRoutine → List Instance → List Path
instance_paths inner r [] = []
instance_paths inner r (i ∷ is) = (if is_called r i.name then block_paths inner i.name i.of else []) ++ instance_paths inner r is

-- the paths at which the statements of a routine run, from the routine on: its own, and then those below each instance that it calls
abbrev pub paths_rule : (ℕ → List Path) → PlainRoutine → List Path
paths_rule inner r = [] ∷ instance_paths inner r r.instances

-- the same of the block type of a number
abbrev pub type_paths : List PlainRoutine → ℕ → List Path
type_paths blocks = by_type [] paths_rule blocks

abbrev pub program_paths : List PlainRoutine → List PlainRoutine → List Path
program_paths blocks [] = []
program_paths blocks (p ∷ ps) = map (λ path. path ++ p.name ∷ []) (paths_rule (type_paths blocks) p) ++ program_paths blocks ps

-- the paths at which a source's statements run, each name as declared, by their numbers: program by program
abbrev pub paths_of : Source → List Path
paths_of source = program_paths source.blocks source.programs

-- the text of a path: its names as declared, the program's first, with points between them
abbrev pub path_text : Path → List ℕ
path_text [] = []
path_text (name ∷ []) = name
path_text (name ∷ (outer ∷ path)) = path_text (outer ∷ path) ++ codes "." ++ name
