-- Worlds, and what routines do in them.
use Rattle.std.specs.Prelude.{ℕ, ℤ, pos, negsuc, Bool, true, false, ◌&&◌, if◌then◌else◌, List, [], ◌∷◌, map, is_some, Option, Some, None, slice_get, codes}
use Rattle.std.specs.Str.{bytes_eq}
use Rattle.plant_types.specs.Words.{folded, same_word}
use Rattle.plant_types.specs.Values.{truth, is_true, Path}
use Rattle.std_blocks.specs.Calls.{Call, call}
use Rattle.std_blocks.specs.Timers.{ton, tof}
use Rattle.std_blocks.specs.Edges.{r_trig}
use Rattle.st_tree.specs.Plain.{done}
use Rattle.st_tree.specs.Meaning.{Space, Ran, Done, Trapped, run_all}
use Rattle.logic_source.specs.declared.logic.Instance.{Instance}
use Rattle.logic_source.specs.declared.logic.BlockRef.{BlockRef}
use Rattle.logic_source.specs.declared.logic.BlockRef.TheVariants.{Ton, Tof, RTrig, Declared}
use Rattle.logic_source.specs.Source.{PlainRoutine, Source}
use Rattle.logic_source.specs.Names.{own_words, row_words, find_word, instance_named, block_named, meant_in}
use Rattle.logic_source.specs.Blocks.{by_type}

-- a path in small letters
abbrev pub words_of : Path → Path
words_of path = map folded path

-- two paths have the same names
abbrev pub same_path : Path → Path → Bool
same_path [] [] = true
same_path [] (b ∷ q) = false
same_path (a ∷ p) [] = false
same_path (a ∷ p) (b ∷ q) = same_path p q && bytes_eq a b

-- the value at each path, as a whole number, and the calls of the standard block at each path, the latest one first
pub record World : Type 0 where
  pub values : Path → ℤ
  pub calls : Path → List Call

-- the world after a path was assigned a value; all else stays
abbrev pub assign : World → Path → ℤ → World
assign w path n = record { values = λ q. if same_path path q then n else w.values q; calls = w.calls }

-- the world after the standard block at a path was called; all else stays
abbrev pub with_call : World → Path → Call → World
with_call w path c = record { values = w.values; calls = λ q. if same_path path q then c ∷ w.calls q else w.calls q }

-- the path of a global
abbrev pub path_of : List ℕ → Path
path_of name = folded name ∷ []

-- the path of a name in the routine at a path: a variable of its own hides a global
abbrev pub path_in : PlainRoutine → Path → List ℕ → Path
path_in r path name = if is_some (find_word (own_words r.locals) name) then folded name ∷ words_of path else path_of name

-- the word of an index, which is no name's: '[' and the number, with '-' before that of a negative one
abbrev pub index_word : ℤ → List ℕ
index_word (pos n) = 91 ∷ n ∷ []
index_word (negsuc n) = 91 ∷ 45 ∷ n ∷ []

-- the path of an array's name in the routine at a path: an array of its own hides a global one
abbrev pub row_path : PlainRoutine → Path → List ℕ → Path
row_path r path name = if is_some (find_word (row_words r.rows) name) then folded name ∷ words_of path else path_of name

-- the path of an array's element, by its index
abbrev pub element_path : PlainRoutine → Path → List ℕ → ℤ → Path
element_path r path name i = index_word i ∷ row_path r path name

-- a standard block's inputs and outputs, in small letters
abbrev pub in_word : List ℕ
in_word = codes "in"

abbrev pub pt_word : List ℕ
pt_word = codes "pt"

abbrev pub clk_word : List ℕ
clk_word = codes "clk"

-- the call of the timer at a path: what its inputs hold, and the moment
abbrev pub timer_call : ℕ → World → Path → Call
timer_call t w path = call (is_true (w.values (in_word ∷ path))) (w.values (pt_word ∷ path)) t

-- the call of the edge detector at a path; it has no PT
abbrev pub trigger_call : ℕ → World → Path → Call
trigger_call t w path = call (is_true (w.values (clk_word ∷ path))) (pos 0) t

-- ET of a timer, or else Q
abbrev pub timer_output : Bool × ℤ → List ℕ → ℤ
timer_output outputs name = if same_word name (codes "ET") then outputs.1 else truth outputs.0

-- the output of a name, of the instance at a path: by the calls of a standard block, else the value of the block type's own variable
abbrev pub output_at : World → Path → Option BlockRef → List ℕ → ℤ
output_at w path None name = pos 0
output_at w path (Some Ton) name = timer_output (ton (w.calls path)) name
output_at w path (Some Tof) name = timer_output (tof (w.calls path)) name
output_at w path (Some RTrig) name = truth (r_trig (map (λ (c : Call). c.input) (w.calls path)))
output_at w path (Some (Declared n)) name = w.values (folded name ∷ path)

-- what a call of an instance of the routine at a path does at a moment, where what block types do is given: a standard block takes note of the call
abbrev pub called : ℕ → (ℕ → Path → World → Ran World) → Path → World → (name : List ℕ) → BlockRef → Ran World
called t inner path w name Ton = Done (with_call w (words_of (name ∷ path)) (timer_call t w (words_of (name ∷ path))))
called t inner path w name Tof = Done (with_call w (words_of (name ∷ path)) (timer_call t w (words_of (name ∷ path))))
called t inner path w name RTrig = Done (with_call w (words_of (name ∷ path)) (trigger_call t w (words_of (name ∷ path))))
called t inner path w name (Declared n) = inner n (name ∷ path) w

abbrev pub called_named : ℕ → (ℕ → Path → World → Ran World) → Path → World → Option Instance → Ran World
called_named t inner path w None = Done w
called_named t inner path w (Some i) = called t inner path w i.name i.of

-- what the names in the routine at a path mean in worlds, at a moment
abbrev pub routine_space : ℕ → (ℕ → Path → World → Ran World) → PlainRoutine → Path → Space (List ℕ) World
routine_space t inner r path = record {
  path = path;
  get = λ w name. w.values (path_in r path name);
  put = λ w name n. assign w (path_in r path name) n;
  get_at = λ w name bounds i. w.values (element_path r path name i);
  put_at = λ w name bounds i n. assign w (element_path r path name i) n;
  get_output = λ w instance name. output_at w (words_of (instance ∷ path)) (block_named r instance) name;
  put_input = λ w instance name n. assign w (words_of (name ∷ instance ∷ path)) n;
  enter = λ w instance. called_named t inner path w (instance_named r instance);
}

-- what a routine of a source does at a path and a moment, where what block types do is given
abbrev pub run_rule : Source → ℕ → (ℕ → Path → World → Ran World) → PlainRoutine → Path → World → Ran World
run_rule source t inner r path w = run_all (routine_space t inner r path) (meant_in source r r.body) w

-- what the block type of a number does at a path and a moment
abbrev pub run_routine : Source → ℕ → ℕ → Path → World → Ran World
run_routine source t = by_type (λ path w. Done w) (run_rule source t) source.blocks

abbrev pub run_in : Source → ℕ → Option PlainRoutine → World → Ran World
run_in source t None w = Done w
run_in source t (Some p) w = run_rule source t (run_routine source t) p (p.name ∷ []) w

-- what the program of a number does at a moment: it runs at the path of its name
abbrev pub run_program : Source → ℕ → ℕ → World → Ran World
run_program source n t w = run_in source t (slice_get source.programs n) w

-- the world that a run leaves
abbrev pub left_by : Ran World → World
left_by (Done w) = w
left_by (Trapped w spot trap) = w

-- nothing is called by an initial value
abbrev pub no_calls : ℕ → Path → World → Ran World
no_calls n path w = Done w

-- the world after the initial values of a routine's own variables were assigned at a path
abbrev pub begun : Source → PlainRoutine → Path → World → World
begun source r path w = left_by (run_all (routine_space 0 no_calls r path) (meant_in source r r.starts) w)

-- the world after the initial values of an instance at a path, where those of block types are given; a standard block has none
abbrev pub block_begun : (ℕ → Path → World → World) → Path → BlockRef → World → World
block_begun inner path Ton w = w
block_begun inner path Tof w = w
block_begun inner path RTrig w = w
block_begun inner path (Declared n) w = inner n path w

abbrev pub instances_begun : (ℕ → Path → World → World) → Path → List Instance → World → World
instances_begun inner path [] w = w
instances_begun inner path (i ∷ is) w = instances_begun inner path is (block_begun inner (i.name ∷ path) i.of w)

-- the world after the initial values of a routine's own variables and then those of its instances, one after another
abbrev pub begin_rule : Source → (ℕ → Path → World → World) → PlainRoutine → Path → World → World
begin_rule source inner r path w = instances_begun inner path r.instances (begun source r path w)

-- the same of the block type of a number
abbrev pub routine_begun : Source → ℕ → Path → World → World
routine_begun source = by_type (λ path w. w) (begin_rule source) source.blocks

abbrev pub programs_begun : Source → List PlainRoutine → World → World
programs_begun source [] w = w
programs_begun source (p ∷ ps) w = programs_begun source ps (begin_rule source (routine_begun source) p (p.name ∷ []) w)

-- the list of globals as a routine: it has no variables of its own, and does nothing
abbrev pub globals_routine : Source → PlainRoutine
globals_routine source = record { name = codes "VAR_GLOBAL"; locals = []; rows = []; instances = []; starts = source.starts; body = done }

-- the world in which each value is FALSE or 0, and no standard block was called
abbrev pub zero_world : World
zero_world = record { values = λ path. pos 0; calls = λ path. [] }

-- the world before the first scan: each value is FALSE or 0, no standard block was called, and then the initial values that are written are assigned, the globals' and each program's in turn, with those of its instances
abbrev pub opening : Source → World
opening source = programs_begun source source.programs (begun source (globals_routine source) [] zero_world)
