-- What worked examples count.
use Rattle.std.proofs.Common.{◌≡◌, ap, sym, ℕ, ℤ, pos, negsuc, List, [], ◌∷◌, ◌+◌, ◌*◌, None, refl}
use Rattle.std.specs.Prelude.{codes}
use Rattle.plant_types.specs.declared.values.Kind.TheVariants.{Dint}
use Rattle.st_tree.specs.declared.tree.Literal.TheVariants.{Integer}
use Rattle.st_tree.specs.declared.tree.Binary.TheVariants.{Add}
use Rattle.st_tree.specs.Plain.{literal, read, binary, output, PlainExpr, assign, call, for_to, PlainBody, done, next}
use Rattle.st_tree.proofs.Counting.{turns_up}
use Rattle.logic_source.specs.Constants.{for_turns}
use Rattle.logic_source.specs.declared.logic.Local.{Local}
use Rattle.logic_source.specs.declared.logic.Row.{Row}
use Rattle.logic_source.specs.declared.logic.Instance.{Instance}
use Rattle.logic_source.specs.declared.logic.BlockRef.TheVariants.{Ton, RTrig, Declared}
use Rattle.logic_source.specs.Source.{PlainRoutine, Source}
use Rattle.logic_limits.specs.Counts.{slot_count, plant_size, program_costs}
use Rattle.logic_limits.specs.Limits.{capped}

-- a DINT
abbrev dint : List ℕ → Local
dint name = record { name = name; kind = Dint }

-- a program of a body, with locals i, j and n
abbrev program_of : PlainBody (List ℕ) → PlainRoutine
program_of body = record { name = codes "p"; locals = dint (codes "i") ∷ dint (codes "j") ∷ dint (codes "n") ∷ []; rows = []; instances = []; starts = done; body = body }

-- a source of one program, without block types
abbrev source_of_one : PlainRoutine → Source
source_of_one p = record { globals = []; rows = []; starts = done; programs = p ∷ []; blocks = [] }

abbrev integer : ℕ → PlainExpr (List ℕ)
integer n = literal (Integer (pos n))

-- n := n + 1
abbrev count_on : PlainBody (List ℕ)
count_on = next (assign 0 (codes "n") (binary Add (read (codes "n")) (integer 1))) done

-- FOR name := 1 TO last DO body END_FOR
abbrev loop : List ℕ → ℕ → PlainBody (List ℕ) → PlainBody (List ℕ)
loop name last body = next (for_to 0 name (integer 1) (integer last) None body) done

-- from 1 to 10000, to 1000 and to 300 by 1 there are as many turns
turns_10000 : for_turns (integer 1) (integer 10000) None ≡ 10000
turns_10000 = sym (turns_up record { from = pos 1; to = pos 10000; step = pos 1 } (pos 9999) 1 10000 refl refl refl refl)

turns_1000 : for_turns (integer 1) (integer 1000) None ≡ 1000
turns_1000 = sym (turns_up record { from = pos 1; to = pos 1000; step = pos 1 } (pos 999) 1 1000 refl refl refl refl)

turns_300 : for_turns (integer 1) (integer 300) None ≡ 300
turns_300 = sym (turns_up record { from = pos 1; to = pos 300; step = pos 1 } (pos 299) 1 300 refl refl refl refl)

-- 2, and 10,000 times 3 and 4
ten_thousand_turns : program_costs (source_of_one (program_of (loop (codes "i") 10000 count_on))) ≡ 70002 ∷ []
ten_thousand_turns = ap (λ turns. (2 + turns * (3 + 4) + 0) ∷ []) turns_10000

-- 2, and 1000 times 3 and an inner FOR, which is 2 and 300 times 3 and 4; it is past the limit, and the count stops above that
turns_in_turns : program_costs (source_of_one (program_of (loop (codes "i") 1000 (loop (codes "j") 300 count_on)))) ≡ 2105002 ∷ []
turns_in_turns = λ k. (2 + turns_1000 k * (3 + (2 + turns_300 k * (3 + 4) + 0)) + 0) ∷ []

stops : capped 2000000 2105002 ≡ 2000001
stops = refl

-- of one turn alone: 2 and 3 and 2 and 3 and 4
one_turn_each : plant_size (source_of_one (program_of (loop (codes "i") 1000 (loop (codes "j") 300 count_on)))) ≡ 14
one_turn_each = refl

-- FUNCTION_BLOCK N with an output m, a variable n, and n := n + 1; m := n;
abbrev counter : PlainRoutine
counter = record {
  name = codes "N";
  locals = dint (codes "m") ∷ dint (codes "n") ∷ [];
  rows = [];
  instances = [];
  starts = done;
  body = next (assign 0 (codes "n") (binary Add (read (codes "n")) (integer 1))) (next (assign 0 (codes "m") (read (codes "n"))) done);
}

abbrev instance_of : List ℕ → ℕ → Instance
instance_of name n = record { name = name; of = Declared n }

-- a program with u, v : N, a TON and an R_TRIG that are never called, and u(); U(); v(m => y);
abbrev caller : PlainRoutine
caller = record {
  name = codes "p";
  locals = dint (codes "y") ∷ [];
  rows = [];
  instances = instance_of (codes "u") 0 ∷ instance_of (codes "v") 0 ∷ record { name = codes "t"; of = Ton } ∷ record { name = codes "r"; of = RTrig } ∷ [];
  starts = done;
  body = next (call 0 (codes "u") []) (next (call 0 (codes "U") []) (next (call 0 (codes "v") (output (codes "m") (codes "y") ∷ [])) done));
}

-- the block type is there twice: nobody uses the second
abbrev plant : Source
plant = record { globals = []; rows = []; starts = done; programs = caller ∷ []; blocks = counter ∷ counter ∷ [] }

-- the block's body costs 6, each call 1, and the output 1
calls_cost : program_costs plant ≡ 22 ∷ []
calls_cost = refl

calls_size : plant_size plant ≡ 22
calls_size = refl

-- y, the two variables of u, those of v, 3 for the TON and 2 for the R_TRIG
plant_slots : slot_count plant ≡ 10
plant_slots = refl

-- an array of the elements w[low] to w[high]
abbrev row : ℤ → ℤ → Row
row low high = record { name = codes "w"; kind = Dint; bounds = record { low = low; high = high } }

-- the same with a global array w[-1] to w[2], an own array w[5] to w[5] of the block type, which is there twice, and one of the program from w[0] to w[99]
abbrev with_rows : Source
with_rows = record {
  globals = [];
  rows = row (negsuc 0) (pos 2) ∷ [];
  starts = done;
  programs = record caller { rows = row (pos 0) (pos 99) ∷ [] } ∷ [];
  blocks = record counter { rows = row (pos 5) (pos 5) ∷ [] } ∷ counter ∷ [];
}

-- 4 elements, 1 in each of u and v, and 100
row_slots : slot_count with_rows ≡ 10 + 4 + 2 * 1 + 100
row_slots = refl
