-- Prints tell instructions and places apart.
use Rattle.std.proofs.Common.{◌≡◌, ◌≢◌, ℕ, ◌+◌, ◌<◌, ℤ, List, [], ◌∷◌, ◌++◌, map, length, get_or, drop, append_assoc, arith, refl, ap, sym, ◌∙◌, subst, nat_eq, Option, if◌then◌else◌, ◌⊎◌, inl, inr, ne_eqb}
use Rattle.std.proofs.lemmas.Bool.Decides.{nat_tests}
use Rattle.std.specs.List.{flat_map}
use Rattle.std.proofs.lemmas.List.{length-map, map-append}
use Rattle.plant_types.specs.declared.values.Place.{Place}
use Rattle.st_tree.specs.declared.tree.Unary.{Unary}
use Rattle.st_tree.specs.declared.tree.Unary.TheVariants as unary
use Rattle.st_tree.specs.declared.tree.Binary.{Binary}
use Rattle.st_tree.specs.declared.tree.Binary.TheVariants as binary
use Rattle.acc_vm.specs.declared.instr.Instr.{Instr}
use Rattle.acc_vm.specs.declared.instr.Named.{Named}
use Rattle.acc_vm.specs.declared.instr.Operation.{Operation}
use Rattle.plant_types.specs.declared.values.Bounds.{Bounds}
use Rattle.acc_vm.specs.Operands.{operands, bounds_of, rows_of, read_rows, written_rows, listed}
use Rattle.acc_vm.proofs.Table.{Sizes, same_sizes, same_instr}
use Rattle.acc_vm.specs.Codes.{PlainCode}
use Rattle.vm_slices.specs.declared.prints.Prints.{Prints}
use Rattle.vm_slices.specs.Prints.{ArePrintsOf, HaveSameItems, kinds_of, numbers_of, literals_of, firsts, with_kinds, with_numbers, with_literals, step_of, told_of, steps_of, told_places, opening, counts_of, unary_number, binary_number}

-- the operator of a number
abbrev unary_of : ℕ → Unary
unary_of n = if nat_eq n 0 then unary.Not else (if nat_eq n 1 then unary.Negate else unary.NegateTime)

unary_back : (op : Unary) → unary_of (unary_number op) ≡ op
unary_back unary.Not = refl
unary_back op = refl

abbrev binary_of : ℕ → Binary
binary_of n = if nat_eq n 0 then binary.And else (if nat_eq n 1 then binary.Xor else (if nat_eq n 2 then binary.Or else (if nat_eq n 3 then binary.Equal else (if nat_eq n 4 then binary.Unequal else (if nat_eq n 5 then binary.Less else (if nat_eq n 6 then binary.Greater else (if nat_eq n 7 then binary.AtMost else (if nat_eq n 8 then binary.AtLeast else (if nat_eq n 9 then binary.Add else (if nat_eq n 10 then binary.AddTime else (if nat_eq n 11 then binary.Subtract else (if nat_eq n 12 then binary.SubtractTime else (if nat_eq n 13 then binary.Multiply else (if nat_eq n 14 then binary.Divide else (binary.Mod)))))))))))))))

binary_back : (op : Binary) → binary_of (binary_number op) ≡ op
binary_back binary.And = refl
binary_back op = refl

-- operators of the same numbers are the same
all_unary : (ops : List Unary) → map unary_of (map unary_number ops) ≡ ops
all_unary [] = refl
all_unary (op ∷ ops) = λ i. unary_back op i ∷ all_unary ops i

all_binary : (ops : List Binary) → map binary_of (map binary_number ops) ≡ ops
all_binary [] = refl
all_binary (op ∷ ops) = λ i. binary_back op i ∷ all_binary ops i

same_unary : (xs ys : List Unary) → map unary_number xs ≡ map unary_number ys → xs ≡ ys
same_unary xs ys e = sym (all_unary xs) ∙ ap (map unary_of) e ∙ all_unary ys

same_binary : (xs ys : List Binary) → map binary_number xs ≡ map binary_number ys → xs ≡ ys
same_binary xs ys e = sym (all_binary xs) ∙ ap (map binary_of) e ∙ all_binary ys

-- lists that begin with as many items are the same where these are, and what is behind them
cut : {A : Type 0} (xs ys a b : List A) → length xs ≡ length ys → xs ++ a ≡ ys ++ b → (xs ≡ ys) × (a ≡ b)
cut [] [] a b n e = (refl, e)
cut [] (y ∷ ys) a b n e = absurd (omega (arith, n))
cut (x ∷ xs) [] a b n e = absurd (omega (arith, n))
cut (x ∷ xs) (y ∷ ys) a b n e =
    let short : length xs ≡ length ys = omega (arith, n) in
    let here : x ≡ y = ap (λ l. get_or l 0 x) e in
    let rest = cut xs ys a b short (ap (drop 1) e) in
    (λ i. here i ∷ rest.0 i, rest.1)

cut_first : {A : Type 0} (xs ys a b c d : List A) → length xs ≡ length ys → (xs ++ a) ++ c ≡ (ys ++ b) ++ d → (xs ≡ ys) × (a ++ c ≡ b ++ d)
cut_first xs ys a b c d n e = cut xs ys (a ++ c) (b ++ d) n (sym (append_assoc xs a c) ∙ e ∙ append_assoc ys b d)

-- instructions that begin lists of the same numbers are the same, and so is what is behind them
record Begins (x y : Instr) (ks hs ns ms : List ℕ) (ls rs : List ℤ) : Type 0 where
  instr : x ≡ y
  kinds : ks ≡ hs
  numbers : ns ≡ ms
  literals : ls ≡ rs

begin_alike : (x y : Instr) (ks hs ns ms : List ℕ) (ls rs : List ℤ) → kinds_of x ++ ks ≡ kinds_of y ++ hs → numbers_of x ++ ns ≡ numbers_of y ++ ms → literals_of x ++ ls ≡ literals_of y ++ rs
    → Begins x y ks hs ns ms ls rs
begin_alike x y ks hs ns ms ls rs k n l =
    let a = operands x in
    let b = operands y in
    let opcode : a.opcode ≡ b.opcode = ap (λ l. get_or l 0 0) k in
    let size = same_sizes x y opcode in
    let unary = cut_first (map unary_number a.unary) (map unary_number b.unary) (map binary_number a.binary) (map binary_number b.binary) ks hs
    (length-map a.unary unary_number ∙ ap (λ (s : Sizes). s.unary) size ∙ sym (length-map b.unary unary_number)) (ap (drop 1) k) in
    let binary = cut (map binary_number a.binary) (map binary_number b.binary) ks hs
    (length-map a.binary binary_number ∙ ap (λ (s : Sizes). s.binary) size ∙ sym (length-map b.binary binary_number)) unary.1 in
    let reads = cut_first a.reads b.reads (a.writes ++ (a.rows_read ++ (a.rows_written ++ (a.clocks ++ a.targets)))) (b.writes ++ (b.rows_read ++ (b.rows_written ++ (b.clocks ++ b.targets)))) ns ms
    (ap (λ (s : Sizes). s.reads) size) n in
    let writes = cut_first a.writes b.writes (a.rows_read ++ (a.rows_written ++ (a.clocks ++ a.targets))) (b.rows_read ++ (b.rows_written ++ (b.clocks ++ b.targets))) ns ms (ap (λ (s : Sizes). s.writes) size) reads.1 in
    let rows_read = cut_first a.rows_read b.rows_read (a.rows_written ++ (a.clocks ++ a.targets)) (b.rows_written ++ (b.clocks ++ b.targets)) ns ms (ap (λ (s : Sizes). s.rows_read) size) writes.1 in
    let rows_written = cut_first a.rows_written b.rows_written (a.clocks ++ a.targets) (b.clocks ++ b.targets) ns ms (ap (λ (s : Sizes). s.rows_written) size) rows_read.1 in
    let clocks = cut_first a.clocks b.clocks a.targets b.targets ns ms (ap (λ (s : Sizes). s.clocks) size) rows_written.1 in
    let targets = cut a.targets b.targets ns ms (ap (λ (s : Sizes). s.targets) size) clocks.1 in
    let literals = cut a.literals b.literals ls rs (ap (λ (s : Sizes). s.literals) size) l in
    let ops = same_unary a.unary b.unary unary.0 in
    let next_ops = same_binary a.binary b.binary binary.0 in
    record {
      instr = same_instr x y (λ i. record {
        opcode = opcode i;
        unary = ops i;
        binary = next_ops i;
        reads = reads.0 i;
        writes = writes.0 i;
        rows_read = rows_read.0 i;
        rows_written = rows_written.0 i;
        clocks = clocks.0 i;
        targets = targets.0 i;
        literals = literals.0 i;
      });
      kinds = binary.1;
      numbers = targets.1;
      literals = literals.1;
    }

-- lists of instructions whose prints have the same numbers are the same
same_instrs : (xs ys : List Instr) → flat_map kinds_of xs ≡ flat_map kinds_of ys → flat_map numbers_of xs ≡ flat_map numbers_of ys → flat_map literals_of xs ≡ flat_map literals_of ys → xs ≡ ys
same_instrs [] [] k n l = refl
same_instrs [] (y ∷ ys) k n l = let e = ap length k in absurd (omega (arith, e))
same_instrs (x ∷ xs) [] k n l = let e = ap length k in absurd (omega (arith, e))
same_instrs (x ∷ xs) (y ∷ ys) k n l =
    let first = begin_alike x y (flat_map kinds_of xs) (flat_map kinds_of ys) (flat_map numbers_of xs) (flat_map numbers_of ys) (flat_map literals_of xs) (flat_map literals_of ys) k n l in
    let left : xs ≡ ys = same_instrs xs ys first.kinds first.numbers first.literals in
    λ i. first.instr i ∷ left i

-- what the machine's code tells of an instruction is written as its print
pub with_kinds_is : (ks : List ℕ) (i : Instr) (o : Operation) → o.opcode ≡ (operands i).opcode → listed o.unary ≡ (operands i).unary → listed o.binary.0 ++ listed o.binary.1 ≡ (operands i).binary → with_kinds ks o ≡ ks ++ kinds_of i
with_kinds_is ks i o opcode unary binary =
    let one = map unary_number (listed o.unary) in
    let two = map binary_number (listed o.binary.0) in
    let three = map binary_number (listed o.binary.1) in
    let numbers : two ++ three ≡ map binary_number (operands i).binary = sym (map-append binary_number (listed o.binary.0) (listed o.binary.1)) ∙ ap (map binary_number) binary in
    append_assoc ((ks ++ o.opcode ∷ []) ++ one) two three ∙ append_assoc (ks ++ o.opcode ∷ []) one (two ++ three) ∙ append_assoc ks (o.opcode ∷ []) (one ++ (two ++ three))
    ∙ (λ k. ks ++ (opcode k ∷ (map unary_number (unary k) ++ numbers k)))

first_again : (bounds : Bounds) (slots : List ℕ) → firsts (rows_of bounds slots) ≡ slots
first_again bounds [] = refl
first_again bounds (slot ∷ slots) = ap (λ l. slot ∷ l) (first_again bounds slots)

pub with_numbers_is : (ns : List ℕ) (i : Instr) (n : Named) (target : Option ℕ) → listed n.reads.0 ++ listed n.reads.1 ≡ (operands i).reads → listed n.write ≡ (operands i).writes → listed n.row_read ≡ read_rows i → listed n.row_written ≡ written_rows i
    → listed n.clock ≡ (operands i).clocks → listed target ≡ (operands i).targets → with_numbers ns n target ≡ ns ++ numbers_of i
with_numbers_is ns i n target reads writes rows_read rows_written clocks targets =
    let o = operands i in
    let one = listed n.reads.0 in
    let two = listed n.reads.1 in
    let three = listed n.write in
    let four = firsts (listed n.row_read) in
    let five = firsts (listed n.row_written) in
    let six = listed n.clock in
    let seven = listed target in
    let four_is : four ≡ o.rows_read = ap firsts rows_read ∙ first_again (bounds_of o) o.rows_read in
    let five_is : five ≡ o.rows_written = ap firsts rows_written ∙ first_again (bounds_of o) o.rows_written in
    append_assoc (((((ns ++ one) ++ two) ++ three) ++ four) ++ five) six seven
    ∙ append_assoc ((((ns ++ one) ++ two) ++ three) ++ four) five (six ++ seven)
    ∙ append_assoc (((ns ++ one) ++ two) ++ three) four (five ++ (six ++ seven))
    ∙ append_assoc ((ns ++ one) ++ two) three (four ++ (five ++ (six ++ seven)))
    ∙ ap (λ (l : List ℕ). l ++ (three ++ (four ++ (five ++ (six ++ seven))))) (append_assoc ns one two)
    ∙ append_assoc ns (one ++ two) (three ++ (four ++ (five ++ (six ++ seven))))
    ∙ (λ k. ns ++ (reads k ++ (writes k ++ (four_is k ++ (five_is k ++ (clocks k ++ targets k))))))

pub with_literals_is : (ls : List ℤ) (i : Instr) (o : Operation) → (listed o.literals.0 ++ listed o.literals.1) ++ listed o.literals.2 ≡ (operands i).literals → with_literals ls o ≡ ls ++ literals_of i
with_literals_is ls i o e =
    let one = listed o.literals.0 in
    let two = listed o.literals.1 in
    let three = listed o.literals.2 in
    ap (λ l. l ++ three) (append_assoc ls one two) ∙ append_assoc ls (one ++ two) three ∙ ap (λ l. ls ++ l) e

-- a place that was read, and what is left of the numbers that are told
record ReadPlace : Type 0 where
  place : Place
  left : List ℕ

abbrev given : Place → List ℕ → ReadPlace
given place left = record { place = place; left = left }

-- the place behind another at a step
abbrev place_at : Place → ℕ → List ℕ → ReadPlace
place_at last step told = if nat_eq step 255 then given (record { path = get_or told 0 0; statement = get_or told 1 0 }) (drop 2 told) else given (record { path = last.path; statement = last.statement + step }) told

-- what a step tells of the place behind another: all, or nothing
abbrev Tells : Place → Place → ℕ → Type 0
Tells last p step = (step ≡ 255) ⊎ ((last.path ≡ p.path) × (last.statement + step ≡ p.statement) × (step < 255))

step_tells : (last p : Place) → Tells last p (step_of last p)
step_tells last p = grind (arith, nat_tests)

-- what is read at a place's step is that place, and the rest
place_back : (last p : Place) (left : List ℕ) (step : ℕ) → Tells last p step → place_at last step (told_of step p ++ left) ≡ given p left
place_back last p left step (inl e) = subst (λ (n : ℕ). place_at last n (told_of n p ++ left) ≡ given p left) (sym e) refl
place_back last p left step (inr near) =
    let other : step ≢ 255 = omega arith in
    rw (ne_eqb step 255 other) (λ i. given (record { path = near.0 i; statement = near.1 i }) left)

-- places of the same steps, and of the same numbers that are told, are the same
same_places : (last : Place) (xs ys : List Place) → steps_of last xs ≡ steps_of last ys → told_places last xs ≡ told_places last ys → xs ≡ ys
same_places last [] [] s t = refl
same_places last [] (y ∷ ys) s t = let n = ap length s in absurd (omega (arith, n))
same_places last (x ∷ xs) [] s t = let n = ap length s in absurd (omega (arith, n))
same_places last (x ∷ xs) (y ∷ ys) s t =
    let both : given x (told_places x xs) ≡ given y (told_places y ys) = sym (place_back last x (told_places x xs) (step_of last x) (step_tells last x)) ∙ (λ i. place_at last (get_or (s i) 0 0) (t i)) ∙ place_back last y (told_places y ys) (step_of last y) (step_tells last y) in
    let here : x ≡ y = ap (λ (r : ReadPlace). r.place) both in
    let steps : steps_of x xs ≡ steps_of x ys = ap (drop 1) s ∙ ap (λ (p : Place). steps_of p ys) (sym here) in
    let told : told_places x xs ≡ told_places x ys = ap (λ (r : ReadPlace). r.left) both ∙ ap (λ (p : Place). told_places p ys) (sym here) in
    let left : xs ≡ ys = same_places x xs ys steps told in
    λ i. here i ∷ left i

-- codes of one kind in all parts are the same
pub same_parts : (a b : PlainCode) → counts_of a ≡ counts_of b → a.places ≡ b.places → a.instrs ≡ b.instrs → a ≡ b
same_parts a b c p q = λ i. record { instrs = q i; places = p i; paths = (c i).paths; values = (c i).values; clocks = (c i).clocks; stack = (c i).stack; cost = (c i).cost }

-- codes whose prints have the same items have the same places and instructions, and the other way round
pub same_printed : (xs ys : List Instr) (ps qs : List Place) (f g : Prints) → ArePrintsOf xs ps f → ArePrintsOf ys qs g → HaveSameItems f g → (ps ≡ qs) × (xs ≡ ys)
same_printed xs ys ps qs f g a b e = (
  same_places opening ps qs (sym a.places_are.steps_are ∙ e.steps ∙ b.places_are.steps_are) (sym a.places_are.told_are ∙ e.told ∙ b.places_are.told_are),
  same_instrs xs ys (sym a.kinds_are ∙ e.kinds ∙ b.kinds_are) (sym a.numbers_are ∙ e.numbers ∙ b.numbers_are) (sym a.literals_are ∙ e.literals ∙ b.literals_are),
)

pub printed_same : (xs ys : List Instr) (ps qs : List Place) (f g : Prints) → ArePrintsOf xs ps f → ArePrintsOf ys qs g → (ps ≡ qs) × (xs ≡ ys) → HaveSameItems f g
printed_same xs ys ps qs f g a b (p, e) = record {
  kinds = a.kinds_are ∙ ap (flat_map kinds_of) e ∙ sym b.kinds_are;
  numbers = a.numbers_are ∙ ap (flat_map numbers_of) e ∙ sym b.numbers_are;
  literals = a.literals_are ∙ ap (flat_map literals_of) e ∙ sym b.literals_are;
  steps = a.places_are.steps_are ∙ ap (steps_of opening) p ∙ sym b.places_are.steps_are;
  told = a.places_are.told_are ∙ ap (told_places opening) p ∙ sym b.places_are.told_are;
}
