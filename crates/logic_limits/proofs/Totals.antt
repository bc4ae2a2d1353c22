-- What the programs count together.
use Rattle.std.proofs.Common.{◌≡◌, ◌∙◌, ap, sym, refl, ℕ, suc, ◌+◌, ◌<◌, ◌≤◌, min, Bool, true, false, List, [], ◌∷◌, map, inl, inr, arith}
use Rattle.std.specs.Prelude.{nat_lt, slice_index_or, ◌||◌}
use Rattle.std.specs.List.{sum_by, list_any, All, Any}
use Rattle.std.proofs.lemmas.Bool.{cases_Bool}
use Rattle.std.proofs.lemmas.Bool.Decides.{nat_tests}
use Rattle.std.proofs.lemmas.List.Sums.{sum_by-cons}
use Rattle.std.proofs.lemmas.List.Folds.{Any-from_list_any, list_any_at}
use Rattle.logic_source.specs.Source.{PlainRoutine, Source, global_cells}
use Rattle.logic_limits.specs.declared.measures.Counts.{Counts}
use Rattle.logic_limits.specs.Counts.{routine_slots, routine_size, routine_cost, type_slots, type_size, type_cost, slot_count, plant_size, program_costs}
use Rattle.logic_limits.specs.Limits.{capped, KeepsCost}
use Rattle.logic_limits.specs.Measures.{routine_counts}
use Rattle.logic_limits.proofs.Capping.{sums}
use Rattle.logic_limits.proofs.Tables.{map_both}

-- a sum of numbers that stop
capped_sum : (last : ℕ) (f : Counts → ℕ) (g : PlainRoutine → ℕ) (h : PlainRoutine → Counts) → ((r : PlainRoutine) → f (h r) ≡ min (g r) last) → (rs : List PlainRoutine) → min (sum_by f (map h rs)) last ≡ min (sum_by g rs) last
capped_sum last f g h stops [] = refl
capped_sum last f g h stops (r ∷ rs) =
    let first : min (f (h r)) last ≡ min (g r) last = let e = stops r in omega arith in
    rw (sum_by-cons f (h r) (map h rs), sum_by-cons g r rs) (sums last (f (h r)) (g r) (sum_by f (map h rs)) (sum_by g rs) first (capped_sum last f g h stops rs))

pub slots_are : (source : Source) (list items : List Counts) (result : ℕ) → list ≡ items → items ≡ map (routine_counts source.blocks) source.programs → result ≡ min (global_cells source + sum_by (λ (c : Counts). c.slots) list) 65537
    → result ≡ min (slot_count source) 65537
slots_are source list items result same are is =
    let total = capped_sum 65537 (λ (c : Counts). c.slots) (routine_slots (type_slots source.blocks)) (routine_counts source.blocks) (λ r. refl) source.programs in
    is ∙ ap (λ l. min (global_cells source + sum_by (λ (c : Counts). c.slots) l) 65537) (same ∙ are)
    ∙ sums 65537 (global_cells source) (global_cells source) (sum_by (λ (c : Counts). c.slots) (map (routine_counts source.blocks) source.programs)) (sum_by (routine_slots (type_slots source.blocks)) source.programs) refl total

pub size_is : (source : Source) (list items : List Counts) (result : ℕ) → list ≡ items → items ≡ map (routine_counts source.blocks) source.programs → result ≡ min (sum_by (λ (c : Counts). c.size) list) 1000001 → result ≡ min (plant_size source) 1000001
size_is source list items result same are is =
    is ∙ ap (λ l. min (sum_by (λ (c : Counts). c.size) l) 1000001) (same ∙ are) ∙ capped_sum 1000001 (λ (c : Counts). c.size) (routine_size (type_size source.blocks)) (routine_counts source.blocks) (λ r. refl) source.programs

-- a number that stops is past the limit where the number is
past_limit : (m n : ℕ) → nat_lt m (min n (m + 1)) ≡ nat_lt m n
past_limit m n = grind (arith, nat_tests)

any_costly : (f : Counts → ℕ) (g : PlainRoutine → ℕ) (h : PlainRoutine → Counts) (limit : ℕ) → ((r : PlainRoutine) → f (h r) ≡ min (g r) (limit + 1)) → (rs : List PlainRoutine) → list_any (λ c. nat_lt limit (f c)) (map h rs) ≡ list_any (nat_lt limit) (map g rs)
any_costly f g h limit stops [] = refl
any_costly f g h limit stops (r ∷ rs) = λ i. (ap (nat_lt limit) (stops r) ∙ past_limit limit (g r)) i || any_costly f g h limit stops rs i

pub costly_is : (source : Source) (list items : List Counts) (result : Bool) → list ≡ items → items ≡ map (routine_counts source.blocks) source.programs → result ≡ list_any (λ (c : Counts). nat_lt 2000000 c.cost) list → result ≡ list_any (nat_lt 2000000) (program_costs source)
costly_is source list items result same are is =
    is ∙ ap (list_any (λ (c : Counts). nat_lt 2000000 c.cost)) (same ∙ are) ∙ any_costly (λ (c : Counts). c.cost) (routine_cost (type_cost source.blocks)) (routine_counts source.blocks) 2000000 (λ r. refl) source.programs

above : (m n : ℕ) → nat_lt m n ≡ true → m < n
above m n is = grind (arith, nat_tests)

not_above : (m n : ℕ) → nat_lt m n ≡ false → n ≤ m
not_above m n isnt = grind (arith, nat_tests)

-- one number is past the limit
pub one_past : (limit : ℕ) (ns : List ℕ) → list_any (nat_lt limit) ns ≡ true → Any (λ n. limit < n) ns
one_past limit ns any = let one = Any-from_list_any (nat_lt limit) ns any in (one.0, one.1, one.2, one.3, above limit one.1 one.4)

-- no number is past the limit
pub none_past : (limit : ℕ) (ns : List ℕ) → list_any (nat_lt limit) ns ≡ false → All (λ n. n ≤ limit) ns
none_past limit ns none k d within =
    elim (cases_Bool (nat_lt limit (slice_index_or ns k d))) [
      | inl past ↦ absurd (let any : list_any (nat_lt limit) ns ≡ true = list_any_at (nat_lt limit) ns k d within past in cc)
      | inr kept ↦ not_above limit (slice_index_or ns k d) kept
    ]

-- costs that stop
pub costs_stop : (source : Source) (items : List Counts) → items ≡ map (routine_counts source.blocks) source.programs → map (λ (c : Counts). c.cost) items ≡ map (capped 2000000) (program_costs source)
costs_stop source items are =
    ap (map (λ (c : Counts). c.cost)) are ∙ map_both (λ (c : Counts). c.cost) (routine_counts source.blocks) source.programs ∙ sym (map_both (capped 2000000) (routine_cost (type_cost source.blocks)) source.programs)

kept_as_is : (limit : ℕ) (ns : List ℕ) → All (λ n. n ≤ limit) ns → map (capped limit) ns ≡ ns
kept_as_is limit [] all = refl
kept_as_is limit (n ∷ ns) all =
    let first : min n (limit + 1) ≡ n = let e = all 0 n (omega arith) in omega arith in
    λ i. first i ∷ kept_as_is limit ns (λ k d within. all (suc k) d (omega arith)) i

-- costs that keep the limit are as they are
pub costs_kept : (source : Source) → KeepsCost source → map (capped 2000000) (program_costs source) ≡ program_costs source
costs_kept source keeps = kept_as_is 2000000 (program_costs source) keeps
