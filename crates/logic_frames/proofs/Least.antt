-- What is flagged is what programs reach, and nothing else.
use Rattle.std.proofs.Common.{◌≡◌, ◌≢◌, ◌∙◌, sym, refl, ℕ, zero, suc, Bool, true, false, List, [], ◌∷◌, ◌++◌, length, set, Some, inl, inr, arith}
use Rattle.std.specs.Prelude.{◌⊎◌, nat_eq, slice_get, replicate}
use Rattle.std.proofs.lemmas.Bool.{cases_Bool}
use Rattle.std.proofs.lemmas.Bool.Decides.{nat_tests}
use Rattle.std.proofs.lemmas.List.{get_or-set_other}
use Rattle.st_blocks.specs.Chains.{Among}
use Rattle.logic_source.specs.declared.logic.Instance.{Instance}
use Rattle.logic_source.specs.declared.logic.BlockRef.{BlockRef}
use Rattle.logic_source.specs.declared.logic.BlockRef.TheVariants.{Ton, Tof, RTrig, Declared}
use Rattle.logic_source.specs.Source.{PlainRoutine, Source}
use Rattle.logic_source.specs.Paths.{is_called}
use Rattle.logic_frames.specs.Reached.{AsksFor, Reaches, by_program, by_block, flagged, counts, number_of, numbers_of, flag_all, flag_asked, flag_programs, flag_onward, flag_back, reached}
use Rattle.logic_frames.proofs.Flags.{onward_by}

-- a flag that is set was set before, or is one of the numbers
all_or : (flags : List Bool) (ns : List ℕ) (m : ℕ) → flagged (flag_all flags ns) m ≡ true → (flagged flags m ≡ true) ⊎ Among ns m
all_or flags [] m is = inl is
all_or flags (n ∷ ns) m is =
    elim (all_or (set flags n true) ns m is) [
      | inl on ↦ (
          elim (cases_Bool (nat_eq n m)) [
            | inl same ↦ (let equal : n ≡ m = grind (arith, nat_tests) in inr (inl equal))
            | inr other ↦ (let apart : m ≢ n = grind (arith, nat_tests) in inl (sym (get_or-set_other flags n m true false apart) ∙ on))
          ])
      | inr later ↦ inr (inr later)
    ]

-- the numbers are those of instances that count
number_counts : (b : Bool) (block : BlockRef) (rest : List ℕ) (m : ℕ) → Among (number_of b block ++ rest) m → ((b ≡ true) × (block ≡ Declared m)) ⊎ Among rest m
number_counts false block rest m here = inr here
number_counts true Ton rest m here = inr here
number_counts true Tof rest m here = inr here
number_counts true RTrig rest m here = inr here
number_counts true (Declared n) rest m (inl same) = inl (refl, λ i. Declared (same i))
number_counts true (Declared n) rest m (inr later) = inr later

numbers_count : (counted : List ℕ → Bool) (is : List Instance) (m : ℕ) → Among (numbers_of counted is) m → (i : Instance) × Among is i × (i.of ≡ Declared m) × (counted i.name ≡ true)
numbers_count counted [] m here = elim here [ ]
numbers_count counted (j ∷ is) m here =
    elim (number_counts (counted j.name) j.of (numbers_of counted is) m here) [
      | inl it ↦ (j, inl refl, it.1, it.0)
      | inr later ↦ (let it = numbers_count counted is m later in (it.0, inr it.1, it.2, it.3))
    ]

counts_called : (calls : Bool) (r : PlainRoutine) (name : List ℕ) → counts calls r name ≡ true → calls ≡ true → is_called r name ≡ true
counts_called true r name counts only = counts
counts_called false r name counts only = absurd (cc)

asked_or : (calls : Bool) (r : PlainRoutine) (flags : List Bool) (m : ℕ) → flagged (flag_asked calls flags r) m ≡ true → (flagged flags m ≡ true) ⊎ AsksFor calls r m
asked_or calls r flags m is =
    elim (all_or flags (numbers_of (counts calls r) r.instances) m is) [
      | inl on ↦ inl on
      | inr here ↦ (let it = numbers_count (counts calls r) r.instances m here in inr (it.0, it.1, it.2, counts_called calls r it.0.name it.3))
    ]

programs_or : (calls : Bool) (flags : List Bool) (ps : List PlainRoutine) (m : ℕ) → flagged (flag_programs calls flags ps) m ≡ true
    → (flagged flags m ≡ true) ⊎ ((k : ℕ) × (p : PlainRoutine) × (slice_get ps k ≡ Some p) × AsksFor calls p m)
programs_or calls flags [] m is = inl is
programs_or calls flags (p ∷ ps) m is =
    elim (programs_or calls (flag_asked calls flags p) ps m is) [
      | inl before ↦ (
          elim (asked_or calls p flags m before) [
            | inl on ↦ inl on
            | inr asks ↦ inr (zero, p, refl, asks)
          ])
      | inr found ↦ inr (suc found.0, found.1, found.2, found.3)
    ]

none_flagged : (n m : ℕ) → flagged (replicate n false) m ≡ false
none_flagged zero m = refl
none_flagged (suc n) zero = refl
none_flagged (suc n) (suc m) = none_flagged n m

module _ (calls : Bool) (source : Source) where
  abbrev AllReached : List Bool → Type 0
  AllReached flags = (m : ℕ) → flagged flags m ≡ true → Reaches calls source m

  onward_reached : (n : ℕ) (flags : List Bool) → AllReached flags → AllReached (flag_onward calls source.blocks n flags)
  onward_reached n flags each =
      onward_by calls source.blocks (slice_get source.blocks n) n flags refl (flagged flags n) refl AllReached each
      (λ r at on m is.
      elim (asked_or calls r flags m is) [
        | inl before ↦ each m before
        | inr asks ↦ by_block n m r (each n on) at asks
      ])

  back_reached : (ns : List ℕ) (flags : List Bool) → AllReached flags → AllReached (flag_back calls source.blocks ns flags)
  back_reached [] flags each = each
  back_reached (n ∷ ns) flags each = onward_reached n (flag_back calls source.blocks ns flags) (back_reached ns flags each)

  first_reached : AllReached (flag_programs calls (replicate (length source.blocks) false) source.programs)
  first_reached m is =
      elim (programs_or calls (replicate (length source.blocks) false) source.programs m is) [
        | inl on ↦ (let off = none_flagged (length source.blocks) m in absurd (cc))
        | inr found ↦ by_program found.0 m found.1 found.2 found.3
      ]

  -- each block type that is flagged is one that programs reach
  pub flagged_reached : (order : List ℕ) (n : ℕ) → flagged (reached calls source.programs source.blocks order) n ≡ true → Reaches calls source n
  flagged_reached order = back_reached order (flag_programs calls (replicate (length source.blocks) false) source.programs) first_reached
