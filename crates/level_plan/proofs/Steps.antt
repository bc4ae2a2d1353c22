-- The steps of a plan: one more program, and what its tables say of the programs so far.
use Rattle.std.proofs.Common.{◌≡◌, ◌≢◌, ◌⊎◌, ℕ, zero, suc, ◌+◌, ◌<◌, ◌≤◌, List, [], ◌∷◌, ◌++◌, length, slice_index, get_or, arith, refl, sym, ◌∙◌, ap, subst, inl, inr, replicate}
use Rattle.std.proofs.lemmas.List.{get_or_past, get_or_read, get_or_push, get_or_append_left, length_push, length-replicate, get_or-replicate}
use Rattle.std.proofs.lemmas.Bool.{cases_lt}
use Rattle.level_plan.specs.declared.access.Extent.{Extent}
use Rattle.level_plan.specs.Accesses.{PlainAccess, HaveGlobal, Reads, Writes, access_at, no_access, StaysWithin, StayWithin}
use Rattle.level_plan.specs.Conflicts.{ConflictsBefore}
use Rattle.level_plan.specs.Plans.{FollowsRule, IsPlan}
use Rattle.level_plan.specs.Tables.{IsTopBefore, IsRaised}
use Rattle.level_plan.proofs.PlanLaws.{from_one}

-- at each global stands the greatest level of the first so many programs that use it in one way, or 0
pub record Keeps (Uses : PlainAccess → ℕ → Type 0) (programs : List PlainAccess) (count : ℕ) (levels table : List ℕ) : Type 0 where
  pub bound : (q global : ℕ) → q < count → Uses (access_at programs q) global → slice_index levels q ≤ slice_index table global
  pub reached : (global : ℕ) → (slice_index table global ≡ 0) ⊎ ((q : ℕ) × (q < count) × Uses (access_at programs q) global × (slice_index levels q ≡ slice_index table global))

-- the first so many programs have their levels
pub record IsPlannedTo (programs : List PlainAccess) (count : ℕ) (levels writers readers : List ℕ) : Type 0 where
  pub one_each : length levels ≡ count
  pub rule : (p : ℕ) → p < count → FollowsRule programs (slice_index levels) p
  pub written : Keeps Writes programs count levels writers
  pub read : Keeps Reads programs count levels readers

keeps_none : (Uses : PlainAccess → ℕ → Type 0) (programs : List PlainAccess) (globals : ℕ) → Keeps Uses programs 0 [] (replicate globals 0)
keeps_none Uses programs globals = record {
  bound = λ q g below has. absurd (omega (arith, below));
  reached = λ g. inl (elim (cases_lt g globals) [ inl within ↦ get_or-replicate globals g 0 0 within | inr past ↦ get_or_past (replicate globals 0) g 0 (omega (arith, past, length-replicate {A = ℕ} globals 0)) ]);
}

keeps_more : (Uses : PlainAccess → ℕ → Type 0) (programs : List PlainAccess) (levels table new : List ℕ) (count level : ℕ) → length levels ≡ count → Keeps Uses programs count levels table
    → IsRaised (Uses (access_at programs count)) level table new → Keeps Uses programs (count + 1) (levels ++ level ∷ []) new
keeps_more Uses programs levels table new count level many keeps raised =
    let before : (q : ℕ) → q < count → slice_index (levels ++ level ∷ []) q ≡ slice_index levels q = λ q less. get_or_append_left levels (level ∷ []) 0 q (omega (arith, less, many)) in
    let last : slice_index (levels ++ level ∷ []) count ≡ level = get_or_push levels level 0 count many in
    record {
      bound = λ q g below has. elim (cases_lt q count) [
        | inl less ↦ omega (arith, before q less, keeps.bound q g less has, raised.kept g)
        | inr past ↦
            let is : q ≡ count = omega (arith, past, below) in
            omega (arith, last, ap (slice_index (levels ++ level ∷ [])) is, raised.raised g (subst (λ n. Uses (access_at programs n) g) is has))
      ];
      reached = λ g. elim (raised.reached g) [
        | inl same ↦ elim (keeps.reached g) [
          | inl none ↦ inl (same ∙ none)
          | inr (q, less, has, is) ↦ inr (q, omega (arith, less), has, before q less ∙ is ∙ sym same)
        ]
        | inr (has, is) ↦ inr (count, omega arith, has, last ∙ sym is)
      ];
    }

-- levels of earlier programs are what they were, and so a program stands as it did
rule_kept : (programs : List PlainAccess) (level new : ℕ → ℕ) (p : ℕ) → ((q : ℕ) → q ≤ p → new q ≡ level q) → FollowsRule programs level p → FollowsRule programs new p
rule_kept programs level new p same (inl first) = inl (record { alone = first.alone; one = same p (omega arith) ∙ first.one })
rule_kept programs level new p same (inr (q, above)) =
    let same_at : (r : ℕ) → ConflictsBefore programs r p → new r ≡ level r = λ r before. let earlier = before.earlier in same r (omega (arith, earlier)) in
    inr (
      q,
      record {
        before = above.before;
        greatest = λ r before. omega (arith, above.greatest r before, same_at r before, same_at q above.before);
        one_more = omega (arith, above.one_more, same p (omega arith), same_at q above.before);
      },
    )

module _ (programs : List PlainAccess) (levels writers readers : List ℕ) (count : ℕ) (planned : IsPlannedTo programs count levels writers readers) where
  -- a level is 0, or that of an earlier program that conflicts
  abbrev IsReached : ℕ → Type 0
  IsReached top = (top ≡ 0) ⊎ ((q : ℕ) × ConflictsBefore programs q count × (slice_index levels q ≡ top))

  reached_by_writer : (top global : ℕ) → ((q : ℕ) → q < count → Writes (access_at programs q) global → ConflictsBefore programs q count) → slice_index writers global ≡ top → IsReached top
  reached_by_writer top global conflicts is = elim (planned.written.reached global) [
    | inl none ↦ inl (sym is ∙ none)
    | inr (q, earlier, writes, at) ↦ inr (q, conflicts q earlier writes, at ∙ is)
  ]

  reached_by_reader : (top global : ℕ) → ((q : ℕ) → q < count → Reads (access_at programs q) global → ConflictsBefore programs q count) → slice_index readers global ≡ top → IsReached top
  reached_by_reader top global conflicts is = elim (planned.read.reached global) [
    | inl none ↦ inl (sym is ∙ none)
    | inr (q, earlier, reads, at) ↦ inr (q, conflicts q earlier reads, at ∙ is)
  ]

  module _ (top : ℕ) (is_top : IsTopBefore writers readers (access_at programs count) top) where
    -- no earlier program that conflicts with the next one stands above what the tables give
    below_top : (q : ℕ) → ConflictsBefore programs q count → slice_index levels q ≤ top
    below_top q before =
        let global = before.conflict.0 in
        elim before.conflict.1 [
          | inl w ↦ omega (arith, planned.written.bound q global before.earlier w.0, is_top.writers_bound global w.1)
          | inr w ↦ elim w.0 [
            | inl reads ↦ omega (arith, planned.read.bound q global before.earlier reads, is_top.readers_bound global w.1)
            | inr writes ↦ omega (arith, planned.written.bound q global before.earlier writes, is_top.writers_bound global (inr w.1))
          ]
        ]

    top_reached : IsReached top
    top_reached = elim is_top.reached [
      | inl none ↦ inl none
      | inr (global, inl (touches, at)) ↦ reached_by_writer top global (λ q earlier writes. record { earlier = earlier; conflict = (global, inl (writes, touches)) }) at
      | inr (global, inr (writes, at)) ↦ reached_by_reader top global (λ q earlier reads. record { earlier = earlier; conflict = (global, inr (inl reads, writes)) }) at
    ]

-- a program's level is at most 1 more than its number
low : (programs : List PlainAccess) (level : ℕ → ℕ) (count : ℕ) → ((p : ℕ) → p < count → FollowsRule programs level p) → (n p : ℕ) → p < n → p < count → level p ≤ p + 1
low programs level count rule zero p below within = absurd (omega (arith, below))
low programs level count rule (suc n) p below within =
    elim (rule p within) [
      | inl first ↦ omega (arith, first.one)
      | inr (q, above) ↦
          let earlier = above.before.earlier in
          let lower = low programs level count rule n q (omega (arith, below, earlier)) (omega (arith, within, earlier)) in
          omega (arith, lower, earlier, above.one_more)
    ]

-- what the tables give is at most the number of programs so far
pub top_low : (programs : List PlainAccess) (levels writers readers : List ℕ) (count top : ℕ) → IsPlannedTo programs count levels writers readers → IsTopBefore writers readers (access_at programs count) top → top ≤ count
top_low programs levels writers readers count top planned is_top =
    elim (top_reached programs levels writers readers count planned top is_top) [
      | inl none ↦ omega (arith, none)
      | inr (q, before, is) ↦ let earlier = before.earlier in let lower = low programs (slice_index levels) count planned.rule (suc q) q (omega arith) earlier in omega (arith, lower, earlier, is)
    ]

stands_next : (programs : List PlainAccess) (levels writers readers : List ℕ) (count top : ℕ) (level : ℕ → ℕ) → IsPlannedTo programs count levels writers readers → IsTopBefore writers readers (access_at programs count) top
    → ((q : ℕ) → q < count → level q ≡ slice_index levels q) → level count ≡ top + 1 → FollowsRule programs level count
stands_next programs levels writers readers count top level planned is_top same is =
    let below = below_top programs levels writers readers count planned top is_top in
    elim (top_reached programs levels writers readers count planned top is_top) [
      | inl none ↦ inl (record {
        alone = λ q before. omega (arith, none, below q before, from_one programs (slice_index levels) q (planned.rule q before.earlier));
        one = omega (arith, is, none);
      })
      | inr (q, before, at) ↦ inr (
        q,
        record {
          before = before;
          greatest = λ r other. omega (arith, same r other.earlier, same q before.earlier, below r other, at);
          one_more = omega (arith, is, same q before.earlier, at);
        },
      )
    ]

pub planned_none : (programs : List PlainAccess) (globals : ℕ) → IsPlannedTo programs 0 [] (replicate globals 0) (replicate globals 0)
planned_none programs globals = record {
  one_each = refl;
  rule = λ p below. absurd (omega (arith, below));
  written = keeps_none Writes programs globals;
  read = keeps_none Reads programs globals;
}

pub planned_more : (programs : List PlainAccess) (levels writers readers written read : List ℕ) (count top : ℕ) → IsPlannedTo programs count levels writers readers → IsTopBefore writers readers (access_at programs count) top
    → IsRaised (Writes (access_at programs count)) (top + 1) writers written → IsRaised (Reads (access_at programs count)) (top + 1) readers read → IsPlannedTo programs (count + 1) (levels ++ (top + 1) ∷ []) written read
planned_more programs levels writers readers written read count top planned is_top raised_writers raised_readers =
    let many = planned.one_each in
    let level = top + 1 in
    let before : (q : ℕ) → q < count → slice_index (levels ++ level ∷ []) q ≡ slice_index levels q = λ q less. get_or_append_left levels (level ∷ []) 0 q (omega (arith, less, many)) in
    let last : slice_index (levels ++ level ∷ []) count ≡ level = get_or_push levels level 0 count many in
    record {
      one_each = length_push levels level ∙ ap (λ n. n + 1) many;
      rule = λ p below. elim (cases_lt p count) [
        | inl less ↦ rule_kept programs (slice_index levels) (slice_index (levels ++ level ∷ [])) p (λ q at. before q (omega (arith, at, less))) (planned.rule p less)
        | inr past ↦ subst (λ n. FollowsRule programs (slice_index (levels ++ level ∷ [])) n) (omega (arith, past, below)) (stands_next programs levels writers readers count top (slice_index (levels ++ level ∷ [])) planned is_top before last)
      ];
      written = keeps_more Writes programs levels writers written count level many planned.written raised_writers;
      read = keeps_more Reads programs levels readers read count level many planned.read raised_readers;
    }

-- where all programs have their levels, these are a plan
pub planned_all : (programs : List PlainAccess) (levels writers readers : List ℕ) (count : ℕ) → count ≡ length programs → IsPlannedTo programs count levels writers readers → IsPlan programs levels
planned_all programs levels writers readers count all planned = record { one_each = planned.one_each ∙ all; rule = λ p within. planned.rule p (omega (arith, all, within)) }

-- what the program at a place reads and writes
pub access_is : (programs : List PlainAccess) (i : ℕ) (access : PlainAccess) → i < length programs → access ≡ get_or programs i access → access_at programs i ≡ access
access_is programs i access within is = sym (get_or_read programs i access within is no_access)

-- the program at a place stays within as many globals as all do
pub within_at : (programs : List PlainAccess) (i globals many : ℕ) (access : PlainAccess) → StayWithin globals programs → i < length programs → access ≡ get_or programs i access → many ≡ globals → StaysWithin many access
within_at programs i globals many access all within is same =
    let P : PlainAccess → Type 0 = λ a. StaysWithin globals a in
    let Q : ℕ → Type 0 = λ n. StaysWithin n access in
    subst Q (sym same) (subst P (sym is) (all.each i access within))

-- the same of equal lists
pub top_as : (writers was_writers readers was_readers : List ℕ) (access was : PlainAccess) (top : ℕ) → writers ≡ was_writers → readers ≡ was_readers → access ≡ was → IsTopBefore writers readers access top → IsTopBefore was_writers was_readers was top
top_as writers was_writers readers was_readers access was top same_writers same_readers same is =
    let P : List ℕ → Type 0 = λ table. IsTopBefore table readers access top in
    let Q : List ℕ → Type 0 = λ table. IsTopBefore was_writers table access top in
    let R : PlainAccess → Type 0 = λ a. IsTopBefore was_writers was_readers a top in
    subst R same (subst Q same_readers (subst P same_writers is))

pub raised_as : (extents same : List Extent) (old was new : List ℕ) (level : ℕ) → extents ≡ same → old ≡ was → IsRaised (HaveGlobal extents) level old new → IsRaised (HaveGlobal same) level was new
raised_as extents same old was new level is before raised =
    let P : List Extent → Type 0 = λ xs. IsRaised (HaveGlobal xs) level old new in
    let Q : List ℕ → Type 0 = λ table. IsRaised (HaveGlobal same) level table new in
    subst Q before (subst P is raised)
