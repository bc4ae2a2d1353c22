-- A table with the counts of one more frame.
use Rattle.std.proofs.Common.{◌≡◌, ◌∙◌, ap, sym, refl, arith, ℕ, zero, suc, ◌+◌, ◌<◌, List, [], ◌∷◌, ◌++◌, Some, true, false, inl, inr, length, length-append}
use Rattle.std.specs.Prelude.{slice_get, nat_eq}
use Rattle.std.specs.Option.{option_map_or}
use Rattle.std.proofs.lemmas.Bool.{cases_lt}
use Rattle.std.proofs.lemmas.Bool.Decides.{nat_tests}
use Rattle.std.proofs.lemmas.Option.{slice_get_past}
use Rattle.plant_types.specs.Values.{Path}
use Rattle.logic_walk.specs.declared.frame.Frame.{Frame}
use Rattle.logic_walk.specs.Frames.{of_frame, of_first, routine_paths, frame_paths}
use Rattle.vm_sizes.specs.declared.counts.Count.{Count}
use Rattle.vm_sizes.specs.Sizes.{routine_lines, routine_words, frame_lines, frame_words}
use Rattle.vm_sizes.specs.Counts.{capped, lines_at, words_at, paths_at, IsCountOf, AreFirst, HasFewLines}
use Rattle.logic_walk.proofs.Firsts.{first_is}
use Rattle.vm_sizes.proofs.Stopping.{Same}
use Rattle.vm_sizes.proofs.Alike.{routine_alike}

front : {A : Type 0} (xs ys : List A) (n : ℕ) → n < length xs → slice_get (xs ++ ys) n ≡ slice_get xs n
front [] ys n h = absurd (omega arith)
front (x ∷ xs) ys zero h = refl
front (x ∷ xs) ys (suc n) h = front xs ys n (omega arith)

at_end : {A : Type 0} (xs : List A) (y : A) → slice_get (xs ++ y ∷ []) (length xs) ≡ Some y
at_end [] y = refl
at_end (x ∷ xs) y = at_end xs y

past_both : {A : Type 0} (xs : List A) (y : A) (k : ℕ) → length xs < k → slice_get xs k ≡ slice_get (xs ++ y ∷ []) k
past_both xs y k h = let a = length-append xs (y ∷ []) in slice_get_past xs k (omega arith) ∙ sym (slice_get_past (xs ++ y ∷ []) k (omega arith))

beside : {A : Type 0} (xs : List A) (y : A) (k : ℕ) → (k ≡ length xs → ⊥) → slice_get xs k ≡ slice_get (xs ++ y ∷ []) k
beside xs y k other =
    elim (cases_lt k (length xs)) [
      | inl less ↦ sym (front xs (y ∷ []) k less)
      | inr more ↦ past_both xs y k (omega (arith, other))
    ]

-- one more frame, by a measure of what a rule gives
module _ {A : Type 0} (measure : A → ℕ) (none : A) (rule : (ℕ → A) → Frame → A) (value : Count → ℕ) (frames : List Frame) (table : List Count) (frame : Frame) (count : Count) where
  abbrev at_in : List Count → ℕ → ℕ
  at_in t k = option_map_or value (slice_get t k) 0

  first_more : slice_get frames (length table) ≡ Some frame → ((k : ℕ) → measure (of_first none rule frames (length table) k) ≡ at_in table k) → value count ≡ measure (rule (of_first none rule frames (length table)) frame)
      → (k : ℕ) → measure (of_first none rule frames (suc (length table)) k) ≡ at_in (table ++ count ∷ []) k
  first_more there before here k =
      elim (nat_eq k (length table)) as (λ b. nat_eq k (length table) ≡ b → measure (of_first none rule frames (suc (length table)) k) ≡ at_in (table ++ count ∷ []) k) [
        | true ↦ (λ is.
            let same : k ≡ length table = grind (arith, nat_tests) in
            rw is (ap (λ o. measure (of_frame none (rule (of_first none rule frames (length table))) o)) there ∙ sym here ∙ ap (λ o. option_map_or value o 0) (sym (at_end table count)) ∙ ap (at_in (table ++ count ∷ [])) (sym same)))
        | false ↦ (λ is.
            let other : k ≡ length table → ⊥ = λ same. grind (arith, nat_tests) in
            rw is (before k ∙ ap (λ o. option_map_or value o 0) (beside table count k other)))
      ] refl

module _ (frames : List Frame) (table : List Count) (frame : Frame) (count : Count) (there : slice_get frames (length table) ≡ Some frame) (before : AreFirst frames (length table) table) (is : IsCountOf table frame count) where
  lines_more : (k : ℕ) → frame_lines frames (suc (length table)) k ≡ lines_at (table ++ count ∷ []) k
  unfolding frame_lines
  lines_more = first_more (λ n. n) 0 routine_lines (λ (c : Count). c.lines) frames table frame count there before.lines (is.lines ∙ ap (λ f. routine_lines f frame) (λ i k. sym (before.lines k) i))

  -- the words of the frames before, as far as they are counted
  words_before : (k : ℕ) → Same 18446744073709551615 (words_at table k) (frame_words frames (length table) k)
  words_before k = let e = before.words k in omega arith

  words_more : (k : ℕ) → capped (frame_words frames (suc (length table)) k) ≡ words_at (table ++ count ∷ []) k
  unfolding frame_words
  words_more = first_more capped 0 routine_words (λ (c : Count). c.words) frames table frame count there before.words (is.words ∙ routine_alike 18446744073709551615 (words_at table) (frame_words frames (length table)) words_before frame)

  paths_more : (k : ℕ) → capped (length (frame_paths frames (suc (length table)) k)) ≡ paths_at (table ++ count ∷ []) k
  unfolding frame_paths
  paths_more = first_more (λ (p : List Path). capped (length p)) [] (λ paths (f : Frame). routine_paths paths f.seats.items) (λ (c : Count). c.paths) frames table frame count there before.paths (is.paths (frame_paths frames (length table)) before.paths)

  many_more : (n : ℕ) → n ≡ suc (length table) → AreFirst frames n (table ++ count ∷ [])
  many_more n e =
      let long = length-append table (count ∷ []) in
      rw e (record { many = omega arith; lines = lines_more; words = words_more; paths = paths_more })

pub first_pushed : (frames : List Frame) (table after : List Count) (frame : Frame) (count : Count) (n : ℕ) → slice_get frames n ≡ Some frame → AreFirst frames n table → IsCountOf table frame count → after ≡ table ++ count ∷ []
    → AreFirst frames (n + 1) after
first_pushed frames table after frame count n there before is pushed =
    let many = before.many in
    let there' : slice_get frames (length table) ≡ Some frame = rw many there in
    let before' : AreFirst frames (length table) table = rw many before in
    rw pushed (many_more frames table frame count there' before' is (n + 1) (omega arith))

pub first_none : (frames : List Frame) (table : List Count) → table ≡ [] → AreFirst frames 0 table
unfolding frame_lines frame_words frame_paths
first_none frames table e = rw e (record { many = refl; lines = λ k. refl; words = λ k. refl; paths = λ k. refl })

-- by the counts of the frames before it, a frame has few instructions if each has
pub few_within : (frames : List Frame) (table : List Count) (frame : Frame) (n : ℕ) → n < length frames → slice_get frames n ≡ Some frame → AreFirst frames n table → HasFewLines frames → routine_lines (lines_at table) frame < 4294967296
unfolding frame_lines
few_within frames table frame n inside there before few =
    let is : frame_lines frames (length frames) n ≡ routine_lines (frame_lines frames n) frame = first_is 0 routine_lines frames (length frames) n frame inside there in
    let same : routine_lines (frame_lines frames n) frame ≡ routine_lines (lines_at table) frame = ap (λ f. routine_lines f frame) (λ i k. before.lines k i) in
    let most = few n in
    omega (arith, is, same, most)
