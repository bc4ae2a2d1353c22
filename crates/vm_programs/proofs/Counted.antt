-- The counts of a table with one frame more.
use Rattle.std.proofs.Common.{◌≡◌, ◌∙◌, ap, sym, subst, refl, ◌+◌, ◌<◌, List, [], ◌∷◌, ◌++◌, length, Some, arith, length-append}
use Rattle.std.specs.Prelude.{slice_get}
use Rattle.plant_types.specs.Values.{Path}
use Rattle.logic_walk.specs.declared.frame.Frame.{Frame}
use Rattle.logic_walk.specs.Frames.{routine_paths, frame_paths}
use Rattle.logic_walk.proofs.Growing.{first_more}
use Rattle.codegen.specs.Count.{Count}
use Rattle.codegen.specs.Sizes.{routine_lines, routine_words, frame_lines, frame_words}
use Rattle.codegen.specs.Counts.{capped, lines_at, IsCountOf, AreFirst, HasFewLines}
use Rattle.codegen.proofs.Tables.{first_pushed, few_within}

at_end : {A : Type 0} (xs : List A) (y : A) → slice_get (xs ++ y ∷ []) (length xs) ≡ Some y
at_end [] y = refl
at_end (x ∷ xs) y = at_end xs y

module _ (frames : List Frame) (last : Frame) (table : List Count) (before : AreFirst frames (length frames) table) where
  -- they are those of the first frames still
  first_still : AreFirst (frames ++ last ∷ []) (length frames) table
  unfolding frame_lines frame_words frame_paths
  first_still = record {
    many = before.many;
    lines = λ k. first_more 0 routine_lines frames (last ∷ []) (length frames) (omega arith) k ∙ before.lines k;
    words = λ k. ap capped (first_more 0 routine_words frames (last ∷ []) (length frames) (omega arith) k) ∙ before.words k;
    paths = λ k. ap (λ (p : List Path). capped (length p)) (first_more [] (λ paths (f : Frame). routine_paths paths f.seats.items) frames (last ∷ []) (length frames) (omega arith) k) ∙ before.paths k;
  }

  pub few_last : HasFewLines (frames ++ last ∷ []) → routine_lines (lines_at table) last < 4294967296
  few_last few =
      let long = length-append frames (last ∷ []) in
      few_within (frames ++ last ∷ []) table last (length frames) (omega (arith, long)) (at_end frames last) first_still few

  pub one_counted : (after : List Count) (count : Count) → IsCountOf table last count → after ≡ table ++ count ∷ [] → AreFirst (frames ++ last ∷ []) (length (frames ++ last ∷ [])) after
  one_counted after count is pushed =
      let long : length frames + 1 ≡ length (frames ++ last ∷ []) = sym (length-append frames (last ∷ [])) in
      subst (λ n. AreFirst (frames ++ last ∷ []) n after) long (first_pushed (frames ++ last ∷ []) table after last count (length frames) (at_end frames last) first_still is pushed)
