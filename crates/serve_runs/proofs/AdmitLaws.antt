-- What was written of a plant.
use Rattle.std.proofs.Common.{◌≡◌, ℕ, true, false, List, [], ◌∷◌, ◌++◌, refl, subst, sym, Option, Some, None, Ok, Err, OnOk, OnErr, IfErr, inl, inr, ◌∙◌}
use Rattle.std.specs.Io.KnownBytes.{Appends}
use Rattle.std.proofs.KnownBytes.{Appends-trans}
use Rattle.std.proofs.lemmas.Option.{none-some}
use Rattle.std.specs.declared.result.Result.{Result}
use Rattle.plant_config.specs.Plants.{PlainPlant}
use Rattle.serve_faults.specs.declared.fault.ServeFault.{ServeFault}
use Rattle.serve_faults.specs.declared.fault.ServeFault.TheVariants as fault
use Rattle.plant_config.specs.Files.{Texts}
use Rattle.plant_folder.specs.Fetches.{Finds}
use Rattle.plant_folder.specs.Verdicts.{accepted_line, IsVerdict, IsFilesVerdict}
use Rattle.serve_faults.specs.Begun.{IsBegun}
use Rattle.serve_runs.specs.Admits.{IsTold, IsWritten, IsChecked}

moved : (V : Option PlainPlant → List ℕ → Type 0) (answer other : Option PlainPlant) (line due : List ℕ) → V answer line → (other ≡ answer) × (due ≡ line) → V other due
moved V answer other line due v same = subst (λ a. V a due) (sym same.0) (subst (V answer) (sym same.1) v)

-- what was told of an answer and its line was told of every verdict that they are
pub told_of : (V : Option PlainPlant → List ℕ → Type 0) (answer : Option PlainPlant) (line : List ℕ) (w₀ w₁ : Option (List ℕ)) (r : Result (Option PlainPlant) ServeFault) → V answer line
    → IsTold (λ a l. (a ≡ answer) × (l ≡ line)) w₀ w₁ r → IsTold V w₀ w₁ r
told_of V answer line w₀ w₁ (Ok other) v told = (told.0, moved V answer other line told.0 v told.1, told.2)
told_of V answer line w₀ w₁ (Err fault.Memory) v told = told
told_of V answer line w₀ w₁ (Err fault.Read) v told = absurd told
told_of V answer line w₀ w₁ (Err fault.Crew) v told = absurd told
told_of V answer line w₀ w₁ (Err fault.Write) v told = (told.0, told.1, moved V answer told.0 line told.1 v told.2, told.3)

-- a line was written, or a write of it failed
pub written : (line : List ℕ) (w₀ w₁ : Option (List ℕ)) (r : Result Unit ServeFault) → OnOk r (Appends w₀ w₁ line) → OnErr r (IsBegun w₀ w₁ line) → IfErr r (λ e. e ≡ fault.Write) → IsWritten line w₀ w₁ r
written line w₀ w₁ (Ok done) ok err is = ok
written line w₀ w₁ (Err fault.Memory) ok err is = absurd (cc)
written line w₀ w₁ (Err fault.Read) ok err is = absurd (cc)
written line w₀ w₁ (Err fault.Crew) ok err is = absurd (cc)
written line w₀ w₁ (Err fault.Write) ok err is = err

-- a verdict has no line beside a plant
abbrev pub IsQuiet : (Option PlainPlant → List ℕ → Type 0) → Type 0
IsQuiet verdict = (plant : PlainPlant) (line : List ℕ) → verdict (Some plant) line → line ≡ []

pub quiet-texts : (texts : Texts) → IsQuiet (IsVerdict texts false)
quiet-texts texts plant line v = v.1

pub quiet-files : (finds : Finds) (path : List ℕ) → IsQuiet (IsFilesVerdict finds path false)
quiet-files finds path plant line (inl v) = v.2.1
quiet-files finds path plant line (inr v) = absurd (none-some plant (sym v.3))

module _ (finds : Finds) (path : List ℕ) where
  -- a plant that is accepted is so with its line, where that is asked for
  accepted_with : (plant : PlainPlant) (line : List ℕ) → IsFilesVerdict finds path false (Some plant) line → IsFilesVerdict finds path true (Some plant) (accepted_line plant)
  accepted_with plant line (inl v) = inl (v.0, v.1, (v.2.0, refl))
  accepted_with plant line (inr v) = absurd (none-some plant (sym v.3))

  -- an empty line is begun by nothing
  begun_by_nothing : (part more : List ℕ) → [] ≡ part ++ more → [] ≡ part
  begun_by_nothing [] more is = refl
  begun_by_nothing (x ∷ part) more is = cc

  -- a write failed before the line of the verdict
  begun_with : (answer : Option PlainPlant) (line : List ℕ) (w₀ w₁ : Option (List ℕ)) → IsFilesVerdict finds path false answer line → IsBegun w₀ w₁ line
      → IsTold (IsFilesVerdict finds path true) w₀ w₁ (Err fault.Write)
  begun_with None line w₀ w₁ v begun = (None, line, v, begun)
  begun_with (Some plant) line w₀ w₁ v begun =
      let bare = begun_by_nothing begun.0 begun.1 (sym (quiet-files finds path plant line v) ∙ begun.2) in
      (Some plant, accepted_line plant, accepted_with plant line v, ([], accepted_line plant, refl, subst (Appends w₀ w₁) (sym bare) begun.3))

  -- what was told of files failed
  pub checked_failed : (e : ServeFault) (w₀ w₁ : Option (List ℕ)) → IsTold (IsFilesVerdict finds path false) w₀ w₁ (Err e) → IsChecked finds path w₀ w₁ (Err e)
  checked_failed fault.Memory w₀ w₁ told = told
  checked_failed fault.Read w₀ w₁ told = absurd told
  checked_failed fault.Crew w₀ w₁ told = absurd told
  checked_failed fault.Write w₀ w₁ told = begun_with told.0 told.1 w₀ w₁ told.2 told.3

  -- a refusal was told
  pub checked_refused : (w₀ w₁ : Option (List ℕ)) → IsTold (IsFilesVerdict finds path false) w₀ w₁ (Ok None) → IsChecked finds path w₀ w₁ (Ok false)
  checked_refused w₀ w₁ told = (None, refl, told)

  module _ (plant : PlainPlant) (w₀ w w₁ : Option (List ℕ)) (told : IsTold (IsFilesVerdict finds path false) w₀ w (Ok (Some plant))) where
    bare : Appends w₀ w []
    bare = subst (Appends w₀ w) (quiet-files finds path plant told.0 told.1) told.2

    -- the line for an accepted plant was written
    pub checked_accepted : Appends w w₁ (accepted_line plant) → IsChecked finds path w₀ w₁ (Ok true)
    checked_accepted wrote = (Some plant, refl, (accepted_line plant, accepted_with plant told.0 told.1, Appends-trans w₀ w w₁ [] _ bare wrote))

    -- it was not, or in part
    pub checked_unwritten : (e : ServeFault) → IsWritten (accepted_line plant) w w₁ (Err e) → IsChecked finds path w₀ w₁ (Err e)
    checked_unwritten fault.Memory wrote = Appends-trans w₀ w w₁ [] [] bare wrote
    checked_unwritten fault.Read wrote = absurd wrote
    checked_unwritten fault.Crew wrote = absurd wrote
    checked_unwritten fault.Write wrote =
        (Some plant, accepted_line plant, accepted_with plant told.0 told.1, (wrote.0, wrote.1, wrote.2, Appends-trans w₀ w w₁ [] _ bare wrote.3))
