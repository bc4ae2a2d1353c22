-- What is written of a plant.
use Rattle.std.specs.Prelude.{◌≡◌, ℕ, Bool, true, List, [], Option, is_some, Ok, Err}
use Rattle.std.specs.declared.result.Result.{Result}
use Rattle.std.specs.Io.KnownBytes.{Appends}
use Rattle.plant_config.specs.Plants.{PlainPlant}
use Rattle.plant_folder.specs.Fetches.{Finds}
use Rattle.plant_folder.specs.Verdicts.{IsFilesVerdict}
use Rattle.serve_faults.specs.Begun.{IsBegun}
use Rattle.serve_faults.specs.declared.fault.ServeFault.{ServeFault}
use Rattle.serve_faults.specs.declared.fault.ServeFault.TheVariants as fault

-- what was written by the time of a result: the line that is due; nothing where memory ran out; a part of it where a write failed
abbrev pub IsTold : (Option PlainPlant → List ℕ → Type 0) → Option (List ℕ) → Option (List ℕ) → Result (Option PlainPlant) ServeFault → Type 0
IsTold verdict w₀ w₁ (Ok answer) = (line : List ℕ) × verdict answer line × Appends w₀ w₁ line
IsTold verdict w₀ w₁ (Err fault.Memory) = Appends w₀ w₁ []
IsTold verdict w₀ w₁ (Err fault.Read) = ⊥
IsTold verdict w₀ w₁ (Err fault.Crew) = ⊥
IsTold verdict w₀ w₁ (Err fault.Write) = (answer : Option PlainPlant) × (line : List ℕ) × verdict answer line × IsBegun w₀ w₁ line

-- what was written of one line by the time of a result, in the same way
abbrev pub IsWritten : List ℕ → Option (List ℕ) → Option (List ℕ) → Result Unit ServeFault → Type 0
IsWritten line w₀ w₁ (Ok done) = Appends w₀ w₁ line
IsWritten line w₀ w₁ (Err fault.Memory) = Appends w₀ w₁ []
IsWritten line w₀ w₁ (Err fault.Read) = ⊥
IsWritten line w₀ w₁ (Err fault.Crew) = ⊥
IsWritten line w₀ w₁ (Err fault.Write) = IsBegun w₀ w₁ line

-- the same of the files of a plant where the plant isn't kept: whether there is one
abbrev pub IsChecked : Finds → List ℕ → Option (List ℕ) → Option (List ℕ) → Result Bool ServeFault → Type 0
IsChecked finds path w₀ w₁ (Ok accepted) = (answer : Option PlainPlant) × (accepted ≡ is_some answer) × IsTold (IsFilesVerdict finds path true) w₀ w₁ (Ok answer)
IsChecked finds path w₀ w₁ (Err fault) = IsTold (IsFilesVerdict finds path true) w₀ w₁ (Err fault)
