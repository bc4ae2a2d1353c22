-- Files that are found, one after another.
use Rattle.std.proofs.Common.{◌≡◌, ℕ, suc, ◌+◌, ◌<◌, List, [], ◌∷◌, ◌++◌, length, map, take, drop, subst, append_assoc, inl, inr, option_map, sym, ap, ◌∙◌, Some, None, get_or}
use Rattle.std.proofs.lemmas.List.{map_push, take_more, take-append-drop}
use Rattle.std.proofs.Math.Seq.{drop-cons}
use Rattle.plant_folder.specs.declared.texts.FetchFault.{FetchFault}
use Rattle.plant_folder.specs.declared.texts.FetchFault.TheVariants as fault
use Rattle.plant_file.specs.Read.{plant_file_in}
use Rattle.plant_config.specs.declared.files.Files.{Files}
use Rattle.plant_config.specs.Files.{files_of}
use Rattle.plant_config.specs.Files.{Texts}
use Rattle.plant_config.specs.Refusals.{IsFileFault, IsRefused}
use Rattle.plant_config.specs.declared.fault.ConfigFault.{ConfigFault}
use Rattle.plant_config.specs.declared.fault.ConfigFault.TheVariants as config_fault
use Rattle.plant_folder.specs.Fetches.{Finds, AreFound, AreMissed, IsFetchFault, IsMiss, IsUnnamed, beside}

-- one more file is found
pub found_more : (finds : Finds) (plant : List ℕ) (names texts : List (List ℕ)) (name text : List ℕ) → AreFound finds plant names texts → finds (beside plant name) (Some text) → AreFound finds plant (names ++ name ∷ []) (texts ++ text ∷ [])
found_more finds plant [] [] name text all more = (more, tt)
found_more finds plant [] (t ∷ ts) name text all more = absurd all
found_more finds plant (n ∷ ns) [] name text all more = absurd all
found_more finds plant (n ∷ ns) (t ∷ ts) name text all more = (all.0, found_more finds plant ns ts name text all.1 more)

-- one more source is found, with its name
pub sources_more : {S : Type 0} (finds : Finds) (plant : List ℕ) (names : List (List ℕ)) (i : ℕ) (name : List ℕ) (f t : S → List ℕ) (sources more : List S) (s : S) → i < length names → name ≡ get_or names i name
    → (map f sources ≡ take i names) × AreFound finds plant (take i names) (map t sources) → more ≡ sources ++ s ∷ [] → f s ≡ name → finds (beside plant name) (Some (t s))
    → (map f more ≡ take (i + 1) names) × AreFound finds plant (take (i + 1) names) (map t more)
sources_more finds plant names i name f t sources more s within is before pushed its there =
    let step : take (i + 1) names ≡ take i names ++ name ∷ [] = take_more names i name within ∙ ap (λ x. take i names ++ x ∷ []) (sym is) in
    let texts : map t more ≡ map t sources ++ t s ∷ [] = ap (map t) pushed ∙ map_push t sources s in (
      ap (map f) pushed ∙ map_push f sources s ∙ ap (λ l. l ++ f s ∷ []) before.0 ∙ ap (λ n. take i names ++ n ∷ []) its ∙ sym step,
      subst (λ ns. AreFound finds plant ns (map t more)) (sym step)
          (subst (AreFound finds plant (take i names ++ name ∷ [])) (sym texts) (found_more finds plant (take i names) (map t sources) name (t s) before.1 there)),
    )

-- the next file isn't found
pub missed_at : (finds : Finds) (plant : List ℕ) (names : List (List ℕ)) (i : ℕ) (name : List ℕ) (texts : List (List ℕ)) (f : FetchFault) → i < length names → name ≡ get_or names i name
    → AreFound finds plant (take i names) texts → IsMiss finds (beside plant name) name f → AreMissed finds plant names f
missed_at finds plant names i name texts fault.Memory within is found miss = tt
missed_at finds plant names i name texts (fault.File missing) within is found miss = record {
  before = take i names;
  after = drop (suc i) names;
  texts = texts;
  cut = sym (take-append-drop i names) ∙ ap (λ l. take i names ++ l) (drop-cons names i name within ∙ ap (λ n. n ∷ drop (suc i) names) (sym is ∙ sym miss.0));
  found = found;
  none = subst (λ n. finds (beside plant n) None) (sym miss.0) miss.1;
}
missed_at finds plant names i name texts (fault.Config refused) within is found miss = absurd miss

-- a source isn't found
pub fetch_missed : (finds : Finds) (path text : List ℕ) (files : Files) (f : FetchFault) → finds path (Some text) → option_map files_of (plant_file_in text) ≡ Some files → AreMissed finds path files.sources f → IsFetchFault finds path f
fetch_missed finds path text files fault.Memory there named missed = tt
fetch_missed finds path text files (fault.File name) there named missed = inr (
  text,
  files,
  record { found = there; files_are = named },
  record {
    before = missed.before;
    after = missed.after ++ files.alarms ∷ [];
    texts = missed.texts;
    cut = ap (λ l. l ++ files.alarms ∷ []) missed.cut ∙ append_assoc missed.before (name ∷ missed.after) (files.alarms ∷ []);
    found = missed.found;
    none = missed.none;
  },
)
fetch_missed finds path text files (fault.Config refused) there named missed = absurd missed

-- the plant file is found, and names no files
pub fetch_unnamed : (finds : Finds) (path text : List ℕ) (f : FetchFault) → finds path (Some text) → IsUnnamed text f → IsFetchFault finds path f
fetch_unnamed finds path text fault.Memory there unnamed = tt
fetch_unnamed finds path text (fault.File name) there unnamed = absurd unnamed
fetch_unnamed finds path text (fault.Config refused) there unnamed = (unnamed.0, (text, there, unnamed.1))

-- what refuses a plant file by itself refuses it beside any other texts
pub file_refused : (texts : Texts) (f : ConfigFault) → IsFileFault texts.plant f → IsRefused texts f
unfolding IsRefused
file_refused texts config_fault.Memory is = tt
file_refused texts (config_fault.NotToml _) is = is
file_refused texts (config_fault.PlantFile _) is = inl is
file_refused texts config_fault.Epoch is = absurd is
file_refused texts (config_fault.Limit found) is = absurd is
file_refused texts (config_fault.Spelling name line column) is = absurd is
file_refused texts (config_fault.Grammar name line column) is = absurd is
file_refused texts (config_fault.Name name unit) is = absurd is
file_refused texts (config_fault.Kind name unit) is = absurd is
file_refused texts (config_fault.HoldsItself name unit) is = absurd is
file_refused texts (config_fault.Constant name unit) is = absurd is
file_refused texts (config_fault.Header _) is = absurd is
file_refused texts (config_fault.Field row column _) is = absurd is
file_refused texts (config_fault.Twice row _) is = absurd is
file_refused texts (config_fault.Unknown row column _) is = absurd is
