-- How an explanation begins.
use Rattle.std.proofs.Common.{◌≡◌, ◌++◌, ℕ, List, Result, Ok, Err, IfOk, ap, sym, ◌∙◌}
use Rattle.std.specs.Prelude.{codes}
use Rattle.std.proofs.lemmas.List.{append_assoc}
use Rattle.plant_folder.specs.Verdicts.{refusal_line}
use Rattle.plant_config.specs.FaultLine.{config_line}
use Rattle.plant_config.specs.declared.fault.ConfigFault.{ConfigFault}
use Rattle.explain_plant.specs.Told.{BeginsWith}

-- a text that goes on under the line of a refusal begins with that line
begins : (fault : ConfigFault) (line rest text : List ℕ) → line ≡ config_line fault → text ≡ line ++ (codes "\n" ++ rest) → BeginsWith (refusal_line fault) text
begins fault line rest text is e = (rest, e ∙ sym (append_assoc line (codes "\n") rest) ∙ ap (λ xs. xs ++ codes "\n" ++ rest) is)

pub goes_on : {T E : Type 0} (bytes : T → List ℕ) (fault : ConfigFault) (line rest : List ℕ) (both : Result T E) → line ≡ config_line fault → IfOk both (λ x. bytes x ≡ line ++ (codes "\n" ++ rest))
    → IfOk both (λ x. BeginsWith (refusal_line fault) (bytes x))
goes_on bytes fault line rest (Ok x) is e = begins fault line rest (bytes x) is e
goes_on bytes fault line rest (Err x) is e = tt
