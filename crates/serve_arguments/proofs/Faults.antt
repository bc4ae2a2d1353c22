-- What `clap` finds in words, of which there is one at least, is an answer to them.
use Rattle.std.proofs.Common.{◌≡◌, ◌⊎◌, ◌∙◌, ◌<◌, ℕ, List, [], ◌∷◌, map, length, inl, inr, sym, subst, arith, refl, Err}
use Rattle.clap.specs.Words.{IsAmong, fault_of, subcommand_of}
use Rattle.clap.specs.declared.error.kind.ErrorKind.{ErrorKind}
use Rattle.clap.specs.declared.error.kind.ErrorKind.TheVariants as kind
use Rattle.serve_arguments.specs.declared.choice.UsageFault.{UsageFault}
use Rattle.serve_arguments.specs.declared.choice.UsageFault.TheVariants as fault
use Rattle.serve_arguments.specs.Line.{alarmd}
use Rattle.serve_arguments.specs.Choices.{IsAnswer, IsFaultOf, choice_in, choice_of, faults_in}

-- words, of which there is one at least, are read by `clap`
pub faults_read : {A : Type 0} (f : A → List ℕ) (ws : List A) → 0 < length ws → faults_in (map f ws) ≡ fault_of alarmd (map f ws)
faults_read f [] some = absurd (omega arith)
faults_read f (w ∷ ws) some = refl

pub choice_read : {A : Type 0} (f : A → List ℕ) (ws : List A) → 0 < length ws → choice_of (map f ws) ≡ choice_in (subcommand_of alarmd (map f ws))
choice_read f [] some = absurd (omega arith)
choice_read f (w ∷ ws) some = refl

-- the fault of an error that `clap` may give is an answer
pub fault_answers : (words : List (List ℕ)) (k : ErrorKind) (f : UsageFault) → (k ≡ kind.OutOfMemory) ⊎ IsAmong k (faults_in words) → IsFaultOf k f → IsAnswer words (Err f)
fault_answers words k fault.Memory may is = tt
fault_answers words k (fault.Help text) (inl memory) is = absurd (let e : kind.DisplayHelp ≡ kind.OutOfMemory = sym is ∙ memory in cc e)
fault_answers words k (fault.Help text) (inr among) is = subst (λ (x : ErrorKind). IsAmong x (faults_in words)) is among
fault_answers words k (fault.Version text) (inl memory) is = absurd (let e : kind.DisplayVersion ≡ kind.OutOfMemory = sym is ∙ memory in cc e)
fault_answers words k (fault.Version text) (inr among) is = subst (λ (x : ErrorKind). IsAmong x (faults_in words)) is among
fault_answers words k (fault.Usage text) (inl memory) is = absurd (is.0 memory)
fault_answers words k (fault.Usage text) (inr among) is = inl (k, is.1, among)
