-- Worked examples of command lines, each by the rule: what is chosen, or the kinds of fault.
use Rattle.std.proofs.Common.{◌≡◌, [], ◌∷◌, Some, codes, refl}
use Rattle.clap.specs.declared.error.kind.ErrorKind.TheVariants as kind
use Rattle.clap.proofs.OnLiterals.{clap_on_literals}
use Rattle.serve_arguments.specs.declared.choice.Choice.TheVariants as choice
use Rattle.serve_arguments.specs.Choices.{choice_of, faults_in}

-- without words the example is chosen
nothing : choice_of [] ≡ Some choice.Example
unfolding clap_on_literals
nothing = refl

nothing_fits : faults_in [] ≡ []
unfolding clap_on_literals
nothing_fits = refl

-- check PLANT
check : choice_of (codes "check" ∷ codes "a/plant.toml" ∷ []) ≡ Some (choice.Check (codes "a/plant.toml"))
unfolding clap_on_literals
check = refl

check_fits : faults_in (codes "check" ∷ codes "a/plant.toml" ∷ []) ≡ []
unfolding clap_on_literals
check_fits = refl

-- run PLANT has one worker where no number is written
run : choice_of (codes "run" ∷ codes "plant.toml" ∷ []) ≡ Some (choice.Run (codes "plant.toml") 1)
unfolding clap_on_literals
run = refl

-- the number of workers stands on either side of PLANT
run_with_workers : choice_of (codes "run" ∷ codes "--workers=08" ∷ codes "plant.toml" ∷ []) ≡ Some (choice.Run (codes "plant.toml") 8)
unfolding clap_on_literals
run_with_workers = refl

workers_fit : faults_in (codes "run" ∷ codes "plant.toml" ∷ codes "--workers" ∷ codes "64" ∷ []) ≡ []
unfolding clap_on_literals
workers_fit = refl

-- no number of workers is 0 or 65
no_workers : faults_in (codes "run" ∷ codes "plant.toml" ∷ codes "--workers" ∷ codes "0" ∷ []) ≡ kind.ValueValidation ∷ []
unfolding clap_on_literals
no_workers = refl

many_workers : faults_in (codes "run" ∷ codes "plant.toml" ∷ codes "--workers" ∷ codes "65" ∷ []) ≡ kind.ValueValidation ∷ []
unfolding clap_on_literals
many_workers = refl

-- PLANT has to be there, and stands alone
no_plant : faults_in (codes "check" ∷ []) ≡ kind.MissingRequiredArgument ∷ []
unfolding clap_on_literals
no_plant = refl

two_plants : faults_in (codes "check" ∷ codes "a" ∷ codes "b" ∷ []) ≡ kind.UnknownArgument ∷ []
unfolding clap_on_literals
two_plants = refl

-- help in its places
help : faults_in (codes "--help" ∷ []) ≡ kind.DisplayHelp ∷ []
unfolding clap_on_literals
help = refl

help_of_run : faults_in (codes "run" ∷ codes "-h" ∷ []) ≡ kind.DisplayHelp ∷ []
unfolding clap_on_literals
help_of_run = refl

-- the version, which the program alone has
version : faults_in (codes "--version" ∷ []) ≡ kind.DisplayVersion ∷ []
unfolding clap_on_literals
version = refl

short_version : faults_in (codes "-V" ∷ []) ≡ kind.DisplayVersion ∷ []
unfolding clap_on_literals
short_version = refl

no_version_of_run : faults_in (codes "run" ∷ codes "--version" ∷ []) ≡ kind.UnknownArgument ∷ []
unfolding clap_on_literals
no_version_of_run = refl

-- after the word help both are left open
help_word : faults_in (codes "help" ∷ []) ≡ kind.DisplayHelp ∷ kind.InvalidSubcommand ∷ []
unfolding clap_on_literals
help_word = refl

-- words without a command aren't those of the example
dashes : faults_in (codes "--" ∷ []) ≡ kind.MissingSubcommand ∷ []
unfolding clap_on_literals
dashes = refl

-- a word that is no command
stray : faults_in (codes "plant.toml" ∷ []) ≡ kind.UnknownArgument ∷ kind.InvalidSubcommand ∷ []
unfolding clap_on_literals
stray = refl
