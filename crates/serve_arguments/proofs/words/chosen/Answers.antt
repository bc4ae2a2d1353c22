use Rattle.std.proofs.Common.{◌∙◌, ap, inr, map, sym, subst}
use Rattle.clap.specs.Words.{HasKind, Kinds, kind_of}
use Rattle.serve_arguments.specs.Choices.{choice_in}
use Rattle.serve_arguments.proofs.Faults.{choice_read, fault_answers, faults_read}
use Rattle.serve_arguments.proofs.words.chosen.Goals as goal

pub returns-in-Ok : goal.returns-in-Ok
returns-in-Ok c =
    let chosen = choice_read (λ w. w.now) c.args.words.now c.requires ∙ ap choice_in (sym c.in-Ok.ensures.subcommand) ∙ sym c.in_ok-choice-in-Ok.ensures ∙ c.in-None.is in
    inr (faults_read (λ w. w.now) c.args.words.now c.requires ∙ c.in-Ok.ensures.kinds, chosen)

pub returns : goal.returns
returns c =
    let kinds = subst (λ (ks : Kinds). HasKind ks c.in-Err.error) (sym (faults_read (λ w. w.now) c.args.words.now c.requires)) c.in-Err.ensures.kinds in
    fault_answers (map (λ w. w.now) c.args.words.now) (kind_of c.in-Err.error) c.in_ok-fault-in-Err.field-0 kinds c.in_ok-fault-in-Err.ensures
