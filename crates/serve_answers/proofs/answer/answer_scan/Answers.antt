use Rattle.std.proofs.Common.{◌≡◌, ◌∙◌, ◌++◌, ap, sym, subst}
use Rattle.engine.specs.Plants.{PlainPlant}
use Rattle.engine.specs.Engines.{state_of}
use Rattle.engine.specs.ReadyScan.{ReadyScan}
use Rattle.engine.specs.Reports.{PlainReport}
use Rattle.engine.specs.States.{PlainPrepared, IsReport}
use Rattle.engine.specs.System.{System, system, faults_of}
use Rattle.serve_answers.specs.Answers.{spots_of, report_text, event_text, scan_text}
use Rattle.serve_answers.proofs.answer.answer_scan.Goals as goal

pub returns-in_ok-told-in-Ok-clause-text : goal.returns-in_ok-told-in-Ok-clause-text
returns-in_ok-told-in-Ok-clause-text g c =
    let sys = state_of c.args.engine.now in
    let prepared = c.in-Ok.prepared in
    let report = prepared.report in
    let plant = c.plant.result.now in
    let same_system : state_of c.prepare.new.self ≡ sys = λ i. system (c.in-Ok.ensures.plant i) (c.in-Ok.ensures.history i) in
    let is : IsReport sys prepared.event report = subst (λ (s : System). IsReport s prepared.event report) same_system c.in-Ok.ensures.ok.0.report_is in
    let plant_is : plant ≡ sys.plant = c.plant.ensures ∙ ap (λ (s : System). s.plant) same_system in
    let told_is : c.deref.result.now.report ≡ report = ap (λ (r : ReadyScan). r.report) c.deref.ensures ∙ ap (λ (p : PlainPrepared). p.report) c.prepared.view_is in
    let faults_are : spots_of plant.source report.faults ≡ faults_of sys prepared.event = ap (λ (p : PlainPlant). spots_of p.source report.faults) plant_is ∙ is.faults_are in
    let same : report_text plant report.moment (spots_of plant.source report.faults) report.changes report.outs ≡ scan_text sys prepared.event =
    λ i. report_text (plant_is i) (is.moment_is i) (faults_are i) (is.changes_are i) (is.outs_are i)
    in
    let told = ap (λ (r : PlainReport). report_text plant r.moment (spots_of plant.source r.faults) r.changes r.outs) told_is in
    c.in_ok-told-in-Ok.ensures ∙ ap (λ text. c.args.text.now.items ++ text) (told ∙ same ∙ ap (λ r. event_text r (scan_text sys)) (sym c.in-Ok.ensures.ok.1))
