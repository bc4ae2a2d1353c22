use Rattle.std.proofs.Common.{◌≡◌, List, ap, ◌∙◌, subst}
use Rattle.console_recorder.specs.Event.{Event}
use Rattle.console_recorder.specs.Plants.{PlainPlant, IsPlant}
use Rattle.console_recorder.specs.System.{System, system}
use Rattle.console_recorder.proofs.Systems.{system_none}
use Rattle.console_boards.specs.Readers.{published, log_kept}
use Rattle.station.proofs.Openings.{consoles_opened}
use Rattle.station.proofs.recording.open_consoles.Goals as goal

pub returns-clause-opened : goal.returns-clause-opened
returns-clause-opened g c =
    let s = c.args.recorder.now in
    let e = s.engine in
    let own : c.plant.result.now ≡ e.plant = c.plant.ensures ∙ ap (λ (h : List Event). (system e.plant h).plant) c.requires.none ∙ ap (λ (s : System). s.plant) (system_none e.plant) in
    let is : IsPlant e.plant = subst (λ (p : PlainPlant). IsPlant p) own c.consoles.ensures.plant in
    consoles_opened c.open_lanes.result (λ r. r.0.items) (λ r. r.1.items) e.plant c.consoles.result.now (published s.board) (log_kept s.board) (c.consoles.ensures.consoles ∙ ap (λ (p : PlainPlant). p.consoles) own) is
    c.open_lanes.ensures.opened c.open_lanes.ensures.looks c.open_lanes.ensures.marked
