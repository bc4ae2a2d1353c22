-- What an engine holds, by the plant that it has now.
use Rattle.std.proofs.Common.{ℕ, List, length, ap, sym, ◌∙◌, subst}
use Rattle.std.proofs.lemmas.List.{length-map}
use Rattle.alarm_delays.specs.Delays.{PlainDelays, since_of}
use Rattle.journal_core.specs.declared.row.Row.{Row}
use Rattle.engine_system.specs.Plants.{PlainPlant}
use Rattle.engine_system.specs.Event.{Event}
use Rattle.engine_system.specs.System.{system}
use Rattle.engine.specs.Engines.{IsEngine}
use Rattle.engine_system.specs.States.{PlainState}
use Rattle.engine_system.specs.Steps.{IsReady}
use Rattle.engine.proofs.InRange.{lawful_in_range}
use Rattle.engine_system.proofs.Systems.{system_scans, kept_alarms, kept_faulted, kept_outputs}

-- an engine has what the parts of an event ask
pub ready : (began plant : PlainPlant) (history : List Event) (rows : List Row) (k : PlainState) (names : List (List ℕ)) → IsEngine began history rows k plant names → IsReady plant k
ready began plant history rows k names is =
    let sys = system began history in
    let holds = lawful_in_range began history is.plant_is.sound is.lawful in
    subst (λ (x : PlainPlant). IsReady x k) is.present (record {
      sound = holds.0;
      programs = kept_faulted began history k is.state_is;
      alarms = kept_alarms began history k is.state_is;
      watches = is.state_is.watches_are;
      delays = ap (λ (d : PlainDelays). d.delays) is.state_is.delays_are;
      since = ap (λ (d : PlainDelays). length d.since) is.state_is.delays_are ∙ length-map sys.scans since_of ∙ system_scans began history;
      last = ap (λ (d : PlainDelays). d.last) is.state_is.delays_are ∙ sym is.state_is.moment_is;
      follow = is.state_is.follow;
      outputs = kept_outputs sys k is.state_is;
      values = record { world = sys.world; stands = is.state_is.world_stands; in_range = holds.1 };
    })
