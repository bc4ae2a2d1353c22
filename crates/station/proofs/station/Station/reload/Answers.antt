use Rattle.std.proofs.Common.{◌≡◌, [], ◌∷◌, ◌++◌, Ok, Err, refl, sym, subst}
use Rattle.console_recorder.specs.ReloadRefused.{ReloadRefused}
use Rattle.console_recorder.specs.Records.{IsReloadDue}
use Rattle.console_boards.specs.Readers.{log_kept}
use Rattle.console_recorder.specs.Event.TheVariants as event
use Rattle.station.proofs.Turning.{station_kept, station_told}
use Rattle.std.specs.Prelude.{Result, IfErr}
use Rattle.std.specs.Result.{IsErrAnd}
use Rattle.station.proofs.station.Station.reload.Goals as goal

if_err : {T E : Type 0} (P Q : E → Type 0) (r : Result T E) → ((e : E) → P e → Q e) → IsErrAnd r P → IfErr r Q
if_err P Q (Ok t) on h = tt
if_err P Q (Err e) on h = on e h

pub invariant_of-self-2 : goal.invariant_of-self-2
invariant_of-self-2 g c =
    let s = c.self.inside in
    let old = s.recorder.engine in
    let now = c.reload.new.self in
    let took = c.in_ok-reloaded.ensures.ok in
    let e = event.Reload c.args.plant in
    station_kept old.plant now.engine.plant (old.history ++ e ∷ []) now.engine.history (log_kept s.recorder.board) (log_kept now.board) s.lanes.items c.reload.ensures.plant took.history_is c.reload.ensures.log
    (station_told old.plant old.history (log_kept s.recorder.board) e s.lanes.items refl c.self.invariant)

pub returns-clause-ok : goal.returns-clause-ok
returns-clause-ok g c =
    rw (← c.self.view_is) (record {
      reload = c.in_ok-reloaded.ensures.ok;
      lanes = refl;
      counted = c.reload.ensures.counted;
      shown = c.in_ok-reloaded.ensures.shown;
    })

pub returns-in_err-reloaded-clause-err : goal.returns-in_err-reloaded-clause-err
returns-in_err-reloaded-clause-err g c = rw (← c.self.view_is) (if_err _ _ c.from_residual.result (λ r is. subst (λ (refused : ReloadRefused). (refused.plant ≡ c.args.plant) × IsReloadDue (c.self.inside.recorder.share.parts ≡ g.L.Ledger.parts) refused.fault c.self.inside.recorder.engine c.args.plant) (sym is) c.in_err-reloaded.ensures.err) c.from_residual.ensures.1)
