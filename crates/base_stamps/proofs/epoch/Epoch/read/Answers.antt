use Rattle.std.proofs.Common.{◌∙◌, refl}
use Rattle.base_stamps.proofs.Texts.{epoch_shown, epoch_instant, same_instant}
use Rattle.base_stamps.proofs.epoch.Epoch.read.Goals as goal

pub returns-in_err-instant-clause-none : goal.returns-in_err-instant-clause-none
returns-in_err-instant-clause-none c none s within h =
    let t = epoch_instant c.args.text.now s within h in
    c.in_err-instant.ensures.none refl t.0 t.2

pub returns-in_err-seconds-clause-none : goal.returns-in_err-seconds-clause-none
returns-in_err-seconds-clause-none c none s within h =
    let t = epoch_instant c.args.text.now s within h in
    c.in_err-seconds.ensures.none refl s within (same_instant c.args.text.now c.in_ok-instant.instant t.0 c.in_ok-instant.ensures.some t.2 ∙ t.1)

pub returns-clause-some : goal.returns-clause-some
returns-clause-some c =
    epoch_shown c.args.text.now c.in_ok-seconds.seconds c.in_ok-instant.instant c.in_ok-seconds.ensures.some.1 c.in_ok-seconds.ensures.some.0 c.in_ok-instant.ensures.some
