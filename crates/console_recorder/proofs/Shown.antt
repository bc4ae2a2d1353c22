-- The board goes on as the engine does.
use Rattle.std.proofs.Common.{◌≡◌, List, [], ◌∷◌, ◌++◌, ◌+◌, length, true, ◌∙◌, ap, sym, subst, arith, length-append}
use Rattle.engine.specs.Event.{Event}
use Rattle.engine.specs.Plants.{PlainPlant}
use Rattle.console_boards.specs.declared.writer.BoardWriter.{BoardWriter}
use Rattle.console_boards.specs.declared.entry.BoardEntry.{BoardEntry}
use Rattle.console_boards.specs.declared.picture.Picture.{Picture}
use Rattle.console_boards.specs.Stories.{Story}
use Rattle.console_boards.specs.Readers.{laid, published}
use Rattle.console_recorder.specs.Showing.{HasHistory}
use Rattle.console_recorder.proofs.Steps.{length_of}
use Rattle.console_orders.specs.Turns.{UnlessRefused}
use Rattle.console_recorder.specs.declared.recorder.Refusal.{Refusal}
use Rattle.console_recorder.specs.Records.{ShowsAll}

-- of an engine with the same plant and the same history, where the same was laid by
pub has_same : (plant now : PlainPlant) (history events : List Event) (old new : BoardWriter) → laid new ≡ laid old → now ≡ plant → events ≡ history → HasHistory plant history old → HasHistory now events new
has_same plant now history events old new same p h has =
    let kept : HasHistory plant history new = record { laid_is = same ∙ has.laid_is; alarms = has.alarms } in
    subst (λ (q : PlainPlant). HasHistory q events new) (sym p) (subst (λ (es : List Event). HasHistory plant es new) (sym h) kept)

-- where readers take all that was laid by for a history, they take an entry for each event
pub shows_all : (plant : PlainPlant) (history : List Event) (board : BoardWriter) → HasHistory plant history board → published board ≡ laid board → ShowsAll history board
shows_all plant history board has is = ap (λ (s : Story Picture BoardEntry). length s.1) (is ∙ has.laid_is) ∙ length_of plant history

-- one refusal more was counted
pub refused_more : (all all' : Type 0) (old new : List Refusal) (one : Refusal) → new ≡ old ++ one ∷ [] → UnlessRefused all all' (length old) (length new) true
refused_more all all' old new one is =
    let more : length new ≡ length old + 1 = ap (λ (l : List Refusal). length l) is ∙ length-append old (one ∷ []) in
    record {
      counted = omega arith;
      goes_on = λ same. absurd (omega arith);
      shows = λ same. absurd (omega arith);
    }
