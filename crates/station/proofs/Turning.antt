-- A station goes on.
use Rattle.std.proofs.Common.{◌≡◌, ℕ, Bool, List, [], ◌∷◌, ◌++◌, length, All, ◌≤◌, ap, sym, ◌∙◌, subst, arith, None}
use Rattle.logbook.specs.Pages.{Book}
use Rattle.console_link.specs.declared.lane.Lane.{Lane}
use Rattle.console_recorder.specs.Event.{Event}
use Rattle.alarm_orders.specs.declared.order.Order.{Order}
use Rattle.console_recorder.specs.Plants.{PlainPlant}
use Rattle.plant_file.specs.declared.console.ListedConsole.{ListedConsole}
use Rattle.console_recorder.specs.Reply.{Reply}
use Rattle.std.proofs.lemmas.List.{length-map}
use Rattle.console_recorder.specs.Parts.{order_of_event}
use Rattle.console_recorder.specs.Turns.{TookParts}
use Rattle.station.specs.Lanes.{numbers_of, numbers_in, HasNoTwin, IsOfLog, IsUnused}
use Rattle.station.specs.Stations.{AgreesWith, IsStation}
use Rattle.station.proofs.Agrees.{agree_scans, agree_parts, same_numbers}
use Rattle.station.proofs.Ends.{logs_on, same_parts}
use Rattle.station.proofs.Openings.{unused_agree}

abbrev L : Type 0
L = Lane Order Reply

-- an equal plant, an equal history and an equal log
pub station_kept : (p q : PlainPlant) (h k : List Event) (log now : Book) (ls : List L) → q ≡ p → k ≡ h → now ≡ log → IsStation p h log ls → IsStation q k now ls
station_kept p q h k log now ls a b e s =
    subst (λ (x : PlainPlant). IsStation x k now ls) (sym a) (subst (λ (es : List Event). IsStation p es now ls) (sym b) (subst (λ (l : Book). IsStation p h l ls) (sym e) s))

-- a station before the first event
pub station_opened : (p : PlainPlant) (h : List Event) (log : Book) (ls : List L) → h ≡ [] → numbers_in ls ≡ numbers_of p.consoles → HasNoTwin (numbers_of p.consoles) → length p.consoles ≤ 32 → All IsUnused ls → All (IsOfLog log) ls → IsStation p h log ls
station_opened p h log ls none numbers once few unused marked =
    let count : length ls ≡ length p.consoles = sym (length-map ls (λ (l : L). l.number)) ∙ (ap (λ (ns : List ℕ). length ns) numbers ∙ length-map p.consoles (λ (x : ListedConsole). x.number)) in
    record {
      listed = numbers;
      once = subst (λ (ns : List ℕ). HasNoTwin ns) (sym numbers) once;
      few = omega (arith, count, few);
      agree = subst (λ (es : List Event). All (AgreesWith p es) ls) (sym none) (unused_agree p ls unused);
      marked = marked;
    }

-- an event that is no order, and nothing else
pub station_told : (p : PlainPlant) (h : List Event) (log : Book) (e : Event) (ls : List L) → order_of_event e ≡ None → IsStation p h log ls → IsStation p (h ++ e ∷ []) log ls
station_told p h log e ls none s = record { listed = s.listed; once = s.once; few = s.few; agree = agree_scans p h e ls none s.agree; marked = s.marked }

-- an event that is no order, and then the parts of all consoles
pub station_turned : (p : PlainPlant) (h new : List Event) (log : Book) (e : Event) (ds bs : List L) (taken : ℕ) (stopped : Bool) → order_of_event e ≡ None → TookParts p ds bs (h ++ e ∷ []) new taken stopped
    → IsStation p h log ds → IsStation p new log bs
station_turned p h new log e ds bs taken stopped none parts s =
    let numbers : numbers_in bs ≡ numbers_in ds = same_numbers p ds bs (h ++ e ∷ []) new taken stopped parts in
    let count : length bs ≡ length ds = sym (length-map bs (λ (l : L). l.number)) ∙ (ap (λ (ns : List ℕ). length ns) numbers ∙ length-map ds (λ (l : L). l.number)) in
    record {
      listed = numbers ∙ s.listed;
      once = subst (λ (ns : List ℕ). HasNoTwin ns) (sym numbers) s.once;
      few = omega (arith, count, s.few);
      agree = agree_parts p ds bs (h ++ e ∷ []) new taken stopped parts s.once (agree_scans p h e ds none s.agree);
      marked = logs_on log ds bs (same_parts p ds bs (h ++ e ∷ []) new taken stopped parts) s.marked;
    }
