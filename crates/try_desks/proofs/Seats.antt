-- Consoles go to their threads and come back, and stay those of their station.
use Rattle.std.proofs.Common.{◌≡◌, List, [], ◌∷◌, ◌++◌, All, Option, Some, None, IfSome, refl, sym, ◌∙◌, subst}
use Rattle.std.proofs.lemmas.List.Elements.{All-nil, All-cons, All-head, All-tail, All-append, All-weaker}
use Rattle.console_link.specs.declared.console.ConsoleRings.{ConsoleRings}
use Rattle.console_link.specs.declared.lane.Lane.{Lane}
use Rattle.console_link.specs.Seats.{SameConsole, Ends}
use Rattle.alarm_orders.specs.declared.order.Order.{Order}
use Rattle.console_operator.specs.declared.console.Console.{Console}
use Rattle.console_operator.specs.Consoles.{EndsAs}
use Rattle.console_operator.specs.declared.console.Finished.{Finished}
use Rattle.station.specs.Reply.{Reply}
use Rattle.station.specs.Lanes.{links_of, IsConsoleIn, IsEndIn, KeepsConsoles, AreConsolesIn}
use Rattle.station.proofs.Ends.{console_goes_on, console_has_ended}
use Rattle.try_desks.specs.Ends.{EndsFrom}
use Rattle.try_desks.specs.Seated.{Thread, AreSeated}

abbrev C : Type 0
C = Console Order Reply

abbrev K : Type 0
K = ConsoleRings Order Reply

abbrev F : Type 0
F = Finished Order Reply

abbrev Lanes : Type 0
Lanes = List (Lane Order Reply)

pub same_console : (c : K) → SameConsole c c
same_console c = (refl, (((refl, refl, refl, refl), refl), ((refl, refl, refl, refl), refl)), refl)

-- a console whose rings are as they were
pub same_link : (c d : K) → d ≡ c → SameConsole c d
same_link c d e = subst (λ (x : K). SameConsole c x) (sym e) (same_console c)

pub same_on : (a b c : K) → SameConsole a b → SameConsole b c → SameConsole a c
same_on a b c h k = (
  k.0 ∙ h.0,
  (
    ((k.1.0.0.0 ∙ h.1.0.0.0, k.1.0.0.1 ∙ h.1.0.0.1, k.1.0.0.2 ∙ h.1.0.0.2, k.1.0.0.3 ∙ h.1.0.0.3), k.1.0.1 ∙ h.1.0.1),
    ((k.1.1.0.0 ∙ h.1.1.0.0, k.1.1.0.1 ∙ h.1.1.0.1, k.1.1.0.2 ∙ h.1.1.0.2, k.1.1.0.3 ∙ h.1.1.0.3), k.1.1.1 ∙ h.1.1.1),
  ),
  k.2 ∙ h.2,
)

-- a console that went on and then ended
pub ends_from : (c d : C) (f : F) → SameConsole c.link d.link → Ends d.link f.link → EndsFrom c f
ends_from c d f s e = λ (lanes : Lanes) h. console_has_ended lanes d.link f.link (console_goes_on lanes c.link d.link h s) e

-- the same where it may not have ended
pub end_from : (c d : C) (o : Option F) → SameConsole c.link d.link → IfSome o (EndsAs d) → IfSome o (EndsFrom c)
end_from c d None s e = e
end_from c d (Some f) s e = ends_from c d f s e.rings

-- a station that goes on twice keeps its consoles
pub keeps_on : (ks ls ms : Lanes) → KeepsConsoles ks ls → KeepsConsoles ls ms → KeepsConsoles ks ms
keeps_on ks ls ms h k = record { consoles = λ (c : K) i. k.consoles c (h.consoles c i); ended = λ f i. k.ended f (h.ended f i) }

-- a thread's console, if it ended, is one of the station
pub ends_in : (lanes : Lanes) (c : C) (o : Option F) → IsConsoleIn lanes c.link → IfSome o (EndsFrom c) → IfSome o (IsEndIn lanes)
ends_in lanes c None h e = e
ends_in lanes c (Some f) h e = e lanes h

-- threads keep their consoles where the station goes on
pub seated_on : (ks ls : Lanes) (ts : List Thread) → KeepsConsoles ks ls → AreSeated ks ts → AreSeated ls ts
seated_on ks ls ts k h = All-weaker (λ (t : Thread). IsConsoleIn ks t.promise.0.value.link) (λ (t : Thread). IsConsoleIn ls t.promise.0.value.link) (λ (t : Thread). k.consoles t.promise.0.value.link) ts h

-- a list without its last element
pub all_fewer : {X : Type 0} (P : X → Type 0) (xs : List X) (x : X) → All P (xs ++ x ∷ []) → All P xs
all_fewer P [] x h = All-nil P
all_fewer P (y ∷ xs) x h = All-cons P y xs (All-head P y (xs ++ x ∷ []) h) (all_fewer P xs x (All-tail P y (xs ++ x ∷ []) h))

pub all_last : {X : Type 0} (P : X → Type 0) (xs : List X) (x : X) → All P (xs ++ x ∷ []) → P x
all_last P [] x h = All-head P x [] h
all_last P (y ∷ xs) x h = all_last P xs x (All-tail P y (xs ++ x ∷ []) h)

-- the same of consoles, each seen by its link
pub of_fewer : (lanes : Lanes) (whole cs : List C) (c : C) → whole ≡ cs ++ c ∷ [] → AreConsolesIn lanes whole → AreConsolesIn lanes cs
of_fewer lanes whole cs c is h = go cs (subst (λ (xs : List C). AreConsolesIn lanes xs) is h)
  where
    go : (ds : List C) → AreConsolesIn lanes (ds ++ c ∷ []) → AreConsolesIn lanes ds
    go [] h = All-nil (IsConsoleIn lanes)
    go (d ∷ ds) h =
        All-cons (IsConsoleIn lanes) d.link (links_of ds) (All-head (IsConsoleIn lanes) d.link (links_of (ds ++ c ∷ [])) h) (go ds (All-tail (IsConsoleIn lanes) d.link (links_of (ds ++ c ∷ [])) h))

pub of_last : (lanes : Lanes) (whole cs : List C) (c : C) → whole ≡ cs ++ c ∷ [] → AreConsolesIn lanes whole → IsConsoleIn lanes c.link
of_last lanes whole cs c is h = go cs (subst (λ (xs : List C). AreConsolesIn lanes xs) is h)
  where
    go : (ds : List C) → AreConsolesIn lanes (ds ++ c ∷ []) → IsConsoleIn lanes c.link
    go [] h = All-head (IsConsoleIn lanes) c.link [] h
    go (d ∷ ds) h = go ds (All-tail (IsConsoleIn lanes) d.link (links_of (ds ++ c ∷ [])) h)
