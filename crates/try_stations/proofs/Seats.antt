-- Consoles that go on together stay those of their station.
use Rattle.std.proofs.Common.{◌≡◌, List, [], ◌∷◌, ◌++◌, refl, sym, ◌∙◌, subst}
use Rattle.std.proofs.lemmas.List.Elements.{All-nil, All-cons, All-head, All-tail, All-weaker}
use Rattle.console_link.specs.declared.console.ConsoleRings.{ConsoleRings}
use Rattle.console_link.specs.declared.lane.Lane.{Lane}
use Rattle.console_link.specs.Seats.{SameConsole, Ends}
use Rattle.alarm_orders.specs.declared.order.Order.{Order}
use Rattle.console_operator.specs.declared.console.Console.{Console}
use Rattle.console_operator.specs.declared.console.Finished.{Finished}
use Rattle.engine.specs.Reply.{Reply}
use Rattle.station.specs.Lanes.{links_of, IsConsoleIn, IsEndIn, KeepsConsoles, AreConsolesIn}
use Rattle.station.proofs.Ends.{console_goes_on, console_has_ended}
use Rattle.try_stations.specs.Seated.{AreSame}

abbrev C : Type 0
C = Console Order Reply

abbrev K : Type 0
K = ConsoleRings Order Reply

abbrev F : Type 0
F = Finished Order Reply

abbrev Lanes : Type 0
Lanes = List (Lane Order Reply)

same_console : (c : K) → SameConsole c c
same_console c = (refl, (((refl, refl, refl, refl), refl), ((refl, refl, refl, refl), refl)), refl)

-- a console whose rings are as they were
pub same_link : (c d : K) → d ≡ c → SameConsole c d
same_link c d e = subst (λ (x : K). SameConsole c x) (sym e) (same_console c)

same_consoles : (a b c : K) → SameConsole a b → SameConsole b c → SameConsole a c
same_consoles a b c h k = (
  k.0 ∙ h.0,
  (
    ((k.1.0.0.0 ∙ h.1.0.0.0, k.1.0.0.1 ∙ h.1.0.0.1, k.1.0.0.2 ∙ h.1.0.0.2, k.1.0.0.3 ∙ h.1.0.0.3), k.1.0.1 ∙ h.1.0.1),
    ((k.1.1.0.0 ∙ h.1.1.0.0, k.1.1.0.1 ∙ h.1.1.0.1, k.1.1.0.2 ∙ h.1.1.0.2, k.1.1.0.3 ∙ h.1.1.0.3), k.1.1.1 ∙ h.1.1.1),
  ),
  k.2 ∙ h.2,
)

pub same_all : (cs : List C) → AreSame cs cs
same_all [] = tt
same_all (c ∷ cs) = (same_console c.link, same_all cs)

pub same_equal : (cs ds : List C) → ds ≡ cs → AreSame cs ds
same_equal cs ds e = subst (λ (xs : List C). AreSame cs xs) (sym e) (same_all cs)

pub same_more : (ks bs cs : List C) → AreSame ks bs → AreSame bs cs → AreSame ks cs
same_more [] [] [] h k = tt
same_more [] [] (c ∷ cs) h k = absurd k
same_more [] (b ∷ bs) cs h k = absurd h
same_more (a ∷ ks) [] cs h k = absurd h
same_more (a ∷ ks) (b ∷ bs) [] h k = absurd k
same_more (a ∷ ks) (b ∷ bs) (c ∷ cs) h k = (same_consoles a.link b.link c.link h.0 k.0, same_more ks bs cs h.1 k.1)

-- the first console of some, and the others as they were; or the other way round
pub same_first : (whole : List C) (c d : C) (cs : List C) → whole ≡ c ∷ cs → SameConsole c.link d.link → AreSame whole (d ∷ cs)
same_first whole c d cs is h = subst (λ (xs : List C). AreSame xs (d ∷ cs)) (sym is) (h, same_all cs)

pub same_later : (whole : List C) (c : C) (cs ds : List C) → whole ≡ c ∷ cs → AreSame cs ds → AreSame whole (c ∷ ds)
same_later whole c cs ds is h = subst (λ (xs : List C). AreSame xs (c ∷ ds)) (sym is) (same_console c.link, h)

-- consoles of a station stay its consoles
pub stay : (lanes : Lanes) (cs ds : List C) → AreSame cs ds → AreConsolesIn lanes cs → AreConsolesIn lanes ds
stay lanes [] [] h k = k
stay lanes [] (d ∷ ds) h k = absurd h
stay lanes (c ∷ cs) [] h k = absurd h
stay lanes (c ∷ cs) (d ∷ ds) h k =
    All-cons (IsConsoleIn lanes) d.link (links_of ds) (console_goes_on lanes c.link d.link (All-head (IsConsoleIn lanes) c.link (links_of cs) k) h.0)
    (stay lanes cs ds h.1 (All-tail (IsConsoleIn lanes) c.link (links_of cs) k))

-- and where the station goes on
pub keep : (before after : Lanes) (cs : List C) → KeepsConsoles before after → AreConsolesIn before cs → AreConsolesIn after cs
keep before after cs h k = All-weaker (IsConsoleIn before) (IsConsoleIn after) (λ (c : K). h.consoles c) (links_of cs) k

front_of : (lanes : Lanes) (cs ds : List C) → AreConsolesIn lanes (cs ++ ds) → AreConsolesIn lanes cs
front_of lanes [] ds h = All-nil (IsConsoleIn lanes)
front_of lanes (c ∷ cs) ds h =
    All-cons (IsConsoleIn lanes) c.link (links_of cs) (All-head (IsConsoleIn lanes) c.link (links_of (cs ++ ds)) h) (front_of lanes cs ds (All-tail (IsConsoleIn lanes) c.link (links_of (cs ++ ds)) h))

last_of : (lanes : Lanes) (cs : List C) (c : C) → AreConsolesIn lanes (cs ++ c ∷ []) → IsConsoleIn lanes c.link
last_of lanes [] c h = All-head (IsConsoleIn lanes) c.link [] h
last_of lanes (d ∷ cs) c h = last_of lanes cs c (All-tail (IsConsoleIn lanes) d.link (links_of (cs ++ c ∷ [])) h)

-- one console less, the last
pub without_last : (lanes : Lanes) (whole cs : List C) (c : C) → whole ≡ cs ++ c ∷ [] → AreConsolesIn lanes whole → AreConsolesIn lanes cs
without_last lanes whole cs c is h = front_of lanes cs (c ∷ []) (subst (λ (xs : List C). AreConsolesIn lanes xs) is h)

-- which has ended
pub last_ended : (lanes : Lanes) (whole cs : List C) (c : C) (f : F) → whole ≡ cs ++ c ∷ [] → AreConsolesIn lanes whole → Ends c.link f.link → IsEndIn lanes f
last_ended lanes whole cs c f is h e = console_has_ended lanes c.link f.link (last_of lanes cs c (subst (λ (xs : List C). AreConsolesIn lanes xs) is h)) e
