-- What consoles saw of the board, and the entries of the history, as beginnings of one list.
use Rattle.std.proofs.Common.{◌≡◌, ℕ, suc, ◌≤◌, ◌==◌, nat_le, Bool, true, List, [], ◌∷◌, ◌++◌, length, take, slice_index_or, All, Option, Some, None, if◌then◌else◌, refl, sym, ◌∙◌, ap, subst, append_assoc, inl, inr, arith}
use Rattle.std.proofs.lemmas.Bool.{cases_Bool}
use Rattle.std.proofs.lemmas.Bool.Decides.{nat_tests}
use Rattle.std.proofs.lemmas.List.Elements.{All-nil, All-head, All-tail, All-cons}
use mathlib.Core.List.{IsPrefix}
use Rattle.console_link.specs.declared.console.FinishedRings.{FinishedRings}
use Rattle.console_link.specs.declared.lane.Lane.{Lane}
use Rattle.console_recorder.specs.Event.{Event}
use Rattle.alarm_orders.specs.declared.order.Order.{Order}
use Rattle.console_recorder.specs.Plants.{PlainPlant}
use Rattle.console_recorder.specs.Reply.{Reply}
use Rattle.console_boards.specs.declared.entry.BoardEntry.{BoardEntry}
use Rattle.console_boards.specs.declared.writer.BoardWriter.{BoardWriter}
use Rattle.console_boards.specs.Stories.{Begins}
use Rattle.console_boards.specs.Readers.{published, laid}
use Rattle.console_boards.proofs.Prefixes.{prefix_of_both}
use Rattle.console_recorder.specs.Entries.{entries_of, history_story}
use Rattle.console_recorder.specs.Showing.{HasHistory}
use Rattle.console_recorder.proofs.Steps.{length_of, no_entries}
use Rattle.console_operator.specs.declared.console.Finished.{Finished as Ended}
use Rattle.console_operator.specs.Sights.{BoardStory}
use Rattle.station.specs.Lanes.{IsEndIn, IsLinkEndIn, links_in, finished_of, ended_of, has_seen_within}
use Rattle.station.specs.Stations.{AreBeginnings}

abbrev F : Type 0
F = Ended Order Reply

pub prefix_on : {E : Type 0} (xs ys zs : List E) → IsPrefix xs ys → IsPrefix ys zs → IsPrefix xs zs
prefix_on {E} xs ys zs h k = (h.0 ++ k.0, sym (append_assoc xs h.0 k.0) ∙ (ap (λ (l : List E). l ++ k.0) h.1 ∙ k.1))

-- the list becomes longer, and what one more console saw is a beginning of it too
pub begin_more : (f : F) (fs : List F) (xs ys : List BoardEntry) → All (λ (g : F). IsPrefix g.mark.entries xs) fs → IsPrefix xs ys → IsPrefix f.mark.entries ys → All (λ (g : F). IsPrefix g.mark.entries ys) (f ∷ fs)
begin_more f fs xs ys h on own = All-cons (λ (g : F). IsPrefix g.mark.entries ys) f fs own (λ k d lt. prefix_on (slice_index_or fs k d).mark.entries xs ys (h k d lt) on)

-- the rings of ended consoles
pub links_all : (lanes : List (Lane Order Reply)) (fs : List F) → All (IsEndIn lanes) fs → All (IsLinkEndIn lanes) (links_in fs)
links_all lanes [] h = All-nil (IsLinkEndIn lanes)
links_all lanes (f ∷ fs) h = All-cons (IsLinkEndIn lanes) f.link (links_in fs) (All-head (IsEndIn lanes) f fs h) (links_all lanes fs (All-tail (IsEndIn lanes) f fs h))

abbrev or_this : F → Option F → F
or_this d None = d
or_this d (Some x) = x

pub found_ended : (P : F → Type 0) (n : ℕ) (fs : List F) (f : F) → All P fs → ended_of n fs ≡ Some f → P f
found_ended P n [] f h e = absurd (cc)
found_ended P n (g ∷ fs) f h e = elim (cases_Bool (g.link.number == n)) [
  | inl yes' ↦
      let k : Some g ≡ Some f = subst (λ (t : Bool). (if t then Some g else ended_of n fs) ≡ Some f) yes' e in
      subst P (ap (or_this g) k) (All-head P g fs h)
  | inr no' ↦ found_ended P n fs f (All-tail P g fs h) (subst (λ (t : Bool). (if t then Some g else ended_of n fs) ≡ Some f) no' e)
]

pub links_found : (n : ℕ) (fs : List F) (f : F) → ended_of n fs ≡ Some f → finished_of n (links_in fs) ≡ Some f.link
links_found n [] f e = absurd (cc)
links_found n (g ∷ fs) f e = elim (cases_Bool (g.link.number == n)) [
  | inl yes' ↦
      let k : Some g ≡ Some f = subst (λ (t : Bool). (if t then Some g else ended_of n fs) ≡ Some f) yes' e in
      ap (λ (t : Bool). if t then Some g.link else finished_of n (links_in fs)) yes' ∙ ap (λ (x : F). Some x.link) (ap (or_this g) k)
  | inr no' ↦
      ap (λ (t : Bool). if t then Some g.link else finished_of n (links_in fs)) no'
      ∙ links_found n fs f (subst (λ (t : Bool). (if t then Some g else ended_of n fs) ≡ Some f) no' e)
]

few : (a b : ℕ) → nat_le a b ≡ true → a ≤ b
few a b h = grind (arith, nat_tests)

-- what a console saw that saw no more events than there are begins their entries
pub is_beginning : (plant : PlainPlant) (history : List Event) (fs : List F) (n : ℕ) (f : F) (within : Bool) → AreBeginnings (entries_of plant history) fs → ended_of n fs ≡ Some f
    → within ≡ has_seen_within (length history) (finished_of n (links_in fs)) → within ≡ true → IsPrefix f.mark.entries (entries_of plant history)
is_beginning plant history fs n f within all found exact is =
    let theirs = found_ended (λ (g : F). IsPrefix g.mark.entries all.one) n fs f all.theirs found in
    let le : nat_le f.link.seen (length history) ≡ true = sym (ap (λ (o : Option (FinishedRings Order Reply)). has_seen_within (length history) o) (links_found n fs f found)) ∙ (sym exact ∙ is) in
    let not_longer : length f.mark.entries ≤ length (entries_of plant history) = omega (arith, f.counted, few f.link.seen (length history) le, length_of plant history) in
    prefix_of_both f.mark.entries (entries_of plant history) all.one theirs all.own not_longer

none_begins : (xs ys : List BoardEntry) → Begins xs ys → ys ≡ [] → xs ≡ []
none_begins [] ys h is = refl
none_begins (x ∷ xs) ys h is = absurd (let k : [] ≡ x ∷ xs = sym (ap (λ (l : List BoardEntry). take (suc (length xs)) l) is) ∙ h in cc (k))

-- what a board shows before the first event
pub opening_published : (plant now : PlainPlant) (history : List Event) (board : BoardWriter) → now ≡ plant → history ≡ [] → HasHistory now history board → published board ≡ history_story plant []
opening_published plant now history board p h has =
    let shown = board.writer.desk.shown.value in
    let is : laid board ≡ history_story plant [] = has.laid_is ∙ (λ i. history_story (p i) (h i)) in
    let none : shown.list ≡ [] = none_begins shown.list board.log.entries board.begins (ap (λ (s : BoardStory). s.1) is ∙ no_entries plant) in
    ap (λ (l : List BoardEntry). (shown.opening.value, l)) (none ∙ (sym (no_entries plant) ∙ sym (ap (λ (s : BoardStory). s.1) is))) ∙ is
