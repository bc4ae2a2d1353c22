-- Records that are played again, and gone on from.
use Rattle.std.proofs.Common.{◌≡◌, ℕ, true, false, List, [], ◌∷◌, ◌++◌, length, refl, ap, sym, ◌∙◌, subst, append_assoc, append-nil, ◌+◌, map, Option, None, Some}
use Rattle.engine_history.specs.declared.event.Event.{Event}
use Rattle.plant_config.specs.Plants.{PlainPlant}
use Rattle.engine_system.specs.System.{System, system, after_event, scan_event}
use Rattle.engine_system.proofs.Systems.{system_next}
use Rattle.serve_session.specs.Journal.{NamedRow, added_rows}
use Rattle.serve_laws.proofs.Journals.{journal_next}
use Rattle.serve_lines.specs.Commands.{PlainCommand, Nothing, Unknown, Scan, Order, Listing, Journal}
use Rattle.serve_lines.specs.Reloads.{PlainSizes, reload_sizes, reload_size}
use Rattle.serve_session.specs.Listings.{list_text, journal_text, named_line, with_end}
use Rattle.serve_session.specs.ServeAnswersAnswers.{after_command, answer_after, command_answer, command_events, event_text, scan_text, order_answer, order_for}
use Rattle.serve_requests.specs.Requests.{Request, has_lf, without_cr, begun_request, requests_of}
use Rattle.serve_requests.proofs.RequestLaws.{cut}
use Rattle.serve_requests.proofs.Beginnings.{requests_end}
use Rattle.serve_session.specs.Reloads.{IsReloadAnswer}
use Rattle.serve_session.specs.Answers.{asked_by, IsAnswerBy, IsAnswered, AreAnswered}
use Rattle.serve_session.proofs.AnswerLaws.{together, apart, answers-one}
use Rattle.serve_laws.specs.Records.{IsPlayed, GoesOn, LeaveAlike, IsPlayedAlike, only_asks, request_with, AddsNothing, AddsNothingAfter, CanBeLeftOut}

-- ---- requests one after another

pub one_history : (plant : PlainPlant) (history a b : List Event) (input s t : List ℕ) → IsPlayed plant history input a s → IsPlayed plant history input b t → a ≡ b
one_history plant history a b input s t p q = (answers-one plant history (requests_of input) a b s t p q).0

-- an input and more after it
pub goes_on : (plant : PlainPlant) (history : List Event) (past more : List ℕ) → begun_request past ≡ [] → (after : List Event) (text : List ℕ) → GoesOn plant history past more after text
goes_on plant history past more e after text =
    let parts = cut past more e in
    record {
      apart = λ p.
          let both = apart plant history after (requests_of past) (requests_of more) text (subst (λ (rs : List Request). AreAnswered plant history rs after text) parts p) in
          record { middle = both.middle; first = both.first; rest = both.rest; past_is = both.front; more_is = both.back; text_is = both.text_is };
      together = λ p.
          subst (λ (rs : List Request). AreAnswered plant history rs after text) (sym parts)
          (subst (λ (t : List ℕ). AreAnswered plant history (requests_of past ++ requests_of more) after t) (sym p.text_is)
          (together plant history p.middle after (requests_of past) (requests_of more) p.first p.rest p.past_is p.more_is));
    }

-- ---- histories that leave a plant alike

alike_next : (plant : PlainPlant) (h k : List Event) (e : Event) → LeaveAlike plant h k → LeaveAlike plant (h ++ e ∷ []) (k ++ e ∷ [])
alike_next plant h k e alike =
    let rows : List NamedRow → System → List NamedRow = λ rows sys. rows ++ added_rows (length rows + 1) sys e in
    record {
      state_is = system_next plant h e ∙ ap (λ (s : System). after_event s e) alike.state_is ∙ sym (system_next plant k e);
      journal_is = journal_next plant h e ∙ (λ i. rows (alike.journal_is i) (alike.state_is i)) ∙ sym (journal_next plant k e);
    }

alike_more : (plant : PlainPlant) (h k events : List Event) → LeaveAlike plant h k → LeaveAlike plant (h ++ events) (k ++ events)
alike_more plant h k [] alike =
    subst (λ (x : List Event). LeaveAlike plant x (k ++ [])) (sym (append-nil h)) (subst (λ (x : List Event). LeaveAlike plant h x) (sym (append-nil k)) alike)
alike_more plant h k (e ∷ events) alike =
    subst (λ (x : List Event). LeaveAlike plant x (k ++ e ∷ events)) (append_assoc h (e ∷ []) events)
    (subst (λ (x : List Event). LeaveAlike plant ((h ++ e ∷ []) ++ events) x) (append_assoc k (e ∷ []) events)
    (alike_more plant (h ++ e ∷ []) (k ++ e ∷ []) events (alike_next plant h k e alike)))

alike_command : (plant : PlainPlant) (h k : List Event) (command : PlainCommand) → LeaveAlike plant h k → LeaveAlike plant (after_command plant h command) (after_command plant k command)
unfolding after_command
alike_command plant h k command alike =
    let events = command_events (system plant h) command in
    subst (λ (es : List Event). LeaveAlike plant (h ++ events) (k ++ es)) (ap (λ (s : System). command_events s command) alike.state_is) (alike_more plant h k events alike)

answer_alike : (plant : PlainPlant) (h k : List Event) (command : PlainCommand) → LeaveAlike plant h k → command_answer plant h (system plant h) command ≡ command_answer plant k (system plant k) command
unfolding journal_text
answer_alike plant h k Nothing alike = refl
answer_alike plant h k Unknown alike = refl
answer_alike plant h k (Scan moment pairs) alike = ap (λ (s : System). event_text (scan_event s pairs moment) (scan_text s)) alike.state_is
answer_alike plant h k (Order verb console word) alike = ap (λ (s : System). order_answer s console (order_for s verb word)) alike.state_is
answer_alike plant h k Listing alike = ap list_text alike.state_is
answer_alike plant h k Journal alike = ap (λ (rows : List NamedRow). with_end (map (named_line plant.epoch) rows)) alike.journal_is

-- a request, by what it may be answered after the other history
abbrev AnsweredAlike : Option PlainSizes → (plant : PlainPlant) (k after : List Event) (request : Request) (text : List ℕ) → Type 0
AnsweredAlike sizes plant k after request text = (end : List Event) × IsAnswerBy sizes plant k request end text × LeaveAlike plant after end

request_alike : (sizes : Option PlainSizes) (plant : PlainPlant) (h k after : List Event) (request : Request) (text : List ℕ) → LeaveAlike plant h k → IsAnswerBy sizes plant h request after text
    → AnsweredAlike sizes plant k after request text
unfolding answer_after
request_alike None plant h k after request text alike p =
    let command = asked_by request in
    let next = after_command plant k command in
    (next, (refl, p.1 ∙ answer_alike plant h k command alike), subst (λ (e : List Event). LeaveAlike plant e next) (sym p.0) (alike_command plant h k command alike))
request_alike (Some sizes) plant h k after request text alike p =
    let next = k ++ p.events in (
      next,
      record { events = p.events; after_is = refl; answer = subst (λ (s : System). IsReloadAnswer s sizes request.body p.events text) alike.state_is p.answer },
      subst (λ (e : List Event). LeaveAlike plant e next) (sym p.after_is) (alike_more plant h k p.events alike),
    )

requests_alike : (plant : PlainPlant) (h k after : List Event) (requests : List Request) (text : List ℕ) → LeaveAlike plant h k → AreAnswered plant h requests after text
    → (end : List Event) × AreAnswered plant k requests end text × LeaveAlike plant after end
requests_alike plant h k after [] text alike p = (k, (refl, p.1), subst (λ (e : List Event). LeaveAlike plant e k) (sym p.0) alike)
requests_alike plant h k after (request ∷ requests) text alike p =
    let first = request_alike (reload_sizes request.line) plant h k p.0 request p.1 alike p.3 in
    let others = requests_alike plant p.0 first.0 after requests p.2 first.2 p.4 in
    (others.0, (first.0, p.1, p.2, first.1, others.1, p.5), others.2)

pub played_alike : (plant : PlainPlant) (h k : List Event) → LeaveAlike plant h k → (input : List ℕ) (after : List Event) (text : List ℕ) → IsPlayed plant h input after text → IsPlayedAlike plant k input after text
played_alike plant h k alike input after text p =
    let both = requests_alike plant h k after (requests_of input) text alike p in
    record { end = both.0; played = both.1; alike = both.2 }

-- ---- lines that add no event

asking_adds : (plant : PlainPlant) (history : List Event) (command : PlainCommand) → only_asks command ≡ true → after_command plant history command ≡ history
unfolding after_command
asking_adds plant history Nothing e = append-nil history
asking_adds plant history Unknown e = append-nil history
asking_adds plant history (Scan moment pairs) e = cc
asking_adds plant history (Order verb console word) e = cc
asking_adds plant history Listing e = append-nil history
asking_adds plant history Journal e = append-nil history

pub asking_adds_nothing : (plant : PlainPlant) (history : List Event) (request : Request) → reload_sizes request.line ≡ None → only_asks (asked_by request) ≡ true → AddsNothing plant history request
asking_adds_nothing plant history request none e = λ after text p.
    let asked : IsAnswerBy None plant history request after text = subst (λ (o : Option PlainSizes). IsAnswerBy o plant history request after text) none p in
    asked.0 ∙ asking_adds plant history (asked_by request) e

pub line_left_out : (plant : PlainPlant) (history : List Event) (past line body more : List ℕ) → begun_request past ≡ [] → has_lf line ≡ false → length body ≡ reload_size (without_cr line)
    → AddsNothingAfter plant history past (request_with line body) → (after : List Event) (text : List ℕ) → IsPlayed plant history (past ++ (line ++ 10 ∷ (body ++ more))) after text
    → CanBeLeftOut plant history past (request_with line body) more after text
line_left_out plant history past line body more e n size none after text p =
    let request = request_with line body in
    let played = (goes_on plant history past (line ++ 10 ∷ (body ++ more)) e after text).apart p in
    let asked : AreAnswered plant played.middle (request ∷ requests_of more) after played.rest =
    subst (λ (rs : List Request). AreAnswered plant played.middle rs after played.rest) (requests_end line body more n size) played.more_is in
    let same : asked.0 ≡ played.middle = none played.middle played.first played.past_is asked.0 asked.1 asked.3 in
    let own : IsAnswered plant played.middle request played.middle asked.1 = subst (λ (h : List Event). IsAnswered plant played.middle request h asked.1) same asked.3 in
    let others : IsPlayed plant played.middle more after asked.2 = subst (λ (h : List Event). IsPlayed plant h more after asked.2) same asked.4 in
    record {
      middle = played.middle;
      first = played.first;
      own = asked.1;
      rest = asked.2;
      past_is = played.past_is;
      own_is = own;
      more_is = others;
      text_is = played.text_is ∙ ap (λ (t : List ℕ). played.first ++ t) asked.5;
      others_are = (goes_on plant history past more e after (played.first ++ asked.2)).together (record { middle = played.middle; first = played.first; rest = asked.2; past_is = played.past_is; more_is = others; text_is = refl });
    }
