-- Requests that are answered, and more after them.
use Rattle.std.proofs.Common.{◌≡◌, ◌⊎◌, inl, inr, ℕ, Bool, true, false, cond, List, [], ◌∷◌, ◌++◌, Option, Some, None, ap, refl, sym, ◌∙◌, subst, append_assoc, append-nil, ltb, length}
use Rattle.serve_answers.specs.Event.{Event}
use Rattle.plant_folder.specs.Files.{Texts}
use Rattle.plant_folder.specs.Plants.{PlainPlant}
use Rattle.plant_folder.proofs.OneAnswer.{one_plant, apart as accepted_apart}
use Rattle.plant_folder.proofs.OneRefusal.{one_refusal}
use Rattle.plant_folder.proofs.Decided.{accepted_or_refused}
use Rattle.plant_folder.specs.Verdicts.{refusal_line, IsVerdict}
use Rattle.serve_answers.specs.System.{System, system, reload_event}
use Rattle.serve_lines.specs.Reloads.{PlainSizes, total_size, reload_sizes}
use Rattle.std.specs.Prelude.{codes}
use Rattle.serve_lines.specs.Lines.{refused_line}
use Rattle.serve_answers.specs.Answers.{after_command, answer_after, event_added}
use Rattle.serve_requests.specs.Requests.{Request, requests_of}
use Rattle.serve_session.specs.Reloads.{handed_texts, reload_answer, IsFollowed, IsReloaded}
use Rattle.serve_session.specs.Answers.{asked_by, IsAnswerBy, IsAnswered, AreAnswered}
use Rattle.serve_session.specs.Laws.{AreRefusals, AnswersAreOne, AnswersAreThere, OutTextIsOne}

-- two lists of requests were answered, the one after the other
pub record AreBoth (plant : PlainPlant) (h : List Event) (xs ys : List Request) (after : List Event) (text : List ℕ) : Type 0 where
  pub middle : List Event
  pub first : List ℕ
  pub rest : List ℕ
  pub front : AreAnswered plant h xs middle first
  pub back : AreAnswered plant middle ys after rest
  pub text_is : text ≡ first ++ rest

-- requests, and then more of them
pub together : (plant : PlainPlant) (h m e : List Event) (xs ys : List Request) (s t : List ℕ) → AreAnswered plant h xs m s → AreAnswered plant m ys e t → AreAnswered plant h (xs ++ ys) e (s ++ t)
together plant h m e [] ys s t p q = subst (λ (k : List Event). AreAnswered plant k ys e (s ++ t)) p.0 (subst (λ (z : List ℕ). AreAnswered plant m ys e (z ++ t)) (sym p.1) q)
together plant h m e (x ∷ xs) ys s t p q =
    (p.0, p.1, p.2 ++ t, p.3, together plant p.0 m e xs ys p.2 t p.4 q, ap (λ (z : List ℕ). z ++ t) p.5 ∙ append_assoc p.1 p.2 t)

-- and back
pub apart : (plant : PlainPlant) (h e : List Event) (xs ys : List Request) (text : List ℕ) → AreAnswered plant h (xs ++ ys) e text → AreBoth plant h xs ys e text
apart plant h e [] ys text a = record { middle = h; first = []; rest = text; front = (refl, refl); back = a; text_is = refl }
apart plant h e (x ∷ xs) ys text a =
    let b = apart plant a.0 e xs ys a.2 a.4 in
    record {
      middle = b.middle;
      first = a.1 ++ b.first;
      rest = b.rest;
      front = (a.0, a.1, b.first, a.3, b.front, refl);
      back = b.back;
      text_is = a.5 ∙ ap (λ (t : List ℕ). a.1 ++ t) b.text_is ∙ sym (append_assoc a.1 b.first b.rest);
    }

-- one request alone
pub answered_one : (plant : PlainPlant) (h e : List Event) (request : Request) (text : List ℕ) → IsAnswered plant h request e text → AreAnswered plant h (request ∷ []) e text
answered_one plant h e request text p = (e, text, [], p, (refl, refl), sym (append-nil text))

-- ---- what is left open, and what is not

-- two answers to one request: the same events, and the same text but for the place of a C5
abbrev SameEnd : (e f : List Event) (s t : List ℕ) → Type 0
SameEnd e f s t = (e ≡ f) × ((s ≡ t) ⊎ AreRefusals s t)

followed_alike : (sys : System) (texts : Texts) (o p : Option PlainPlant) (l m : List ℕ) (e f : List Event) (s t : List ℕ) → IsVerdict texts false o l → IsVerdict texts false p m
    → IsFollowed sys o l e s → IsFollowed sys p m f t → SameEnd e f s t
followed_alike sys texts (Some a) (Some b) l m e f s t v w x y =
    let same = one_plant texts a b v.0 w.0 in
    (x.0 ∙ ap (λ (n : PlainPlant). event_added (reload_event sys n)) same ∙ sym y.0, inl (x.1 ∙ ap (reload_answer sys) same ∙ sym y.1))
followed_alike sys texts (Some a) None l m e f s t v w x y = absurd (w.1 (accepted_apart texts a v.0 w.0 w.2))
followed_alike sys texts None (Some b) l m e f s t v w x y = absurd (v.1 (accepted_apart texts b w.0 v.0 v.2))
followed_alike sys texts None None l m e f s t v w x y =
    (x.0 ∙ sym y.0, inr (v.0, w.0, one_refusal texts v.0 w.0 v.2 w.2 v.1 w.1, x.1 ∙ v.3, y.1 ∙ w.3))

-- by whether a body is too short
abbrev AnswerIn : Bool → System → Texts → List ℕ → List Event → List ℕ → Type 0
AnswerIn short sys texts refused e s = cond short ((e ≡ []) × (s ≡ refused)) (IsReloaded sys texts e s)

reloaded_alike : (short : Bool) (sys : System) (texts : Texts) (refused : List ℕ) (e f : List Event) (s t : List ℕ) → AnswerIn short sys texts refused e s → AnswerIn short sys texts refused f t → SameEnd e f s t
reloaded_alike true sys texts refused e f s t p q = (p.0 ∙ sym q.0, inl (p.1 ∙ sym q.1))
reloaded_alike false sys texts refused e f s t p q = followed_alike sys texts p.plant q.plant p.line q.line e f s t p.verdict q.verdict p.followed q.followed

answer_alike : (o : Option PlainSizes) (plant : PlainPlant) (h a b : List Event) (request : Request) (s t : List ℕ) → IsAnswerBy o plant h request a s → IsAnswerBy o plant h request b t
    → (a ≡ b) × ((s ≡ t) ⊎ AreRefusals s t)
answer_alike None plant h a b request s t p q = (p.0 ∙ sym q.0, inl (p.1 ∙ sym q.1))
answer_alike (Some sizes) plant h a b request s t p q =
    let both = reloaded_alike (ltb (length request.body) (total_size sizes)) (system plant h) (handed_texts sizes request.body) (refused_line (codes "L2")) p.events q.events s t p.answer q.answer in
    (p.after_is ∙ ap (λ (es : List Event). h ++ es) both.0 ∙ sym q.after_is, both.1)

-- what requests leave is one history, and what they are answered is the same but for that
pub answers-one : AnswersAreOne
answers-one plant h [] a b s t p q = (p.0 ∙ sym q.0, (p.1, q.1))
answers-one plant h (x ∷ xs) a b s t p q =
    let first = answer_alike (reload_sizes x.line) plant h p.0 q.0 x p.1 q.1 p.3 q.3 in
    let others = answers-one plant q.0 xs a b p.2 q.2 (subst (λ (m : List Event). AreAnswered plant m xs a p.2) first.0 p.4) q.4 in
    (others.0, (p.1, q.1, p.2, q.2, first.1, others.1, p.5, q.5))

-- a reload has an answer
reloaded-there : (sys : System) (texts : Texts) → (e : List Event) × (s : List ℕ) × IsReloaded sys texts e s
reloaded-there sys texts =
    elim (accepted_or_refused texts) [
      | inl a ↦ (event_added (reload_event sys a.0), reload_answer sys a.0, record { plant = Some a.0; line = []; verdict = (a.1, refl); followed = (refl, refl) })
      | inr r ↦ ([], refusal_line r.0, record { plant = None; line = refusal_line r.0; verdict = (r.0, r.2, r.1, refl); followed = (refl, refl) })
    ]

answer_in-there : (short : Bool) (sys : System) (texts : Texts) (refused : List ℕ) → (e : List Event) × (s : List ℕ) × AnswerIn short sys texts refused e s
answer_in-there true sys texts refused = ([], refused, (refl, refl))
answer_in-there false sys texts refused = reloaded-there sys texts

answer-there : (o : Option PlainSizes) (plant : PlainPlant) (h : List Event) (request : Request) → (a : List Event) × (s : List ℕ) × IsAnswerBy o plant h request a s
answer-there None plant h request = (after_command plant h (asked_by request), answer_after plant h (asked_by request), (refl, refl))
answer-there (Some sizes) plant h request =
    let there = answer_in-there (ltb (length request.body) (total_size sizes)) (system plant h) (handed_texts sizes request.body) (refused_line (codes "L2")) in
    (h ++ there.0, there.1, record { events = there.0; after_is = refl; answer = there.2 })

pub answers-there : AnswersAreThere
answers-there plant h [] = (h, [], (refl, refl))
answers-there plant h (x ∷ xs) =
    let first = answer-there (reload_sizes x.line) plant h x in
    let others = answers-there plant first.0 xs in
    (others.0, first.1 ++ others.1, (first.0, first.1, others.1, first.2, others.2, refl))

pub out_text-one : OutTextIsOne
out_text-one plant input = (
  λ s t p q. (answers-one plant [] (requests_of input) p.0 q.0 s t p.1 q.1).1,
  let there = answers-there plant [] (requests_of input) in (there.1, (there.0, there.2)),
)
