-- One part of a session after another.
use Rattle.std.proofs.Common.{◌≡◌, ◌<◌, ◌≤◌, ℕ, zero, suc, List, length, [], ◌∷◌, ◌++◌, ap, refl, sym, ◌∙◌, arith, ◌⊎◌, inl, inr, append_assoc, append-nil, subst, take, Option, None, Some, IfSome, false, Result, Ok, Err}
use Rattle.std.specs.Io.KnownBytes.{Appends, Consumes, IsAtEnd}
use Rattle.std.proofs.KnownBytes.{Appends-nil, Appends-trans, Consumes-trans}
use Rattle.serve_answers.specs.Event.{Event}
use Rattle.plant_folder.specs.Plants.{PlainPlant}
use Rattle.serve_lines.specs.Commands.{command_of}
use Rattle.serve_lines.specs.Reloads.{PlainSizes, reload_sizes}
use Rattle.serve_answers.specs.Answers.{after_command, answer_after}
use Rattle.serve_requests.specs.Requests.{Request, requests_of}
use Rattle.serve_requests.specs.Splitting.{AsksAlike, AskAlike}
use Rattle.serve_answers.specs.Engines.{PlainEngine}
use Rattle.serve_faults.specs.Faults.{crew_faults, is_crew}
use Rattle.serve_faults.specs.declared.fault.ServeFault.{ServeFault}
use Rattle.serve_faults.specs.declared.fault.ServeFault.TheVariants as fault
use Rattle.serve_session.specs.Answers.{IsReload, IsAnswerBy, IsAnswered, AreAnswered}
use Rattle.serve_session.specs.Session.{Answered, Stopped, HasServed, Serves}
use Rattle.serve_session.proofs.AnswerLaws.{together, answered_one}

-- nothing was asked
pub answered-none : (plant : PlainPlant) (h : List Event) (w : Option (List ℕ)) → Answered plant [] h h w w
answered-none plant h w = record { text = []; answered = (refl, refl); wrote = Appends-nil w }

-- lines, and then more of them
pub answered-more : (plant : PlainPlant) (xs ys : List Request) (h₀ h₁ h₂ : List Event) (w₀ w₁ w₂ : Option (List ℕ)) → Answered plant xs h₀ h₁ w₀ w₁ → Answered plant ys h₁ h₂ w₁ w₂ → Answered plant (xs ++ ys) h₀ h₂ w₀ w₂
answered-more plant xs ys h₀ h₁ h₂ w₀ w₁ w₂ p q = record {
  text = p.text ++ q.text;
  answered = together plant h₀ h₁ h₂ xs ys p.text q.text p.answered q.answered;
  wrote = Appends-trans w₀ w₁ w₂ p.text q.text p.wrote q.wrote;
}

-- lines, and then a stop within more of them
pub stopped-more : (plant : PlainPlant) (xs ys : List Request) (h₀ h₁ h₂ : List Event) (w₀ w₁ w₂ : Option (List ℕ)) → Answered plant xs h₀ h₁ w₀ w₁ → Stopped plant ys h₁ h₂ w₁ w₂ → Stopped plant (xs ++ ys) h₀ h₂ w₀ w₂
stopped-more plant xs ys h₀ h₁ h₂ w₀ w₁ w₂ p q = record {
  done = xs ++ q.done;
  last = q.last;
  rest = q.rest;
  cut = ap (λ (ls : List Request). xs ++ ls) q.cut ∙ sym (append_assoc xs q.done _);
  one = q.one;
  middle = q.middle;
  text = p.text ++ q.text;
  answered = together plant h₀ h₁ q.middle xs q.done p.text q.text p.answered q.answered;
  part = q.part;
  more = q.more;
  within = q.within;
  wrote = subst (Appends w₀ w₂) (sym (append_assoc p.text q.text q.part)) (Appends-trans w₀ w₁ w₂ p.text (q.text ++ q.part) p.wrote q.wrote);
}

-- a stop, where more lines follow
pub stopped-longer : (plant : PlainPlant) (xs ys : List Request) (h₀ h₁ : List Event) (w₀ w₁ : Option (List ℕ)) → Stopped plant xs h₀ h₁ w₀ w₁ → Stopped plant (xs ++ ys) h₀ h₁ w₀ w₁
stopped-longer plant xs ys h₀ h₁ w₀ w₁ q = record {
  done = q.done;
  last = q.last;
  rest = q.rest ++ ys;
  cut = ap (λ (ls : List Request). ls ++ ys) q.cut ∙ append_assoc q.done _ ys ∙ ap (λ (ls : List Request). q.done ++ ls) (append_assoc q.last q.rest ys);
  one = q.one;
  middle = q.middle;
  text = q.text;
  answered = q.answered;
  part = q.part;
  more = q.more;
  within = q.within;
  wrote = q.wrote;
}

-- nothing of these lines took effect
pub stopped-none : (plant : PlainPlant) (requests : List Request) (h₀ h₁ : List Event) (w : Option (List ℕ)) → h₁ ≡ h₀ → Stopped plant requests h₀ h₁ w w
stopped-none plant requests h₀ h₁ w e = record {
  done = [];
  last = [];
  rest = requests;
  cut = refl;
  one = omega arith;
  middle = h₀;
  text = [];
  answered = (refl, refl);
  part = [];
  more = [];
  within = (e, refl);
  wrote = Appends-nil w;
}

-- ---- one request, by what was answered

-- the answer to a line alone that is no reload is that to a request which asks for the same
is_answer : (plant : PlainPlant) (request : Request) (line body text : List ℕ) (h₀ h₁ : List Event) → reload_sizes line ≡ None → AsksAlike (record { line = line; body = body }) request
    → h₁ ≡ after_command plant h₀ (command_of line) → text ≡ answer_after plant h₀ (command_of line) → IsAnswered plant h₀ request h₁ text
is_answer plant request line body text h₀ h₁ none same h t =
    subst (λ (o : Option PlainSizes). IsAnswerBy o plant h₀ request h₁ text) (sym (sym same.sizes ∙ none))
    (h ∙ ap (after_command plant h₀) same.command, t ∙ ap (answer_after plant h₀) same.command)

-- and so is the answer to a reload
pub is_reload : (plant : PlainPlant) (request : Request) (line body text : List ℕ) (sizes : PlainSizes) (h₀ h₁ : List Event) → reload_sizes line ≡ Some sizes → AsksAlike (record { line = line; body = body }) request
    → IsReload plant h₀ sizes body h₁ text → IsAnswered plant h₀ request h₁ text
is_reload plant request line body text sizes h₀ h₁ is same r =
    subst (λ (o : Option PlainSizes). IsAnswerBy o plant h₀ request h₁ text) (sym (sym same.sizes ∙ is))
    (subst (λ (b : List ℕ). IsReload plant h₀ sizes b h₁ text) same.body r)

-- a request took effect, and its answer is written
pub answered-request : (plant : PlainPlant) (request : Request) (text : List ℕ) (h₀ h₁ : List Event) (w₀ w₁ : Option (List ℕ)) → IsAnswered plant h₀ request h₁ text → Appends w₀ w₁ text
    → Answered plant (request ∷ []) h₀ h₁ w₀ w₁
answered-request plant request text h₀ h₁ w₀ w₁ a w = record { text = text; answered = answered_one plant h₀ h₁ request text a; wrote = w }

-- a request took effect, and a part of its answer is written
pub stopped-request : (plant : PlainPlant) (request : Request) (part more : List ℕ) (h₀ h₁ : List Event) (w₀ w₁ : Option (List ℕ)) → IsAnswered plant h₀ request h₁ (part ++ more) → Appends w₀ w₁ part
    → Stopped plant (request ∷ []) h₀ h₁ w₀ w₁
stopped-request plant request part more h₀ h₁ w₀ w₁ a w = record {
  done = [];
  last = request ∷ [];
  rest = [];
  cut = refl;
  one = omega arith;
  middle = h₀;
  text = [];
  answered = (refl, refl);
  part = part;
  more = more;
  within = answered_one plant h₀ h₁ request (part ++ more) a;
  wrote = w;
}

-- a line took effect, and its answer is written
pub answered-line : (plant : PlainPlant) (request : Request) (line body text : List ℕ) (h₀ h₁ : List Event) (w₀ w₁ : Option (List ℕ)) → reload_sizes line ≡ None → AsksAlike (record { line = line; body = body }) request
    → h₁ ≡ after_command plant h₀ (command_of line) → text ≡ answer_after plant h₀ (command_of line) → Appends w₀ w₁ text → Answered plant (request ∷ []) h₀ h₁ w₀ w₁
answered-line plant request line body text h₀ h₁ w₀ w₁ none same h t w = answered-request plant request text h₀ h₁ w₀ w₁ (is_answer plant request line body text h₀ h₁ none same h t) w

-- a line took effect, and a part of its answer is written
pub stopped-line : (plant : PlainPlant) (request : Request) (line body part more : List ℕ) (h₀ h₁ : List Event) (w₀ w₁ : Option (List ℕ)) → reload_sizes line ≡ None → AsksAlike (record { line = line; body = body }) request
    → h₁ ≡ after_command plant h₀ (command_of line) → answer_after plant h₀ (command_of line) ≡ part ++ more → Appends w₀ w₁ part → Stopped plant (request ∷ []) h₀ h₁ w₀ w₁
stopped-line plant request line body part more h₀ h₁ w₀ w₁ none same h t w = stopped-request plant request part more h₀ h₁ w₀ w₁ (is_answer plant request line body (part ++ more) h₀ h₁ none same h (sym t)) w

-- a line to which nothing is written, and that may have taken effect
pub stopped-unwritten : (plant : PlainPlant) (request : Request) (line body : List ℕ) (h₀ h₁ : List Event) (w : Option (List ℕ)) → reload_sizes line ≡ None → AsksAlike (record { line = line; body = body }) request
    → (h₁ ≡ h₀) ⊎ (h₁ ≡ after_command plant h₀ (command_of line)) → Stopped plant (request ∷ []) h₀ h₁ w w
stopped-unwritten plant request line body h₀ h₁ w none same (inl h) = stopped-none plant (request ∷ []) h₀ h₁ w h
stopped-unwritten plant request line body h₀ h₁ w none same (inr h) = stopped-line plant request line body [] (answer_after plant h₀ (command_of line)) h₀ h₁ w w none same h refl (Appends-nil w)

-- a reload to which nothing is written, and that may have taken effect
pub stopped-reload : (plant : PlainPlant) (request : Request) (line body : List ℕ) (sizes : PlainSizes) (h₀ h₁ : List Event) (w : Option (List ℕ)) → reload_sizes line ≡ Some sizes → AsksAlike (record { line = line; body = body }) request
    → (h₁ ≡ h₀) ⊎ ((text : List ℕ) × IsReload plant h₀ sizes body h₁ text) → Stopped plant (request ∷ []) h₀ h₁ w w
stopped-reload plant request line body sizes h₀ h₁ w is same (inl h) = stopped-none plant (request ∷ []) h₀ h₁ w h
stopped-reload plant request line body sizes h₀ h₁ w is same (inr r) =
    stopped-request plant request [] r.0 h₀ h₁ w w (is_reload plant request line body r.0 sizes h₀ h₁ is same r.1) (Appends-nil w)

-- ---- requests that ask alike

none_asked : (requests : List Request) → AskAlike [] requests → requests ≡ []
none_asked [] same = refl
none_asked (r ∷ rs) same = absurd same

-- nothing was asked
pub serves-none : (requests : List Request) (e : PlainEngine) (w : Option (List ℕ)) → AskAlike [] requests → Serves {T = Unit} (Ok tt) requests e e w w
serves-none requests e w same = subst (λ (rs : List Request). Serves {T = Unit} (Ok tt) rs e e w w) (sym (none_asked requests same)) (answered-none e.plant e.history w, tt)

one_asked : (x : Request) (requests : List Request) → AskAlike (x ∷ []) requests → (r : Request) × (requests ≡ r ∷ []) × AsksAlike x r
one_asked x [] same = absurd same
one_asked x (r ∷ []) same = (r, refl, same.0)
one_asked x (r ∷ s ∷ rs) same = absurd same.1

-- one request was
pub serves-one : (r : Result Unit ServeFault) (x : Request) (requests : List Request) (e₀ e₁ : PlainEngine) (w₀ w₁ : Option (List ℕ)) → AskAlike (x ∷ []) requests
    → ((request : Request) → AsksAlike x request → Serves r (request ∷ []) e₀ e₁ w₀ w₁) → Serves r requests e₀ e₁ w₀ w₁
serves-one r x requests e₀ e₁ w₀ w₁ same served =
    let one = one_asked x requests same in
    subst (λ (rs : List Request). Serves r rs e₀ e₁ w₀ w₁) (sym one.1) (served one.0 one.2)

-- where the crew did not fail its count of faults stays
pub none_counted : {T : Type 0} (n : ℕ) (result : Result T ServeFault) → is_crew result ≡ false → n ≡ crew_faults n result
none_counted n (Ok done) none = refl
none_counted n (Err fault.Memory) none = refl
none_counted n (Err fault.Read) none = refl
none_counted n (Err fault.Write) none = refl
none_counted n (Err fault.Crew) none = absurd (cc)

-- ---- the whole of a feed

-- a read that gave no byte
pub consumed_nothing : (a b c : Option (List ℕ)) (input buf : List ℕ) (n : ℕ) → n ≡ 0 → Consumes a b input → Consumes b c (take n buf) → Consumes a c input
consumed_nothing a b c input buf n e p q =
    subst (Consumes a c) (append-nil input) (Consumes-trans a b c input [] p (subst (λ (k : ℕ). Consumes b c (take k buf)) e q))

-- a read that gave a byte or more
pub some_taken : (n : ℕ) (buf : List ℕ) → (n ≡ 0 → ⊥) → n ≤ length buf → 0 < length (take n buf)
some_taken zero buf some bound = absurd (some refl)
some_taken (suc n) [] some bound = omega (arith, bound)
some_taken (suc n) (b ∷ buf) some bound = omega arith

-- where the feed's bytes are known, and it is at its end, they are what was read
known : (a b : Option (List ℕ)) (input : List ℕ) → Consumes a b input → IsAtEnd b → IfSome a (λ bytes. input ≡ bytes)
known None b input p q = tt
known (Some xs) None input p q = absurd p
known (Some xs) (Some ys) input p q = sym (p ∙ ap (λ (r : List ℕ). input ++ r) q ∙ append-nil input)

with_known : (a : Option (List ℕ)) (P : List ℕ → Type 0) (input : List ℕ) → IfSome a (λ bytes. input ≡ bytes) → P input → IfSome a P
with_known None P input e p = tt
with_known (Some xs) P input e p = subst P e p

pub text_is : (plant : PlainPlant) (a b : Option (List ℕ)) (input : List ℕ) (h₀ h₁ : List Event) (w₀ w₁ : Option (List ℕ)) → Consumes a b input → IsAtEnd b → Answered plant (requests_of input) h₀ h₁ w₀ w₁
    → h₀ ≡ [] → IfSome a (λ bytes. HasServed plant bytes w₀ w₁)
text_is plant a b input h₀ h₁ w₀ w₁ p q r e =
    with_known a (λ bytes. HasServed plant bytes w₀ w₁) input (known a b input p q)
    (record { text = r.text; is_text = (h₁, subst (λ (h : List Event). AreAnswered plant h (requests_of input) h₁ r.text) e r.answered); wrote = r.wrote })
