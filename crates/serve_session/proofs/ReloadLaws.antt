-- What a reload was answered.
use Rattle.std.proofs.Common.{◌≡◌, ℕ, Bool, false, cond, List, [], ◌∷◌, ◌++◌, refl, sym, ◌∙◌, subst, append-nil, length}
use Rattle.std.specs.Prelude.{nat_lt, codes, ◌⊎◌, Option, Some, None, ◌+◌, ◌<◌, get_or, take, drop}
use Rattle.std.proofs.Common.{inl, inr, ap, append_assoc, arith, Result, Ok, Err, ◌≤◌}
use Rattle.std.specs.Prelude.{OnOk, is_ok}
use Rattle.std.proofs.lemmas.Bool.Decides.{nat_tests}
use Rattle.std.proofs.lemmas.List.{at_drop_more, at_drop_all}
use Rattle.plant_folder.specs.Plants.{PlainPlant}
use Rattle.plant_folder.specs.Verdicts.{IsVerdict}
use Rattle.serve_answers.specs.System.{reload_event}
use Rattle.serve_answers.specs.Answers.{event_added}
use Rattle.plant_folder.specs.Files.{Texts, texts_of}
use Rattle.serve_answers.specs.Engines.{PlainEngine, state_of}
use Rattle.serve_lines.specs.Reloads.{PlainSizes, total_size}
use Rattle.serve_lines.specs.Lines.{refused_line}
use Rattle.serve_session.specs.Reloads.{handed_texts, texts_in, names_in, names_for, reload_answer, IsReloaded, HasReloaded, MayHaveReloaded}
use Rattle.serve_session.specs.Answers.{IsReload}

-- with all bytes that its line tells of
pub of_reloaded : (e₀ e₁ : PlainEngine) (sizes : PlainSizes) (body text : List ℕ) (texts : Texts) → nat_lt (length body) (total_size sizes) ≡ false → texts ≡ handed_texts sizes body
    → HasReloaded texts e₀ e₁ [] text → IsReload e₀.plant e₀.history sizes body e₁.history text
of_reloaded e₀ e₁ sizes body text texts long same r =
    let sys = state_of e₀ in
    let all = handed_texts sizes body in record {
      events = r.events;
      after_is = r.history_is;
      answer = subst (λ (v : Bool). cond v ((r.events ≡ []) × (text ≡ refused_line (codes "L2"))) (IsReloaded sys all r.events text)) (sym long)
          (subst (λ (t : List ℕ). IsReloaded sys all r.events t) (sym r.text_is) (subst (λ (x : Texts). IsReloaded sys x r.events r.text) same r.reloaded));
    }

-- where the text was empty before
pub whole_reload : (e₀ e₁ : PlainEngine) (sizes : PlainSizes) (body old text : List ℕ) (texts : Texts) → nat_lt (length body) (total_size sizes) ≡ false → old ≡ [] → texts ≡ handed_texts sizes body
    → HasReloaded texts e₀ e₁ old text → IsReload e₀.plant e₀.history sizes body e₁.history text
whole_reload e₀ e₁ sizes body old text texts long clear same r =
    of_reloaded e₀ e₁ sizes body text texts long same (subst (λ (t : List ℕ). HasReloaded texts e₀ e₁ t text) clear r)

pub not_short : (n m total : ℕ) → total ≡ m → total ≤ n → nat_lt n m ≡ false
not_short n m total e le = grind (arith, nat_tests)

-- ---- what the verdict on texts leads to

-- a plant that is accepted was reloaded
pub reloaded_plant : (texts : Texts) (e₀ e₁ : PlainEngine) (t₀ t₁ : List ℕ) (o : Option PlainPlant) (plant : PlainPlant) (line : List ℕ) → IsVerdict texts false o line → o ≡ Some plant
    → e₁.history ≡ e₀.history ++ event_added (reload_event (state_of e₀) plant) → t₁ ≡ t₀ ++ reload_answer (state_of e₀) plant → HasReloaded texts e₀ e₁ t₀ t₁
reloaded_plant texts e₀ e₁ t₀ t₁ o plant line v is h t = record {
  events = event_added (reload_event (state_of e₀) plant);
  text = reload_answer (state_of e₀) plant;
  history_is = h;
  text_is = t;
  reloaded = record { plant = Some plant; line = line; verdict = subst (λ (p : Option PlainPlant). IsVerdict texts false p line) is v; followed = (refl, refl) };
}

-- or nothing of it took effect
pub perhaps_reloaded : (texts : Texts) (e₀ e₁ : PlainEngine) (o : Option PlainPlant) (plant : PlainPlant) (line : List ℕ) → IsVerdict texts false o line → o ≡ Some plant
    → (e₁.history ≡ e₀.history) ⊎ (e₁.history ≡ e₀.history ++ event_added (reload_event (state_of e₀) plant)) → MayHaveReloaded texts e₀ e₁
perhaps_reloaded texts e₀ e₁ o plant line v is (inl h) = inl h
perhaps_reloaded texts e₀ e₁ o plant line v is (inr h) = inr (reload_answer (state_of e₀) plant, reloaded_plant texts e₀ e₁ [] (reload_answer (state_of e₀) plant) o plant line v is h refl)

-- a plant that is refused was answered its line
pub told_refusal : (texts : Texts) (e : PlainEngine) (t₀ t₁ : List ℕ) (o : Option PlainPlant) (line : List ℕ) → IsVerdict texts false o line → o ≡ None → t₁ ≡ t₀ ++ line → HasReloaded texts e e t₀ t₁
told_refusal texts e t₀ t₁ o line v is t = record {
  events = [];
  text = line;
  history_is = sym (append-nil e.history);
  text_is = t;
  reloaded = record { plant = None; line = line; verdict = subst (λ (p : Option PlainPlant). IsVerdict texts false p line) is v; followed = (refl, refl) };
}

-- a reload with all bytes may have taken effect
pub of_perhaps : (e₀ e₁ : PlainEngine) (sizes : PlainSizes) (body : List ℕ) (texts : Texts) → nat_lt (length body) (total_size sizes) ≡ false → texts ≡ handed_texts sizes body → MayHaveReloaded texts e₀ e₁
    → (e₁.history ≡ e₀.history) ⊎ ((text : List ℕ) × IsReload e₀.plant e₀.history sizes body e₁.history text)
of_perhaps e₀ e₁ sizes body texts long same (inl h) = inl h
of_perhaps e₀ e₁ sizes body texts long same (inr r) = inr (r.0, of_reloaded e₀ e₁ sizes body r.0 texts long same r.1)

-- ---- one source after another

-- the sizes that are left, by the first of them
pub next_text : (sizes rest : List ℕ) (i size : ℕ) → i < length sizes → size ≡ get_or sizes i 0 → texts_in (drop i sizes) rest ≡ take size rest ∷ texts_in (drop (i + 1) sizes) (drop size rest)
next_text sizes rest i size lt is =
    at_drop_more (λ (ss : List ℕ). texts_in ss rest) sizes i 0 lt ∙ ap (λ (k : ℕ). take k rest ∷ texts_in (drop (i + 1) sizes) (drop k rest)) (sym is)

-- a text is added to those that were cut
pub one_text : (done left after : List (List ℕ)) (text : List ℕ) (all : List (List ℕ)) → left ≡ text ∷ after → done ++ left ≡ all → (done ++ text ∷ []) ++ after ≡ all
one_text done left after text all e before = append_assoc done (text ∷ []) after ∙ ap (λ (ts : List (List ℕ)). done ++ ts) (sym e) ∙ before

module _ (sizes rest : List ℕ) (i size : ℕ) (lt : i < length sizes) (is : size ≡ get_or sizes i 0) (after : List ℕ) (back : after ≡ drop size rest) where
  pub more_texts : (old new : List (List ℕ)) (text : List ℕ) (all : List (List ℕ)) → text ≡ take size rest → new ≡ old ++ text ∷ []
      → old ++ texts_in (drop i sizes) rest ≡ all → new ++ texts_in (drop (i + 1) sizes) after ≡ all
  more_texts old new text all front grown before =
      rw (grown, front, back) (one_text old (texts_in (drop i sizes) rest) (texts_in (drop (i + 1) sizes) (drop size rest)) (take size rest) all (next_text sizes rest i size lt is) before)

  pub more_names : (names others : List (List ℕ)) (old new : List (List ℕ)) (name : List ℕ) (all : List (List ℕ))
      → ((text : List ℕ) (texts : List (List ℕ)) → names_for names (text ∷ texts) ≡ name ∷ names_for others texts) → new ≡ old ++ name ∷ []
      → old ++ names_for names (texts_in (drop i sizes) rest) ≡ all → new ++ names_for others (texts_in (drop (i + 1) sizes) after) ≡ all
  more_names names others old new name all first grown before =
      rw (grown, back) (one_text old (names_for names (texts_in (drop i sizes) rest)) (names_for others (texts_in (drop (i + 1) sizes) (drop size rest))) name all
      (ap (names_for names) (next_text sizes rest i size lt is) ∙ first (take size rest) (texts_in (drop (i + 1) sizes) (drop size rest))) before)

-- no size is left
module _ (sizes rest : List ℕ) (i : ℕ) (over : length sizes ≤ i) (done all : List (List ℕ)) where
  pub all_texts : done ++ texts_in (drop i sizes) rest ≡ all → done ≡ all
  all_texts before = sym (append-nil done) ∙ sym (at_drop_all (λ (ss : List ℕ). done ++ texts_in ss rest) sizes i over) ∙ before

  pub all_names : (names : List (List ℕ)) → done ++ names_for names (texts_in (drop i sizes) rest) ≡ all → done ≡ all
  all_names names before = sym (append-nil done) ∙ sym (at_drop_all (λ (ss : List ℕ). done ++ names_for names (texts_in ss rest)) sizes i over) ∙ before

-- the texts that a body was cut into are those that it hands in
pub cut_texts : (sizes : PlainSizes) (body plant rest alarms after : List ℕ) (p a : ℕ) (ss : List ℕ) (names first second : List (List ℕ))
    → p ≡ sizes.plant → a ≡ sizes.alarms → ss ≡ sizes.sources → plant ≡ take p body → rest ≡ drop p body → alarms ≡ take a rest → after ≡ drop a rest
    → names ≡ names_in plant → first ≡ names_for names (texts_in ss after) → second ≡ texts_in ss after → texts_of plant first second alarms ≡ handed_texts sizes body
cut_texts sizes body plant rest alarms after p a ss names first second ep ea es ei er el ef en e1 e2 = rw (e1, e2, en, el, ef, ei, er, es, ea, ep) refl

-- bytes that were added
pub added_ok : {T E : Type 0} (r : Result T E) (items old more : List ℕ) → items ≡ cond (is_ok r) (old ++ more) old → OnOk r (items ≡ old ++ more)
added_ok (Ok x) items old more e = e
added_ok (Err x) items old more e = tt
