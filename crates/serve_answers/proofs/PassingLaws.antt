-- What is written of an answer while it is made.
use Rattle.std.proofs.Common.{◌≡◌, ◌∙◌, ℕ, zero, suc, ◌+◌, ◌-◌, ◌<◌, ◌≤◌, length, length-append, ◌++◌, map, take, drop, List, [], Option, ap, refl, sym, subst, append_assoc, append-nil, arith}
use Rattle.std.proofs.lemmas.List.{take-append-drop, map-append}
use Rattle.std.proofs.lemmas.Grind.{flat_map-append}
use Rattle.std.specs.Io.KnownBytes.{Appends}
use Rattle.std.proofs.KnownBytes.{Appends-nil, Appends-trans}
use Rattle.engine.specs.Plants.{PlainPlant}
use Rattle.engine.specs.Event.{Event}
use Rattle.engine.specs.Journal.{journal_of}
use Rattle.serve_faults.specs.Begun.{IsBegun}
use Rattle.serve_lines.specs.Lines.{end_line}
use Rattle.serve_answers.specs.Listings.{HasListed, HasRow, text_of, with_end, lines_below, named_line, journal_lines, IsPassed, HasPassed}
use Rattle.serve_answers.proofs.ListingLaws.{rows_more}

-- nothing is written yet
pub passed_none : (w : Option (List ℕ)) (text : List ℕ) → IsPassed w w text text
passed_none w text = ([], refl, Appends-nil w)

-- all is written
pub passed_all : (w₀ w₁ : Option (List ℕ)) (text : List ℕ) → Appends w₀ w₁ text → IsPassed w₀ w₁ text []
passed_all w₀ w₁ text a = (text, sym (append-nil text), a)

-- of what is held more is written
pub passed_more : (w₀ w₁ w₂ : Option (List ℕ)) (text held more left : List ℕ) → IsPassed w₀ w₁ text held → IsPassed w₁ w₂ (held ++ more) left → IsPassed w₀ w₂ (text ++ more) left
passed_more w₀ w₁ w₂ text held more left p q = (
  p.0 ++ q.0,
  ap (λ (t : List ℕ). t ++ more) p.1 ∙ append_assoc p.0 held more ∙ ap (λ (t : List ℕ). p.0 ++ t) q.1 ∙ sym (append_assoc p.0 q.0 left),
  Appends-trans w₀ w₁ w₂ p.0 q.0 p.2 q.2,
)

-- of what is held a part is written
pub begun_more : (w₀ w₁ w₂ : Option (List ℕ)) (text held more : List ℕ) → IsPassed w₀ w₁ text held → IsBegun w₁ w₂ (held ++ more) → IsBegun w₀ w₂ (text ++ more)
begun_more w₀ w₁ w₂ text held more p q = (
  p.0 ++ q.0,
  q.1,
  ap (λ (t : List ℕ). t ++ more) p.1 ∙ append_assoc p.0 held more ∙ ap (λ (t : List ℕ). p.0 ++ t) q.2 ∙ sym (append_assoc p.0 q.0 q.1),
  Appends-trans w₀ w₁ w₂ p.0 q.0 p.2 q.3,
)

-- ---- rows of the journal

-- the rows that are left come after them
rows_left : (plant : PlainPlant) (history : List Event) (i : ℕ)
    → text_of (map (named_line plant.epoch) (take i (journal_of plant history))) ++ text_of (map (named_line plant.epoch) (drop i (journal_of plant history))) ≡ text_of (journal_lines plant history)
rows_left plant history i =
    let f = named_line plant.epoch in
    let rows = journal_of plant history in
    sym (flat_map-append (λ (line : List ℕ). line) (map f (take i rows)) (map f (drop i rows)))
    ∙ ap text_of (sym (map-append f (take i rows) (drop i rows)))
    ∙ ap (λ l. text_of (map f l)) (take-append-drop i rows)

-- the first rows are begun, so all are
pub all_begun : (plant : PlainPlant) (history : List Event) (i : ℕ) (old : List ℕ) (w₀ w₁ : Option (List ℕ))
    → IsBegun w₀ w₁ (old ++ text_of (map (named_line plant.epoch) (take i (journal_of plant history)))) → IsBegun w₀ w₁ (old ++ text_of (journal_lines plant history))
all_begun plant history i old w₀ w₁ p =
    let front = text_of (map (named_line plant.epoch) (take i (journal_of plant history))) in
    let rest = text_of (map (named_line plant.epoch) (drop i (journal_of plant history))) in
    let same : (old ++ front) ++ rest ≡ old ++ text_of (journal_lines plant history) = append_assoc old front rest ∙ ap (λ (t : List ℕ). old ++ t) (rows_left plant history i) in
    (p.0, p.1 ++ rest, sym same ∙ ap (λ (t : List ℕ). t ++ rest) p.2 ∙ append_assoc p.0 p.1 rest, p.3)

-- what is passed is begun
pub just_begun : (w₀ w₁ : Option (List ℕ)) (text held : List ℕ) → IsPassed w₀ w₁ text held → IsBegun w₀ w₁ text
just_begun w₀ w₁ text held p = (p.0, held, p.1, p.2)

-- one row more
row_next : (plant : PlainPlant) (history : List Event) (i : ℕ) (old t₁ t₂ : List ℕ) (r : HasRow plant history (i + 1) t₁ t₂)
    → (old ++ text_of (map (named_line plant.epoch) (take i (journal_of plant history)))) ++ named_line plant.epoch r.row ≡ old ++ text_of (map (named_line plant.epoch) (take (suc i) (journal_of plant history)))
row_next plant history i old t₁ t₂ r =
    let front = text_of (map (named_line plant.epoch) (take i (journal_of plant history))) in
    rows_more plant history i old (old ++ front) ((old ++ front) ++ named_line plant.epoch r.row) refl (record { row = r.row; row_is = r.row_is; text_is = refl })

pub row_passed : (plant : PlainPlant) (history : List Event) (i : ℕ) (old t₁ t₂ left : List ℕ) (w₀ w₁ w₂ : Option (List ℕ))
    → IsPassed w₀ w₁ (old ++ text_of (map (named_line plant.epoch) (take i (journal_of plant history)))) t₁ → HasRow plant history (i + 1) t₁ t₂ → IsPassed w₁ w₂ t₂ left
    → IsPassed w₀ w₂ (old ++ text_of (map (named_line plant.epoch) (take (i + 1) (journal_of plant history)))) left
row_passed plant history i old t₁ t₂ left w₀ w₁ w₂ p r q =
    let front = text_of (map (named_line plant.epoch) (take i (journal_of plant history))) in
    let next : suc i ≡ i + 1 = omega arith in
    subst (λ (n : ℕ). IsPassed w₀ w₂ (old ++ text_of (map (named_line plant.epoch) (take n (journal_of plant history)))) left) next
    (subst (λ (t : List ℕ). IsPassed w₀ w₂ t left) (row_next plant history i old t₁ t₂ r)
    (passed_more w₀ w₁ w₂ (old ++ front) t₁ (named_line plant.epoch r.row) left p (subst (λ (t : List ℕ). IsPassed w₁ w₂ t left) r.text_is q)))

pub row_begun : (plant : PlainPlant) (history : List Event) (i : ℕ) (old t₁ t₂ : List ℕ) (w₀ w₁ w₂ : Option (List ℕ))
    → IsPassed w₀ w₁ (old ++ text_of (map (named_line plant.epoch) (take i (journal_of plant history)))) t₁ → HasRow plant history (i + 1) t₁ t₂ → IsBegun w₁ w₂ t₂
    → IsBegun w₀ w₂ (old ++ text_of (journal_lines plant history))
row_begun plant history i old t₁ t₂ w₀ w₁ w₂ p r q =
    let front = text_of (map (named_line plant.epoch) (take i (journal_of plant history))) in
    all_begun plant history (suc i) old w₀ w₂
    (subst (IsBegun w₀ w₂) (row_next plant history i old t₁ t₂ r)
    (begun_more w₀ w₁ w₂ (old ++ front) t₁ (named_line plant.epoch r.row) p (subst (IsBegun w₁ w₂) r.text_is q)))

-- after lines that are passed their end is written, or a part of it
module _ (w₀ w₁ w₂ : Option (List ℕ)) (lines : List (List ℕ)) (held : List ℕ) (n : ℕ) (count : n ≡ length lines) (p : IsPassed w₀ w₁ (text_of lines) held) where
  pub ended_written : Appends w₁ w₂ (held ++ end_line n) → Appends w₀ w₂ (with_end lines)
  ended_written a =
      let last = end_line (length lines) in
      subst (Appends w₀ w₂) (sym (append_assoc p.0 held last) ∙ ap (λ (t : List ℕ). t ++ last) (sym p.1))
      (Appends-trans w₀ w₁ w₂ p.0 (held ++ last) p.2 (subst (λ (k : ℕ). Appends w₁ w₂ (held ++ end_line k)) count a))

  pub ended_begun : IsBegun w₁ w₂ (held ++ end_line n) → IsBegun w₀ w₂ (with_end lines)
  ended_begun b = begun_more w₀ w₁ w₂ (text_of lines) held (end_line (length lines)) p (subst (λ (k : ℕ). IsBegun w₁ w₂ (held ++ end_line k)) count b)

-- what is begun is begun of a longer text too
pub begun_longer : (w₀ w₁ : Option (List ℕ)) (text rest : List ℕ) → IsBegun w₀ w₁ text → IsBegun w₀ w₁ (text ++ rest)
begun_longer w₀ w₁ text rest p = (p.0, p.1 ++ rest, ap (λ (t : List ℕ). t ++ rest) p.2 ∙ append_assoc p.0 p.1 rest, p.3)

-- ---- a half of the list

-- the lines of more numbers come after those of the first
below_rest : (f : ℕ → List (List ℕ)) (i d : ℕ) → (rest : List (List ℕ)) × (lines_below f (i + d) ≡ lines_below f i ++ rest)
below_rest f i zero = let same : i + zero ≡ i = omega arith in ([], ap (lines_below f) same ∙ sym (append-nil (lines_below f i)))
below_rest f i (suc d) =
    let p = below_rest f i d in
    let next : i + suc d ≡ suc (i + d) = omega arith in
    (p.0 ++ f (i + d), ap (lines_below f) next ∙ ap (λ (ls : List (List ℕ)). ls ++ f (i + d)) p.1 ∙ append_assoc (lines_below f i) p.0 (f (i + d)))

-- a part of the first lines is begun, so a part of all
below_begun : (f : ℕ → List (List ℕ)) (i d : ℕ) (old : List ℕ) (w₀ w₁ : Option (List ℕ)) → IsBegun w₀ w₁ (old ++ text_of (lines_below f i)) → IsBegun w₀ w₁ (old ++ text_of (lines_below f (i + d)))
below_begun f i d old w₀ w₁ b =
    let p = below_rest f i d in
    let front = text_of (lines_below f i) in
    let same : (old ++ front) ++ text_of p.0 ≡ old ++ text_of (lines_below f (i + d)) =
    append_assoc old front (text_of p.0) ∙ ap (λ (t : List ℕ). old ++ t) (sym (flat_map-append (λ (line : List ℕ). line) (lines_below f i) p.0) ∙ ap text_of (sym p.1)) in
    subst (IsBegun w₀ w₁) same (begun_longer w₀ w₁ (old ++ front) (text_of p.0) b)

pub half_begun : (f : ℕ → List (List ℕ)) (i total : ℕ) (old : List ℕ) (w₀ w₁ : Option (List ℕ)) → i ≤ total → IsBegun w₀ w₁ (old ++ text_of (lines_below f i)) → IsBegun w₀ w₁ (old ++ text_of (lines_below f total))
half_begun f i total old w₀ w₁ h b =
    let there : i + (total - i) ≡ total = omega arith in
    subst (λ (n : ℕ). IsBegun w₀ w₁ (old ++ text_of (lines_below f n))) there (below_begun f i (total - i) old w₀ w₁ b)

-- the text of one number more
below_next : (f : ℕ → List (List ℕ)) (i : ℕ) (old : List ℕ) → (old ++ text_of (lines_below f i)) ++ text_of (f i) ≡ old ++ text_of (lines_below f (suc i))
below_next f i old = append_assoc old (text_of (lines_below f i)) (text_of (f i)) ∙ ap (λ (t : List ℕ). old ++ t) (sym (flat_map-append (λ (line : List ℕ). line) (lines_below f i) (f i)))

module _ (f : ℕ → List (List ℕ)) (i : ℕ) (old t₁ t₂ : List ℕ) (n m : ℕ) (w₀ w₁ w₂ : Option (List ℕ)) (p : HasPassed w₀ w₁ old t₁ n (lines_below f i)) (l : HasListed t₁ t₂ m (f i)) where
  -- the lines of one number more are passed
  pub half_passed : (left : List ℕ) → IsPassed w₁ w₂ t₂ left → HasPassed w₀ w₂ old left (n + m) (lines_below f (i + 1))
  half_passed left q =
      let next : suc i ≡ i + 1 = omega arith in
      subst (λ (k : ℕ). HasPassed w₀ w₂ old left (n + m) (lines_below f k)) next
      (record {
        passed = subst (λ (t : List ℕ). IsPassed w₀ w₂ t left) (below_next f i old) (passed_more w₀ w₁ w₂ (old ++ text_of (lines_below f i)) t₁ (text_of (f i)) left p.passed (subst (λ (t : List ℕ). IsPassed w₁ w₂ t left) l.text_is q));
        count_is = ap (λ (k : ℕ). k + m) p.count_is ∙ ap (λ (k : ℕ). length (lines_below f i) + k) l.count_is ∙ sym (length-append (lines_below f i) (f i));
      })

  -- of the lines of one number more a part is written
  pub half_stopped : (total : ℕ) → i < total → IsBegun w₁ w₂ t₂ → IsBegun w₀ w₂ (old ++ text_of (lines_below f total))
  half_stopped total h b =
      half_begun f (suc i) total old w₀ w₂ (omega arith)
      (subst (IsBegun w₀ w₂) (below_next f i old) (begun_more w₀ w₁ w₂ (old ++ text_of (lines_below f i)) t₁ (text_of (f i)) p.passed (subst (IsBegun w₁ w₂) l.text_is b)))

-- no lines yet
pub half_none : (f : ℕ → List (List ℕ)) (old : List ℕ) (w : Option (List ℕ)) → HasPassed w w old old 0 (lines_below f 0)
half_none f old w = record { passed = subst (λ (t : List ℕ). IsPassed w w t old) (sym (append-nil old)) (passed_none w old); count_is = refl }

-- ---- the whole list

module _ (w₀ w₁ : Option (List ℕ)) (held : List ℕ) (s : ℕ) (states counts : List (List ℕ)) (p : HasPassed w₀ w₁ [] held s states) where
  both_are : text_of states ++ text_of counts ≡ text_of (states ++ counts)
  both_are = sym (flat_map-append (λ (line : List ℕ). line) states counts)

  -- after the states a part of the counts is written
  pub list_cut : (w₂ : Option (List ℕ)) → IsBegun w₁ w₂ (held ++ text_of counts) → IsBegun w₀ w₂ (with_end (states ++ counts))
  list_cut w₂ b =
      begun_longer w₀ w₂ (text_of (states ++ counts)) (end_line (length (states ++ counts)))
      (subst (IsBegun w₀ w₂) both_are (begun_more w₀ w₁ w₂ (text_of states) held (text_of counts) p.passed b))

  -- after both the end is due
  module _ (w₂ w₃ : Option (List ℕ)) (left : List ℕ) (c : ℕ) (q : HasPassed w₁ w₂ held left c counts) where
    both_passed : IsPassed w₀ w₂ (text_of (states ++ counts)) left
    both_passed = subst (λ (t : List ℕ). IsPassed w₀ w₂ t left) both_are (passed_more w₀ w₁ w₂ (text_of states) held (text_of counts) left p.passed q.passed)

    count_both : s + c ≡ length (states ++ counts)
    count_both = ap (λ (k : ℕ). k + c) p.count_is ∙ ap (λ (k : ℕ). length states + k) q.count_is ∙ sym (length-append states counts)

    pub list_written : Appends w₂ w₃ (left ++ end_line (s + c)) → Appends w₀ w₃ (with_end (states ++ counts))
    list_written a = ended_written w₀ w₂ w₃ (states ++ counts) left (s + c) count_both both_passed a

    pub list_begun : IsBegun w₂ w₃ (left ++ end_line (s + c)) → IsBegun w₀ w₃ (with_end (states ++ counts))
    list_begun b = ended_begun w₀ w₂ w₃ (states ++ counts) left (s + c) count_both both_passed b

-- of the states a part is written
pub list_first : (w₀ w₁ : Option (List ℕ)) (states counts : List (List ℕ)) → IsBegun w₀ w₁ (text_of states) → IsBegun w₀ w₁ (with_end (states ++ counts))
list_first w₀ w₁ states counts b =
    begun_longer w₀ w₁ (text_of (states ++ counts)) (end_line (length (states ++ counts)))
    (subst (IsBegun w₀ w₁) (sym (flat_map-append (λ (line : List ℕ). line) states counts)) (begun_longer w₀ w₁ (text_of states) (text_of counts) b))
