-- The name with which a line begins, and the pair that the line's first word is then.
use Rattle.std.proofs.Common.{◌≡◌, ℕ, Bool, true, false, Option, subst, List, [], ◌∷◌, ◌++◌, ap, refl, sym, ◌∙◌, arith, length, length-drop, take, drop, get_or, ◌<◌, ◌≤◌, ◌+◌, ◌&&◌, eqb, Some, None}
use Rattle.std.specs.Prelude.{if◌then◌else◌}
use Rattle.std.specs.List.{list_all}
use Rattle.std.specs.Option.{option_map, option_and_then}
use Rattle.std.proofs.lemmas.List.{drop_more, take-append-drop, take_all}
use Rattle.std.proofs.lemmas.List.Folds.{list_all_more}
use Rattle.std.proofs.lemmas.Bool.Decides.{nat_tests}
use Rattle.plant_types.specs.Words.{is_letter, is_name_byte, is_name}
use Rattle.plant_types.specs.Pairs.{PlainPair}
use Rattle.plant_types.specs.declared.values.Given.{Given}
use Rattle.serve_lines.specs.Given.{cut_at, given_of, pair_of}
use Rattle.serve_lines.specs.Words.{is_gap}
use Rattle.serve_lines.proofs.NameLaws.{and_left, and_rest}
use Rattle.serve_lines.specs.Cuts.{cut_name, split_word}

-- only bytes of names
abbrev pub Names : List ℕ → Type 0
Names bs = list_all is_name_byte bs ≡ true

first_name : (b : ℕ) (bs : List ℕ) → Names (b ∷ bs) → is_name_byte b ≡ true
first_name b bs h = and_left (is_name_byte b) (list_all is_name_byte bs) h

rest_names : (b : ℕ) (bs : List ℕ) → Names (b ∷ bs) → Names bs
rest_names b bs h = and_rest (is_name_byte b) (list_all is_name_byte bs) h

no_equals : (b : ℕ) → is_name_byte b ≡ true → eqb b 61 ≡ false
no_equals b h = grind (arith, nat_tests)

no_gap : (b : ℕ) → is_name_byte b ≡ true → is_gap b ≡ false
no_gap b h = grind (arith, nat_tests)

is_equals : (b : ℕ) → eqb b 61 ≡ true → b ≡ 61
is_equals b h = grind (arith, nat_tests)

pub names-more : (line : List ℕ) (i : ℕ) → i < length line → Names (take i line) → is_name_byte (get_or line i 0) ≡ true → Names (take (i + 1) line)
names-more line i h s e = rw (list_all_more is_name_byte line i 0 h, s) e

found : (front rest : List ℕ) → Names front → cut_name (front ++ 61 ∷ rest) ≡ Some (front, rest)
found [] rest h = refl
found (b ∷ front) rest h =
    let n = first_name b front h in
    rw (no_equals b n, n, found front rest (rest_names b front h)) refl

missed : (front : List ℕ) (b : ℕ) (rest : List ℕ) → Names front → eqb b 61 ≡ false → is_name_byte b ≡ false → cut_name (front ++ b ∷ rest) ≡ None
missed [] b rest h e k = rw (e, k) refl
missed (c ∷ front) b rest h e k =
    let n = first_name c front h in
    rw (no_equals c n, n, missed front b rest (rest_names c front h) e k) refl

ended : (front : List ℕ) → Names front → cut_name front ≡ None
ended [] h = refl
ended (b ∷ front) h =
    let n = first_name b front h in
    rw (no_equals b n, n, ended front (rest_names b front h)) refl

-- a line by its parts
parts : (line : List ℕ) (n b : ℕ) (after : List ℕ) → drop n line ≡ b ∷ after → line ≡ take n line ++ b ∷ after
parts line n b after e = sym (take-append-drop n line) ∙ ap (λ (r : List ℕ). take n line ++ r) e

-- after bytes of names a line goes on with =
pub cut-found : (line : List ℕ) (n b : ℕ) (after : List ℕ) → Names (take n line) → drop n line ≡ b ∷ after → b ≡ 61 → cut_name line ≡ Some (take n line, after)
cut-found line n b after h e is =
    ap cut_name (parts line n b after e ∙ ap (λ (x : ℕ). take n line ++ (x ∷ after)) is) ∙ found (take n line) after h

other : (b : ℕ) → (b ≡ 61 → ⊥) → eqb b 61 ≡ false
other b n = grind (arith, nat_tests)

-- it goes on with another byte, which no name has
pub cut-missed : (line : List ℕ) (n b : ℕ) (after : List ℕ) → Names (take n line) → drop n line ≡ b ∷ after → (b ≡ 61 → ⊥) → (n < length line → is_name_byte (get_or line n 0) ≡ false) → cut_name line ≡ None
cut-missed line n b after h e other_byte stops =
    let within : n < length line = omega (arith, length-drop n line, ap length e) in
    let at : get_or line n 0 ≡ b = ap (λ (l : List ℕ). get_or l 0 0) (sym (drop_more line n 0 within) ∙ e) in
    ap cut_name (parts line n b after e) ∙ missed (take n line) b after h (other b other_byte) (rw at at (stops within))

-- the line has only bytes of names
pub cut-ended : (line : List ℕ) (n : ℕ) → length (drop n line) ≡ 0 → Names (take n line) → cut_name line ≡ None
cut-ended line n e h =
    let le : length line ≤ n = omega (arith, length-drop n line, e) in
    ap cut_name (sym (take_all n line le)) ∙ ended (take n line) h

-- what the cut of a line says of its first word
abbrev AtCut : List ℕ → Option (List ℕ × List ℕ) → Type 0
AtCut line None = (p : List ℕ × List ℕ) → cut_at 61 (split_word line).0 ≡ Some p → list_all is_name_byte p.0 ≡ false
AtCut line (Some p) = Names p.0 × (cut_at 61 (split_word line).0 ≡ Some (p.0, (split_word p.1).0)) × ((split_word line).1 ≡ (split_word p.1).1)

-- a byte before a cut
abbrev onto : ℕ → List ℕ × List ℕ → List ℕ × List ℕ
onto b p = (b ∷ p.0, p.1)

-- the first part of a cut that a byte was put before
onto_first : (b : ℕ) (x : Option (List ℕ × List ℕ)) (p : List ℕ × List ℕ) → option_map (onto b) x ≡ Some p
    → (q : List ℕ × List ℕ) × (x ≡ Some q) × (p.0 ≡ b ∷ q.0)
onto_first b None p e = absurd cc
onto_first b (Some q) p e = (q, refl, ap first (sym e))
  where
    first : Option (List ℕ × List ℕ) → List ℕ
    first None = []
    first (Some r) = r.0

more : (b : ℕ) (bs : List ℕ) (o : Option (List ℕ × List ℕ)) → eqb b 61 ≡ false → is_gap b ≡ false → is_name_byte b ≡ true → AtCut bs o → AtCut (b ∷ bs) (option_map (onto b) o)
more b bs None e g n h = λ p is.
    let k = onto_first b (cut_at 61 (split_word bs).0) p (rw (g, e) at is) in
    rw (k.2, n) (h k.0 k.1)
more b bs (Some p) e g n h = (rw n h.0, rw (g, e, h.1) refl, rw g h.2)

bad : (b : ℕ) (bs : List ℕ) (g : Bool) → is_gap b ≡ g → eqb b 61 ≡ false → is_name_byte b ≡ false → AtCut (b ∷ bs) None
bad b bs true g e n = λ p is. absurd (let k : ◌≡◌ {A = Option (List ℕ × List ℕ)} None (Some p) = rw g at is in cc)
bad b bs false g e n = λ p is.
    let k = onto_first b (cut_at 61 (split_word bs).0) p (rw (g, e) at is) in
    rw (k.2, n) refl

step : (b : ℕ) (bs : List ℕ) (t n : Bool) → eqb b 61 ≡ t → is_name_byte b ≡ n → AtCut bs (cut_name bs) → AtCut (b ∷ bs) (cut_name (b ∷ bs))
step b bs true n e h so_far = rw (is_equals b e) (refl, refl, refl)
step b bs false true e h so_far = rw (e, h) (more b bs (cut_name bs) e (no_gap b h) h so_far)
step b bs false false e h so_far = rw (e, h) (bad b bs (is_gap b) refl e h)

at_cut : (line : List ℕ) → AtCut line (cut_name line)
at_cut [] = λ p is. absurd cc
at_cut (b ∷ bs) = step b bs (eqb b 61) (is_name_byte b) refl refl (at_cut bs)

-- a name has only bytes of names
no_name : (bs : List ℕ) → list_all is_name_byte bs ≡ false → is_name bs ≡ false
no_name [] h = absurd cc
no_name (b ∷ bs) h = cases (is_letter b) refl
  where
    cases : (l : Bool) → is_letter b ≡ l → (is_letter b && list_all is_name_byte bs) ≡ false
    cases true e = rw e (rw e at h)
    cases false e = rw e refl

-- a name and a value as a pair, if they are such
abbrev pair_with : List ℕ → Option Given → Option PlainPair
pair_with name value = if is_name name then option_map (λ g. record { name = name; given = g }) value else None

-- the pair of a word that is cut
abbrev pair_by : Option (List ℕ × List ℕ) → Option PlainPair
pair_by cut = option_and_then (λ p. pair_with p.0 (given_of p.1)) cut

pub pair-none : (line : List ℕ) → cut_name line ≡ None → pair_of (split_word line).0 ≡ None
unfolding pair_of
pair-none line e = cases (cut_at 61 (split_word line).0) refl
  where
    none : AtCut line None
    none = subst (AtCut line) e (at_cut line)

    cases : (x : Option (List ℕ × List ℕ)) → cut_at 61 (split_word line).0 ≡ x → pair_by (cut_at 61 (split_word line).0) ≡ None
    cases None is = rw is refl
    cases (Some p) is = rw (is, no_name p.0 (none p is)) refl

-- a line that is cut after bytes of names
pub record IsCut (line name rest : List ℕ) : Type 0 where
  pub names : Names name
  pub pair : pair_of (split_word line).0 ≡ pair_with name (given_of (split_word rest).0)
  pub after : (split_word line).1 ≡ (split_word rest).1

pub is_cut : (line name rest : List ℕ) → cut_name line ≡ Some (name, rest) → IsCut line name rest
unfolding pair_of
is_cut line name rest e =
    let h : AtCut line (Some (name, rest)) = subst (AtCut line) e (at_cut line) in
    record { names = h.0; pair = rw h.1 refl; after = h.2 }

-- bytes of names that are no name
pub no_pair : (line name rest : List ℕ) → cut_name line ≡ Some (name, rest) → is_name name ≡ false → pair_of (split_word line).0 ≡ None
no_pair line name rest e n = (is_cut line name rest e).pair ∙ rw n refl

-- a name, and what is no value
pub no_value : (line name rest value after : List ℕ) → cut_name line ≡ Some (name, rest) → is_name name ≡ true → split_word rest ≡ (value, after) → given_of value ≡ None → pair_of (split_word line).0 ≡ None
no_value line name rest value after e n w g = (is_cut line name rest e).pair ∙ rw (w, n, g) refl

-- a name and a value
pub a_pair : (line name rest value after : List ℕ) (given : Given) → cut_name line ≡ Some (name, rest) → is_name name ≡ true → split_word rest ≡ (value, after) → given_of value ≡ Some given
    → pair_of (split_word line).0 ≡ Some (record { name = name; given = given })
a_pair line name rest value after given e n w g = (is_cut line name rest e).pair ∙ rw (w, n, g) refl

-- what is after them
pub after_pair : (line name rest value after : List ℕ) → cut_name line ≡ Some (name, rest) → split_word rest ≡ (value, after) → (split_word line).1 ≡ after
after_pair line name rest value after e w = (is_cut line name rest e).after ∙ ap (λ (p : List ℕ × List ℕ). p.1) w
