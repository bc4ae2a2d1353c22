-- Paths, and lists of paths in which none stands twice.
use Rattle.std.proofs.Common.{◌≡◌, ◌∙◌, ap, sym, subst, refl, arith, ℕ, zero, suc, ◌+◌, ◌<◌, true, false, List, [], ◌∷◌, ◌++◌, map, length, get_or, inl, inr}
use Rattle.std.specs.Prelude.{if◌then◌else◌, reverse}
use Rattle.std.specs.Str.{bytes_eq}
use Rattle.std.specs.Cmp.Lexicographic.{bytes_decides}
use Rattle.std.proofs.Math.ListN.{set}
use Rattle.std.proofs.lemmas.List.{reverse-append, length-reverse, length-append, get_or-append-add, append_assoc}
use Rattle.std.proofs.lemmas.Bool.{cases_Bool, and_parts, both_ways}
use Rattle.plant_types.specs.Values.{Path}
use Rattle.logic_source.specs.Worlds.{same_path}
use Rattle.logic_source.specs.Layout.{Absent, NoneTwice}

pub path_is : (p q : Path) → same_path p q ≡ true → p ≡ q
path_is [] [] e = refl
path_is [] (b ∷ q) e = absurd (cc)
path_is (a ∷ p) [] e = absurd (cc)
path_is (a ∷ p) (b ∷ q) e =
    let parts = and_parts (same_path p q) (bytes_eq a b) e in
    λ k. (bytes_decides a b).0 parts.1 k ∷ path_is p q parts.0 k

pub path_same : (p : Path) → same_path p p ≡ true
path_same [] = refl
path_same (a ∷ p) = rw (path_same p) ((bytes_decides a a).1 refl)

-- none of one list's is one of the other's
abbrev pub Disjoint : List Path → List Path → Type 0
Disjoint [] ys = Unit {0}
Disjoint (x ∷ xs) ys = Absent x ys × Disjoint xs ys

pub absent_append : (p : Path) (xs ys : List Path) → Absent p xs → Absent p ys → Absent p (xs ++ ys)
absent_append p [] ys a b = b
absent_append p (x ∷ xs) ys a b = (a.0, absent_append p xs ys a.1 b)

pub once_append : (xs ys : List Path) → NoneTwice xs → NoneTwice ys → Disjoint xs ys → NoneTwice (xs ++ ys)
once_append [] ys a b d = b
once_append (x ∷ xs) ys a b d = (absent_append x xs ys a.0 d.0, once_append xs ys a.1 b d.1)

-- the name at a depth, counted from the outermost
abbrev pub label : ℕ → Path → List ℕ
label d q = get_or (reverse q) d []

-- a path is another one, or goes on below it
abbrev pub Under : Path → Path → Type 0
Under p q = (r : Path) × (q ≡ r ++ p)

abbrev pub AllUnder : Path → List Path → Type 0
AllUnder p [] = Unit {0}
AllUnder p (q ∷ qs) = Under p q × AllUnder p qs

pub self_under : (p : Path) → Under p p
self_under p = ([], refl)

pub label_under : (a : List ℕ) (p q : Path) → Under (a ∷ p) q → label (length p) q ≡ a
label_under a p q u =
    let r = u.0 in
    let turned : reverse (r ++ (a ∷ p)) ≡ reverse p ++ (a ∷ reverse r) =
    reverse-append r (a ∷ p) ∙ ap (λ l. l ++ reverse r) (reverse-append (a ∷ []) p) ∙ append_assoc (reverse p) (a ∷ []) (reverse r) in
    let here : get_or (reverse p ++ (a ∷ reverse r)) (length (reverse p) + 0) [] ≡ a = get_or-append-add (reverse p) (a ∷ reverse r) 0 [] in
    let at : length p ≡ length (reverse p) + 0 = (let e = length-reverse p in omega arith) in
    (λ k. get_or (reverse (u.1 k)) (at k) []) ∙ ap (λ l. get_or l (length (reverse p) + 0) []) turned ∙ here

-- of two different labels
pub apart_labels : (d : ℕ) (p q : Path) (a b : List ℕ) → label d p ≡ a → label d q ≡ b → bytes_eq a b ≡ false → same_path p q ≡ false
apart_labels d p q a b e f isnt =
    elim (cases_Bool (same_path p q)) [
      | inl yes' ↦ (
          let is : a ≡ b = sym e ∙ ap (label d) (path_is p q yes') ∙ f in
          absurd (both_ways (bytes_eq a b) isnt ((bytes_decides a b).1 is)))
      | inr isnt' ↦ isnt'
    ]

pub absent_under : (p q : Path) (a b : List ℕ) (qs : List Path) → Under (a ∷ p) q → AllUnder (b ∷ p) qs → bytes_eq a b ≡ false → Absent q qs
absent_under p q a b [] u all isnt = tt
absent_under p q a b (x ∷ xs) u all isnt =
    (apart_labels (length p) q x a b (label_under a p q u) (label_under b p x all.0) isnt, absent_under p q a b xs u all.1 isnt)

pub under_all : (p : Path) (xs ys : List Path) → AllUnder p xs → AllUnder p ys → AllUnder p (xs ++ ys)
under_all p [] ys a b = b
under_all p (x ∷ xs) ys a b = (a.0, under_all p xs ys a.1 b)

pub under_more : (a : List ℕ) (p q : Path) → Under (a ∷ p) q → Under p q
under_more a p q u = (u.0 ++ (a ∷ []), u.1 ∙ sym (append_assoc u.0 (a ∷ []) p))

pub all_more : (a : List ℕ) (p : Path) (qs : List Path) → AllUnder (a ∷ p) qs → AllUnder p qs
all_more a p [] all = tt
all_more a p (q ∷ qs) all = (under_more a p q all.0, all_more a p qs all.1)

-- a path goes on below another one
abbrev pub Inside : Path → Path → Type 0
Inside p q = (a : List ℕ) × (r : Path) × (q ≡ r ++ a ∷ p)

abbrev pub AllInside : Path → List Path → Type 0
AllInside p [] = Unit {0}
AllInside p (q ∷ qs) = Inside p q × AllInside p qs

pub inside_under : (p : Path) (qs : List Path) → AllInside p qs → AllUnder p qs
inside_under p [] all = tt
inside_under p (q ∷ qs) all = (under_more all.0.0 p q (all.0.1, all.0.2), inside_under p qs all.1)

pub under_inside : (a : List ℕ) (p : Path) (qs : List Path) → AllUnder (a ∷ p) qs → AllInside p qs
under_inside a p [] all = tt
under_inside a p (q ∷ qs) all = ((a, all.0.0, all.0.1), under_inside a p qs all.1)

pub inside_all : (p : Path) (xs ys : List Path) → AllInside p xs → AllInside p ys → AllInside p (xs ++ ys)
inside_all p [] ys a b = b
inside_all p (x ∷ xs) ys a b = (a.0, inside_all p xs ys a.1 b)

-- a name alone is no path that goes on below another name
alone : (x w : List ℕ) (q : Path) → Inside (w ∷ []) q → same_path (x ∷ []) q ≡ false
alone x w q i =
    elim (cases_Bool (same_path (x ∷ []) q)) [
      | inl yes' ↦
          let is : x ∷ [] ≡ i.1 ++ i.0 ∷ w ∷ [] = path_is (x ∷ []) q yes' ∙ i.2 in
          let one : 1 ≡ length (i.1 ++ i.0 ∷ w ∷ []) = ap length is in
          let more = length-append i.1 (i.0 ∷ w ∷ []) in
          absurd (omega (arith, one, more))
      | inr isnt' ↦ isnt'
    ]

pub absent_alone : (x w : List ℕ) (qs : List Path) → AllInside (w ∷ []) qs → Absent (x ∷ []) qs
absent_alone x w [] all = tt
absent_alone x w (q ∷ qs) all = (alone x w q all.0, absent_alone x w qs all.1)

present : (p : Path) (ps : List Path) (i : ℕ) (x : Path) → Absent p ps → i < length ps → get_or ps i x ≡ x → x ≡ p → ⊥
present p [] i x none within is same = omega arith
present p (q ∷ qs) zero x none within is same = both_ways (same_path p q) none.0 (subst (λ z. same_path p z ≡ true) (sym (is ∙ same)) (path_same p))
present p (q ∷ qs) (suc i) x none within is same = present p qs i x none.1 (omega arith) is same

-- a write at the place of a path
module _ {X : Type 0} where
  pub kept : (x : Path) (f g : Path → X) (ps : List Path) → Absent x ps → map (λ p. if same_path x p then g p else f p) ps ≡ map f ps
  kept x f g [] none = refl
  kept x f g (p ∷ ps) none = rw none.0 (ap (λ l. f p ∷ l) (kept x f g ps none.1))

  pub written : (x : Path) (f g : Path → X) (ps : List Path) (i : ℕ) → NoneTwice ps → i < length ps → get_or ps i x ≡ x → map (λ p. if same_path x p then g p else f p) ps ≡ set (map f ps) i (g x)
  written x f g [] i once within is = absurd (omega arith)
  written x f g (p ∷ ps) zero once within is =
      let yes' : same_path x p ≡ true = subst (λ z. same_path x z ≡ true) (sym is) (path_same x) in
      rw yes' (λ k. g (is k) ∷ kept x f g ps (subst (λ z. Absent z ps) is once.0) k)
  written x f g (p ∷ ps) (suc i) once within is =
      let below : i < length ps = omega arith in
      let other : same_path x p ≡ false =
      elim (cases_Bool (same_path x p)) [
        | inl yes' ↦ absurd (present p ps i x once.0 below is (path_is x p yes'))
        | inr isnt' ↦ isnt'
      ] in
      rw other (ap (λ l. f p ∷ l) (written x f g ps i once.1 below is))
