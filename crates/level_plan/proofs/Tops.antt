-- The greatest level at some globals, part by part.
use Rattle.std.proofs.Common.{◌≡◌, ◌≢◌, ◌⊎◌, ℕ, ◌+◌, ◌<◌, ◌≤◌, max, List, length, get_or, set, slice_index, arith, refl, sym, ◌∙◌, ap, subst, inl, inr, get_or-set_same, get_or-set_other}
use Rattle.std.proofs.lemmas.Bool.{cases_lt, cases_eq}
use Rattle.level_plan.specs.Accesses.{PlainAccess, Writes, Touches, Reads}
use Rattle.level_plan.specs.Tables.{IsTop, IsTopBefore, IsRaised}

-- of two numbers one is the greater
pub max_cases : (a b : ℕ) → (max a b ≡ a) ⊎ (max a b ≡ b)
max_cases a b = elim (cases_lt a b) [ inl less ↦ inr (omega (arith, less)) | inr more ↦ inl (omega (arith, more)) ]

-- some globals are those of two parts together
pub record AreBoth (One Other Both : ℕ → Type 0) : Type 0 where
  pub one : (global : ℕ) → One global → Both global
  pub other : (global : ℕ) → Other global → Both global
  pub cases : (global : ℕ) → Both global → One global ⊎ Other global

pub top_both : (One Other Both : ℕ → Type 0) (levels : List ℕ) (a b : ℕ) → AreBoth One Other Both → IsTop One levels a → IsTop Other levels b → IsTop Both levels (max a b)
top_both One Other Both levels a b both first second = record {
  bounds = λ g has. elim (both.cases g has) [ inl one ↦ omega (arith, first.bounds g one) | inr other ↦ omega (arith, second.bounds g other) ];
  reached = elim (max_cases a b) [
    | inl is ↦ elim first.reached [ inl none ↦ inl (is ∙ none) | inr (g, has, at) ↦ inr (g, both.one g has, at ∙ sym is) ]
    | inr is ↦ elim second.reached [ inl none ↦ inl (is ∙ none) | inr (g, has, at) ↦ inr (g, both.other g has, at ∙ sym is) ]
  ];
}

-- the greatest at what a program reads and writes among the writers, and at what it writes among the readers
pub top_joined : (writers readers : List ℕ) (access : PlainAccess) (a b c : ℕ) → IsTop (Reads access) writers a → IsTop (Writes access) writers b → IsTop (Writes access) readers c
    → IsTopBefore writers readers access (max (max a b) c)
top_joined writers readers access a b c reads writes read =
    let touched = top_both (Reads access) (Writes access) (Touches access) writers a b (record { one = λ g r. inl r; other = λ g w. inr w; cases = λ g touches. touches }) reads writes in
    record {
      writers_bound = λ g touches. omega (arith, touched.bounds g touches);
      readers_bound = λ g has. omega (arith, read.bounds g has);
      reached = elim (max_cases (max a b) c) [
        | inl is ↦ elim touched.reached [ inl none ↦ inl (is ∙ none) | inr (g, has, at) ↦ inr (g, inl (has, at ∙ sym is)) ]
        | inr is ↦ elim read.reached [ inl none ↦ inl (is ∙ none) | inr (g, has, at) ↦ inr (g, inr (has, at ∙ sym is)) ]
      ];
    }
