-- Extents of globals, one more at a time.
use Rattle.std.proofs.Common.{◌≡◌, ◌⊎◌, ℕ, ◌+◌, ◌<◌, ◌≤◌, List, [], ◌∷◌, ◌++◌, arith, sym, subst, inl, inr}
use Rattle.std.proofs.lemmas.List.Elements.{Contains-append_left, Contains-push, Contains-push_cases}
use Rattle.level_plan.specs.declared.access.Extent.{Extent}
use Rattle.level_plan.specs.Accesses.{Covers, HaveGlobal}

-- the numbers from one up to another
abbrev pub Between : ℕ → ℕ → ℕ → Type 0
Between first end global = (first ≤ global) × (global < end)

pub have_none : (global : ℕ) → HaveGlobal [] global → ⊥
have_none global has = omega (arith, has.2)

pub have_left : (extents more : List Extent) (global : ℕ) → HaveGlobal extents global → HaveGlobal (extents ++ more) global
have_left extents more global (k, extent, within, is, covers) = let has = Contains-append_left extents more extent (k, within, is) in (has.0, extent, has.1, has.2, covers)

pub have_last : (extents : List Extent) (extent : Extent) (global : ℕ) → Covers extent global → HaveGlobal (extents ++ extent ∷ []) global
have_last extents extent global covers = let has = Contains-push extents extent in (has.0, extent, has.1, has.2, covers)

pub have_cases : (extents : List Extent) (last : Extent) (global : ℕ) → HaveGlobal (extents ++ last ∷ []) global → HaveGlobal extents global ⊎ Covers last global
have_cases extents last global (k, extent, within, is, covers) =
    elim (Contains-push_cases extents last extent (k, within, is)) [
      | inl has ↦ inl (has.0, extent, has.1, has.2, covers)
      | inr same ↦ inr (subst (λ e. Covers e global) (sym same) covers)
    ]
