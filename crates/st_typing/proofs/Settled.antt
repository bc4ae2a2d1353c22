-- Two answers, each found at an early stage or at a later one, are one.
use Rattle.std.proofs.Common.{◌⊎◌, inl, inr}

module _ {F : Type 0} (Same : F → F → Type 0) (Early Late : F → Type 0) where
  -- an answer of the stage has no other beside it, and none that comes later
  pub settled : ((f g : F) → Early f → Early g → Same f g) → ((f g : F) → Early f → Late g → ⊥) → ((f g : F) → Late f → Late g → Same f g) → (f g : F) → Early f ⊎ Late f → Early g ⊎ Late g → Same f g
  settled same apart rest f g (inl a) (inl b) = same f g a b
  settled same apart rest f g (inl a) (inr b) = absurd (apart f g a b)
  settled same apart rest f g (inr a) (inl b) = absurd (apart g f b a)
  settled same apart rest f g (inr a) (inr b) = rest f g a b
