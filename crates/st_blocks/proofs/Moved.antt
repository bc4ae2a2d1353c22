-- Chains over names are chains over their numbers.
use Rattle.std.proofs.Common.{◌≡◌, ◌∙◌, ap, sym, refl, ℕ, zero, suc, ◌||◌, Bool, List, [], ◌∷◌, map, inl, inr}
use Rattle.std.specs.List.{list_any}
use Rattle.st_blocks.specs.Chains.{Among, Leads, Reaches, HoldsItself, has_chain}

pub among_mapped : {V W : Type 0} (f : V → W) (xs : List V) (v : V) → Among xs v → Among (map f xs) (f v)
among_mapped f [] v here = elim here [ ]
among_mapped f (x ∷ xs) v (inl is) = inl (ap f is)
among_mapped f (x ∷ xs) v (inr later) = inr (among_mapped f xs v later)

pub from_mapped : {V W : Type 0} (f : V → W) (xs : List V) (w : W) → Among (map f xs) w → (v : V) × Among xs v × (f v ≡ w)
from_mapped f [] w here = elim here [ ]
from_mapped f (x ∷ xs) w (inl is) = (x, inl refl, is)
from_mapped f (x ∷ xs) w (inr later) = let r = from_mapped f xs w later in (r.0, inr r.1, r.2)

any_mapped : {V W : Type 0} (p : W → Bool) (q : V → Bool) (f : V → W) (xs : List V) → ((v : V) → p (f v) ≡ q v) → list_any p (map f xs) ≡ list_any q xs
any_mapped p q f [] same = refl
any_mapped p q f (x ∷ xs) same = λ i. same x i || any_mapped p q f xs same i

reached_to : {V : Type 0} (next : V → List V) (v u w : V) → Reaches next v u → u ≡ w → Reaches next v w
reached_to next v u w r is = rw (sym is) r

module _ {V W : Type 0} (f : V → W) (next : V → List V) (next' : W → List W) (kept : (v : V) → next' (f v) ≡ map f (next v)) where
  pub chain_moved : (k : ℕ) (v : V) → has_chain next' k (f v) ≡ has_chain next k v
  chain_moved zero v = refl
  chain_moved (suc k) v = ap (list_any (has_chain next' k)) (kept v) ∙ any_mapped (has_chain next' k) (has_chain next k) f (next v) (chain_moved k)

  step : (v u : V) → Among (next v) u → Among (next' (f v)) (f u)
  step v u here = rw (kept v) (among_mapped f (next v) u here)

  pub leads_moved : (v : V) (path : List V) (u : V) → Leads next v path u → Leads next' (f v) (map f path) (f u)
  leads_moved v [] u l = step v u l
  leads_moved v (c ∷ path) u l = (step v c l.0, leads_moved c path u l.1)

  back : (v : V) (w : W) → Among (next' (f v)) w → (u : V) × Among (next v) u × (f u ≡ w)
  back v w here = from_mapped f (next v) w (rw (sym (kept v)) here)

  pub leads_back : (v : V) (path : List W) (w : W) → Leads next' (f v) path w → (u : V) × Reaches next v u × (f u ≡ w)
  leads_back v [] w l = let b = back v w l in (b.0, ([], b.1), b.2)
  leads_back v (c ∷ path) w l =
      let b = back v c l.0 in
      let rest = leads_back b.0 path w (rw b.2 l.1) in
      (rest.0, (b.0 ∷ rest.1.0, (b.1, rest.1.1)), rest.2)

  pub holds_moved : (v : V) → HoldsItself next v → HoldsItself next' (f v)
  holds_moved v h = (map f h.0, leads_moved v h.0 v h.1)

  -- where nothing else has that number
  pub holds_back : (v : V) → ((u : V) → f u ≡ f v → u ≡ v) → HoldsItself next' (f v) → HoldsItself next v
  holds_back v alone h =
      let b = leads_back v h.0 (f v) h.1 in
      reached_to next v b.0 v b.1 (alone b.0 b.2)
