-- The frame whose outline was read.
use Rattle.std.proofs.Common.{◌≡◌, ◌∙◌, ap, sym, subst, refl, arith, ℕ, zero, suc, ◌<◌, List, [], ◌∷◌, length, map, get_or}
use Rattle.std.proofs.lemmas.List.{length-map}
use Rattle.logic_walk.specs.declared.frame.Seat.{Seat}
use Rattle.logic_walk.specs.declared.frame.Frame.{Frame}
use Rattle.logic_paths.specs.declared.outlines.Outline.{Outline}
use Rattle.logic_paths.specs.Outlines.{seats_of, seats_in, AreOutlines}

-- the frame of a number has the instances that were read
pub record IsRead (frames : List Frame) (k : ℕ) (seats : List Seat) : Type 0 where
  pub frame : Frame
  pub at : frame ≡ get_or frames k frame
  pub same : seats ≡ frame.seats.items

pub as_many : (frames : List Frame) (outlines : List Outline) → AreOutlines frames outlines → length outlines ≡ length frames
as_many frames outlines are = sym (length-map outlines seats_in) ∙ ap (λ (l : List (List Seat)). length l) are ∙ length-map frames seats_of

pub read_in : (frames : List Frame) (outlines : List Outline) → AreOutlines frames outlines → (k : ℕ) → k < length frames → (outline : Outline) → outline ≡ get_or outlines k outline → IsRead frames k outline.seats.items
read_in [] outlines are k h outline is = absurd (omega arith)
read_in (f ∷ fs) [] are k h outline is = absurd (cc)
read_in (f ∷ fs) (o ∷ os) are zero h outline is = let head : seats_in o ≡ seats_of f = cc in record { frame = f; at = refl; same = ap seats_in is ∙ head }
read_in (f ∷ fs) (o ∷ os) are (suc k) h outline is =
    let rest : map seats_in os ≡ map seats_of fs = cc in
    let r = read_in fs os rest k (omega (arith, h)) outline is in
    record { frame = r.frame; at = r.at; same = r.same }

-- the same in a table that contracts see as these frames
pub read_here : (own frames : List Frame) (outlines : List Outline) → own ≡ frames → AreOutlines own outlines → (k : ℕ) → k < length frames → (outline : Outline) → outline ≡ get_or outlines k outline → IsRead frames k outline.seats.items
read_here own frames outlines e are k h outline is = read_in frames outlines (subst (λ fs. AreOutlines fs outlines) e are) k h outline is

pub enough : (own frames : List Frame) (outlines : List Outline) → own ≡ frames → AreOutlines own outlines → length outlines ≡ length frames
enough own frames outlines e are = as_many own outlines are ∙ ap (λ (l : List Frame). length l) e
