-- A table, and a table whose frames are seen as those of the first are by a view.
use Rattle.std.proofs.Common.{◌≡◌, ◌∙◌, ap, sym, refl, ℕ, zero, suc, Bool, true, false, List, length, map, Option, Some, None, if◌then◌else◌}
use Rattle.std.specs.Prelude.{slice_get, nat_eq, option_map}
use Rattle.std.proofs.lemmas.List.{length-map}
use Rattle.std.proofs.lemmas.Option.{slice_get-map, none-some, same_Some}
use Rattle.logic_walk.specs.declared.frame.Frame.{Frame}
use Rattle.logic_walk.specs.Frames.{of_frame, of_first}
use Rattle.logic_walk.specs.Plain.{PlainFrame, view_frame}

-- frames are seen as others are by a view, in the same order
abbrev pub AreSeen : (view : Frame → PlainFrame) → (frames others : List Frame) → Type 0
AreSeen view frames others = map view_frame others ≡ map view frames

-- what holds of both sides of a choice holds of the choice
if_holds : {A B : Type 0} (R : A → B → Type 0) (b : Bool) (x u : A) (y v : B) → R x y → R u v → R (if b then x else u) (if b then y else v)
if_holds R true x u y v this other = this
if_holds R false x u y v this other = other

-- what a rule keeps from the frames before a frame to the frame holds of all frames of the table
module _ (view : Frame → PlainFrame) {A B : Type 0} (R : A → B → Type 0) (none : A) (nothing : B) (rule : (ℕ → A) → Frame → A) (law : (ℕ → B) → Frame → B) (begins : R none nothing)
    (keeps : (inner : ℕ → A) (outer : ℕ → B) → ((k : ℕ) → R (inner k) (outer k)) → (f g : Frame) → view_frame g ≡ view f → R (rule inner g) (law outer f)) where
  frame_holds : (inner : ℕ → A) (outer : ℕ → B) → ((k : ℕ) → R (inner k) (outer k)) → (o p : Option Frame) → option_map view_frame p ≡ option_map view o → R (of_frame none (rule inner) p) (of_frame nothing (law outer) o)
  frame_holds inner outer before None None h = begins
  frame_holds inner outer before None (Some g) h = absurd (none-some (view_frame g) (sym h))
  frame_holds inner outer before (Some f) None h = absurd (none-some (view f) h)
  frame_holds inner outer before (Some f) (Some g) h = keeps inner outer before f g (same_Some (view_frame g) (view f) h)

  module _ (fs gs : List Frame) (at : (k : ℕ) → option_map view_frame (slice_get gs k) ≡ option_map view (slice_get fs k)) where
    pub first_holds : (limit k : ℕ) → R (of_first none rule gs limit k) (of_first nothing law fs limit k)
    first_holds zero k = begins
    first_holds (suc n) k =
        if_holds R (nat_eq k n) (of_frame none (rule (of_first none rule gs n)) (slice_get gs n)) (of_first none rule gs n k) (of_frame nothing (law (of_first nothing law fs n)) (slice_get fs n)) (of_first nothing law fs n k)
        (frame_holds (of_first none rule gs n) (of_first nothing law fs n) (first_holds n) (slice_get fs n) (slice_get gs n) (at n)) (first_holds n k)

-- a rule that gives the same for a frame and for one that is seen as it gives the same for both tables
module _ (view : Frame → PlainFrame) {A : Type 0} (none : A) (rule : (ℕ → A) → Frame → A) (alike : (inner : ℕ → A) (f g : Frame) → view_frame g ≡ view f → rule inner g ≡ rule inner f)
    (fs gs : List Frame) (at : (k : ℕ) → option_map view_frame (slice_get gs k) ≡ option_map view (slice_get fs k)) where
  pub first_alike : (limit k : ℕ) → of_first none rule gs limit k ≡ of_first none rule fs limit k
  first_alike =
      first_holds view (λ (x y : A). x ≡ y) none none rule rule refl
      (λ inner outer before f g e. (λ i. rule (λ k. before k i) g) ∙ alike outer f g e) fs gs at

-- the frame as which another is seen
found_in : (view : Frame → PlainFrame) (o p : Option Frame) (g : Frame) → option_map view_frame p ≡ option_map view o → p ≡ Some g → (f : Frame) × (o ≡ Some f) × (view_frame g ≡ view f)
found_in view None p g h at = absurd (none-some (view_frame g) (sym (ap (option_map view_frame) (sym at) ∙ h)))
found_in view (Some f) p g h at = (f, refl, same_Some (view_frame g) (view f) (ap (option_map view_frame) (sym at) ∙ h))

module _ (view : Frame → PlainFrame) (fs gs : List Frame) (seen : AreSeen view fs gs) where
  pub at_place : (k : ℕ) → option_map view_frame (slice_get gs k) ≡ option_map view (slice_get fs k)
  at_place k = sym (slice_get-map view_frame gs k) ∙ ap (λ (l : List PlainFrame). slice_get l k) seen ∙ slice_get-map view fs k

  pub found : (k : ℕ) (g : Frame) → slice_get gs k ≡ Some g → (f : Frame) × (slice_get fs k ≡ Some f) × (view_frame g ≡ view f)
  found k g at = found_in view (slice_get fs k) (slice_get gs k) g (at_place k) at

  pub same_length : length gs ≡ length fs
  same_length = sym (length-map gs view_frame) ∙ ap (λ (l : List PlainFrame). length l) seen ∙ length-map fs view
