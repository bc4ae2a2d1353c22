-- Steps after which a board's story goes on from what it was keep the rule.
use Rattle.std.proofs.Common.{◌≡◌, ℕ, ◌≢◌, Bool, true, false, if◌then◌else◌, List, [], ◌∷◌, ◌++◌, fold, set, refl, sym, ◌∙◌, ap, subst, ⊎_elim, append_assoc, Option, Some, None, Result, Ok, Err, IsOk, MatchResult}
use mathlib.Core.Bool.{true≢false}
use Rattle.std.proofs.lemmas.List.{append-nil}
use mathlib.Core.Option.{some}
use lib.ListN.{get_elem?}
use Rattle.left_right.specs.Register.{Admits, TurnsAt, Forks, Merges}
use Rattle.atomic_table.proofs.Lists.{at_set, at_snoc}
use Rattle.logbook.specs.Pages.{Book}
use Rattle.console_log.specs.Marks.{PlainMark}
use Rattle.console_boards.specs.declared.entry.BoardEntry.{BoardEntry}
use Rattle.console_boards.specs.declared.picture.Picture.{Picture}
use Rattle.console_boards.specs.declared.view.View.{View}
use Rattle.console_boards.specs.Stories.{Story, Continues, IsSince, OpensAsTold, may_come, grown}
use Rattle.console_boards.specs.Marks.{IsLog}
use Rattle.console_boards.specs.Views.{Follows, Keeps, Sees, informed, newcomer}

module _ {P E : Type 0} where
  pub continues_same : (a : Story P E) → Continues a a
  continues_same a = (refl, ([], append-nil a.1))

  pub continues_on : (a b c : Story P E) → Continues a b → Continues b c → Continues a c
  continues_on a b c h k = (k.0 ∙ h.0, (h.1.0 ++ k.1.0, sym (append_assoc a.1 h.1.0 k.1.0) ∙ (ap (λ (xs : List E). xs ++ k.1.0) h.1.1 ∙ k.1.1)))

  pub since_on : (seen : Option (Story P E)) (b c : Story P E) → IsSince seen b → Continues b c → IsSince seen c
  since_on None b c h k = tt
  since_on (Some a) b c h k = continues_on a b c h k

  grown_if : (b : Bool) (s : Story P E) (e : E) → Continues s (if b then (s.0, s.1 ++ e ∷ []) else s)
  grown_if true s e = (refl, (e ∷ [], refl))
  grown_if false s e = continues_same s

  -- a story goes on as entries come, one after another
  pub grown_all : (after : P → E → P) (allows : P → E → Bool) (s : Story P E) (es : List E) → Continues s (fold (grown after allows) s es)
  grown_all after allows s [] = continues_same s
  grown_all after allows s (e ∷ es) = continues_on s (grown after allows s e) (fold (grown after allows) (grown after allows s e) es) (grown_if (may_come after allows s e) s e) (grown_all after allows (grown after allows s e) es)

  -- what goes on from what was told of opens as that
  pub since_opens : (told : Option (Story P E)) (s : Story P E) → IsSince told s → OpensAsTold told (Some s)
  since_opens None s h t u is same = absurd (cc is)
  since_opens (Some a) s h t u is same = ap (λ (o : Option (Story P E)). elim o [ None ↦ s.0 | Some x ↦ x.0 ]) (sym same) ∙ (h.0 ∙ ap (λ (o : Option (Story P E)). elim o [ None ↦ s.0 | Some x ↦ x.0 ]) is)

  pub opens_same : (told seen : Option (Story P E)) (other last : Option (Story P E)) → other ≡ told → last ≡ seen → OpensAsTold told seen → OpensAsTold other last
  opens_same told seen other last t s h = subst (λ (o : Option (Story P E)). OpensAsTold o last) (sym t) (subst (λ (o : Option (Story P E)). OpensAsTold told o) (sym s) h)

  -- who has seen nothing
  pub opens_unseen : (told seen : Option (Story P E)) → seen ≡ None → OpensAsTold told seen
  opens_unseen told seen none t s is same = absurd (cc (sym none ∙ same))

log_on : (known : Option (PlainMark BoardEntry)) (a b : Book) → b ≡ a → IsLog known a → IsLog known b
log_on None a b e h = tt
log_on (Some known) a b e h = e ∙ h

-- what follows what is known goes on to do so in the same log
follows_on : (v : View) (a b : Story Picture BoardEntry) (m n : PlainMark BoardEntry) → Follows v a m → Continues a b → n.log ≡ m.log → Follows v b n
follows_on v a b m n h on e = (since_on v.seen a b h.0 on, since_on v.told a b h.1 on, log_on v.mark m.log n.log e h.2)

-- the rule is kept where the story goes on in the same log with a mark of it all, and one view is replaced by one that it follows
pub kept_set : (a b : Story Picture BoardEntry) (m n : PlainMark BoardEntry) (views : List View) (seat : ℕ) (w : View)
    → Keeps a m views → Continues a b → n.log ≡ m.log → n.entries ≡ b.1 → Follows w b n → Keeps b n (set views seat w)
kept_set a b m n views seat w h on log whole follows = (
  whole,
  λ j u e.
      ⊎_elim (λ (t : (j ≡ seat) × (w ≡ u)). subst (λ (z : View). Follows z b n) t.1 follows)
      (λ (t : (j ≢ seat) × (get_elem? views j ≡ some u)). follows_on u a b m n (h.1 j u t.1) on log)
      (at_set views seat j w u e),
)

module _ {T : Type 0} (story : T → Story Picture BoardEntry) (mark : T → PlainMark BoardEntry) where
  abbrev pub Rule : T → List View → Type 0
  Rule x views = Keeps (story x) (mark x) views

  abbrev pub Look : View → T → T → View → Type 0
  Look v x y w = Sees v (story y) (mark y) w

  pub admits : Admits Rule newcomer
  admits x views h = (h.0, λ seat v at. ⊎_elim (h.1 seat v) (λ (e : newcomer ≡ v). subst (λ (z : View). Follows z (story x) (mark x)) e (tt, tt, tt)) (at_snoc views newcomer v seat at))

  pub turns : (seat : ℕ) (v : View) (x y : T) → Continues (story x) (story y) → (mark y).log ≡ (mark x).log → ((mark x).entries ≡ (story x).1 → (mark y).entries ≡ (story y).1) → TurnsAt Rule seat v x y Look
  turns seat v x y on log whole views h at =
      let follows = follows_on v (story x) (story y) (mark x) (mark y) (h.1 seat v at) on log in
      let w : View = record { seen = Some (story y); told = v.told; mark = Some (mark y) } in (
        w,
        kept_set (story x) (story y) (mark x) (mark y) views seat w h on log (whole h.0) (continues_same (story y), follows.1, refl),
        (follows, whole h.0, refl, refl, refl),
      )

  pub forks : (seat : ℕ) (v : View) → Forks Rule seat v v v
  forks seat v x views h at = (
    h.0,
    λ j u e.
        ⊎_elim ((kept_set (story x) (story x) (mark x) (mark x) views seat v h (continues_same (story x)) refl h.0 (h.1 seat v at)).1 j u)
        (λ (same : v ≡ u). subst (λ (z : View). Follows z (story x) (mark x)) same (h.1 seat v at)) (at_snoc (set views seat v) v u j e),
  )

  pub merges : (seat : ℕ) (v : View) (other : ℕ) (w : View) → Merges Rule seat v other w (informed v w) newcomer
  merges seat v other w x views h at apart there =
      let a = h.1 seat v at in
      let b : Follows w (story x) (mark x) = ⊎_elim (λ (t : (other ≡ seat) × (informed v w ≡ w)). absurd (apart t.0)) (λ (t : (other ≢ seat) × (get_elem? views other ≡ some w)). h.1 other w t.1) (at_set views seat other (informed v w) w there) in
      let same = continues_same (story x) in
      let both : Keeps (story x) (mark x) (set views seat (informed v w)) = kept_set (story x) (story x) (mark x) (mark x) views seat (informed v w) h same refl h.0 (a.0, b.0, b.2) in
      kept_set (story x) (story x) (mark x) (mark x) (set views seat (informed v w)) other newcomer both same refl h.0 (tt, tt, tt)

-- what a publish tells, where it can't fail
pub on_ok : {R E : Type 0} (r : Result R E) (A B : Type 0) → IsOk r → MatchResult r (λ _. A) (λ _. B) → A
on_ok (Ok x) A B ok h = h
on_ok (Err e) A B ok h = absurd (true≢false (sym ok))
