-- What a search has found so far.
use Rattle.std.proofs.Common.{◌≡◌, ◌∙◌, ap, sym, refl, ℕ, zero, suc, ◌+◌, ◌<◌, ◌≤◌, Bool, true, false, List, [], ◌∷◌, ◌++◌, length, get_or, set, Some, slice_get, inl, inr, arith, ◌↔◌, ◌⊎◌, append_assoc, replicate, length-append, slice_index_or}
use Rattle.std.proofs.Math.Nat.{eq-or-lt_of_le}
use Rattle.std.proofs.lemmas.Option.{same_Some}
use Rattle.std.proofs.lemmas.Bool.{cases_Bool, both_ways}
use Rattle.std.proofs.lemmas.List.{length-set, length-replicate, append-nil}
use Rattle.st_blocks.specs.Chains.{Among, Leads, Reaches}
use Rattle.std.specs.List.{All}
use Rattle.std.proofs.lemmas.List.Elements.{All-head, All-tail}
use Rattle.st_blocks.specs.Graphs.{Graph, InRange, next_of}
use Rattle.st_blocks.specs.Search.{Search, seen, seen_all}
use Rattle.st_blocks.proofs.Lists.{among_left, among_last, among_push, get_within, place_of, among_at, how_many, how_many_within, how_many_none, how_many_set, none_marked, among_all, le_of_lt_more}

abbrev pub Marked : Search → ℕ → Type 0
Marked s w = get_or s.0 w false ≡ true

-- what is listed is marked and reached
pub record Finds (next : ℕ → List ℕ) (from n : ℕ) (s : Search) : Type 0 where
  pub long : length s.0 ≡ n
  pub fit : how_many s.0 ≡ length s.1
  pub within : (v : ℕ) → Among s.1 v → v < n
  pub reached : (v : ℕ) → Among s.1 v → Reaches next from v
  pub listed : (w : ℕ) → Marked s w → Among s.1 w

pub record Searches (next : ℕ → List ℕ) (from n done : ℕ) (s : Search) : Type 0 where
  pub finds : Finds next from n s
  pub first : (w : ℕ) → Among (next from) w → Marked s w
  pub closed : (k v w : ℕ) → k < done → slice_get s.1 k ≡ Some v → Among (next v) w → Marked s w
  pub behind : done ≤ length s.1

marked_set : (ms : List Bool) (w v : ℕ) → get_or ms v false ≡ true → get_or (set ms w true) v false ≡ true
marked_set [] w v is_so = is_so
marked_set (m ∷ ms) zero zero is_so = refl
marked_set (m ∷ ms) zero (suc v) is_so = is_so
marked_set (m ∷ ms) (suc w) zero is_so = is_so
marked_set (m ∷ ms) (suc w) (suc v) is_so = marked_set ms w v is_so

marked_here : (ms : List Bool) (w : ℕ) → w < length ms → get_or (set ms w true) w false ≡ true
marked_here [] w within = absurd (omega (arith, within))
marked_here (m ∷ ms) zero within = refl
marked_here (m ∷ ms) (suc w) within = marked_here ms w (omega (arith, within))

marked_cases : (ms : List Bool) (w v : ℕ) → get_or (set ms w true) v false ≡ true → (get_or ms v false ≡ true) ⊎ (w ≡ v)
marked_cases [] w v is_so = inl is_so
marked_cases (m ∷ ms) zero zero is_so = inr refl
marked_cases (m ∷ ms) zero (suc v) is_so = inl is_so
marked_cases (m ∷ ms) (suc w) zero is_so = inl is_so
marked_cases (m ∷ ms) (suc w) (suc v) is_so =
    elim (marked_cases ms w v is_so) [
      | inl before ↦ inl before
      | inr is ↦ inr (ap suc is)
    ]

-- what one step does, by whether the number is marked
seen_old : (w : ℕ) (s : Search) → Marked s w → seen w s ≡ s
seen_old w s is_so = rw is_so refl

seen_new : (w : ℕ) (s : Search) → get_or s.0 w false ≡ false → seen w s ≡ (set s.0 w true, s.1 ++ w ∷ [])
seen_new w s isnt = rw isnt refl

module _ (next : ℕ → List ℕ) (from n : ℕ) where
  new_finds : (w : ℕ) (s : Search) → Finds next from n s → w < n → Reaches next from w → get_or s.0 w false ≡ false → Finds next from n (set s.0 w true, s.1 ++ w ∷ [])
  new_finds w s f within reach isnt = record {
    long = length-set s.0 w true ∙ f.long;
    fit = let l = length-append s.1 (w ∷ []) in how_many_set s.0 w (rw f.long within) isnt ∙ ap suc f.fit ∙ omega (arith, l);
    within = λ v here.
        elim (among_push s.1 w v here) [
          | inl before ↦ f.within v before
          | inr is ↦ rw (sym is) within
        ];
    reached = λ v here.
        elim (among_push s.1 w v here) [
          | inl before ↦ f.reached v before
          | inr is ↦ rw (sym is) reach
        ];
    listed = λ v is_so.
        elim (marked_cases s.0 w v is_so) [
          | inl before ↦ among_left s.1 (w ∷ []) v (f.listed v before)
          | inr is ↦ rw (sym is) (among_last s.1 w)
        ];
  }

  seen_finds : (w : ℕ) (s : Search) → Finds next from n s → w < n → Reaches next from w → Finds next from n (seen w s)
  seen_finds w s f within reach =
      elim (cases_Bool (get_or s.0 w false)) [
        | inl is_so ↦ rw (seen_old w s is_so) f
        | inr isnt ↦ rw (seen_new w s isnt) (new_finds w s f within reach isnt)
      ]

  all_finds : (ws : List ℕ) (s : Search) → Finds next from n s → ((w : ℕ) → Among ws w → w < n) → ((w : ℕ) → Among ws w → Reaches next from w) → Finds next from n (seen_all ws s)
  all_finds [] s f within reach = f
  all_finds (w ∷ ws) s f within reach =
      all_finds ws (seen w s) (seen_finds w s f (within w (inl refl)) (reach w (inl refl))) (λ v here. within v (inr here)) (λ v here. reach v (inr here))

seen_keeps : (w v : ℕ) (s : Search) → Marked s v → Marked (seen w s) v
seen_keeps w v s is_so =
    elim (cases_Bool (get_or s.0 w false)) [
      | inl old ↦ rw (seen_old w s old) is_so
      | inr new' ↦ rw (seen_new w s new') (marked_set s.0 w v is_so)
    ]

all_keep : (ws : List ℕ) (v : ℕ) (s : Search) → Marked s v → Marked (seen_all ws s) v
all_keep [] v s is_so = is_so
all_keep (w ∷ ws) v s is_so = all_keep ws v (seen w s) (seen_keeps w v s is_so)

seen_marks : (w : ℕ) (s : Search) → w < length s.0 → Marked (seen w s) w
seen_marks w s within =
    elim (cases_Bool (get_or s.0 w false)) [
      | inl old ↦ rw (seen_old w s old) old
      | inr new' ↦ rw (seen_new w s new') (marked_here s.0 w within)
    ]

seen_long : (w : ℕ) (s : Search) → length (seen w s).0 ≡ length s.0
seen_long w s =
    elim (cases_Bool (get_or s.0 w false)) [
      | inl old ↦ rw (seen_old w s old) refl
      | inr new' ↦ rw (seen_new w s new') (length-set s.0 w true)
    ]

all_mark : (ws : List ℕ) (s : Search) → ((w : ℕ) → Among ws w → w < length s.0) → (w : ℕ) → Among ws w → Marked (seen_all ws s) w
all_mark [] s within w here = elim here [ ]
all_mark (x ∷ ws) s within w (inl is) = rw (sym is) (all_keep ws x (seen x s) (seen_marks x s (within x (inl refl))))
all_mark (x ∷ ws) s within w (inr later) = all_mark ws (seen x s) (λ v here. rw (seen_long x s) (within v (inr here))) w later

abbrev Extends : List ℕ → List ℕ → Type 0
Extends xs zs = (ys : List ℕ) × (zs ≡ xs ++ ys)

seen_extends : (w : ℕ) (s : Search) → Extends s.1 (seen w s).1
seen_extends w s =
    elim (cases_Bool (get_or s.0 w false)) [
      | inl old ↦ rw (seen_old w s old) ([], sym (append-nil s.1))
      | inr new' ↦ rw (seen_new w s new') (w ∷ [], refl)
    ]

all_extend : (ws : List ℕ) (s : Search) → Extends s.1 (seen_all ws s).1
all_extend [] s = ([], sym (append-nil s.1))
all_extend (w ∷ ws) s =
    let one = seen_extends w s in
    let rest = all_extend ws (seen w s) in
    (one.0 ++ rest.0, rest.1 ∙ ap (λ xs. xs ++ rest.0) one.1 ∙ append_assoc s.1 one.0 rest.0)

extended_get : (xs zs : List ℕ) → Extends xs zs → (k v : ℕ) → k < length xs → slice_get zs k ≡ Some v → slice_get xs k ≡ Some v
extended_get xs zs e k v within is = sym (get_within xs e.0 k within) ∙ sym (ap (λ l. slice_get l k) e.1) ∙ is

extended_long : (xs zs : List ℕ) → Extends xs zs → length xs ≤ length zs
extended_long xs zs e = let l = ap length e.1 ∙ length-append xs e.0 in omega (arith, l)

-- a list that leads to one leads on to what that one leads to
leads_on : {V : Type 0} (next : V → List V) (a : V) (path : List V) (b c : V) → Leads next a path b → Among (next b) c → Leads next a (path ++ b ∷ []) c
leads_on next a [] b c l on = (l, on)
leads_on next a (x ∷ path) b c l on = (l.0, leads_on next x path b c l.1 on)

pub reaches_on : {V : Type 0} (next : V → List V) (a b c : V) → Reaches next a b → Among (next b) c → Reaches next a c
reaches_on next a b c r on = (r.0 ++ b ∷ [], leads_on next a r.0 b c r.1 on)

-- the next of those found
pub searched : (next : ℕ → List ℕ) (from n i at : ℕ) (s : Search) → Searches next from n i s → slice_get s.1 i ≡ Some at → i < length s.1 → ((w : ℕ) → Among (next at) w → w < n) → Searches next from n (i + 1) (seen_all (next at) s)
searched next from n i at s p is within range = record {
  finds = all_finds next from n (next at) s p.finds range (λ w here. reaches_on next from at w (p.finds.reached at (among_at s.1 i at is)) here);
  first = λ w here. all_keep (next at) w s (p.first w here);
  closed = λ k v w before is' here.
      let was = extended_get s.1 (seen_all (next at) s).1 (all_extend (next at) s) k v (omega (arith, before, within)) is' in
      elim (eq-or-lt_of_le (le_of_lt_more k i before)) [
        | inr below ↦ all_keep (next at) w s (p.closed k v w below was here)
        | inl now' ↦
            let v_is : v ≡ at = same_Some v at (sym was ∙ ap (slice_get s.1) now' ∙ is) in
            all_mark (next at) s (λ x there. rw p.finds.long (range x there)) w (rw (sym v_is) here)
      ];
  behind = let l = extended_long s.1 (seen_all (next at) s).1 (all_extend (next at) s) in omega (arith, l, within);
}

-- the first step
pub searches : (next : ℕ → List ℕ) (from n : ℕ) → ((w : ℕ) → Among (next from) w → w < n) → Searches next from n 0 (seen_all (next from) (replicate n false, []))
searches next from n range =
    let start : Search = (replicate n false, []) in
    let none : Finds next from n start = record {
      long = length-replicate n false;
      fit = how_many_none n;
      within = λ v here. elim here [ ];
      reached = λ v here. elim here [ ];
      listed = λ w is_so. absurd (both_ways (get_or (replicate n false) w false) (none_marked n w) is_so);
    } in
    record {
      finds = all_finds next from n (next from) start none range (λ w here. ([], here));
      first = all_mark (next from) start (λ w here. rw (length-replicate n false) (range w here));
      closed = λ k v w before is here. absurd (omega (arith, before));
      behind = omega arith;
    }

-- at its end a search has marked what is reached
pub whole : (next : ℕ → List ℕ) (from n i to : ℕ) (s : Search) → Searches next from n i s → length s.1 ≤ i → Marked s to ↔ Reaches next from to
whole next from n i to s p over = (λ is_so. p.finds.reached to (p.finds.listed to is_so), λ r. reached_marked from r.0 p.first r.1) where
  on : (v w : ℕ) → Marked s v → Among (next v) w → Marked s w
  on v w is_so here =
      let at = place_of s.1 v (p.finds.listed v is_so) in
      p.closed at.0 v w (omega (arith, at.1, over)) at.2 here

  reached_marked : (a : ℕ) (path : List ℕ) → ((w : ℕ) → Among (next a) w → Marked s w) → Leads next a path to → Marked s to
  reached_marked a [] first here = first to here
  reached_marked a (c ∷ path) first l = reached_marked c path (λ w here. on c w (first c l.0) here) l.1

pub found_within : (next : ℕ → List ℕ) (from n i : ℕ) (s : Search) → Searches next from n i s → length s.1 ≤ n
found_within next from n i s p =
    let counted = how_many_within s.0 in
    let fit = p.finds.fit in
    let long = p.finds.long in
    omega (arith, counted, fit, long)

pub next_within : (graph : Graph) (n : ℕ) → InRange graph n → (a w : ℕ) → Among (next_of graph a) w → w < n
next_within [] n range a w here = elim here [ ]
next_within (row ∷ rows) n range zero w here = among_all (λ v. v < n) row.items (All-head (λ r. All (λ v. v < n) r.items) row rows range) w here
next_within (row ∷ rows) n range (suc a) w here = next_within rows n (All-tail (λ r. All (λ v. v < n) r.items) row rows range) a w here

pub get_at : (xs : List ℕ) (i x : ℕ) → i < length xs → x ≡ slice_index_or xs i x → slice_get xs i ≡ Some x
get_at [] i x within is = absurd (omega (arith, within))
get_at (y ∷ ys) zero x within is = ap Some (sym is)
get_at (y ∷ ys) (suc i) x within is = get_at ys i x (omega (arith, within)) is

pub get_any : {X : Type 0} (xs : List X) (i : ℕ) (x d : X) → i < length xs → x ≡ get_or xs i x → get_or xs i d ≡ x
get_any [] i x d within is = absurd (omega (arith, within))
get_any (y ∷ ys) zero x d within is = sym is
get_any (y ∷ ys) (suc i) x d within is = get_any ys i x d (omega (arith, within)) is
