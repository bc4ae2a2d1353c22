-- How chains grow by one alarm.
use Rattle.std.proofs.Common.{◌≡◌, ◌≢◌, ℕ, zero, suc, ◌+◌, ◌<◌, ◌≤◌, ◌==◌, inl, inr, ◌⊎◌, Option, Some, None, List, [], ◌∷◌, ◌++◌, length, slice_index, if◌then◌else◌, arith, refl, ap, sym, ◌∙◌, length-append}
use Rattle.std.proofs.lemmas.Bool.{cases_lt}
use Rattle.std.proofs.lemmas.Bool.Decides.{eqb_tells}
use Rattle.alarm_watch.specs.Chains.{GoesDown, HasKey, AreChains}

-- an alarm with a global among some and one more is one of them, or that one
key_cases : (keys : List (Option ℕ)) (k : Option ℕ) (n g : ℕ) → HasKey (keys ++ k ∷ []) n g → ((n < length keys) × HasKey keys n g) ⊎ ((n ≡ length keys) × (k ≡ Some g))
key_cases [] k zero g h = inr (refl, h)
key_cases [] k (suc n) g h = absurd (cc h)
key_cases (x ∷ keys) k zero g h = inl (omega arith, h)
key_cases (x ∷ keys) k (suc n) g h = elim (key_cases keys k n g h) [ inl p ↦ let low = p.0 in inl (omega (arith, low), p.1) | inr p ↦ let same = p.0 in inr (omega (arith, same), p.1) ]

key_lift : (keys : List (Option ℕ)) (k : Option ℕ) (n g : ℕ) → HasKey keys n g → HasKey (keys ++ k ∷ []) n g
key_lift [] k n g h = absurd (cc h)
key_lift (x ∷ keys) k zero g h = h
key_lift (x ∷ keys) k (suc n) g h = key_lift keys k n g h

key_last : (keys : List (Option ℕ)) (g : ℕ) → HasKey (keys ++ Some g ∷ []) (length keys) g
key_last [] g = refl
key_last (x ∷ keys) g = key_last keys g

index_lift : (next : List ℕ) (v e : ℕ) → e < length next → slice_index (next ++ v ∷ []) e ≡ slice_index next e
index_lift [] v e h = absurd (omega (arith, h))
index_lift (x ∷ next) v zero h = refl
index_lift (x ∷ next) v (suc e) h = index_lift next v e (omega (arith, h))

index_last : (next : List ℕ) (v : ℕ) → slice_index (next ++ v ∷ []) (length next) ≡ v
index_last [] v = refl
index_last (x ∷ next) v = index_last next v

pub chains_none : AreChains [] [] []
chains_none = record {
  size = refl;
  down = λ e h. absurd (omega (arith, h));
  tops = λ g. omega arith;
  last = λ g n h. absurd (cc h);
  begins = λ g e is. absurd (omega (arith, is));
  before = λ g e n he hn lt. absurd (cc he);
  links = λ g e d he is. absurd (cc he);
}

-- each link goes down, and so does one more that isn't above it
down_more : (next : List ℕ) (v : ℕ) → GoesDown next → v ≤ length next → GoesDown (next ++ v ∷ [])
down_more next v down low e h =
    elim (cases_lt e (length next)) [
      | inl less ↦ let at = index_lift next v e less in let d = down e less in omega (arith, at, d)
      | inr last ↦ let e_is : e ≡ length next = omega (arith, last, h, length-append next (v ∷ [])) in rw e_is (let at = index_last next v in omega (arith, at, low))
    ]

-- one more alarm without a global
pub chains_without : (keys : List (Option ℕ)) (first next : List ℕ) (v : ℕ) → v ≡ 0 → AreChains keys first next → AreChains (keys ++ None ∷ []) first (next ++ v ∷ [])
chains_without keys first next v none a =
    let more = length-append next (v ∷ []) in
    let many = length-append keys (None ∷ []) in
    let size = a.size in
    record {
      size = omega (arith, size, more, many);
      down = down_more next v a.down (omega (arith, none));
      tops = λ g. let t = a.tops g in omega (arith, t, more);
      last = λ g n h. elim (key_cases keys None n g h) [ inl p ↦ a.last g n p.1 | inr p ↦ absurd (cc (p.1)) ];
      begins = λ g e is. key_lift keys None e g (a.begins g e is);
      before = λ g e n he hn lt. elim (key_cases keys None e g he) [
        | inr p ↦ absurd (cc (p.1))
        | inl p ↦ elim (key_cases keys None n g hn) [
          | inr q ↦ absurd (cc (q.1))
          | inl q ↦ let below = a.before g e n p.1 q.1 lt in let low = p.0 in let at = index_lift next v e (omega (arith, low, size)) in omega (arith, below, at)
        ]
      ];
      links = λ g e d he is. elim (key_cases keys None e g he) [
        | inr p ↦ absurd (cc (p.1))
        | inl p ↦ let low = p.0 in let at = index_lift next v e (omega (arith, low, size)) in key_lift keys None d g (a.links g e d p.1 (omega (arith, at, is)))
      ];
    }

-- a link at the head of one global's chain, and the heads of the others as they were
record Headed (first new : List ℕ) (global link : ℕ) : Type 0 where
  pub same : slice_index new global ≡ link
  pub others : (g : ℕ) → g ≢ global → slice_index new g ≡ slice_index first g

headed : (first new : List ℕ) (global link : ℕ) → ((g : ℕ) → slice_index new g ≡ (if g == global then link else slice_index first g)) → Headed first new global link
headed first new global link put = record {
  same = elim (eqb_tells global global) [ inl t ↦ put global ∙ ap (λ b. if b then link else slice_index first global) t.0 | inr t ↦ absurd (t.1 refl) ];
  others = λ g other. elim (eqb_tells g global) [ inl t ↦ absurd (other t.1) | inr t ↦ put g ∙ ap (λ b. if b then link else slice_index first g) t.0 ];
}

some_is : (a b : ℕ) → ◌≡◌ {A = Option ℕ} (Some a) (Some b) → a ≡ b
some_is a b e = cc e

-- one more alarm with a global
pub chains_with : (keys : List (Option ℕ)) (first new next : List ℕ) (global link v : ℕ) → link ≡ length keys + 1 → v ≡ slice_index first global
    → ((g : ℕ) → slice_index new g ≡ (if g == global then link else slice_index first g)) → AreChains keys first next → AreChains (keys ++ Some global ∷ []) new (next ++ v ∷ [])
chains_with keys first new next global link v link_is v_is put a =
    let h = headed first new global link put in
    let more = length-append next (v ∷ []) in
    let many = length-append keys (Some global ∷ []) in
    let size = a.size in
    let same = h.same in
    let top = a.tops global in
    record {
      size = omega (arith, size, more, many);
      down = down_more next v a.down (omega (arith, v_is, top));
      tops = λ g. elim (eqb_tells g global) [
        | inl t ↦ rw t.1 (omega (arith, same, link_is, size, more))
        | inr t ↦ let other = h.others g t.1 in let low = a.tops g in omega (arith, other, low, more)
      ];
      last = λ g n has. elim (key_cases keys (Some global) n g has) [
        | inl p ↦ elim (eqb_tells g global) [
          | inl t ↦ let low = p.0 in rw t.1 (omega (arith, same, link_is, low))
          | inr t ↦ let other = h.others g t.1 in let low = a.last g n p.1 in omega (arith, other, low)
        ]
        | inr p ↦ let g_is = some_is global g p.1 in let n_is = p.0 in rw (← g_is) (omega (arith, same, link_is, n_is))
      ];
      begins = λ g e is. elim (eqb_tells g global) [
        | inl t ↦
            let head : slice_index new global ≡ e + 1 = rw t.1 at is in
            let e_is : e ≡ length keys = omega (arith, head, same, link_is) in
            rw (e_is, t.1) (key_last keys global)
        | inr t ↦ let other = h.others g t.1 in key_lift keys (Some global) e g (a.begins g e (sym other ∙ is))
      ];
      before = λ g e n he hn lt. elim (key_cases keys (Some global) e g he) [
        | inl p ↦ let low = p.0 in elim (key_cases keys (Some global) n g hn) [
          | inl q ↦ let below = a.before g e n p.1 q.1 lt in let at = index_lift next v e (omega (arith, low, size)) in omega (arith, below, at)
          | inr q ↦ let n_is = q.0 in absurd (omega (arith, low, n_is, lt))
        ]
        | inr p ↦ let e_is = p.0 in elim (key_cases keys (Some global) n g hn) [
          | inl q ↦
              let g_is = some_is global g p.1 in
              let here : HasKey keys n global = rw g_is (q.1) in
              let below = a.last global n here in
              let at : slice_index (next ++ v ∷ []) e ≡ v = ap (slice_index (next ++ v ∷ [])) (e_is ∙ sym size) ∙ index_last next v in
              omega (arith, below, at, v_is)
          | inr q ↦ let n_is = q.0 in absurd (omega (arith, e_is, n_is, lt))
        ]
      ];
      links = λ g e d he is. elim (key_cases keys (Some global) e g he) [
        | inl p ↦ let low = p.0 in let at = index_lift next v e (omega (arith, low, size)) in key_lift keys (Some global) d g (a.links g e d p.1 (omega (arith, at, is)))
        | inr p ↦
            let e_is = p.0 in
            let g_is = some_is global g p.1 in
            let at : slice_index (next ++ v ∷ []) e ≡ v = ap (slice_index (next ++ v ∷ [])) (e_is ∙ sym size) ∙ index_last next v in
            let head : slice_index first global ≡ d + 1 = omega (arith, at, is, v_is) in
            key_lift keys (Some global) d g (rw (← g_is) (a.begins global d head))
      ];
    }

-- a global beyond all chains has no alarm
pub past : (first : List ℕ) (g : ℕ) → length first ≤ g → slice_index first g ≡ 0
past [] g h = refl
past (x ∷ first) zero h = absurd (omega (arith, h))
past (x ∷ first) (suc g) h = past first g (omega (arith, h))
