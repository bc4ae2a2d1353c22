-- The alarms of chains, one chain behind another in a list.
use Rattle.std.proofs.Common.{◌≡◌, ℕ, ◌+◌, ◌<◌, ◌≤◌, inl, inr, ◌⊎◌, Option, List, [], ◌∷◌, ◌++◌, length, slice_index, arith, refl, ap, sym, ◌∙◌, length-append}
use Rattle.std.proofs.lemmas.Bool.{cases_lt}
use Rattle.std.proofs.lemmas.List.{get_or_append_left, get_or-append-add}
use Rattle.alarm_watch.specs.Chains.{GoesDown, HasKey, AreChains, AreRanges, HaveRanges, IsLonger, StandsIn}
use Rattle.alarm_watch.proofs.ChainLaws.{past}

-- the alarms of a chain are in a list down to a link
pub record IsPushed (next : List ℕ) (from link : ℕ) (old new : List ℕ) : Type 0 where
  pub within : link ≤ length next
  pub longer : IsLonger (length next) old new
  pub left : (keys : List (Option ℕ)) (first : List ℕ) (g n : ℕ) → AreChains keys first next → from ≡ slice_index first g → HasKey keys n g → (n < link) ⊎ StandsIn new (length old) (length new) n
  pub own : (keys : List (Option ℕ)) (first : List ℕ) (g e : ℕ) → AreChains keys first next → from ≡ slice_index first g → link ≡ e + 1 → HasKey keys e g

pub pushed_none : (next : List ℕ) (from : ℕ) (old : List ℕ) → from ≤ length next → IsPushed next from from old old
pushed_none next from old within = record {
  within = within;
  longer = record { longer = omega arith; front = λ p low. refl; numbers = λ p low high. absurd (omega (arith, low, high)) };
  left = λ keys first g n a from_is has. let low = a.last g n has in inl (omega (arith, from_is, low));
  own = λ keys first g e a from_is link_is. a.begins g e (sym from_is ∙ link_is);
}

pub pushed_next : (next : List ℕ) (from link at : ℕ) (old new : List ℕ) → GoesDown next → link ≡ at + 1 → IsPushed next from link old new → IsPushed next from (slice_index next at) old (new ++ at ∷ [])
pushed_next next from link at old new down link_is m =
    let within = m.within in
    let low = down at (omega (arith, within, link_is)) in
    let long = length-append new (at ∷ []) in
    let longer = m.longer.longer in
    let last : slice_index (new ++ at ∷ []) (length new + 0) ≡ at = get_or-append-add new (at ∷ []) 0 0 in
    record {
      within = omega (arith, low, within, link_is);
      longer = record {
        longer = omega (arith, longer, long);
        front = λ p less. get_or_append_left new (at ∷ []) 0 p (omega (arith, less, longer)) ∙ m.longer.front p less;
        numbers = λ p from_old less. elim (cases_lt p (length new)) [
          | inl before ↦ (let same : slice_index (new ++ at ∷ []) p ≡ slice_index new p = get_or_append_left new (at ∷ []) 0 p before in let small = m.longer.numbers p from_old before in omega (arith, same, small))
          | inr end ↦ (let p_is : p ≡ length new + 0 = omega (arith, end, less, long) in let same : slice_index (new ++ at ∷ []) p ≡ at = ap (slice_index (new ++ at ∷ [])) p_is ∙ last in omega (arith, same, within, link_is))
        ];
      };
      left = λ keys first g n a from_is has. elim (m.left keys first g n a from_is has) [
        | inl below ↦ elim (cases_lt n at) [
          | inl less ↦ inl (a.before g at n (m.own keys first g at a from_is link_is) has less)
          | inr not_less ↦ inr (record { place = length new + 0; low = omega (arith, longer); high = omega (arith, long); is = last ∙ omega (arith, below, link_is, not_less) })
        ]
        | inr stands ↦ (let high = stands.high in inr (record { place = stands.place; low = stands.low; high = omega (arith, high, long); is = get_or_append_left new (at ∷ []) 0 stands.place high ∙ stands.is }))
      ];
      own = λ keys first g e a from_is to. a.links g at e (m.own keys first g at a from_is link_is) to;
    }

pub pushed_all : (next : List ℕ) (from link : ℕ) (old new : List ℕ) → link ≡ 0 → IsPushed next from link old new → (keys : List (Option ℕ)) (first : List ℕ) (g n : ℕ) → AreChains keys first next → from ≡ slice_index first g → HasKey keys n g → StandsIn new (length old) (length new) n
pushed_all next from link old new none m keys first g n a from_is has = elim (m.left keys first g n a from_is has) [ inl below ↦ absurd (omega (arith, below, none)) | inr stands ↦ stands ]

-- the alarms of some first globals, chain behind chain
pub record IsRanged (first next : List ℕ) (at : ℕ) (starts alarms : List ℕ) : Type 0 where
  pub size : length starts ≡ at + 1
  pub last : slice_index starts at ≡ length alarms
  pub ranges : AreRanges (length next) starts alarms
  pub stand : (keys : List (Option ℕ)) → AreChains keys first next → (g n : ℕ) → g < at → HasKey keys n g → StandsIn alarms (slice_index starts g) (slice_index starts (g + 1)) n

pub ranged_none : (first next : List ℕ) → IsRanged first next 0 (0 ∷ []) []
ranged_none first next = record {
  size = refl;
  last = refl;
  ranges = record {
    rises = λ g less. absurd (omega (arith, less));
    within = λ g less. (let is : g ≡ 0 = omega (arith, less) in rw is (omega arith));
    numbers = λ p less. absurd (omega (arith, less));
  };
  stand = λ keys a g n less has. absurd (omega (arith, less));
}

pub ranged_next : (first next : List ℕ) (at : ℕ) (starts alarms new : List ℕ) (v : ℕ) → v ≡ length new → IsLonger (length next) alarms new
    → ((keys : List (Option ℕ)) (heads : List ℕ) (g n : ℕ) → AreChains keys heads next → slice_index first at ≡ slice_index heads g → HasKey keys n g → StandsIn new (length alarms) (length new) n)
    → IsRanged first next at starts alarms → IsRanged first next (at + 1) (starts ++ v ∷ []) new
ranged_next first next at starts alarms new v v_is longer stands m =
    let size = m.size in
    let last = m.last in
    let long = length-append starts (v ∷ []) in
    let more = longer.longer in
    let front : (g : ℕ) → g < at + 1 → slice_index (starts ++ v ∷ []) g ≡ slice_index starts g = λ g less. get_or_append_left starts (v ∷ []) 0 g (omega (arith, less, size)) in
    let end : slice_index (starts ++ v ∷ []) (length starts + 0) ≡ v = get_or-append-add starts (v ∷ []) 0 0 in
    let at_is : at + 1 ≡ length starts + 0 = omega (arith, size) in
    let top : slice_index (starts ++ v ∷ []) (at + 1) ≡ v = ap (slice_index (starts ++ v ∷ [])) at_is ∙ end in
    let before_top : slice_index (starts ++ v ∷ []) at ≡ length alarms = front at (omega arith) ∙ last in
    record {
      size = omega (arith, long, size);
      last = top ∙ v_is;
      ranges = record {
        rises = λ g less. elim (cases_lt g at) [
          | inl low ↦ (let r = m.ranges.rises g (omega (arith, low, size)) in let a = front g (omega (arith, low)) in let b = front (g + 1) (omega (arith, low)) in omega (arith, r, a, b))
          | inr high ↦ (let is : g ≡ at = omega (arith, high, less, long, size) in rw is (omega (arith, before_top, top, v_is, more)))
        ];
        within = λ g less. elim (cases_lt g (at + 1)) [
          | inl low ↦ (let w = m.ranges.within g (omega (arith, low, size)) in let a = front g low in omega (arith, w, a, more))
          | inr high ↦ (let is : g ≡ at + 1 = omega (arith, high, less, long, size) in rw is (omega (arith, top, v_is)))
        ];
        numbers = λ p less. elim (cases_lt p (length alarms)) [
          | inl low ↦ (let old = m.ranges.numbers p low in let same = longer.front p low in omega (arith, old, same))
          | inr high ↦ longer.numbers p (omega (arith, high)) less
        ];
      };
      stand = λ keys a g n less has. elim (cases_lt g at) [
        | inl low ↦
            let s = m.stand keys a g n low has in
            let f = front g (omega (arith, low)) in
            let h = front (g + 1) (omega (arith, low)) in
            let w = m.ranges.within (g + 1) (omega (arith, low, size)) in
            let s_low = s.low in
            let s_high = s.high in
            record { place = s.place; low = omega (arith, s_low, f); high = omega (arith, s_high, h); is = longer.front s.place (omega (arith, s_high, w)) ∙ s.is }
        | inr high ↦
            let is : g ≡ at = omega (arith, high, less) in
            let s = stands keys first g n a (ap (slice_index first) (sym is)) has in
            let s_low = s.low in
            let s_high = s.high in
            let f : slice_index (starts ++ v ∷ []) g ≡ length alarms = ap (slice_index (starts ++ v ∷ [])) is ∙ before_top in
            let next_is : g + 1 ≡ at + 1 = omega (arith, is) in
            let h : slice_index (starts ++ v ∷ []) (g + 1) ≡ v = ap (slice_index (starts ++ v ∷ [])) next_is ∙ top in
            record { place = s.place; low = omega (arith, s_low, f); high = omega (arith, s_high, h, v_is); is = s.is }
      ];
    }

pub ranged_all : (first next : List ℕ) (starts alarms : List ℕ) (at : ℕ) → length first ≤ at → IsRanged first next at starts alarms → (keys : List (Option ℕ)) → AreChains keys first next → HaveRanges keys starts alarms
ranged_all first next starts alarms at all m keys a =
    let size = m.size in
    let there : (g n : ℕ) → HasKey keys n g → g < at = λ g n has. elim (cases_lt g at) [
      | inl less ↦ less
      | inr beyond ↦ (let none = past first g (omega (arith, all, beyond)) in let top = a.last g n has in absurd (omega (arith, none, top)))
    ] in
    record {
      there = λ g n has. (let t = there g n has in omega (arith, t, size));
      stand = λ g n has. m.stand keys a g n (there g n has) has;
    }
