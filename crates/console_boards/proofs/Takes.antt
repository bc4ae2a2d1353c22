-- One more entry of a board's list.
use Rattle.std.proofs.Common.{◌≡◌, ℕ, zero, suc, ◌+◌, ◌<◌, ◌≤◌, ◌^◌, ◌==◌, Bool, true, false, ◌&&◌, if◌then◌else◌, nat_lt, ◌||◌, cond, Option, Some, None, List, [], ◌∷◌, ◌++◌, map, length, All, slice_index_or, refl, sym, ◌∙◌, ap, eqb-true, arith}
use Rattle.std.specs.List.{find}
use Rattle.std.proofs.lemmas.Bool.{lt-ltb, le-ltb}
use Rattle.std.proofs.lemmas.List.Elements.{All-map, All-head, All-tail}
use Rattle.alarm_bank.specs.declared.event.BankEvent.{BankEvent}
use Rattle.alarm_bank.specs.declared.rows.NewAlarm.{NewAlarm}
use Rattle.console_boards.specs.declared.entry.BoardEntry.{BoardEntry}
use Rattle.console_boards.specs.declared.entry.BoardEntry.TheVariants as entry
use Rattle.console_boards.specs.declared.tally.Tally.{Tally}
use Rattle.console_boards.specs.Stories.{Story, shown, is_lawful, grown}
use Rattle.console_boards.specs.Counts.{counts_as, count_of, tallied, consoles_in, is_counted, orders_counted, reloads_as, reloads_in}

both : (a b : Bool) → a ≡ true → b ≡ true → a && b ≡ true
both a b h k = ap (λ (c : Bool). c && b) h ∙ k

not_second : (a b : Bool) → b ≡ false → a && b ≡ false
not_second true b k = k
not_second false b k = refl

on_second : (a b c : Bool) → (b ≡ true → c ≡ true) → a && b ≡ true → a && c ≡ true
on_second true b c f h = f h
on_second false b c f h = h

module _ {P E : Type 0} where
  pub shown_more : (after : P → E → P) (p : P) (es : List E) (e : E) → shown after p (es ++ e ∷ []) ≡ after (shown after p es) e
  shown_more after p [] e = refl
  shown_more after p (x ∷ es) e = shown_more after (after p x) es e

  pub lawful_more : (after : P → E → P) (allows : P → E → Bool) (p : P) (es : List E) (e : E) → is_lawful after allows p es ≡ true → allows (shown after p es) e ≡ true → is_lawful after allows p (es ++ e ∷ []) ≡ true
  lawful_more after allows p [] e h k = ap (λ (b : Bool). b && true) k
  lawful_more after allows p (x ∷ es) e h k =
      on_second (allows p x) (is_lawful after allows (after p x) es) (is_lawful after allows (after p x) (es ++ e ∷ [])) (λ more. lawful_more after allows (after p x) es e more k) h

  -- the entry comes
  pub grown_on : (after : P → E → P) (allows : P → E → Bool) (s : Story P E) (e : E) → length s.1 < 18446744073709551615 → allows (shown after s.0 s.1) e ≡ true → (s.0, s.1 ++ e ∷ []) ≡ grown after allows s e
  grown_on after allows s e few may =
      sym (ap (λ (b : Bool). if b then (s.0, s.1 ++ e ∷ []) else s) (both (nat_lt (length s.1) 18446744073709551615) (allows (shown after s.0 s.1) e) (lt-ltb (length s.1) 18446744073709551615 few) may))

  -- it doesn't, for the picture doesn't allow it, or for there are too many
  pub grown_not : (after : P → E → P) (allows : P → E → Bool) (s : Story P E) (e : E) → allows (shown after s.0 s.1) e ≡ false → s ≡ grown after allows s e
  grown_not after allows s e isnt =
      sym (ap (λ (b : Bool). if b then (s.0, s.1 ++ e ∷ []) else s) (not_second (nat_lt (length s.1) 18446744073709551615) (allows (shown after s.0 s.1) e) isnt))

  pub grown_full : (after : P → E → P) (allows : P → E → Bool) (s : Story P E) (e : E) → 18446744073709551615 ≤ length s.1 → s ≡ grown after allows s e
  grown_full after allows s e many =
      sym (ap (λ (b : Bool). if b && allows (shown after s.0 s.1) e then (s.0, s.1 ++ e ∷ []) else s) (le-ltb (length s.1) 18446744073709551615 many))

at_most_one : (b : Bool) → (if b then 1 else 0) ≤ 1
at_most_one true = omega arith
at_most_one false = omega arith

pub count_more : (console : ℕ) (es : List BoardEntry) (e : BoardEntry) → count_of console (es ++ e ∷ []) ≡ counts_as console e + count_of console es
count_more console [] e = refl
count_more console (x ∷ es) e = let h = count_more console es e in omega arith

counts_once : (console : ℕ) (e : BoardEntry) → counts_as console e ≤ 1
counts_once console (entry.Scan s) = omega arith
counts_once console (entry.Reload news) = omega arith
counts_once console (entry.Order n a) = at_most_one (console == n)

pub count_few : (console : ℕ) (es : List BoardEntry) → count_of console es ≤ length es
count_few console [] = omega arith
count_few console (e ∷ es) = let h = count_few console es in let k = counts_once console e in omega arith

-- each tally has room for one order more
pub few_each : (es : List BoardEntry) (ts : List Tally) → length es < 18446744073709551615 → All (λ t. t.orders ≡ count_of t.console es) ts → All (λ t. t.orders + 1 < 2 ^ 64) ts
few_each es ts few h k d lt = let a = h k d lt in let b = count_few (slice_index_or ts k d).console es in omega arith

-- a tally that is right stays so
one_more : (es : List BoardEntry) (e : BoardEntry) (t : Tally) → t.orders ≡ count_of t.console es → (tallied e t).orders ≡ count_of (tallied e t).console (es ++ e ∷ [])
one_more es (entry.Scan s) t h = let k : count_of t.console (es ++ entry.Scan s ∷ []) ≡ 0 + count_of t.console es = count_more t.console es (entry.Scan s) in omega (arith, h, k)
one_more es (entry.Reload news) t h = let k : count_of t.console (es ++ entry.Reload news ∷ []) ≡ 0 + count_of t.console es = count_more t.console es (entry.Reload news) in omega (arith, h, k)
one_more es (entry.Order n a) t h = ap (λ (k : ℕ). (if t.console == n then 1 else 0) + k) h ∙ sym (count_more t.console es (entry.Order n a))

-- each tally is right after one entry more
pub each_more : (es : List BoardEntry) (e : BoardEntry) (ts : List Tally) → All (λ t. t.orders ≡ count_of t.console es) ts → All (λ t. t.orders ≡ count_of t.console (es ++ e ∷ [])) (map (tallied e) ts)
each_more es e ts h = All-map (λ t. t.orders ≡ count_of t.console (es ++ e ∷ [])) (tallied e) ts (λ k d lt. one_more es e (slice_index_or ts k d) (h k d lt))

-- one more entry among the reloads, and there are no more of these than entries
pub reloads_more : (es : List BoardEntry) (e : BoardEntry) → reloads_in (es ++ e ∷ []) ≡ reloads_as e + reloads_in es
reloads_more [] e = refl
reloads_more (x ∷ es) e = let h = reloads_more es e in omega (arith, h)

pub reloads_once : (e : BoardEntry) → reloads_as e ≤ 1
reloads_once (entry.Scan s) = omega arith
reloads_once (entry.Order n a) = omega arith
reloads_once (entry.Reload news) = omega arith

pub reloads_few : (es : List BoardEntry) → reloads_in es ≤ length es
reloads_few [] = omega arith
reloads_few (e ∷ es) = let h = reloads_few es in let k = reloads_once e in omega (arith, h, k)

-- a reload counts as no order
pub none_by_reload : (news : List NewAlarm) (ts : List Tally) → ts ≡ map (tallied (entry.Reload news)) ts
none_by_reload news [] = refl
none_by_reload news (t ∷ ts) = ap (λ (l : List Tally). t ∷ l) (none_by_reload news ts)

-- a scan counts as no order
pub none_more : (s : BankEvent) (ts : List Tally) → ts ≡ map (tallied (entry.Scan s)) ts
none_more s [] = refl
none_more s (t ∷ ts) = ap (λ (l : List Tally). t ∷ l) (none_more s ts)

-- an entry leaves the consoles that have a tally
same_console : (e : BoardEntry) (t : Tally) → (tallied e t).console ≡ t.console
same_console (entry.Scan s) t = refl
same_console (entry.Order n a) t = refl
same_console (entry.Reload news) t = refl

pub same_consoles : (e : BoardEntry) (ts : List Tally) → consoles_in (map (tallied e) ts) ≡ consoles_in ts
same_consoles e [] = refl
same_consoles e (t ∷ ts) = ap (λ (n : ℕ). n ∷ consoles_in (map (tallied e) ts)) (same_console e t) ∙ ap (λ (ns : List ℕ). t.console ∷ ns) (same_consoles e ts)

-- what a tally says, if there is one
abbrev pub orders_in : Option Tally → Option ℕ
orders_in None = None
orders_in (Some t) = Some t.orders

first_counted : (b : Bool) (console : ℕ) (es : List BoardEntry) (t : Tally) (ts : List Tally) → (t.console == console) ≡ b → t.orders ≡ count_of t.console es
    → orders_in (find (λ x. x.console == console) ts) ≡ orders_counted console (consoles_in ts) es
    → orders_in (cond b (Some t) (find (λ x. x.console == console) ts)) ≡ (if b || is_counted console (consoles_in ts) then Some (count_of console es) else None)
first_counted true console es t ts is h rest = ap (λ (n : ℕ). Some n) (h ∙ ap (λ (n : ℕ). count_of n es) (eqb-true t.console console is))
first_counted false console es t ts is h rest = rest

-- the first tally of a console says how many of its orders there are, and there is one where it is counted
pub tally_counts : (console : ℕ) (es : List BoardEntry) (ts : List Tally) → All (λ t. t.orders ≡ count_of t.console es) ts → orders_in (find (λ t. t.console == console) ts) ≡ orders_counted console (consoles_in ts) es
tally_counts console es [] h = refl
tally_counts console es (t ∷ ts) h =
    first_counted (t.console == console) console es t ts refl (All-head (λ x. x.orders ≡ count_of x.console es) t ts h) (tally_counts console es ts (All-tail (λ x. x.orders ≡ count_of x.console es) t ts h))

-- an element that is there doesn't depend on what stands in for one that isn't
pub any_default : {X : Type 0} (xs : List X) (i : ℕ) (d e : X) → i < length xs → slice_index_or xs i d ≡ slice_index_or xs i e
any_default [] i d e lt = absurd (omega arith)
any_default (x ∷ xs) zero d e lt = refl
any_default (x ∷ xs) (suc i) d e lt = any_default xs i d e (omega arith)
