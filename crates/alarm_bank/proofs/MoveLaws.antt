-- The alarms that a scan moves: how the list of them grows, and what it makes of the bank and of the changes.
use Rattle.std.proofs.Common.{◌≡◌, All, ◌≢◌, ℕ, zero, suc, ◌+◌, ◌-◌, ◌<◌, ◌≤◌, inl, inr, Bool, true, false, Option, Some, None, List, [], ◌∷◌, ◌++◌, length, drop, slice_get, slice_index_or, arith, refl, ap, sym, ◌∙◌}
use Rattle.std.proofs.lemmas.List.{drop_more, drop_all, append-nil, append_assoc, set_at, get_or_at, length_push, length-append}
use Rattle.std.proofs.lemmas.Bool.Decides.{nat_tests}
use Rattle.std.specs.Prelude.{nat_le}
use Rattle.std.proofs.lemmas.List.Elements.{All-get_or}
use Rattle.std.proofs.lemmas.Option.{slice_get-get_or, get_or_from_slice_get}
use Rattle.alarm_machine.specs.declared.states.Code.{Code}
use Rattle.alarm_machine.specs.Codes.{PlainChange, code_of, same_code, change_between}
use Rattle.alarm_machine.specs.declared.states.AlarmState.{AlarmState}
use Rattle.alarm_machine.specs.declared.states.AlarmState.TheVariants as state
use Rattle.alarm_machine.specs.Transitions.{on_scan}
use Rattle.alarm_machine.specs.Alarms.{PlainAlarm, new_alarm, after_scan, end_of, is_settled}
use Rattle.alarm_bank.specs.declared.rows.Site.{Site}
use Rattle.alarm_bank.specs.Banks.{PlainBank, scan_each, IsSettled}
use Rattle.alarm_bank.specs.Moves.{AreMoved, IsMove, IsMoveAt, UnmarkedStay, NoShelfEnds, put_all, changes_from, change_from, changes_by, listed, AddsMove, AreMovesOf, MovesOn}

no_alarm : PlainAlarm
no_alarm = new_alarm false 0

-- a scan of the alarms from a place on
abbrev scan_rest : ℕ → List Bool → List Bool → ℕ → List PlainAlarm → List PlainAlarm
scan_rest i cs ss t xs = scan_each (drop i cs) (drop i ss) t (drop i xs)

-- none is listed yet
pub moves_first : (cs ss : List Bool) (t : ℕ) (xs : List PlainAlarm) → MovesOn 0 cs ss t xs []
moves_first cs ss t xs rest h = h

-- the alarm at a place and what a scan makes of it stand first from there on
scan_first : (i : ℕ) (cs ss : List Bool) (t : ℕ) (xs : List PlainAlarm) (c s : Bool) (a : PlainAlarm) → i < length xs → length cs ≡ length xs → length ss ≡ length xs
    → slice_get cs i ≡ Some c → slice_get ss i ≡ Some s → a ≡ slice_index_or xs i a
    → scan_rest i cs ss t xs ≡ after_scan c s t a ∷ scan_rest (i + 1) cs ss t xs
scan_first i cs ss t xs c s a h ce se c_is s_is a_is =
    let cf : drop i cs ≡ c ∷ drop (i + 1) cs = rw (get_or_from_slice_get cs i c c c_is) at (drop_more cs i c (omega arith)) in
    let sf : drop i ss ≡ s ∷ drop (i + 1) ss = rw (get_or_from_slice_get ss i s s s_is) at (drop_more ss i s (omega arith)) in
    let af : drop i xs ≡ a ∷ drop (i + 1) xs = rw a_is (drop_more xs i a h) in
    rw (cf, sf, af, scan_each) refl

-- one that rests is passed over
pub rests_next : (i : ℕ) (cs ss : List Bool) (t : ℕ) (xs : List PlainAlarm) (moved : List (ℕ × PlainAlarm)) (c s : Bool) (a : PlainAlarm)
    → i < length xs → length cs ≡ length xs → length ss ≡ length xs → slice_get cs i ≡ Some c → slice_get ss i ≡ Some s → a ≡ slice_index_or xs i a
    → after_scan c s t a ≡ a → MovesOn i cs ss t xs moved → MovesOn (i + 1) cs ss t xs moved
rests_next i cs ss t xs moved c s a h ce se c_is s_is a_is same so_far rest on =
    let af : drop i xs ≡ a ∷ drop (i + 1) xs = rw a_is (drop_more xs i a h) in
    so_far rest (rw (scan_first i cs ss t xs c s a h ce se c_is s_is a_is, af) (inl (same, on)))

-- one that moves is listed
pub moves_next : (i : ℕ) (cs ss : List Bool) (t : ℕ) (xs : List PlainAlarm) (moved : List (ℕ × PlainAlarm)) (c s : Bool) (a new : PlainAlarm)
    → i < length xs → length cs ≡ length xs → length ss ≡ length xs → slice_get cs i ≡ Some c → slice_get ss i ≡ Some s → a ≡ slice_index_or xs i a
    → after_scan c s t a ≢ a → new ≡ after_scan c s t a → MovesOn i cs ss t xs moved → MovesOn (i + 1) cs ss t xs (moved ++ (i, new) ∷ [])
moves_next i cs ss t xs moved c s a new h ce se c_is s_is a_is moves new_is so_far rest on =
    let af : drop i xs ≡ a ∷ drop (i + 1) xs = rw a_is (drop_more xs i a h) in
    rw (append_assoc moved ((i, new) ∷ []) rest)
    (so_far ((i, new) ∷ rest) (rw (scan_first i cs ss t xs c s a h ce se c_is s_is a_is, af) (inr (moves, rest, ap (λ x. (i, x) ∷ rest) new_is, on))))

scan_none : (cs ss : List Bool) (t : ℕ) → scan_each cs ss t [] ≡ []
scan_none [] ss t = refl
scan_none (c ∷ cs) [] t = refl
scan_none (c ∷ cs) (s ∷ ss) t = refl

-- all are listed
pub moves_all : (i : ℕ) (cs ss : List Bool) (t : ℕ) (xs : List PlainAlarm) (moved : List (ℕ × PlainAlarm)) → length xs ≤ i → MovesOn i cs ss t xs moved → AreMoved 0 xs (scan_each cs ss t xs) moved
moves_all i cs ss t xs moved le so_far =
    let none : drop i xs ≡ [] = drop_all i xs le in
    rw (append-nil moved) at (so_far [] (rw (none, scan_none (drop i cs) (drop i ss) t) refl))

-- the list after one alarm more, by what a scan makes of it
pub one_next : (i : ℕ) (cs ss : List Bool) (t : ℕ) (xs : List PlainAlarm) (moved : List (ℕ × PlainAlarm)) (r : Option PlainAlarm)
    → i < length xs → length cs ≡ length xs → length ss ≡ length xs → IsMoveAt i cs ss t xs r → MovesOn i cs ss t xs moved → MovesOn (i + 1) cs ss t xs (moved ++ listed i r)
one_next i cs ss t xs moved r h ce se move so_far =
    let c = slice_index_or cs i false in
    let s = slice_index_or ss i false in
    let a = slice_index_or xs i no_alarm in
    let c_is : slice_get cs i ≡ Some c = slice_get-get_or cs i false (omega arith) in
    let s_is : slice_get ss i ≡ Some s = slice_get-get_or ss i false (omega arith) in
    let a_is : slice_get xs i ≡ Some a = slice_get-get_or xs i no_alarm h in
    by_move r (move c s a c_is s_is a_is) c_is s_is (sym (get_or_from_slice_get xs i a a a_is))
  where
    by_move : (r : Option PlainAlarm) → IsMove (slice_index_or cs i false) (slice_index_or ss i false) t (slice_index_or xs i no_alarm) r → slice_get cs i ≡ Some (slice_index_or cs i false) → slice_get ss i ≡ Some (slice_index_or ss i false)
        → slice_index_or xs i no_alarm ≡ slice_index_or xs i (slice_index_or xs i no_alarm) → MovesOn (i + 1) cs ss t xs (moved ++ listed i r)
    by_move None rests c_is s_is a_is = rw (append-nil moved) (rests_next i cs ss t xs moved _ _ _ h ce se c_is s_is a_is rests so_far)
    by_move (Some b) moves c_is s_is a_is = moves_next i cs ss t xs moved _ _ _ b h ce se c_is s_is a_is moves.1 moves.0 so_far

-- a state that a scan can leave stays in another one with the same condition and suppression, unless a shelf ends
stays : (l : Bool) (x : AlarmState) (c s : Bool) (t : ℕ) → is_settled x c s ≡ true → ((e : ℕ) → end_of x ≡ Some e → t < e) → on_scan l x c s t ≡ x
stays l state.Norm false false t h later = refl
stays l state.Norm true s t h later = absurd (cc h)
stays l state.Norm false true t h later = absurd (cc h)
stays l state.Unack true false t h later = refl
stays l state.Unack false s t h later = absurd (cc h)
stays l state.Unack true true t h later = absurd (cc h)
stays l state.Acked true false t h later = refl
stays l state.Acked false s t h later = absurd (cc h)
stays l state.Acked true true t h later = absurd (cc h)
stays l state.Rtnun false false t h later = refl
stays l state.Rtnun true s t h later = absurd (cc h)
stays l state.Rtnun false true t h later = absurd (cc h)
stays l state.Latun false false t h later = refl
stays l state.Latun true s t h later = absurd (cc h)
stays l state.Latun false true t h later = absurd (cc h)
stays l state.Latak false false t h later = refl
stays l state.Latak true s t h later = absurd (cc h)
stays l state.Latak false true t h later = absurd (cc h)
stays l (state.Shelved e) c s t h later = let before : t < e = later e refl in let test : nat_le e t ≡ false = grind (arith, nat_tests) in rw test refl
stays l state.Suppr c true t h later = refl
stays l state.Suppr c false t h later = absurd (cc h)
stays l state.Oos c s t h later = refl

-- so an alarm rests
settled_rests : (a : PlainAlarm) (t : ℕ) → IsSettled a → ((e : ℕ) → end_of a.state ≡ Some e → t < e) → after_scan a.condition a.suppressed t a ≡ a
settled_rests a t h later = ap (λ (x : AlarmState). record a { state = x }) (stays a.latching a.state a.condition a.suppressed t h later)

-- one that isn't marked rests, where no shelf ends
pub unmarked_next : (marks : List Bool) (i : ℕ) (cs ss : List Bool) (t : ℕ) (xs : List PlainAlarm) (moved : List (ℕ × PlainAlarm))
    → i < length xs → length cs ≡ length xs → length ss ≡ length xs → slice_get marks i ≡ Some false → UnmarkedStay marks cs ss xs → All IsSettled xs → NoShelfEnds t xs
    → MovesOn i cs ss t xs moved → MovesOn (i + 1) cs ss t xs moved
unmarked_next marks i cs ss t xs moved h ce se unmarked stay settled later so_far =
    let a = slice_index_or xs i no_alarm in
    let a_is : slice_get xs i ≡ Some a = slice_get-get_or xs i no_alarm h in
    let same = stay i a unmarked a_is in
    let here : IsSettled a = All-get_or IsSettled xs i no_alarm h settled in
    rests_next i cs ss t xs moved a.condition a.suppressed a h ce se same.0 same.1 (sym (get_or_from_slice_get xs i a a a_is)) (settled_rests a t here (λ e. later i a e a_is)) so_far

-- so are several one after another
pub unmarked_more : (k : ℕ) (marks : List Bool) (i : ℕ) (cs ss : List Bool) (t : ℕ) (xs : List PlainAlarm) (moved : List (ℕ × PlainAlarm))
    → i + k ≤ length xs → length cs ≡ length xs → length ss ≡ length xs → ((n : ℕ) → i ≤ n → n < i + k → slice_get marks n ≡ Some false) → UnmarkedStay marks cs ss xs → All IsSettled xs → NoShelfEnds t xs
    → MovesOn i cs ss t xs moved → MovesOn (i + k) cs ss t xs moved
unmarked_more zero marks i cs ss t xs moved h ce se unmarked stay settled later so_far = let e : i + 0 ≡ i = omega arith in rw e so_far
unmarked_more (suc k) marks i cs ss t xs moved h ce se unmarked stay settled later so_far =
    let one = unmarked_next marks i cs ss t xs moved (omega (arith, h)) ce se (unmarked i (omega arith) (omega arith)) stay settled later so_far in
    let e : i + suc k ≡ i + 1 + k = omega arith in
    rw e (unmarked_more k marks (i + 1) cs ss t xs moved (omega (arith, h)) ce se (λ n low less. unmarked n (omega (arith, low)) (omega (arith, less))) stay settled later one)

-- the same up to a place
pub unmarked_to : (marks : List Bool) (i j : ℕ) (cs ss : List Bool) (t : ℕ) (xs : List PlainAlarm) (moved : List (ℕ × PlainAlarm))
    → i ≤ j → j ≤ length xs → length cs ≡ length xs → length ss ≡ length xs → ((n : ℕ) → i ≤ n → n < j → slice_get marks n ≡ Some false) → UnmarkedStay marks cs ss xs → All IsSettled xs → NoShelfEnds t xs
    → MovesOn i cs ss t xs moved → MovesOn j cs ss t xs moved
unmarked_to marks i j cs ss t xs moved low h ce se unmarked stay settled later so_far =
    let e : i + (j - i) ≡ j = omega (arith, low) in
    rw e at (unmarked_more (j - i) marks i cs ss t xs moved (omega (arith, low, h)) ce se (λ n l less. unmarked n l (omega (arith, less, low))) stay settled later so_far)

-- the alarms that moved, put in their places after others that stand before them, give the new alarms
put_after : (n : ℕ) (before old new : List PlainAlarm) (moved : List (ℕ × PlainAlarm)) → length before ≡ n → AreMoved n old new moved → put_all (before ++ old) moved ≡ before ++ new
put_after n before [] [] moved e h = rw h refl
put_after n before [] (b ∷ new) moved e h = absurd h
put_after n before (a ∷ old) [] moved e h = absurd h
put_after n before (a ∷ old) (b ∷ new) moved e h =
    elim h [
      | inl rests ↦
          let step : put_all ((before ++ a ∷ []) ++ old) moved ≡ (before ++ a ∷ []) ++ new = put_after (n + 1) (before ++ a ∷ []) old new moved (length_push before a ∙ ap (λ k. k + 1) e) rests.1 in
          rw (rests.0) (ap (λ l. put_all l moved) (sym (append_assoc before (a ∷ []) old)) ∙ step ∙ append_assoc before (a ∷ []) new)
      | inr moves ↦
          let step : put_all ((before ++ b ∷ []) ++ old) moves.1 ≡ (before ++ b ∷ []) ++ new = put_after (n + 1) (before ++ b ∷ []) old new moves.1 (length_push before b ∙ ap (λ k. k + 1) e) moves.3 in
          rw (moves.2) (ap (λ l. put_all l moves.1) (set_at before a old b n e ∙ sym (append_assoc before (b ∷ []) old)) ∙ step ∙ append_assoc before (b ∷ []) new)
    ]

-- the alarms that moved, put in their places, give the new alarms
pub put_moved : (old new : List PlainAlarm) (moved : List (ℕ × PlainAlarm)) → AreMoved 0 old new moved → put_all old moved ≡ new
put_moved old new moved h = put_after 0 [] old new moved refl h

-- an alarm that stands after others
get_at : (before old : List PlainAlarm) (a : PlainAlarm) (n : ℕ) → length before ≡ n → slice_get (before ++ a ∷ old) n ≡ Some a
get_at before old a n e =
    let within : n < length (before ++ a ∷ old) = omega (arith, length-append before (a ∷ old), e) in
    slice_get-get_or (before ++ a ∷ old) n a within ∙ ap (λ x. Some x) (get_or_at before a old a n e)

same_code_self : (c : Code) → same_code c c ≡ true
same_code_self c = grind (arith, nat_tests)

-- an alarm that rests has the same code
pub no_change : (a : PlainAlarm) → change_between (code_of a.state) (code_of a.state) ≡ None
no_change a = rw (same_code_self (code_of a.state), change_between) refl

-- a change, if there is one, is put before others
abbrev pub first_change : ℕ → List (ℕ × PlainChange) → Option PlainChange → List (ℕ × PlainChange)
first_change n others None = others
first_change n others (Some change) = (n, change) ∷ others

-- the changes that moved alarms make, which stand after others, are those from the old alarms to the new ones
changes_after : (n : ℕ) (before old new : List PlainAlarm) (moved : List (ℕ × PlainAlarm)) → length before ≡ n → AreMoved n old new moved → changes_by (before ++ old) moved ≡ changes_from n old new
changes_after n before [] [] moved e h = rw h refl
changes_after n before [] (b ∷ new) moved e h = absurd h
changes_after n before (a ∷ old) [] moved e h = absurd h
changes_after n before (a ∷ old) (b ∷ new) moved e h =
    elim h [
      | inl rests ↦
          let step : changes_by ((before ++ a ∷ []) ++ old) moved ≡ changes_from (n + 1) old new = changes_after (n + 1) (before ++ a ∷ []) old new moved (length_push before a ∙ ap (λ k. k + 1) e) rests.1 in
          let on : changes_from n (a ∷ old) (a ∷ new) ≡ changes_from (n + 1) old new = ap (first_change n (changes_from (n + 1) old new)) (no_change a) in
          rw (rests.0) (ap (λ l. changes_by l moved) (sym (append_assoc before (a ∷ []) old)) ∙ step ∙ sym on)
      | inr moves ↦
          let step : changes_by ((before ++ a ∷ []) ++ old) moves.1 ≡ changes_from (n + 1) old new = changes_after (n + 1) (before ++ a ∷ []) old new moves.1 (length_push before a ∙ ap (λ k. k + 1) e) moves.3 in
          let rest : changes_by (before ++ a ∷ old) moves.1 ≡ changes_from (n + 1) old new = ap (λ l. changes_by l moves.1) (sym (append_assoc before (a ∷ []) old)) ∙ step in
          let first : changes_by (before ++ a ∷ old) ((n, b) ∷ moves.1) ≡ first_change n (changes_by (before ++ a ∷ old) moves.1) (change_between (code_of a.state) (code_of b.state)) =
          ap (λ o. first_change n (changes_by (before ++ a ∷ old) moves.1) (change_from o b)) (get_at before old a n e) in
          rw (moves.2) (first ∙ ap (λ l. first_change n l (change_between (code_of a.state) (code_of b.state))) rest)
    ]

-- the changes that moved alarms make are those from the old alarms to the new ones
pub changes_moved : (old new : List PlainAlarm) (moved : List (ℕ × PlainAlarm)) → AreMoved 0 old new moved → changes_by old moved ≡ changes_from 0 old new
changes_moved old new moved h = changes_after 0 [] old new moved refl h

-- the changes of alarms and of others behind them
pub changes_append : (alarms : List PlainAlarm) (moved more : List (ℕ × PlainAlarm)) → changes_by alarms (moved ++ more) ≡ changes_by alarms moved ++ changes_by alarms more
changes_append alarms [] more = refl
changes_append alarms (one ∷ moved) more = change_first one.0 (change_from (slice_get alarms one.0) one.1) _ _ _ (changes_append alarms moved more)
  where
    change_first : (n : ℕ) (o : Option PlainChange) (all some more : List (ℕ × PlainChange)) → all ≡ some ++ more → first_change n all o ≡ first_change n some o ++ more
    change_first n None all some more e = e
    change_first n (Some change) all some more e = ap (λ l. (n, change) ∷ l) e

-- the alarm at a place of a bank
pub found_at : (sites : List Site) (alarms : List PlainAlarm) (moment : ℕ) {bank : PlainBank} (n : ℕ) (a : PlainAlarm)
    → ◌≡◌ {A = PlainBank} (record { sites = sites; alarms = alarms; moment = moment }) bank → a ≡ slice_index_or alarms n a → n < length bank.alarms → slice_get bank.alarms n ≡ Some a
found_at sites alarms moment {bank} n a bank_is a_is within =
    let same : alarms ≡ bank.alarms = ap (λ (b : PlainBank). b.alarms) bank_is in
    rw (← same) (slice_get-get_or alarms n a (rw same within) ∙ ap (λ x. Some x) (sym a_is))

-- an alarm that rests adds nothing
pub adds_nothing : (n : ℕ) (cs ss : List Bool) (t : ℕ) (xs : List PlainAlarm) (moved : List (ℕ × PlainAlarm)) (changes : List (ℕ × PlainChange)) (c s : Bool) (a : PlainAlarm)
    → slice_get cs n ≡ Some c → slice_get ss n ≡ Some s → slice_get xs n ≡ Some a → after_scan c s t a ≡ a → AddsMove n cs ss t xs moved moved changes changes
adds_nothing n cs ss t xs moved changes c s a c_is s_is a_is rests = (None, (λ c' s' a' c'_is s'_is a'_is. cc), sym (append-nil moved), sym (append-nil changes))

-- one that moves adds itself, and the change of its code
pub adds_one : (n : ℕ) (cs ss : List Bool) (t : ℕ) (xs : List PlainAlarm) (moved moved' : List (ℕ × PlainAlarm)) (changes changes' : List (ℕ × PlainChange)) (c s : Bool) (a new : PlainAlarm)
    → slice_get cs n ≡ Some c → slice_get ss n ≡ Some s → slice_get xs n ≡ Some a → new ≡ after_scan c s t a → after_scan c s t a ≢ a
    → moved' ≡ moved ++ (n, new) ∷ [] → changes' ≡ changes ++ first_change n [] (change_between (code_of a.state) (code_of new.state)) → AddsMove n cs ss t xs moved moved' changes changes'
adds_one n cs ss t xs moved moved' changes changes' c s a new c_is s_is a_is new_is moves moved_is changes_are =
    (Some new, (λ c' s' a' c'_is s'_is a'_is. (cc, λ same. moves cc)), moved_is, rw (changes_by, a_is) changes_are)

-- after one alarm more, both lists are those of the alarms so far
abbrev pub Listed : ℕ → List Bool → List Bool → ℕ → List PlainAlarm → List (ℕ × PlainAlarm) → List (ℕ × PlainChange) → Type 0
Listed i cs ss t xs moved changes = record {
  moves : MovesOn i cs ss t xs moved;
  changes : changes ≡ changes_by xs moved;
}

pub move_more : (i : ℕ) (cs ss : List Bool) (t : ℕ) (xs : List PlainAlarm) (moved moved' : List (ℕ × PlainAlarm)) (changes changes' : List (ℕ × PlainChange))
    → i < length xs → length cs ≡ length xs → length ss ≡ length xs → AddsMove i cs ss t xs moved moved' changes changes' → MovesOn i cs ss t xs moved → changes ≡ changes_by xs moved
    → Listed (i + 1) cs ss t xs moved' changes'
move_more i cs ss t xs moved moved' changes changes' h ce se adds so_far changes_are =
    let move = adds.0 in
    record {
      moves = rw (adds.2) (one_next i cs ss t xs moved move h ce se adds.1 so_far);
      changes = adds.3 ∙ ap (λ l. l ++ changes_by xs (listed i move)) changes_are ∙ sym (changes_append xs moved (listed i move)) ∙ ap (changes_by xs) (sym adds.2);
    }

-- once all are looked at, the lists are whole
pub moves_listed : (i : ℕ) (cs ss : List Bool) (t : ℕ) (xs : List PlainAlarm) (moved : List (ℕ × PlainAlarm)) (changes : List (ℕ × PlainChange))
    → length xs ≤ i → MovesOn i cs ss t xs moved → changes ≡ changes_by xs moved → AreMovesOf xs (scan_each cs ss t xs) moved changes
moves_listed i cs ss t xs moved changes le so_far changes_are =
    let all = moves_all i cs ss t xs moved le so_far in
    record { moved = all; changes = changes_are ∙ changes_moved xs (scan_each cs ss t xs) moved all }

-- banks with the same sites, alarms and moment are the same
pub same_bank : (sites sites' : List Site) (alarms alarms' : List PlainAlarm) (moment : ℕ) → sites ≡ sites' → alarms ≡ alarms'
    → ◌≡◌ {A = PlainBank} (record { sites = sites; alarms = alarms; moment = moment }) (record { sites = sites'; alarms = alarms'; moment = moment })
same_bank sites sites' alarms alarms' moment s a = cc
