-- A reply that a board allows is the one of the table.
use Rattle.std.proofs.Common.{◌≡◌, ◌≢◌, ℕ, ◌==◌, Bool, true, false, ◌||◌, if◌then◌else◌, Option, Some, None, List, [], ◌∷◌, ◌++◌, refl, sym, ◌∙◌, ap, eqb-true}
use Rattle.std.proofs.lemmas.Bool.{and_parts}
use Rattle.std.specs.Prelude.{Result, Ok, Err}
use Rattle.alarm_machine.specs.declared.states.Code.{Code}
use Rattle.alarm_machine.specs.declared.states.Code.TheVariants as code
use Rattle.alarm_machine.specs.declared.states.OrderFault.{OrderFault}
use Rattle.alarm_machine.specs.declared.states.OrderFault.TheVariants as fault
use Rattle.alarm_machine.specs.declared.states.Verb.{Verb}
use Rattle.alarm_machine.specs.declared.states.Verb.TheVariants as verb
use Rattle.alarm_machine.specs.Codes.{PlainChange, rank, same_code}
use Rattle.alarm_bank.specs.Banks.{PlainBank, reply_of}
use Rattle.console_boards.specs.declared.entry.AnsweredOrder.{AnsweredOrder}
use Rattle.console_boards.specs.declared.entry.BoardEntry.{BoardEntry}
use Rattle.console_boards.specs.declared.entry.BoardEntry.TheVariants as entry
use Rattle.console_boards.specs.declared.picture.Picture.{Picture}
use Rattle.console_boards.specs.Stories.{shown, is_lawful}
use Rattle.alarm_machine.specs.Orders.{is_restart}
use Rattle.console_boards.specs.Replies.{fault_number, same_change, same_reply, is_outside, IsAsked, may_answer, after, allows}

-- the code of a place in the list of codes
abbrev code_by : ℕ → Code
code_by n =
    if n == 0 then code.Norm
    else if n == 1 then code.Unack
    else if n == 2 then code.Acked
    else if n == 3 then code.Rtnun
    else if n == 4 then code.Latun
    else if n == 5 then code.Latak
    else if n == 6 then code.Shelved
    else if n == 7 then code.Suppr
    else code.Oos

code_is : (c : Code) → code_by (rank c) ≡ c
code_is code.Norm = refl
code_is code.Unack = refl
code_is code.Acked = refl
code_is code.Rtnun = refl
code_is code.Latun = refl
code_is code.Latak = refl
code_is code.Shelved = refl
code_is code.Suppr = refl
code_is code.Oos = refl

codes_same : (a b : Code) → same_code a b ≡ true → a ≡ b
codes_same a b h = sym (code_is a) ∙ (ap code_by (eqb-true (rank a) (rank b) h) ∙ code_is b)

-- the refusal of a number
abbrev fault_by : ℕ → OrderFault
fault_by n =
    if n == 1 then fault.UnknownTarget
    else if n == 2 then fault.NotYourArea
    else if n == 3 then fault.WrongState
    else if n == 4 then fault.ShelveTime
    else if n == 5 then fault.NotFaulted
    else fault.OldPlant

fault_is : (e : OrderFault) → fault_by (fault_number e) ≡ e
fault_is fault.UnknownTarget = refl
fault_is fault.NotYourArea = refl
fault_is fault.WrongState = refl
fault_is fault.ShelveTime = refl
fault_is fault.NotFaulted = refl
fault_is fault.OldPlant = refl

faults_same : (e f : OrderFault) → (fault_number e == fault_number f) ≡ true → e ≡ f
faults_same e f h = sym (fault_is e) ∙ (ap fault_by (eqb-true (fault_number e) (fault_number f) h) ∙ fault_is f)

changes_same : (c d : Option PlainChange) → same_change c d ≡ true → c ≡ d
changes_same None None h = refl
changes_same None (Some d) h = absurd (cc (h))
changes_same (Some c) None h = absurd (cc (h))
changes_same (Some c) (Some d) h =
    let both = and_parts (same_code c.from d.from) (same_code c.to d.to) h in
    λ i. Some (record { from = codes_same c.from d.from both.0 i; to = codes_same c.to d.to both.1 i })

replies_same : (x y : Result (Option PlainChange) OrderFault) → same_reply x y ≡ true → x ≡ y
replies_same (Ok c) (Ok d) h = ap (λ (x : Option PlainChange). Ok x) (changes_same c d h)
replies_same (Ok c) (Err f) h = absurd (cc (h))
replies_same (Err e) (Ok d) h = absurd (cc (h))
replies_same (Err e) (Err f) h = ap (λ (x : OrderFault). Err x) (faults_same e f h)

third : (a b c : Bool) → a ≡ false → b ≡ false → (a || (b || c)) ≡ true → c ≡ true
third true b c x y h = absurd (cc (x))
third false true c x y h = absurd (cc (y))
third false false c x y h = h

no_restart : (v : Verb) → v ≢ verb.Restart → is_restart v ≡ false
no_restart verb.Ack h = refl
no_restart verb.Reset h = refl
no_restart (verb.Shelve d) h = refl
no_restart verb.Unshelve h = refl
no_restart verb.Remove h = refl
no_restart verb.PutBack h = refl
no_restart verb.Restart h = absurd (h refl)

inside : (r : Result (Option PlainChange) OrderFault) → r ≢ Err fault.UnknownTarget → r ≢ Err fault.NotYourArea → r ≢ Err fault.OldPlant → is_outside r ≡ false
inside (Ok c) h k o = refl
inside (Err fault.UnknownTarget) h k o = absurd (h refl)
inside (Err fault.NotYourArea) h k o = absurd (k refl)
inside (Err fault.WrongState) h k o = refl
inside (Err fault.ShelveTime) h k o = refl
inside (Err fault.NotFaulted) h k o = refl
inside (Err fault.OldPlant) h k o = absurd (o refl)

-- whether the reply is the table's for the order's alarm
abbrev fits : PlainBank → AnsweredOrder → Option ℕ → Bool
fits b a target = elim target [ None ↦ false | Some n ↦ same_reply a.reply (reply_of n a.order.verb b) ]

-- an entry of a lawful list might come after those before it
lawful_at : (p : Picture) (es : List BoardEntry) (e : BoardEntry) (fs : List BoardEntry) → is_lawful after allows p (es ++ e ∷ fs) ≡ true → allows (shown after p es) e ≡ true
lawful_at p [] e fs h = (and_parts (allows p e) (is_lawful after allows (after p e) fs) h).0
lawful_at p (x ∷ es) e fs h = lawful_at (after p x) es e fs (and_parts (allows p x) (is_lawful after allows (after p x) (es ++ e ∷ fs)) h).1

-- of an order for which an alarm is asked this is left of what it may be replied
asked_fits : (b : PlainBank) (a : AnsweredOrder) → may_answer b a ≡ true → IsAsked a → fits b a a.order.target ≡ true
asked_fits b a may asked = third (is_restart a.order.verb) (is_outside a.reply) (fits b a a.order.target) (no_restart a.order.verb asked.0) (inside a.reply asked.1.0 asked.1.1 asked.1.2) may

pub reply_is : (p : Picture) (console alarm : ℕ) (a : AnsweredOrder) (es fs : List BoardEntry) → is_lawful after allows p (es ++ entry.Order console a ∷ fs) ≡ true → IsAsked a → a.order.target ≡ Some alarm
    → a.reply ≡ reply_of alarm a.order.verb (shown after p es).panel.bank
reply_is p console alarm a es fs h asked target =
    let now = (shown after p es).panel.bank in
    replies_same a.reply (reply_of alarm a.order.verb now) (sym (ap (fits now a) target) ∙ asked_fits now a (lawful_at p es (entry.Order console a) fs h) asked)

pub has_target : (p : Picture) (console : ℕ) (a : AnsweredOrder) (es fs : List BoardEntry) → is_lawful after allows p (es ++ entry.Order console a ∷ fs) ≡ true → IsAsked a → a.order.target ≡ None → ⊥
has_target p console a es fs h asked none =
    let now = (shown after p es).panel.bank in
    let no : false ≡ true = sym (ap (fits now a) none) ∙ asked_fits now a (lawful_at p es (entry.Order console a) fs h) asked in
    absurd (cc (no))
