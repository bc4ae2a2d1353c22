-- What a board is after the operations that wait for it.
use Rattle.std.proofs.Common.{◌≡◌, ℕ, ◌+◌, ◌<◌, ◌^◌, true, List, [], ◌∷◌, ◌++◌, length, fold, refl, sym, ◌∙◌, ap, subst, arith}
use Rattle.left_right.specs.Register.{TurnsAt}
use Rattle.console_log.specs.Marks.{PlainMark}
use Rattle.console_boards.specs.declared.board.Board.{Board}
use Rattle.console_boards.specs.declared.entry.BoardEntry.{BoardEntry}
use Rattle.console_boards.specs.declared.entry.Operation.{Operation}
use Rattle.console_boards.specs.declared.entry.Operation.TheVariants as operation
use Rattle.console_boards.specs.declared.picture.Picture.{Picture}
use Rattle.console_boards.specs.declared.view.View.{View}
use Rattle.console_boards.specs.Stories.{Story, shown, Begins, Continues}
use Rattle.console_boards.specs.Replies.{after, allows}
use Rattle.console_boards.specs.Marks.{MarkedStory, operated}
use Rattle.console_boards.specs.Readers.{story_of}
use Rattle.console_boards.proofs.Prefixes.{begins_prefix}
use Rattle.console_boards.proofs.Sights.{Rule, Look, turns, continues_same}
use Rattle.console_boards.proofs.Takes.{grown_on}

folded_more : (s : MarkedStory) (ops : List Operation) (op : Operation) → fold operated s (ops ++ op ∷ []) ≡ operated (fold operated s ops) op
folded_more s [] op = refl
folded_more s (x ∷ ops) op = folded_more (operated s x) ops op

-- one more entry waits, which may come
pub laid_more : (s : MarkedStory) (ops : List Operation) (opening : Picture) (es : List BoardEntry) (m : PlainMark BoardEntry) (e : BoardEntry) → fold operated s ops ≡ (opening, es, m)
    → length es + 1 < 2 ^ 64 → allows (shown after opening es) e ≡ true → fold operated s (ops ++ operation.Entry e ∷ []) ≡ (opening, es ++ e ∷ [], m)
laid_more s ops opening es m e is few may =
    let grows = grown_on after allows (opening, es) e (omega (arith, few)) may in
    folded_more s ops (operation.Entry e) ∙ (ap (λ (t : MarkedStory). operated t (operation.Entry e)) is ∙ ap (λ (g : Story Picture BoardEntry). (g.0, g.1, m)) (sym grows))

-- a mark waits
pub marked_last : (s : MarkedStory) (ops : List Operation) (opening : Picture) (es : List BoardEntry) (m n : PlainMark BoardEntry) → fold operated s ops ≡ (opening, es, m)
    → fold operated s (ops ++ operation.Mark n ∷ []) ≡ (opening, es, n)
marked_last s ops opening es m n is = folded_more s ops (operation.Mark n) ∙ ap (λ (t : MarkedStory). operated t (operation.Mark n)) is

abbrev pub mark_of : Board → PlainMark BoardEntry
mark_of b = b.mark

abbrev pub state_of : Board → MarkedStory
state_of b = (b.opening.value, b.list, b.mark)

-- a board that has just been marked may follow
pub turns_marked : (seat : ℕ) (v : View) (now next : Board) (l m : PlainMark BoardEntry) → state_of next ≡ (now.opening.value, l.entries, m) → m ≡ l → now.mark.log ≡ l.log → Begins now.list l.entries
    → TurnsAt (Rule story_of mark_of) seat v now next (Look story_of mark_of)
turns_marked seat v now next l m is same log begins =
    let rest = begins_prefix now.list l.entries begins in
    let list : next.list ≡ l.entries = ap (λ (t : MarkedStory). t.1) is in
    let marked : next.mark ≡ l = ap (λ (t : MarkedStory). t.2) is ∙ same in
    turns story_of mark_of seat v now next
    (ap (λ (t : MarkedStory). t.0) is, (rest.0, rest.1 ∙ sym list))
    (ap (λ (x : PlainMark BoardEntry). x.log) marked ∙ sym log)
    (λ whole. ap (λ (x : PlainMark BoardEntry). x.entries) marked ∙ sym list)

-- and so may one that is the same
pub turns_same : (seat : ℕ) (v : View) (now next : Board) → state_of next ≡ state_of now → TurnsAt (Rule story_of mark_of) seat v now next (Look story_of mark_of)
turns_same seat v now next is =
    let list : next.list ≡ now.list = ap (λ (t : MarkedStory). t.1) is in
    let marked : next.mark ≡ now.mark = ap (λ (t : MarkedStory). t.2) is in
    turns story_of mark_of seat v now next
    (subst (λ (s : Story Picture BoardEntry). Continues (story_of now) s) (ap (λ (t : MarkedStory). (t.0, t.1)) (sym is)) (continues_same (story_of now)))
    (ap (λ (x : PlainMark BoardEntry). x.log) marked)
    (λ whole. ap (λ (x : PlainMark BoardEntry). x.entries) marked ∙ (whole ∙ sym list))
