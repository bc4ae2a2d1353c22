use Rattle.std.proofs.Common.{◌≡◌, Some, List, drop, fold, ◌∙◌, ap, sym, subst}
use Rattle.console_log.specs.Marks.{PlainMark}
use Rattle.console_boards.specs.declared.board.Board.{Board}
use Rattle.console_boards.specs.declared.entry.BoardEntry.{BoardEntry}
use Rattle.console_boards.specs.declared.entry.Operation.{Operation}
use Rattle.console_boards.specs.Stories.{Begins}
use Rattle.console_boards.specs.Marks.{MarkedStory, operated, log_in}
use Rattle.console_boards.proofs.Laying.{state_of, marked_last, turns_marked}
use Rattle.console_boards.proofs.Prefixes.{begins_self}
use Rattle.console_boards.proofs.Sights.{on_ok}
use Rattle.console_boards.proofs.writer.BoardWriter.shown.Goals as goal

pub publish_as-writer-requires : goal.publish_as-writer-requires
publish_as-writer-requires g c next is =
    let s = c.args.self in
    let old = s.writer.desk.shown.value in
    let w = c.append.new.self in
    let now = w.desk.shown.value in
    let same : now ≡ old = ap (λ d. d.shown.value) c.in-Ok.ensures.desk in
    let pend = c.in-Ok.ensures.pending in
    let all : fold operated (state_of now) (drop w.behind w.log.items) ≡ (old.opening.value, s.log.entries, c.mark.result) =
    ap (λ (b : Board). fold operated (state_of b) (drop w.behind w.log.items)) same
    ∙ (ap (λ (ops : List Operation). fold operated (state_of old) ops) pend ∙ marked_last (state_of old) (drop s.writer.behind s.writer.log.items) old.opening.value s.log.entries old.mark c.mark.result (s.lays c.if-self.false)) in
    turns_marked _ _ now next s.log c.mark.result
    (is ∙ (all ∙ ap (λ (b : Board). (b.opening.value, s.log.entries, c.mark.result)) (sym same)))
    c.mark.ensures
    (ap (λ (b : Board). b.mark.log) same ∙ s.mark_is)
    (subst (λ (b : Board). Begins b.list s.log.entries) (sym same) s.begins)

pub invariant_of-shown : goal.invariant_of-shown
invariant_of-shown g c =
    let s = c.args.self in
    let old = s.writer.desk.shown.value in
    let w = c.append.new.self in
    let now = w.desk.shown.value in
    let same : now ≡ old = ap (λ d. d.shown.value) c.in-Ok.ensures.desk in
    let pend = c.in-Ok.ensures.pending in
    let all : fold operated (state_of now) (drop w.behind w.log.items) ≡ (old.opening.value, s.log.entries, c.mark.result) =
    ap (λ (b : Board). fold operated (state_of b) (drop w.behind w.log.items)) same
    ∙ (ap (λ (ops : List Operation). fold operated (state_of old) ops) pend ∙ marked_last (state_of old) (drop s.writer.behind s.writer.log.items) old.opening.value s.log.entries old.mark c.mark.result (s.lays c.if-self.false)) in
    let r = c.publish_as-writer.result in
    let new = r.0.desk.shown.value in
    let ok = c.publish_as-writer.ensures.succeeds tt in
    let values = on_ok r.1 _ _ ok c.publish_as-writer.ensures.values in
    let then = on_ok r.1 _ _ ok c.publish_as-writer.ensures.rule in
    let is : state_of new ≡ (old.opening.value, s.log.entries, c.mark.result) = values.0 ∙ all in
    let list : new.list ≡ s.log.entries = ap (λ (t : MarkedStory). t.1) is in
    let log : new.mark.log ≡ s.log.log = ap (λ (t : MarkedStory). t.2.log) is ∙ ap (λ (m : PlainMark BoardEntry). m.log) c.mark.ensures in
    record {
      knows = then.2;
      log_is = ap log_in then.4 ∙ ap Some log;
      mark_is = log;
      opens = s.opens;
      begins = subst (λ (es : List BoardEntry). Begins es s.log.entries) (sym list) (begins_self s.log.entries);
      lays = λ free. ap (λ (ops : List Operation). fold operated (state_of new) ops) values.1 ∙ ap (λ (es : List BoardEntry). (new.opening.value, es, new.mark)) list;
    }
