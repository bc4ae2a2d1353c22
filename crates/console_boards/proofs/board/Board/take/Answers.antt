use Rattle.std.proofs.Common.{◌≡◌, Bool, true, if◌then◌else◌, List, [], ◌∷◌, map, length, All, subst, sym, ◌∙◌, ap, arith, length-append}
use Rattle.alarm_bank.specs.Reloads.{PlainAnnunciator}
use Rattle.console_boards.specs.declared.entry.BoardEntry.{BoardEntry}
use Rattle.console_boards.specs.declared.picture.Picture.{Picture}
use Rattle.console_boards.specs.declared.tally.Tally.{Tally}
use Rattle.console_boards.specs.Stories.{shown, is_lawful}
use Rattle.console_boards.specs.Replies.{after, allows, panel_after_entry, panel_allows_entry}
use Rattle.console_boards.specs.Counts.{count_of, tallied, consoles_in, reloads_in}
use Rattle.console_boards.proofs.Takes.{shown_more, lawful_more, few_each, each_more, reloads_few, reloads_more, reloads_once, same_consoles}
use Rattle.console_boards.proofs.board.Board.take.Goals as goal

pub count_entry-requires : goal.count_entry-requires
count_entry-requires c =
    let s = c.args.self.now in
    few_each s.list s.tallies.items (omega (arith, s.all_counted, c.if-self-lt18446744073709551615.true)) s.each_counted

pub overflow_add-self-then-take : goal.overflow_add-self-then-take
overflow_add-self-then-take c =
    let s = c.args.self.now in
    let few = reloads_few s.list in
    let once = reloads_once c.args.entry.now in
    omega (arith, s.all_counted, s.reloads_counted, c.if-self-lt18446744073709551615.true, c.reloads_as.ensures, few, once)

pub invariant_of-self : goal.invariant_of-self
invariant_of-self c =
    let s = c.args.self.now in
    let e = c.args.entry.now in
    let opening = s.opening.value in
    let more = c.then-self.ensures in
    let may : panel_allows_entry s.panel e ≡ true = sym c.take.ensures.allowed ∙ c.if-take.true in
    let longer = ap (λ (es : List BoardEntry). length es) more in record {
      is_shown = c.take.ensures.taken ∙ (ap (λ (b : Bool). if b then panel_after_entry s.panel e else s.panel) may ∙ (ap (λ (b : PlainAnnunciator). panel_after_entry b e) s.is_shown ∙ (ap (λ (p : Picture). p.panel) (sym (shown_more after opening s.list e)) ∙ ap (λ (es : List BoardEntry). (shown after opening es).panel) (sym more))));
      lawful = subst (λ (es : List BoardEntry). is_lawful after allows opening es ≡ true) (sym more) (lawful_more after allows opening s.list e s.lawful (ap (λ (b : PlainAnnunciator). panel_allows_entry b e) (sym s.is_shown) ∙ may));
      all_counted = omega (arith, s.all_counted, length-append s.list (e ∷ []), longer);
      reloads_counted = let one = reloads_more s.list e in let is = ap reloads_in more in omega (arith, s.reloads_counted, c.reloads_as.ensures, one, is);
      each_counted = subst (λ (ts : List Tally). All (λ t. t.orders ≡ count_of t.console c.then-self.result) ts) (sym c.count_entry.ensures)
          (subst (λ (es : List BoardEntry). All (λ t. t.orders ≡ count_of t.console es) (map (tallied e) s.tallies.items)) (sym more) (each_more s.list e s.tallies.items s.each_counted));
      all_tallied = ap (λ (ts : List Tally). consoles_in ts) c.count_entry.ensures ∙ (same_consoles e s.tallies.items ∙ s.all_tallied);
    }
