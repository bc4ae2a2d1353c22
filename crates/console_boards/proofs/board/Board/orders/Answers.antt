use Rattle.std.proofs.Common.{ℕ, ◌==◌, List, Option, sym, ◌∙◌, ap}
use Rattle.std.specs.List.{find}
use Rattle.console_boards.specs.declared.tally.Tally.{Tally}
use Rattle.console_boards.specs.Counts.{orders_counted}
use Rattle.console_boards.proofs.Takes.{orders_in, tally_counts}
use Rattle.console_boards.proofs.board.Board.orders.Goals as goal

pub returns-in_err-tally_of : goal.returns-in_err-tally_of
returns-in_err-tally_of c =
    let s = c.args.self.now in
    let n = c.args.console in
    c.from_residual.ensures
    ∙ (ap (λ (t : Option Tally). orders_in t) (sym c.in_err-tally_of.was)
    ∙ (ap (λ (t : Option Tally). orders_in t) c.tally_of.ensures
    ∙ (ap (λ (ts : List Tally). orders_in (find (λ t. t.console == n) ts)) c.as_slice.ensures.value
    ∙ (tally_counts n s.list s.tallies.items s.each_counted
    ∙ ap (λ (consoles : List ℕ). orders_counted n consoles s.list) s.all_tallied))))

pub returns : goal.returns
returns c =
    let s = c.args.self.now in
    let n = c.args.console in
    ap (λ (t : Option Tally). orders_in t) (sym c.in_ok-tally_of.was)
    ∙ (ap (λ (t : Option Tally). orders_in t) c.tally_of.ensures
    ∙ (ap (λ (ts : List Tally). orders_in (find (λ t. t.console == n) ts)) c.as_slice.ensures.value
    ∙ (tally_counts n s.list s.tallies.items s.each_counted
    ∙ ap (λ (consoles : List ℕ). orders_counted n consoles s.list) s.all_tallied)))
