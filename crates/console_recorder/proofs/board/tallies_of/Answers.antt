use Rattle.std.proofs.Common.{◌≡◌, ℕ, ◌+◌, List, [], ◌∷◌, ◌++◌, take, refl, sym, ◌∙◌, ap, arith}
use Rattle.std.proofs.lemmas.Grind.{common_steps}
use Rattle.std.proofs.lemmas.List.{map_more, map-append}
use Rattle.std.proofs.lemmas.List.Elements.{All-same, All-push}
use Rattle.plant_file.specs.declared.console.ListedConsole.{ListedConsole}
use Rattle.console_boards.specs.declared.tally.Tally.{Tally}
use Rattle.console_boards.specs.Counts.{consoles_in}
use Rattle.console_recorder.specs.Entries.{counted_consoles}
use Rattle.console_recorder.proofs.board.tallies_of.Goals as goal

pub loop-console-preserved : goal.loop-console-preserved
loop-console-preserved c =
    let row = c.console-item.result in
    let rows = c.args.consoles.now in
    let i = c.loop-console.console-index in
    let tallies = c.loop-console.tallies.items in
    let none : Tally = record { console = row.number; orders = 0 } in
    let more : counted_consoles (take (i + 1) rows) ≡ counted_consoles (take i rows) ++ row.number ∷ [] =
    map_more (λ (x : ListedConsole). x.number) rows i row c.loop-console-test.true ∙ ap (λ (x : ListedConsole). counted_consoles (take i rows) ++ x.number ∷ []) (sym c.console-item.is) in (
      All-same (λ (t : Tally). t.orders ≡ 0) _ (tallies ++ none ∷ []) c.in_ok-push.ensures.items (All-push (λ (t : Tally). t.orders ≡ 0) tallies none c.loop-console.invariant.0 refl),
      ap (λ (ts : List Tally). consoles_in ts) c.in_ok-push.ensures.items
          ∙ (map-append (λ (t : Tally). t.console) tallies (none ∷ []) ∙ (ap (λ (ns : List ℕ). ns ++ row.number ∷ []) c.loop-console.invariant.1 ∙ sym more)),
    )

pub returns-clause-all : goal.returns-clause-all
returns-clause-all c = grind (arith, common_steps)
