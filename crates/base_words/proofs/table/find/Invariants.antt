use Rattle.std.proofs.Common.{◌≡◌}
use Rattle.std.specs.Prelude.{IfSome}
use Rattle.base_words.specs.Chains.{number_in}
use Rattle.base_words.specs.Texts.{place_at}
use Rattle.base_words.proofs.Finding.{IsSearched, count_of}
use Rattle.base_words.proofs.table.find.Given as goal

abbrev pub invariant-loop-found : goal.invariant-loop-found
invariant-loop-found l = record {
  searched : IsSearched l.letters l.texts l.name (number_in l.found);
  placed : IfSome l.found (λ found. place_at l.chains.places found.number ≡ found.place);
}

abbrev pub decreases-loop-found : goal.decreases-loop-found
decreases-loop-found l = count_of (number_in l.found)
