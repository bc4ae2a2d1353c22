use Rattle.std.proofs.Common.{◌≡◌, ◌∙◌, sym, refl, false, get_or, nat_eq, ℕ}
use Rattle.std.specs.List.{list_any}
use Rattle.std.proofs.lemmas.Bool.{both_ways}
use Rattle.st_blocks.specs.Graphs.{next_of}
use Rattle.st_blocks.proofs.Rows.{row_is}
use Rattle.st_blocks.proofs.Falling.{holds_within}
use Rattle.st_blocks.proofs.holders.holds_itself.Goals as goal

pub returns-else-any_within : goal.returns-else-any_within
returns-else-any_within c =
    let graph = c.args.graph.now in
    let components = c.args.components.now in
    let row : c.deref.result.now ≡ next_of graph c.args.a = c.deref.ensures.value ∙ sym (row_is graph c.args.a c.index-graph-a.result c.requires.within c.index-graph-a.is) in
    let own : c.component_at.result ≡ get_or components c.args.a 0 = c.component_at.ensures in (
      λ t. absurd (both_ways false refl t),
      λ holds.
          sym c.if-any_within.false ∙ c.any_within.ensures ∙ (λ i. list_any (λ (w : ℕ). nat_eq (get_or components w 0) (own i)) (row i)) ∙ holds_within graph components c.requires.falling c.args.a holds,
    )
