use Rattle.std.proofs.Common.{List, ℕ, map, ap, ◌∙◌, refl, Bor}
use Rattle.std.proofs.lemmas.List.{map-append}
use Rattle.serve_session.proofs.ReloadLaws.{more_texts, more_names, all_texts, all_names}
use Rattle.serve_session.proofs.reload.named_sources.Goals as goal

abbrev name_of : Bor (List ℕ) × Bor (List ℕ) → List ℕ
name_of s = s.0.now

abbrev text_of : Bor (List ℕ) × Bor (List ℕ) → List ℕ
text_of s = s.1.now

pub loop-size-preserved : goal.loop-size-preserved
loop-size-preserved c =
    let more = c.in_ok-push.ensures.items in
    let old = c.loop-size.sources.items in
    record {
      names = more_names c.args.sizes.now c.loop-size.rest.now c.loop-size.size-index _ c.loop-size-test.true refl c.split_behind.result.1.now c.split_behind.ensures.back
          c.loop-size.listed.now c.first_name.result.1.now _ _ c.first_name.result.0.now _ c.first_name.ensures (ap (map name_of) more ∙ map-append name_of old _) c.loop-size.invariant.names;
      texts = more_texts c.args.sizes.now c.loop-size.rest.now c.loop-size.size-index _ c.loop-size-test.true refl c.split_behind.result.1.now c.split_behind.ensures.back
          _ _ c.split_behind.result.0.now _ c.split_behind.ensures.front (ap (map text_of) more ∙ map-append text_of old _) c.loop-size.invariant.texts;
    }

pub returns-clause-names : goal.returns-clause-names
returns-clause-names c = all_names c.args.sizes.now c.loop-size.rest.now c.loop-size.size-index c.loop-size-test.false _ _ c.loop-size.listed.now c.loop-size.invariant.names

pub returns-clause-texts : goal.returns-clause-texts
returns-clause-texts c = all_texts c.args.sizes.now c.loop-size.rest.now c.loop-size.size-index c.loop-size-test.false _ _ c.loop-size.invariant.texts
