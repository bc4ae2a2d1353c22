use Rattle.std.proofs.Common.{◌≡◌, true, false, [], length, sym, ap, subst, ◌∙◌}
use Rattle.std.proofs.lemmas.List.{length-map}
use Rattle.std.proofs.lemmas.Option.{get_or_from_slice_get}
use Rattle.std.specs.Prelude.{slice_index_or}
use Rattle.base_words.specs.Tables.{is_alike, hash_of}
use Rattle.base_words.specs.Chains.{IsLast, number_in}
use Rattle.base_words.proofs.Finding.{IsSearched, searched_first, searched_next, found_some}
use Rattle.base_words.proofs.table.find.Goals as goal

pub loop-found-init : goal.loop-found-init
loop-found-init c =
    let hashes = c.args.chains.now.hashes in
    record {
      searched = searched_first c.args.letters c.args.texts.now hashes c.args.name.now (number_in c.last-found.result) c.requires.hashes (ap length c.requires.hashes ∙ length-map c.args.texts.now hash_of)
          (subst (λ h. IsLast hashes (length hashes) h (number_in c.last-found.result)) (c.hash_of.ensures ∙ ap hash_of c.as_bytes.ensures.value) c.last-found.ensures.last);
      placed = c.last-found.ensures.place;
    }

pub returns-then-is_alike : goal.returns-then-is_alike
returns-then-is_alike c =
    let name : c.as_bytes-in-Some.result.now ≡ c.args.name.now = c.as_bytes-in-Some.ensures.value in
    let own : c.as_bytes-in-Some-2.result.now ≡ slice_index_or c.args.texts.now c.in-Some.placed.number [] = c.as_bytes-in-Some-2.ensures.value ∙ sym (get_or_from_slice_get c.args.texts.now c.in-Some.placed.number c.cut.result.now [] c.cut.ensures) in
    let alike : is_alike c.args.letters c.args.name.now (slice_index_or c.args.texts.now c.in-Some.placed.number []) ≡ true = ap (λ a. is_alike c.args.letters a (slice_index_or c.args.texts.now c.in-Some.placed.number [])) (sym name) ∙ ap (is_alike c.args.letters c.as_bytes-in-Some.result.now) (sym own) ∙ sym c.is_alike.ensures ∙ c.if-is_alike.true in
    found_some c.args.letters c.args.texts.now c.args.name.now c.in-Some.placed.number (subst (λ f. IsSearched c.args.letters c.args.texts.now c.args.name.now (number_in f)) c.in-Some.is c.loop-found.invariant.searched) alike

pub loop-found-preserved : goal.loop-found-preserved
loop-found-preserved c =
    let name : c.as_bytes-in-Some.result.now ≡ c.args.name.now = c.as_bytes-in-Some.ensures.value in
    let own : c.as_bytes-in-Some-2.result.now ≡ slice_index_or c.args.texts.now c.in-Some.placed.number [] = c.as_bytes-in-Some-2.ensures.value ∙ sym (get_or_from_slice_get c.args.texts.now c.in-Some.placed.number c.cut.result.now [] c.cut.ensures) in
    let isnt : is_alike c.args.letters c.args.name.now (slice_index_or c.args.texts.now c.in-Some.placed.number []) ≡ false = ap (λ a. is_alike c.args.letters a (slice_index_or c.args.texts.now c.in-Some.placed.number [])) (sym name) ∙ ap (is_alike c.args.letters c.as_bytes-in-Some.result.now) (sym own) ∙ sym c.is_alike.ensures ∙ c.if-is_alike.false in
    record {
      searched = searched_next c.args.letters c.args.texts.now c.args.chains.now.hashes c.args.name.now c.in-Some.placed.number (number_in c.before-found.result) c.requires.hashes (subst (λ f. IsSearched c.args.letters c.args.texts.now c.args.name.now (number_in f)) c.in-Some.is c.loop-found.invariant.searched) isnt c.before-found.ensures.last;
      placed = c.before-found.ensures.place;
    }
