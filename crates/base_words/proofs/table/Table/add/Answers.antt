use Rattle.std.proofs.Common.{◌≡◌, ◌++◌, ◌∷◌, [], false, map, ap, sym, subst, ◌∙◌}
use Rattle.std.proofs.lemmas.List.{map-append}
use Rattle.std.specs.Prelude.{not}
use Rattle.std.specs.List.{list_any}
use Rattle.base_words.specs.Tables.{is_alike, hash_of}
use Rattle.base_words.specs.Found.{AreApart}
use Rattle.base_words.proofs.Apart.{is_there, apart_more}
use Rattle.base_words.proofs.table.Table.add.Goals as goal

pub invariant_of-self-2 : goal.invariant_of-self-2
invariant_of-self-2 c =
    let texts = c.self.inside.texts in
    let name = c.args.name.now in
    let none : list_any (is_alike c.self.inside.letters name) texts ≡ false = is_there c.self.inside.letters texts name c.find.result c.self.invariant.1.0 c.find.ensures ∙ sym c.is_some.ensures ∙ c.if-is_some.false in
    let hash : c.hash_of.result ≡ hash_of name = c.hash_of.ensures ∙ ap hash_of c.as_bytes.ensures.value in (
      c.push_reserved.ensures.hashes ∙ ap (λ hs. hs ++ c.hash_of.result ∷ []) (c.in_ok-make_room.ensures.kept ∙ c.self.invariant.0) ∙ ap (λ h. map hash_of texts ++ h ∷ []) hash ∙ sym (map-append hash_of texts (name ∷ [])) ∙ ap (map hash_of) (sym c.in_ok-place.ensures.ok),
      (
        subst (AreApart c.self.inside.letters) (sym c.in_ok-place.ensures.ok) (apart_more c.self.inside.letters texts name c.self.invariant.1.0 none),
        c.push_reserved.ensures.places ∙ ap (λ ps. ps ++ c.in_ok-place.place ∷ []) (c.in_ok-make_room.ensures.places ∙ c.self.invariant.1.1) ∙ sym c.in_ok-place.ensures.place,
      ),
    )

pub returns-clause-added : goal.returns-clause-added
returns-clause-added c =
    let texts = c.self.inside.texts in
    let name = c.args.name.now in
    let none : list_any (is_alike c.self.inside.letters name) texts ≡ false = is_there c.self.inside.letters texts name c.find.result c.self.invariant.1.0 c.find.ensures ∙ sym c.is_some.ensures ∙ c.if-is_some.false in
    rw (← c.self.view_is) (ap not (sym none))
