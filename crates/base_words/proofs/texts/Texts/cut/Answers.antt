use Rattle.std.proofs.Common.{◌<◌, length, ap, sym, ◌∙◌}
use Rattle.std.specs.Prelude.{string_bytes}
use Rattle.base_words.specs.Texts.{place_at, places_of}
use Rattle.base_words.proofs.Ending.{text_at, in_order, end_between, start_between, within, place_is}
use Rattle.base_words.proofs.texts.Texts.cut.Goals as goal

pub range-requires-clause-start_le_end : goal.range-requires-clause-start_le_end
range-requires-clause-start_le_end c =
    let ends = c.self.inside.ends.items in
    let text = string_bytes c.self.inside.text in
    let number = c.args.placed.number in
    let less : number < length ends = within 0 _ _ _ number c.self.view_is c.requires.there in
    let place = sym c.requires.place ∙ ap (λ ts. place_at (places_of 0 ts) number) (sym c.self.view_is) ∙ place_is 0 ends text number c.self.invariant less in
    rw place (in_order 0 ends text number c.self.invariant less)

pub range-requires-clause-start_boundary : goal.range-requires-clause-start_boundary
range-requires-clause-start_boundary c =
    let ends = c.self.inside.ends.items in
    let text = string_bytes c.self.inside.text in
    let number = c.args.placed.number in
    let less : number < length ends = within 0 _ _ _ number c.self.view_is c.requires.there in
    let place = sym c.requires.place ∙ ap (λ ts. place_at (places_of 0 ts) number) (sym c.self.view_is) ∙ place_is 0 ends text number c.self.invariant less in
    rw (c.deref.ensures, place) (start_between ends text number c.self.invariant less)

pub range-requires-clause-end_boundary : goal.range-requires-clause-end_boundary
range-requires-clause-end_boundary c =
    let ends = c.self.inside.ends.items in
    let text = string_bytes c.self.inside.text in
    let number = c.args.placed.number in
    let less : number < length ends = within 0 _ _ _ number c.self.view_is c.requires.there in
    let place = sym c.requires.place ∙ ap (λ ts. place_at (places_of 0 ts) number) (sym c.self.view_is) ∙ place_is 0 ends text number c.self.invariant less in
    rw (c.deref.ensures, place) (end_between 0 ends text number c.self.invariant less)

pub returns : goal.returns
returns c =
    let ends = c.self.inside.ends.items in
    let text = string_bytes c.self.inside.text in
    let number = c.args.placed.number in
    let less : number < length ends = within 0 _ _ _ number c.self.view_is c.requires.there in
    let place = sym c.requires.place ∙ ap (λ ts. place_at (places_of 0 ts) number) (sym c.self.view_is) ∙ place_is 0 ends text number c.self.invariant less in
    rw (← c.self.view_is, c.range.ensures.value, c.deref.ensures, place) (text_at 0 ends text number c.self.invariant less)
