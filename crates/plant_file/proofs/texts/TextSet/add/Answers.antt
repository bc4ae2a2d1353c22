use Rattle.std.proofs.Common.{◌≡◌, ◌∙◌, ap, string_bytes}
use Rattle.std.specs.Prelude.{map, not}
use Rattle.std.specs.List.{list_any}
use Rattle.std.specs.Str.{bytes_eq}
use Rattle.plant_file.proofs.Places.{any-map}
use Rattle.plant_file.proofs.texts.TextSet.add.Goals as goal

pub returns-clause-added : goal.returns-clause-added
returns-clause-added c =
    let copy : string_bytes c.in_ok-copy.copy ≡ c.args.text.now = c.in_ok-copy.ensures.ok in
    c.in_ok-added.ensures.added ∙ ap not (any-map (bytes_eq (string_bytes c.in_ok-copy.copy)) string_bytes c.self.inside.index.keys)
    ∙ ap (λ w. not (list_any (bytes_eq w) (map string_bytes c.self.inside.index.keys))) copy
    ∙ ap (λ l. not (list_any (bytes_eq c.args.text.now) l)) c.self.view_is
