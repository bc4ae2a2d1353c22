use Rattle.std.proofs.Common.{◌∙◌, ap, string_bytes}
use Rattle.std.specs.Prelude.{position}
use Rattle.std.specs.Str.{bytes_eq}
use Rattle.plant_file.proofs.Places.{position-map}
use Rattle.plant_file.proofs.texts.TextSet.number.Goals as goal

pub returns : goal.returns
returns c =
    c.get_index_of.ensures.index ∙ position-map (bytes_eq c.args.text.now) string_bytes c.self.inside.index.keys
    ∙ ap (position (bytes_eq c.args.text.now)) c.self.view_is
