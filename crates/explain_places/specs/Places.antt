-- Places in the texts of a plant, as a person is told them.
use Rattle.std.specs.Prelude.{ℕ, ◌-◌, List, [], slice_index_or}
use Rattle.st_lexer.specs.Lexes.{mark_len, unmarked}
use Rattle.st_lexer.specs.Places.{line_at, column_at}
use Rattle.plant_folder.specs.Files.{Texts}
use Rattle.explain_tokens.specs.declared.spot.FileOf.{FileOf}
use Rattle.explain_tokens.specs.declared.spot.FileOf.TheVariants as f
use Rattle.explain_places.specs.declared.place.TextPlace.{TextPlace}

-- the text of a file of a plant
abbrev pub text_of : Texts → FileOf → List ℕ
text_of texts f.Plant = texts.plant
text_of texts (f.Source number) = slice_index_or texts.sources number []
text_of texts f.Alarms = texts.alarms

-- the place of a byte of a text, by its number from 0: its line and its column, where a byte order mark isn't counted; in that mark it is the text's start, beyond the last byte the text's end
abbrev pub place_in : List ℕ → ℕ → TextPlace
place_in text at = record { line = line_at (unmarked text) (at - mark_len text); column = column_at (unmarked text) (at - mark_len text) }
