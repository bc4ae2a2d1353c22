use Rattle.std.proofs.Common.{◌≡◌, ◌∙◌, ap, map, rules, string_bytes, String, Global}
use Rattle.std.specs.List.{list_any, list_all}
use Rattle.std.specs.Map.{keys_of}
use Rattle.std.specs.Str.{bytes_eq}
use Rattle.plant_file.proofs.Seen.{only_keys}
use Rattle.plant_file.proofs.table.has_only.Goals as goal

pub loop-key-init : goal.loop-key-init
loop-key-init c =
    let keys = map (λ x. x.now) c.args.keys.now in
    let same : c.into_iter-key-iterator.result ≡ keys_of c.args.table.now.entries = search (rules, c.into_iter-key-iterator.ensures, c.keys-key-items.ensures.rest) in
    ap (list_all (λ (k : String Global). list_any (bytes_eq (string_bytes k)) keys)) same ∙ only_keys keys c.args.table.now.entries
