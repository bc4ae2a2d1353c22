use Rattle.std.proofs.Common.{◌≡◌, ◌∙◌, ap, string_bytes, map, ◌++◌, [], ◌∷◌}
use Rattle.std.specs.String.{string_eq}
use Rattle.base_names.specs.Names.{name_at}
use Rattle.base_names.proofs.Keeping.{keeps_names, adds_name, same_name}
use Rattle.base_names.proofs.names.NameList.push.Goals as goal

pub returns-in_default-clause-err : goal.returns-in_default-clause-err
returns-in_default-clause-err c =
    let keys = c.insert_full.new.self.keys in
    ap (map (name_at keys)) c.in_ok-reserve.ensures.items
    ∙ keeps_names string_eq c.self.inside.names.keys keys c.args.name c.self.inside.numbers.items c.in_ok-number.ensures.keys c.self.invariant
    ∙ c.self.view_is

pub returns-clause-ok : goal.returns-clause-ok
returns-clause-ok c =
    let keys = c.insert_full.new.self.keys in
    let kept = c.in_ok-number.ensures.stored in
    let number : c.in-Ok.number ≡ c.in_ok-number.number = c.in-Ok.ensures.1 in
    let numbers : c.push_reserved.new.self.items ≡ c.self.inside.numbers.items ++ c.in_ok-number.number ∷ [] =
    c.push_reserved.ensures.items ∙ ap (λ l. l ++ c.in-Ok.number ∷ []) c.in_ok-reserve.ensures.items ∙ ap (λ n. c.self.inside.numbers.items ++ n ∷ []) number
    in
    ap (map (name_at keys)) numbers
    ∙ adds_name string_eq same_name c.self.inside.names.keys keys c.args.name kept.0 c.self.inside.numbers.items c.in_ok-number.number c.in_ok-number.ensures.keys c.self.invariant kept.1 kept.2
    ∙ ap (λ l. l ++ string_bytes c.args.name ∷ []) c.self.view_is
