use Rattle.std.proofs.Common.{◌<◌, ◌+◌, ◌∷◌, ◌++◌, ◌∙◌, [], ap, sym, refl, arith}
use Rattle.std.proofs.lemmas.Grind.{common_steps}
use Rattle.csv.specs.Records.{fields_of}
use Rattle.alarm_db.proofs.Gathered.{none_of, one_behind, one_right, one_wrong}
use Rattle.alarm_db.proofs.gathering.add_row.Goals as goal

pub returns-then-is_some : goal.returns-then-is_some
returns-then-is_some c =
    let room : c.args.gathered.now.count < 20000 = let full = c.if-gathered-ge-MOST_ROWS.false in omega arith in
    λ rows has. one_behind c.args.version rows (fields_of c.args.row.now) c.args.gathered.now _ has room refl (sym c.is_some.ensures ∙ c.if-is_some.true) refl

pub returns-in-Some : goal.returns-in-Some
returns-in-Some c =
    let room : c.args.gathered.now.count < 20000 = let full = c.if-gathered-ge-MOST_ROWS.false in omega arith in
    λ rows has. one_wrong c.args.version rows (fields_of c.args.row.now) c.args.gathered.now _ (c.args.gathered.now.count + 1) c.in-Some.column has room refl
    (none_of _ (sym c.is_some.ensures ∙ c.if-is_some.false)) (sym c.wrong_column.ensures ∙ c.in-Some.is) refl refl

pub returns-in_ok-push-in-None : goal.returns-in_ok-push-in-None
returns-in_ok-push-in-None c =
    let room : c.args.gathered.now.count < 20000 = let full = c.if-gathered-ge-MOST_ROWS.false in omega arith in
    λ rows has. one_right c.args.version rows (fields_of c.args.row.now) c.args.gathered.now _ has room refl
    (none_of _ (sym c.is_some.ensures ∙ c.if-is_some.false)) (sym c.wrong_column.ensures ∙ c.in-None.is) refl
    (c.in_ok-push-in-None.ensures.items ∙ ap (λ alarm. c.args.gathered.now.rows.items ++ alarm ∷ []) c.in_ok-alarm-in-None.ensures)

pub returns-then-gathered-ge-MOST_ROWS : goal.returns-then-gathered-ge-MOST_ROWS
returns-then-gathered-ge-MOST_ROWS c = grind (arith, common_steps)
