use Rattle.std.proofs.Common.{◌≡◌, ◌+◌, ◌∙◌, ap, sym, cond, ℕ, Some, false}
use Rattle.std.specs.Prelude.{nat_eq, is_some}
use Rattle.std.specs.HashMap.{get, hash_map_len}
use Rattle.logic_carry.proofs.Numbering.{one_more, one_more_grows, same_count}
use Rattle.logic_carry.proofs.paths.added_path.Goals as goal

pub returns-clause-numbered : goal.returns-clause-numbered
returns-clause-numbered c =
    let old = c.args.numbers.now in
    let new = c.insert.new.self in
    let f = get nat_eq old in
    let g = get nat_eq new in
    let put : (q : ℕ) → g q ≡ cond (nat_eq c.args.key q) (Some (hash_map_len old + 1)) (f q) = λ q. c.in_ok-insert.ensures.updates.0 q ∙ ap (λ n. cond (nat_eq c.args.key q) (Some (n + 1)) (f q)) c.len-number.ensures.len in
    let none : is_some c.in_ok-insert.field-0 ≡ false = ap is_some (c.in_ok-insert.ensures.old ∙ c.requires.none) in
    let long : hash_map_len new ≡ hash_map_len old + 1 = c.in_ok-insert.ensures.len ∙ ap (λ b. hash_map_len old + cond b 0 1) none in
    same_count g (hash_map_len old + 1) (hash_map_len new) (sym long) (one_more f g (hash_map_len old) c.args.key c.requires.are c.requires.none put)

pub returns-clause-grows : goal.returns-clause-grows
returns-clause-grows c =
    let old = c.args.numbers.now in
    let f = get nat_eq old in
    let g = get nat_eq c.insert.new.self in
    let put : (q : ℕ) → g q ≡ cond (nat_eq c.args.key q) (Some (hash_map_len old + 1)) (f q) = λ q. c.in_ok-insert.ensures.updates.0 q ∙ ap (λ n. cond (nat_eq c.args.key q) (Some (n + 1)) (f q)) c.len-number.ensures.len in
    one_more_grows f g (hash_map_len old) c.args.key c.requires.are c.requires.none put
