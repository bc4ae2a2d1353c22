use Rattle.std.proofs.Common.{◌≡◌, ℕ, ◌+◌, ◌<◌, [], ◌∷◌, ◌++◌, length, drop, get_or, sym, subst}
use Rattle.st_lexer.specs.declared.token.Token.{Token}
use Rattle.st_lexer.specs.Pieces.{Cut}
use Rattle.st_lexer.specs.Lexes.{tokens_of, IsTokenOf}
use Rattle.st_lexer.proofs.Cutting.{SoFar, one_on, cut_tokens}
use Rattle.st_lexer.proofs.lexer.lex.Goals as goal

pub pieces-preserved : goal.pieces-preserved
pieces-preserved c =
    let l = c.pieces in
    let text = c.args.text.now in
    let body = c.split_at.result.1.now in
    let skipped = c.mark_len-skipped.result in
    let s = one_on text body skipped l.at l.rest.now l.tokens.items c.in-Some.piece c.in-Some.n l.invariant c.in-Some.ensures.found in
    let after : drop c.in-Some.n l.rest.now ≡ c.split_at-in-pieces.result.1.now = sym c.split_at-in-pieces.ensures.back in
    let more : l.tokens.items ++ tokens_of (skipped + l.at) ((c.in-Some.piece, c.in-Some.n) ∷ []) ≡ c.push_piece.new.tokens.items = sym c.in_ok-push_piece.ensures.kept in
    subst (λ t. SoFar text body skipped (l.at + c.in-Some.n) c.split_at-in-pieces.result.1.now t) more
    (subst (λ r. SoFar text body skipped (l.at + c.in-Some.n) r (l.tokens.items ++ tokens_of (skipped + l.at) ((c.in-Some.piece, c.in-Some.n) ∷ []))) after s)

pub returns-clause-each : goal.returns-clause-each
returns-clause-each c =
    let text = c.args.text.now in
    let l = c.pieces in
    let skipped = c.mark_len-skipped.result in
    let cut : Cut (drop skipped text) l.invariant.pieces l.rest.now = subst (λ b. Cut b l.invariant.pieces l.rest.now) c.split_at.ensures.back l.invariant.cut in
    subst (λ ts. (k : ℕ) → (d : Token) → k < length ts → IsTokenOf text (get_or ts k d)) (sym l.invariant.listed) (cut_tokens text skipped l.invariant.pieces l.rest.now c.mark_len-skipped.ensures.within cut)
