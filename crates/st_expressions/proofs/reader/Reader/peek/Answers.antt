-- The first lexeme is told by the first token.
use Rattle.std.proofs.Common.{◌≡◌, ◌∷◌, ap, sym, ◌∙◌, arith}
use Rattle.std.specs.Str.Lossy.{utf8_lossy}
use Rattle.std.proofs.lemmas.Grind.{common_steps}
use Rattle.st_expressions.specs.Lexemes.{lexemes, lexeme_of, slice_of}
use Rattle.st_expressions.proofs.Steps.{first_is}
use Rattle.st_expressions.proofs.reader.Reader.peek.Goals as goal

pub returns : goal.returns
returns c =
    let text = c.self.inside.text.now in
    let t = c.in_ok-first.first.now in
    let rest = c.in_ok-first._rest.now in
    let is : c.args.self.now ≡ lexeme_of t.kind (utf8_lossy (slice_of text t.from t.until)) ∷ lexemes text rest = sym c.self.view_is ∙ ap (lexemes text) c.in_ok-first.ensures.cases.0 in
    first_is t.kind (utf8_lossy (slice_of text t.from t.until)) c.args.self.now (lexemes text rest) is

pub returns-in_err-first : goal.returns-in_err-first
returns-in_err-first c = grind (arith, common_steps)
