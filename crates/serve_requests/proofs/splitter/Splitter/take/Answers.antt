use Rattle.std.proofs.Common.{◌≡◌, ◌++◌, ◌∷◌, [], List, ℕ, length, arith, ap, sym, ◌∙◌, append-nil, append_assoc}
use Rattle.std.proofs.lemmas.List.{drop_all}
use Rattle.serve_requests.specs.Requests.{has_lf}
use Rattle.serve_requests.proofs.Beginnings.{none_missing, none_known}
use Rattle.serve_requests.proofs.HeldLaws.{no_lf-held, held_on}
use Rattle.serve_requests.proofs.splitter.Splitter.take.Goals as goal

-- a line with its LF
pub returns-in-Some : goal.returns-in-Some
returns-in-Some c =
    let line = c.in-Some.line.now in
    record {
      part = line ++ 10 ∷ [];
      cut = c.in-Some.ensures.0 ∙ sym (append_assoc line (10 ∷ []) c.in-Some.rest.now);
      shorter = c.in-Some.ensures.2;
      takes = λ begun k. c.in_ok-ended.ensures begun k;
    }

-- bytes of a line that goes on
pub invariant_of-self-2 : goal.invariant_of-self-2
invariant_of-self-2 c =
    let held = c.self.inside.held.items in
    let missing = c.self.inside.missing in
    let p = none_missing held missing (omega (arith, c.if-self-gt0.false)) c.self.invariant in
    none_known c.hold.new.held.items missing (omega (arith, c.if-self-gt0.false)) (ap has_lf c.in_ok-hold.ensures.ok ∙ no_lf-held _ held c.args.bytes.now p c.in_default.ensures)

pub returns : goal.returns
returns c =
    let held = c.self.inside.held.items in
    let bytes = c.args.bytes.now in
    let p = none_missing held c.self.inside.missing (omega (arith, c.if-self-gt0.false)) c.self.invariant in
    let none : c.split_at.result.1.now ≡ [] = c.split_at.ensures.back ∙ drop_all (length bytes) bytes (omega arith) in
    rw (← c.self.view_is) (record {
      part = bytes;
      cut = rw none (sym (append-nil bytes));
      shorter = omega (arith, c.split_at.ensures.back_len, c.requires.some);
      takes = λ begun k.
          let goes = held_on begun held bytes c.hold.new.held.items k p c.in_default.ensures c.in_ok-hold.ensures.ok in
          record { given = goes.given; plain = tt; holds = goes.holds };
    })
