use Rattle.std.proofs.Common.{◌≡◌, ◌++◌, ◌-◌, ◌∷◌, [], List, ℕ, length, true, arith, ap, sym, ◌∙◌, subst}
use Rattle.std.proofs.lemmas.List.{take-append-drop}
use Rattle.serve_requests.specs.Missing.{AreMissing}
use Rattle.serve_requests.specs.Requests.{has_lf, request_of, ended_from, begun_from}
use Rattle.serve_requests.specs.Splitting.{IsHeld, AskAlike}
use Rattle.serve_requests.proofs.Beginnings.{some_left, missing_fewer}
use Rattle.serve_requests.proofs.HeldLaws.{whole_body, part_body}
use Rattle.serve_requests.proofs.splitter.Splitter.take_body.Goals as goal

pub invariant_of-self-then-part-self : goal.invariant_of-self-then-part-self
invariant_of-self-then-part-self c =
    let held = c.self.inside.held.items in
    let part = c.split_at.result.0.now in
    let missing = c.self.inside.missing in
    subst (λ (xs : List ℕ). AreMissing xs (missing - length part)) (sym c.in_ok-extend_from_slice.ensures.items)
    (missing_fewer held part missing (missing - length part) c.self.invariant (omega (arith, c.if-part-self.true)) (omega (arith, c.if-part-self.true)))

pub returns-then-part-self : goal.returns-then-part-self
returns-then-part-self c =
    let held = c.self.inside.held.items in
    let bytes = c.args.bytes.now in
    let part = c.split_at.result.0.now in
    let rest = c.split_at.result.1.now in
    let missing = c.self.inside.missing in
    let left = some_left held missing (ap has_lf c.self.view_is ∙ c.requires.in_body) c.self.invariant in
    let items = c.in_ok-extend_from_slice.ensures.items in
    rw (← c.self.view_is) (record {
      part = part;
      cut = sym (take-append-drop _ bytes) ∙ (λ i. sym c.split_at.ensures.front i ++ sym c.split_at.ensures.back i);
      shorter = omega (arith, c.split_at.ensures.back_len, c.min.ensures, left, c.requires.some);
      takes = λ begun k.
          let goes = part_body begun held part missing k c.self.invariant (omega (arith, c.split_at.ensures.front_len, c.min.ensures, left, c.requires.some)) c.if-part-self.true in
          record { given = goes.given; plain = tt; holds = subst (λ (xs : List ℕ). IsHeld (begun_from begun part) xs) (sym items) goes.holds };
    })

pub returns : goal.returns
returns c =
    let held = c.self.inside.held.items in
    let bytes = c.args.bytes.now in
    let part = c.split_at.result.0.now in
    let missing = c.self.inside.missing in
    let left = some_left held missing (ap has_lf c.self.view_is ∙ c.requires.in_body) c.self.invariant in
    let whole : c.replace-bytes.result.items ≡ held ++ part = rw c.replace-bytes.ensures.value c.in_ok-extend_from_slice.ensures.items in
    let nothing : c.replace-bytes.new.dest.items ≡ [] = rw c.replace-bytes.ensures.after c.new.ensures.items in
    rw (← c.self.view_is) (record {
      part = part;
      cut = sym (take-append-drop _ bytes) ∙ (λ i. sym c.split_at.ensures.front i ++ sym c.split_at.ensures.back i);
      shorter = omega (arith, c.split_at.ensures.back_len, c.min.ensures, left, c.requires.some);
      takes = λ begun k.
          let gives = whole_body begun held part missing k c.self.invariant (omega (arith, c.split_at.ensures.front_len, c.min.ensures, left, c.requires.some)) c.replace-bytes.new.dest.items nothing (omega (arith, c.split_at.ensures.front_len, c.min.ensures, c.if-part-self.false)) in
          record {
            given = subst (λ (xs : List ℕ). AskAlike (request_of xs ∷ []) (ended_from begun part)) (sym whole) gives.given;
            plain = tt;
            holds = gives.holds;
          };
    })
