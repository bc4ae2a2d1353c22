use Rattle.std.proofs.Common.{◌≡◌, ◌++◌, ◌∷◌, [], List, ℕ, Bool, true, false, Option, None, Some, vec_len, arith, ap, sym, ◌∙◌, subst}
use Rattle.std.specs.Option.{MatchOption, is_some}
use Rattle.serve_lines.specs.Reloads.{PlainSizes, reload_sizes, reload_size}
use Rattle.serve_requests.specs.Missing.{AreMissing}
use Rattle.serve_requests.specs.Requests.{Request, has_lf, without_cr, request_of, ended_from, begun_from}
use Rattle.serve_requests.specs.Splitting.{IsHeld, AskAlike}
use Rattle.serve_requests.proofs.SizeLaws.{no_size}
use Rattle.serve_requests.proofs.Beginnings.{none_left, none_known, missing_all}
use Rattle.serve_requests.proofs.HeldLaws.{empty_list, no_lf-held, bare_line, whole_line, part_line}
use Rattle.serve_requests.proofs.splitter.Splitter.take_line.Goals as goal

-- no sizes were found where there are none
not_reload : (found sizes : Option PlainSizes) → MatchOption found (sizes ≡ None) (λ s. sizes ≡ Some s) → is_some found ≡ false → sizes ≡ None
not_reload None sizes is e = is
not_reload (Some s) sizes is e = absurd (cc)

-- a line in one piece
pub returns-then-is_none : goal.returns-then-is_none
returns-then-is_none c =
    let held = c.self.inside.held in
    let line = c.args.line.now in
    let empty = empty_list (vec_len held) held.items (omega (arith, held.ok.0)) (sym c.is_empty.ensures ∙ c.if-is_empty.true) in
    let none = not_reload c.reload_sizes.result (reload_sizes c.without_cr-bare.result.now) c.reload_sizes.ensures c.if-is_none.ensures in
    let size = no_size (without_cr line) (subst (λ (l : List ℕ). reload_sizes l ≡ None) c.without_cr-bare.ensures none) in
    rw (← c.self.view_is) (λ begun k.
    let gives = bare_line begun held.items line k empty c.requires.lf size in
    record {
      given = subst (λ (l : List ℕ). AskAlike (record { line = l; body = [] } ∷ []) (ended_from begun (line ++ 10 ∷ []))) (sym c.without_cr-bare.ensures) gives.given;
      plain = none;
      holds = gives.holds;
    })

-- memory was refused
pub invariant_of-self-in_err-reserve : goal.invariant_of-self-in_err-reserve
invariant_of-self-in_err-reserve c =
    let held = c.self.inside.held.items in
    let p = ap has_lf c.self.view_is ∙ c.requires.in_line in
    none_known c.reserve.new.self.items c.self.inside.missing (none_left held c.self.inside.missing p c.self.invariant)
    (ap has_lf (c.in_err-reserve.ensures.items ∙ c.in_ok-hold.ensures.ok) ∙ no_lf-held _ held c.args.line.now p c.requires.lf)

-- a line that bytes come after
pub invariant_of-self-then-size-gt0 : goal.invariant_of-self-then-size-gt0
invariant_of-self-then-size-gt0 c =
    let held = c.self.inside.held.items in
    let now = c.hold.new.held.items in
    let p = ap has_lf c.self.view_is ∙ c.requires.in_line in
    let none = ap has_lf c.in_ok-hold.ensures.ok ∙ no_lf-held _ held c.args.line.now p c.requires.lf in
    let size_is = ap (λ (xs : List ℕ). reload_size (without_cr xs)) (sym c.as_slice.ensures.value) ∙ ap reload_size (sym c.without_cr.ensures) ∙ sym c.reload_size-size.ensures in
    let whole = c.in_ok-push.ensures.items ∙ ap (λ (xs : List ℕ). xs ++ 10 ∷ []) c.in_ok-reserve.ensures.items in
    subst (λ (xs : List ℕ). AreMissing xs c.reload_size-size.result) (sym whole) (missing_all now c.reload_size-size.result none c.if-size-gt0.true size_is)

pub returns-then-size-gt0 : goal.returns-then-size-gt0
returns-then-size-gt0 c =
    let held = c.self.inside.held.items in
    let line = c.args.line.now in
    let now = c.hold.new.held.items in
    let p = ap has_lf c.self.view_is ∙ c.requires.in_line in
    let size_is = ap (λ (xs : List ℕ). reload_size (without_cr xs)) (sym c.as_slice.ensures.value) ∙ ap reload_size (sym c.without_cr.ensures) ∙ sym c.reload_size-size.ensures in
    let whole = c.in_ok-push.ensures.items ∙ ap (λ (xs : List ℕ). xs ++ 10 ∷ []) c.in_ok-reserve.ensures.items in
    rw (← c.self.view_is) (λ begun k.
    let goes = part_line begun held line now k p c.requires.lf c.in_ok-hold.ensures.ok (omega (arith, size_is, c.if-size-gt0.true)) in
    record { given = goes.given; plain = tt; holds = subst (λ (xs : List ℕ). IsHeld (begun_from begun (line ++ 10 ∷ [])) xs) (sym whole) goes.holds })

-- a line that was held, and that none come after
pub returns : goal.returns
returns c =
    let held = c.self.inside.held.items in
    let line = c.args.line.now in
    let now = c.hold.new.held.items in
    let p = ap has_lf c.self.view_is ∙ c.requires.in_line in
    let size_is = ap (λ (xs : List ℕ). reload_size (without_cr xs)) (sym c.as_slice.ensures.value) ∙ ap reload_size (sym c.without_cr.ensures) ∙ sym c.reload_size-size.ensures in
    let all = c.in_ok-push.ensures.items ∙ ap (λ (xs : List ℕ). xs ++ 10 ∷ []) c.in_ok-reserve.ensures.items in
    let whole : c.replace-bytes.result.items ≡ now ++ 10 ∷ [] = rw c.replace-bytes.ensures.value all in
    let nothing : c.replace-bytes.new.dest.items ≡ [] = rw c.replace-bytes.ensures.after c.new.ensures.items in
    rw (← c.self.view_is) (λ begun k.
    let gives = whole_line begun held line now k p c.requires.lf c.in_ok-hold.ensures.ok c.replace-bytes.new.dest.items nothing (omega (arith, size_is, c.if-size-gt0.false)) in
    record {
      given = subst (λ (xs : List ℕ). AskAlike (request_of xs ∷ []) (ended_from begun (line ++ 10 ∷ []))) (sym whole) gives.given;
      plain = tt;
      holds = gives.holds;
    })
