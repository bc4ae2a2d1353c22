use Rattle.std.proofs.Common.{◌≡◌, ◌+◌, length, ap, ◌∙◌}
use Rattle.std.specs.Prelude.{string_bytes}
use Rattle.base_words.specs.Texts.{places_of}
use Rattle.base_words.proofs.Ending.{ends_more, texts_more, places_more}
use Rattle.base_words.proofs.texts.Texts.push.Goals as goal

pub invariant_of-self-2 : goal.invariant_of-self-2
invariant_of-self-2 c =
    let end : c.in_ok-end.end ≡ length (string_bytes c.self.inside.text) + length c.args.text.now = c.in_ok-end.ensures ∙ ap (λ n. n + length c.args.text.now) (c.len-start.ensures ∙ c.self.inside.text.bytes.ok.0) in
    rw (c.push_reserved.ensures.items, c.in_ok-reserve.ensures.items, c.in_ok-push_str.ensures.bytes, end) (ends_more 0 c.self.inside.ends.items (string_bytes c.self.inside.text) c.args.text.now c.utf8.text c.self.invariant)

pub returns-clause-ok : goal.returns-clause-ok
returns-clause-ok c =
    let end : c.in_ok-end.end ≡ length (string_bytes c.self.inside.text) + length c.args.text.now = c.in_ok-end.ensures ∙ ap (λ n. n + length c.args.text.now) (c.len-start.ensures ∙ c.self.inside.text.bytes.ok.0) in
    rw (← c.self.view_is, c.push_reserved.ensures.items, c.in_ok-reserve.ensures.items, c.in_ok-push_str.ensures.bytes, end) (texts_more 0 c.self.inside.ends.items (string_bytes c.self.inside.text) c.args.text.now c.self.invariant)

pub returns-clause-place : goal.returns-clause-place
returns-clause-place c =
    let end : c.in_ok-end.end ≡ length (string_bytes c.self.inside.text) + length c.args.text.now = c.in_ok-end.ensures ∙ ap (λ n. n + length c.args.text.now) (c.len-start.ensures ∙ c.self.inside.text.bytes.ok.0) in
    let start : c.len-start.result ≡ length (string_bytes c.self.inside.text) = c.len-start.ensures ∙ c.self.inside.text.bytes.ok.0 in
    rw (← c.self.view_is, c.push_reserved.ensures.items, c.in_ok-reserve.ensures.items, c.in_ok-push_str.ensures.bytes, end, start) (ap (places_of 0) (texts_more 0 c.self.inside.ends.items (string_bytes c.self.inside.text) c.args.text.now c.self.invariant) ∙ places_more 0 c.self.inside.ends.items (string_bytes c.self.inside.text) c.args.text.now c.self.invariant)
