use Rattle.std.proofs.Common.{◌≡◌, ◌<◌, ◌≤◌, ◌+◌, ◌++◌, suc, Option, None, ℕ, length, map, take, drop, replicate, slice_set, slice_index_or, arith, ap, rules, sym, ◌∙◌}
use Rattle.std.proofs.lemmas.List.{append-nil, drop_all, take_all}
use Rattle.alarm_delays.specs.Delays.{PlainDelays, kept_since}
use Rattle.alarm_delays.proofs.Keeping.{keep_more, none_met, none_yet, made_of}
use Rattle.alarm_delays.proofs.delays.Delays.reloaded.Goals as goal

pub loop-at-init : goal.loop-at-init
loop-at-init c = record {
  since = ap (λ (d : PlainDelays). d.since) c.go_on.ensures ∙ ap (λ (d : PlainDelays). d.since) c.in_ok-made.ensures ∙ ap (λ (k : ℕ). replicate {A = Option ℕ} k None) (sym c.requires.each) ∙ none_yet c.args.kept.now;
  delays = ap (λ (d : PlainDelays). d.delays) c.go_on.ensures ∙ ap (λ (d : PlainDelays). d.delays) c.in_ok-made.ensures;
  last = ap (λ (d : PlainDelays). d.last) c.go_on.ensures ∙ c.last.ensures.last;
}

pub loop-at-preserved : goal.loop-at-preserved
loop-at-preserved c =
    let kept = c.args.kept.now in
    let at = c.loop-at.at in
    let f = kept_since c.args.self.now.since in
    let within : at < length kept = omega (arith, c.loop-at-test.true) in
    let next : suc at ≡ at + 1 = omega arith in
    let is : c.kept_since.result ≡ f (slice_index_or kept at None) = search rules in
    record {
      since = ap (λ (d : PlainDelays). d.since) c.keep.ensures ∙ ap (λ l. slice_set l at c.kept_since.result) c.loop-at.invariant.since
          ∙ ap (slice_set (map f (take at kept) ++ none_met (drop at kept)) at) is
          ∙ keep_more f kept at None within ∙ ap (λ (k : ℕ). map f (take k kept) ++ none_met (drop k kept)) next;
      delays = ap (λ (d : PlainDelays). d.delays) c.keep.ensures ∙ c.loop-at.invariant.delays;
      last = ap (λ (d : PlainDelays). d.last) c.keep.ensures ∙ c.loop-at.invariant.last;
    }

pub returns : goal.returns
returns c =
    let kept = c.args.kept.now in
    let at = c.loop-at.at in
    let f = kept_since c.args.self.now.since in
    let end : length kept ≤ at = omega (arith, c.loop-at-test.false) in
    let all : c.loop-at.made.since ≡ map f kept =
    c.loop-at.invariant.since ∙ ap (λ l. map f (take at kept) ++ none_met l) (drop_all at kept end) ∙ append-nil (map f (take at kept)) ∙ ap (map f) (take_all at kept end) in
    made_of c.loop-at.made c.args.delays.items (map f kept) c.args.self.now.last c.loop-at.invariant.delays all c.loop-at.invariant.last
