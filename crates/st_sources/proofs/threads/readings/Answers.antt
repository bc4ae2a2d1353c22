use Rattle.std.proofs.Common.{Bor, ◌≡◌, ◌<◌, ◌-◌, ◌∙◌, List, ℕ, length, map, ap, sym, subst, arith}
use Rattle.std.specs.List.{AllZip, range_with_len}
use Rattle.std.proofs.lemmas.List.{length-map}
use Rattle.rayon.specs.Numbers.{nat_range}
use Rattle.rayon.proofs.ListFacts.{IfOk-then}
use Rattle.rayon.proofs.ToStd.{nat_range-All}
use Rattle.st_sources.specs.Readings.{IsReadingAt, AreReadings}
use Rattle.st_sources.proofs.Collected.{each_read}
use Rattle.st_sources.proofs.threads.readings.Goals as goal

-- each number of the range is that of a source
pub collect-requires-clause-ready : goal.collect-requires-clause-ready
collect-requires-clause-ready g c κs within =
    let ends = c.into_par_iter.ensures in
    let inside = nat_range-All (λ i. i < length c.args.sources.now) 0 (length c.args.sources.now) (λ i low high. high) in
    rw (c.map.ensures.base, c.map.ensures.f, c.with_min_len.ensures.base, ends.0, ends.1) (λ k d lt. (inside k d lt, λ y p. tt))

pub returns : goal.returns
returns g c =
    let ends = c.into_par_iter.ensures in
    let many = length c.args.sources.now in
    let whole : many - 0 ≡ many = omega arith in
    let texts : List (List ℕ) = map (λ (s : Bor (List ℕ) × Bor (List ℕ)). s.1.now) c.args.sources.now in
    let each : many ≡ length texts = sym (length-map c.args.sources.now (λ (s : Bor (List ℕ) × Bor (List ℕ)). s.1.now)) in
    IfOk-then c.collect.result _ _ c.collect.ensures (λ v h.
    let chain = rw (c.map.ensures.base, c.map.ensures.f, c.with_min_len.ensures.base) at h.1 in
    let numbers = chain.1 ∙ (λ i. nat_range (ends.0 i) (ends.1 i)) ∙ ap (range_with_len 0) whole in
    let read : AllZip (λ n r. IsReadingAt n texts r) (range_with_len 0 many) h.0 = subst (λ ns. AllZip (λ n r. IsReadingAt n texts r) ns h.0) numbers chain.2 in
    subst (AreReadings 0 texts) (sym h.2) (each_read texts many h.0 each read))
