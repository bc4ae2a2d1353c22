use Rattle.std.proofs.Common.{◌≡◌, ◌<◌, ◌/◌, true, Bool, List, length, slice_set, arith, ap, sym, ◌∙◌}
use Rattle.std.proofs.lemmas.Option.{slice_get_read, get_or_from_slice_get}
use Rattle.alarm_bank.proofs.MarkLaws.{length-flags_of, flags_of-set, marks_set}
use Rattle.alarm_bank.proofs.marks.Marks.set.Goals as goal

pub index-word-requires : goal.index-word-requires
index-word-requires c =
    let many : length c.args.self.now ≡ c.self.inside.count = ap (λ (m : List Bool). length m) (sym c.self.view_is) ∙ length-flags_of c.self.inside.count c.self.inside.words.items in
    let room = c.self.invariant.room in
    omega (arith, c.requires, many, room, c.self.inside.words.ok.0)

pub index_mut-requires : goal.index_mut-requires
index_mut-requires c =
    let many : length c.args.self.now ≡ c.self.inside.count = ap (λ (m : List Bool). length m) (sym c.self.view_is) ∙ length-flags_of c.self.inside.count c.self.inside.words.items in
    let room = c.self.invariant.room in
    omega (arith, c.requires, many, room, c.self.inside.words.ok.0)

pub invariant_of-self : goal.invariant_of-self
invariant_of-self c =
    let words = c.self.inside.words in
    let many : length c.args.self.now ≡ c.self.inside.count = ap (λ (m : List Bool). length m) (sym c.self.view_is) ∙ length-flags_of c.self.inside.count words.items in
    let low : c.args.at < c.self.inside.count = omega (arith, c.requires, many) in
    let room = c.self.invariant.room in
    let within : c.args.at / 64 < length words.items = omega (arith, low, room) in
    let read = sym (get_or_from_slice_get words.items (c.args.at / 64) c.index-word.result.now 0 (slice_get_read words.items words.len (c.args.at / 64) c.index-word.result.now words.ok.0 (omega (arith, within, words.ok.0)) c.index-word.ensures)) in
    marks_set words.items c.args.at c.index-word.result.now within read c.self.inside.count low c.self.invariant

pub returns : goal.returns
returns c =
    let words = c.self.inside.words in
    let many : length c.args.self.now ≡ c.self.inside.count = ap (λ (m : List Bool). length m) (sym c.self.view_is) ∙ length-flags_of c.self.inside.count words.items in
    let low : c.args.at < c.self.inside.count = omega (arith, c.requires, many) in
    let room = c.self.invariant.room in
    let within : c.args.at / 64 < length words.items = omega (arith, low, room) in
    let read = sym (get_or_from_slice_get words.items (c.args.at / 64) c.index-word.result.now 0 (slice_get_read words.items words.len (c.args.at / 64) c.index-word.result.now words.ok.0 (omega (arith, within, words.ok.0)) c.index-word.ensures)) in
    flags_of-set words.items c.args.at c.index-word.result.now within read c.self.inside.count low ∙ ap (λ (m : List Bool). slice_set m c.args.at true) c.self.view_is
