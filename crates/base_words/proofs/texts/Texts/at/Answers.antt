use Rattle.std.proofs.Common.{◌<◌, length}
use Rattle.std.proofs.lemmas.List.{get_or_read}
use Rattle.std.specs.Prelude.{string_bytes}
use Rattle.base_words.proofs.Ending.{text_at, in_order, end_between, start_between, within}
use Rattle.base_words.proofs.texts.Texts.at.Goals as goal

pub start_of-start-requires : goal.start_of-start-requires
start_of-start-requires c = rw c.as_slice.ensures.value (within 0 _ _ _ c.args.number c.self.view_is c.requires)

pub index-requires : goal.index-requires
index-requires c = rw c.self.inside.ends.ok.0 (within 0 _ _ _ c.args.number c.self.view_is c.requires)

pub range-requires-clause-start_le_end : goal.range-requires-clause-start_le_end
range-requires-clause-start_le_end c =
    let ends = c.self.inside.ends.items in
    let less : c.args.number < length ends = within 0 _ _ _ c.args.number c.self.view_is c.requires in
    rw (c.start_of-start.ensures, c.as_slice.ensures.value, get_or_read ends c.args.number c.index.result.now less c.index.ensures 0) (in_order 0 ends (string_bytes c.self.inside.text) c.args.number c.self.invariant less)

pub range-requires-clause-start_boundary : goal.range-requires-clause-start_boundary
range-requires-clause-start_boundary c =
    let ends = c.self.inside.ends.items in
    let less : c.args.number < length ends = within 0 _ _ _ c.args.number c.self.view_is c.requires in
    rw (c.deref.ensures, c.start_of-start.ensures, c.as_slice.ensures.value) (start_between ends (string_bytes c.self.inside.text) c.args.number c.self.invariant less)

pub range-requires-clause-end_boundary : goal.range-requires-clause-end_boundary
range-requires-clause-end_boundary c =
    let ends = c.self.inside.ends.items in
    let less : c.args.number < length ends = within 0 _ _ _ c.args.number c.self.view_is c.requires in
    rw (c.deref.ensures, get_or_read ends c.args.number c.index.result.now less c.index.ensures 0) (end_between 0 ends (string_bytes c.self.inside.text) c.args.number c.self.invariant less)

pub returns : goal.returns
returns c =
    let ends = c.self.inside.ends.items in
    let less : c.args.number < length ends = within 0 _ _ _ c.args.number c.self.view_is c.requires in
    rw (← c.self.view_is, c.range.ensures.value, c.deref.ensures, c.start_of-start.ensures, c.as_slice.ensures.value, get_or_read ends c.args.number c.index.result.now less c.index.ensures 0) (text_at 0 ends (string_bytes c.self.inside.text) c.args.number c.self.invariant less)
