use Rattle.std.proofs.Common.{◌<◌, length, arith, rules}
use Rattle.std.proofs.lemmas.Option.{slice_get_within}
use Rattle.std.specs.Prelude.{string_bytes}
use Rattle.logic_walk.specs.Frames.{frame_paths}
use Rattle.logic_walk.proofs.Descents.{within_limit, own_found, found, found_suffix, read_under, rest_inside, not_standard, own_pushed, below_ok}
use Rattle.logic_walk.proofs.paths.+push_within.Goals as goal

pub offset_bounds-frames-k : goal.offset_bounds-frames-k
offset_bounds-frames-k t c =
    let less = within_limit c.args.frames.now c.args.limit c.args.k c.args.path c.requires.path in
    let inside : c.args.k < length c.args.frames.now = omega arith in
    search rules

pub bounds-frames-k : goal.bounds-frames-k
bounds-frames-k t c =
    let less = within_limit c.args.frames.now c.args.limit c.args.k c.args.path c.requires.path in
    omega arith

pub returns-then-path-eq0 : goal.returns-then-path-eq0
returns-then-path-eq0 t c =
    own_pushed (string_bytes c.args.text.now) _ (own_found c.args.frames.now c.args.limit c.args.k c.args.path c.requires.there c.requires.in_turn c.requires.path c.index-frames-k.result c.index-frames-k.is c.if-path-eq0.true)

pub offset_bounds-seats-last_by : goal.offset_bounds-seats-last_by
offset_bounds-seats-last_by t c =
    let b = found c.args.frames.now c.args.limit c.args.k c.args.path c.requires.there c.requires.in_turn c.requires.path c.index-frames-k.result c.as_slice-seats.result.now c.last_by.result c.if-path-eq0.false c.index-frames-k.is c.as_slice-seats.ensures.value c.last_by.ensures in
    let inside = slice_get_within c.as_slice-seats.result.now c.last_by.result b.seat b.at in
    search rules

pub bounds-seats-last_by : goal.bounds-seats-last_by
bounds-seats-last_by t c =
    let b = found c.args.frames.now c.args.limit c.args.k c.args.path c.requires.there c.requires.in_turn c.requires.path c.index-frames-k.result c.as_slice-seats.result.now c.last_by.result c.if-path-eq0.false c.index-frames-k.is c.as_slice-seats.ensures.value c.last_by.ensures in
    slice_get_within c.as_slice-seats.result.now c.last_by.result b.seat b.at

pub overflow_sub-path : goal.overflow_sub-path
overflow_sub-path t c =
    let b = found c.args.frames.now c.args.limit c.args.k c.args.path c.requires.there c.requires.in_turn c.requires.path c.index-frames-k.result c.as_slice-seats.result.now c.last_by.result c.if-path-eq0.false c.index-frames-k.is c.as_slice-seats.ensures.value c.last_by.ensures in
    (read_under (frame_paths c.args.frames.now c.args.k) c.as_slice-seats.result.now c.args.path c.last_by.result c.index-seats-last_by.result b c.index-seats-last_by.is).low

pub push_within-requires : goal.push_within-requires
push_within-requires t c =
    let less = within_limit c.args.frames.now c.args.limit c.args.k c.args.path c.requires.path in
    let b = found c.args.frames.now c.args.limit c.args.k c.args.path c.requires.there c.requires.in_turn c.requires.path c.index-frames-k.result c.as_slice-seats.result.now c.last_by.result c.if-path-eq0.false c.index-frames-k.is c.as_slice-seats.ensures.value c.last_by.ensures in
    let under = read_under (frame_paths c.args.frames.now c.args.k) c.as_slice-seats.result.now c.args.path c.last_by.result c.index-seats-last_by.result b c.index-seats-last_by.is in
    (omega (arith, less), (omega (arith, less), (c.requires.in_turn, rest_inside (frame_paths c.args.frames.now c.args.k) c.as_slice-seats.result.now c.args.path c.index-seats-last_by.result c.in-Frame.below under c.in-Frame.is)))

pub returns-in-Standard : goal.returns-in-Standard
returns-in-Standard t c =
    let b = found c.args.frames.now c.args.limit c.args.k c.args.path c.requires.there c.requires.in_turn c.requires.path c.index-frames-k.result c.as_slice-seats.result.now c.last_by.result c.if-path-eq0.false c.index-frames-k.is c.as_slice-seats.ensures.value c.last_by.ensures in
    let under = read_under (frame_paths c.args.frames.now c.args.k) c.as_slice-seats.result.now c.args.path c.last_by.result c.index-seats-last_by.result b c.index-seats-last_by.is in
    absurd (not_standard (frame_paths c.args.frames.now c.args.k) c.as_slice-seats.result.now c.args.path c.index-seats-last_by.result c.in-Standard.field-0 under c.in-Standard.is)

pub returns-in-Frame : goal.returns-in-Frame
returns-in-Frame t c =
    let b = found c.args.frames.now c.args.limit c.args.k c.args.path c.requires.there c.requires.in_turn c.requires.path c.index-frames-k.result c.as_slice-seats.result.now c.last_by.result c.if-path-eq0.false c.index-frames-k.is c.as_slice-seats.ensures.value c.last_by.ensures in
    let is = found_suffix c.args.frames.now c.args.limit c.args.k c.args.path c.requires.there c.requires.in_turn c.requires.path c.index-frames-k.result c.as_slice-seats.result.now c.last_by.result c.in-Frame.below c.index-seats-last_by.result c.index-frames-k.is c.as_slice-seats.ensures.value b c.index-seats-last_by.is c.in-Frame.is in
    below_ok c.push_within.result (string_bytes c.args.text.now) c.index-seats-last_by.result.name _ _ (string_bytes c.push_name.new.text) (string_bytes c.push_within.new.text) is c.in_ok-push_name.ensures c.push_within.ensures
