use Rattle.std.proofs.Common.{◌∙◌, ◌<◌, ◌+◌, ◌^◌, ap, sym, subst}
use Rattle.std.proofs.Math.Bool.{or-false}
use Rattle.std.proofs.lemmas.Result.{IfOk-weaker}
use Rattle.st_tree.specs.Mapping.{mapped_body}
use Rattle.st_tree.specs.Numbers.{count_body}
use Rattle.st_tree.specs.View.{view_body}
use Rattle.logic_source.specs.Source.{source_of}
use Rattle.logic_source.specs.Names.{meant_in}
use Rattle.logic_source.specs.Worlds.{globals_routine}
use Rattle.logic_frames.specs.Numbers.{numbers}
use Rattle.logic_frames.specs.Frames.{IsStart}
use Rattle.logic_frames.specs.Built.{IsStartIn}
use Rattle.logic_frames.proofs.Programs.{start_made}
use Rattle.logic_frames.proofs.frames.start_by.Goals as goal

pub start_in-requires : goal.start_in-requires
start_in-requires c = subst (λ l. 1 + count_body (view_body l) < 2 ^ 32) (sym c.deref.ensures.value) c.requires.few

pub returns : goal.returns
returns c =
    let source = source_of c.args.logic.now in
    let r = globals_routine source in
    let of = c.requires.known in
    IfOk-weaker c.start_in.result (IsStartIn _ (view_body c.deref.result.now)) (IsStart source) (λ frame made.
    start_made source frame made.seats_are
    (made.starts_are source r (record { globals_are = of.globals_are; global_arrays_are = of.arrays_are; own_are = c.no_variables-own.ensures.variables; own_arrays_are = c.no_variables-own.ensures.arrays; instances_are = c.no_instances-instances.ensures; members_are = of.members_are }) ∙ ap (λ b. mapped_body (numbers source r) (meant_in source r (view_body b))) c.deref.ensures.value)
    made.body_is (made.marked ∙ sym (or-false _)) made.counted) c.start_in.ensures
