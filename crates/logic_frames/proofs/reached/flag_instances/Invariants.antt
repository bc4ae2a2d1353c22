use Rattle.std.proofs.Common.{◌≡◌, drop}
use Rattle.std.specs.Prelude.{◌||◌, not}
use Rattle.base_words.specs.Names.{is_among}
use Rattle.logic_frames.specs.Reached.{numbers_of, flag_all}
use Rattle.logic_frames.proofs.reached.flag_instances.Given as goal

-- what is left to flag gives the flags of all
abbrev pub invariant-loop-instance : goal.invariant-loop-instance
invariant-loop-instance l =
    flag_all l.flags.items (numbers_of (λ name. not l.calls || is_among l.called name) (drop l.instance-index l.list)) ≡ flag_all l.initial.flags.items (numbers_of (λ name. not l.calls || is_among l.called name) l.list)
