use Rattle.std.proofs.Common.{◌∙◌, ap, codes}
use Rattle.std.specs.Prelude.{option_and_then}
use Rattle.std.specs.Str.Parse.{ParsesUnsigned, ExplainsUnsignedError, HasUnsignedDigitsIfOk}
use Rattle.clap.specs.Words.{found_of}
use Rattle.clap.proofs.WalkLemmas.{one_text-rows}
use Rattle.serve_arguments.specs.Choices.{worker_count}
use Rattle.serve_arguments.proofs.Numbers.{worker_count_read}
use Rattle.serve_arguments.proofs.words.workers_in.Goals as goal

pub returns : goal.returns
returns c =
    worker_count_read (λ text r. ParsesUnsigned 32 10 text r × ExplainsUnsignedError 10 text r × HasUnsignedDigitsIfOk text r) (λ text r g. g.0) _ c.get_one.result c.get_one.ensures.none c.get_one.ensures.value
    ∙ ap (option_and_then worker_count) (one_text-rows (found_of c.args.values.now) (codes "workers"))
