use Rattle.std.proofs.Common.{rules}
use Rattle.std.proofs.lemmas.Fmt.{length-decimal-le}
use Rattle.serve_lines.proofs.outputs.OutFront.new.Goals as goal

pub place_digits-size-requires : goal.place_digits-size-requires
place_digits-size-requires c = search (rules, length-decimal-le 20)
