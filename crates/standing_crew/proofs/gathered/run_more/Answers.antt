use Rattle.std.proofs.Common.{◌≡◌, ◌∙◌, ℕ, ap, length, map, take, sym, subst, arith}
use Rattle.std.proofs.lemmas.Grind.{common_steps}
use Rattle.crew.specs.Ticks.{IsTicked}
use Rattle.standing_crew.proofs.gathered.run_more.Goals as goal

pub tick_rest-requires-clause-ticked : goal.tick_rest-requires-clause-ticked
tick_rest-requires-clause-ticked g c =
    let many : c.len-from.result ≡ length c.args.gathered.now.runs.items = omega (arith, c.len-from.ensures, c.args.gathered.now.runs.ok.0) in
    let first : take c.len-from.result c.run_back.new.runs.items ≡ c.args.gathered.now.runs.items = ap (λ (k : ℕ). take k c.run_back.new.runs.items) many ∙ c.run_back.ensures in
    subst (λ xs. IsTicked c.args.starts.now c.args.gathered.now.ticks.items (map g.J.Work.ended_from xs)) (sym first) c.requires.ticked

pub tick_rest-requires-clause-before : goal.tick_rest-requires-clause-before
tick_rest-requires-clause-before g c = grind (arith, common_steps)

pub tick_rest-requires-clause-distinct : goal.tick_rest-requires-clause-distinct
tick_rest-requires-clause-distinct g c = grind (arith, common_steps)
