use Rattle.std.proofs.Common.{◌≡◌, sym, subst, ◌++◌, ◌∷◌, [], length, rules, ◌<◌}
use Rattle.codegen.specs.Sizes.{routine_lines}
use Rattle.codegen.specs.Counts.{lines_at, IsCountOf, AreFirst}
use Rattle.vm_programs.proofs.Counted.{few_last, one_counted}
use Rattle.vm_programs.proofs.codes.push_program.Goals as goal

pub count_frame-count-requires : goal.count_frame-count-requires
count_frame-count-requires c =
    let last = c.in_ok-last.last in
    let few = few_last c.args.folded.now.items last c.args.counts.now.frames.items c.requires.counted (c.requires.few last c.in_ok-last.ensures) in
    subst (λ t. routine_lines (lines_at t) last < 4294967296) (sym c.deref.ensures.value) few

pub returns-clause-folded : goal.returns-clause-folded
returns-clause-folded c =
    let pushed : c.push-2.new.self.items ≡ c.args.folded.now.items ++ c.in_ok-last.last ∷ [] = search rules in
    (c.in_ok-last.last, pushed, c.in_ok-last.ensures)

pub returns-clause-counts : goal.returns-clause-counts
returns-clause-counts c =
    let pushed : c.push.new.self.items ≡ c.args.counts.now.frames.items ++ c.count_frame-count.result ∷ [] = search rules in
    (c.count_frame-count.result, pushed)

pub returns-clause-counted : goal.returns-clause-counted
returns-clause-counted c =
    let folded = c.args.folded.now.items in
    let last = c.in_ok-last.last in
    let table = c.args.counts.now.frames.items in
    let count = c.count_frame-count.result in
    let pushed : c.push.new.self.items ≡ table ++ count ∷ [] = search rules in
    let more : c.push-2.new.self.items ≡ folded ++ last ∷ [] = search rules in
    let is : IsCountOf table last count = subst (λ t. IsCountOf t last count) c.deref.ensures.value c.count_frame-count.ensures in
    subst (λ fs. AreFirst fs (length fs) c.push.new.self.items) (sym more) (one_counted folded last table c.requires.counted c.push.new.self.items count is pushed)
