use Rattle.std.proofs.Common.{◌≡◌, ◌∙◌, ℕ, List, Some, length, slice_get, arith, ap, sym, subst}
use Rattle.std.proofs.lemmas.Option.{slice_get-get_or}
use Rattle.logic_source.specs.Source.{PlainRoutine}
use Rattle.logic_source.specs.Layout.{clocks_rule, program_clocks}
use Rattle.logic_source.specs.Ranges.{kinds_rule, program_kinds}
use Rattle.logic_carry.specs.Lists.{Lists, Adds, numbers_in}
use Rattle.logic_carry.proofs.Naming.{shapes_count}
use Rattle.logic_carry.proofs.Stepping.{deep_kinds, deep_clocks, program_step, programs_all}
use Rattle.logic_carry.proofs.lists.list_programs.Goals as goal

pub loop-program-preserved : goal.loop-program-preserved
loop-program-preserved c =
    let programs = c.args.programs.now in
    let n = c.loop-program.program-index in
    let p = c.program-item.result in
    let at : slice_get programs n ≡ Some p = slice_get-get_or programs n p (omega (arith, c.loop-program-test.true)) ∙ ap Some (sym c.program-item.is) in
    let before = c.args.listed.now in
    let old = c.loop-program.listed in
    let new = numbers_in (record { numbers = c.path_number.new.numbers; values = old.values; standards = old.standards }) in
    let later = c.list_routine.new.listed in
    record {
      numbered = c.in_ok-list_routine.ensures.numbered;
      lists = λ words blocks routines are programs_are.
          let depth : c.len.result ≡ length blocks = c.len.ensures ∙ c.args.table.now.blocks.ok.0 ∙ shapes_count words c.args.table.now.blocks.items blocks are.blocks_are in
          program_step words (numbers_in before) (numbers_in old) new (numbers_in later) before.values.items old.values.items later.values.items before.standards.items old.standards.items later.standards.items c.in_ok-path.path n blocks routines programs p programs_are at
          (c.loop-program.invariant.lists words blocks routines are programs_are) c.in_ok-path.ensures.grows c.in_ok-path.ensures.number
          (λ r inside is here. subst (λ (d : ℕ). Lists words new (numbers_in later) old.values.items later.values.items old.standards.items later.standards.items (kinds_rule (deep_kinds blocks d) r inside) (clocks_rule (deep_clocks blocks d) r inside)) depth
          (c.in_ok-list_routine.ensures.lists words blocks r inside are is here));
    }

pub returns-clause-lists : goal.returns-clause-lists
returns-clause-lists c = λ words blocks routines are programs_are.
    subst (λ (rs : List PlainRoutine). Adds words c.args.listed.now c.loop-program.listed (program_kinds blocks rs) (program_clocks blocks rs)) (programs_all words c.args.programs.now routines c.loop-program.program-index programs_are (omega (arith, c.loop-program-test.false)))
    (c.loop-program.invariant.lists words blocks routines are programs_are)
