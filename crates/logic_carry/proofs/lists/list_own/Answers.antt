use Rattle.std.proofs.Common.{◌≡◌, List, [], ◌+◌, Some, take, slice_get, slice_index_or, arith, sym, subst}
use Rattle.std.proofs.lemmas.Option.{slice_get-get_or}
use Rattle.plant_types.specs.declared.values.Kind.TheVariants as kind
use Rattle.logic_source.specs.declared.logic.Local.{Local}
use Rattle.logic_source.specs.Ranges.{local_kinds}
use Rattle.logic_carry.specs.declared.words.Own.{Own}
use Rattle.logic_carry.specs.declared.lists.ValueAt.{ValueAt}
use Rattle.logic_carry.specs.Lists.{Lists, Adds, numbers_in}
use Rattle.logic_carry.proofs.Stepping.{own_step, own_all}
use Rattle.logic_carry.proofs.lists.list_own.Goals as goal

pub loop-variable-preserved : goal.loop-variable-preserved
loop-variable-preserved c =
    let own = c.args.own.now in
    let n = c.loop-variable.variable-index in
    let o : Own = slice_index_or own n (record { word = 0; kind = kind.Bool }) in
    let at : slice_get own n ≡ Some o = slice_get-get_or own n (record { word = 0; kind = kind.Bool }) (omega (arith, c.loop-variable-test.true)) in
    let before = c.args.listed.now in
    let old = c.loop-variable.listed in
    let new = numbers_in (record { numbers = c.path_number.new.numbers; values = c.push.new.self; standards = old.standards }) in
    record {
      numbered = c.in_ok-below.ensures.numbered;
      lists = λ words locals q are at_q.
          subst (λ (vs : List ValueAt). Lists words (numbers_in before) new before.values.items vs before.standards.items old.standards.items (local_kinds (take (n + 1) locals) q) []) (sym c.in_ok-push.ensures.items)
          (own_step words (numbers_in before) (numbers_in old) new before.values.items old.values.items before.standards.items old.standards.items c.args.path c.in_ok-below.below q n own locals o are at at_q
          (c.loop-variable.invariant.lists words locals q are at_q) c.in_ok-below.ensures.grows c.in_ok-below.ensures.number);
    }

pub returns-clause-lists : goal.returns-clause-lists
returns-clause-lists c = λ words locals q are at_q.
    subst (λ (ls : List Local). Adds words c.args.listed.now c.loop-variable.listed (local_kinds ls q) []) (own_all words c.args.own.now locals c.loop-variable.variable-index are (omega (arith, c.loop-variable-test.false)))
    (c.loop-variable.invariant.lists words locals q are at_q)
