use Rattle.std.proofs.Common.{◌≡◌, ◌∙◌, ◌+◌, ap, sym, subst, refl, arith, ℕ, List, [], Some, take, slice_get}
use Rattle.std.proofs.lemmas.List.{take_all}
use Rattle.std.proofs.lemmas.Option.{slice_get-get_or}
use Rattle.base_words.specs.Names.{find_name}
use Rattle.logic_source.specs.Source.{PlainRoutine}
use Rattle.vm_logic.specs.Headings.{PlainHeading}
use Rattle.logic_carry.proofs.Naming.{number_later}
use Rattle.logic_carry.specs.declared.lists.Program.{Program}
use Rattle.logic_carry.specs.Shapes.{IsNumbered, ArePrograms}
use Rattle.logic_carry.proofs.Tables.{grows_on, grows_none}
use Rattle.logic_carry.proofs.Shaping.{programs_next}
use Rattle.vm_carry.proofs.Headed.{headed_at, headed_count}
use Rattle.vm_carry.proofs.shapes.programs_of.Goals as goal

pub loop-heading-init : goal.loop-heading-init
loop-heading-init c =
    let words = find_name c.args.names.now in
    record {
      are = λ rs same. subst (λ (xs : List Program). ArePrograms words xs []) (sym c.in_ok-programs.ensures.items) tt;
      grows = grows_none words;
    }

pub loop-heading-preserved : goal.loop-heading-preserved
loop-heading-preserved c =
    let all = c.args.headings.now in
    let n = c.loop-heading.heading-index in
    let item = c.heading-item.result in
    let at : slice_get all n ≡ Some item = slice_get-get_or all n item (omega (arith, c.loop-heading-test.true)) ∙ ap Some (sym c.heading-item.is) in
    let inv = c.loop-heading.invariant in
    let old = find_name c.loop-heading.names in
    let mid = find_name c.word_number.new.names in
    let new = find_name c.shape_of.new.names in
    let named : IsNumbered mid item.name c.in_ok-word.word = subst (λ (name : List ℕ). IsNumbered mid name c.in_ok-word.word) c.as_str.ensures c.in_ok-word.ensures.number in
    record {
      are = λ rs same.
          let r = headed_at all rs n item same at in
          let its : IsNumbered new r.0.name c.in_ok-word.word = subst (λ (name : List ℕ). IsNumbered new name c.in_ok-word.word) (ap (λ (h : PlainHeading). h.name) r.2) (number_later mid new c.in_ok-shape.ensures.grows item.name c.in_ok-word.word named) in
          subst (λ (xs : List Program). ArePrograms new xs (take (n + 1) rs)) (sym c.in_ok-push.ensures.items)
          (programs_next old new (grows_on old mid new c.in_ok-word.ensures.grows c.in_ok-shape.ensures.grows) c.loop-heading.programs.items rs n (record { word = c.in_ok-word.word; shape = c.in_ok-shape.shape }) r.0 (inv.are rs same) r.1 its (c.in_ok-shape.ensures.shape r.0 r.2));
      grows = grows_on (find_name c.args.names.now) old new inv.grows (grows_on old mid new c.in_ok-word.ensures.grows c.in_ok-shape.ensures.grows);
    }

pub returns-clause-programs : goal.returns-clause-programs
returns-clause-programs c = λ rs same.
    let n = c.loop-heading.heading-index in
    let many = headed_count c.args.headings.now rs same in
    let whole : take n rs ≡ rs = take_all n rs (let test = c.loop-heading-test.false in omega (arith, many, test)) in
    subst (λ (xs : List PlainRoutine). ArePrograms (find_name c.loop-heading.names) c.loop-heading.programs.items xs) whole (c.loop-heading.invariant.are rs same)
