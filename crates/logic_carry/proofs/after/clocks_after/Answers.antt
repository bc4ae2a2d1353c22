use Rattle.std.proofs.Common.{◌≡◌, ◌∙◌, ap, subst, arith, ℕ, List, Option, map, length}
use Rattle.std.proofs.lemmas.List.{length-map}
use Rattle.base_words.specs.Names.{find_name}
use Rattle.logic_source.specs.Worlds.{opening}
use Rattle.logic_source.specs.Layout.{all_clocks}
use Rattle.logic_cells.specs.declared.clock.Clock.{Clock}
use Rattle.logic_frames.specs.Stands.{clock_in}
use Rattle.logic_carry.specs.Keeping.{AreCarried, ArePlaces, standard_path, kept_call}
use Rattle.logic_carry.proofs.Tables.{names_respect, names_tell}
use Rattle.logic_carry.proofs.Carried.{clocks_carried}
use Rattle.logic_carry.proofs.after.clocks_after.Goals as goal

pub returns : goal.returns
returns c = λ old new w pair before_is here_is.
    let both = c.args.both.now in
    let vs = both.old.standards.items in
    let ws = both.new.standards.items in
    let are = pair.are in
    let places = c.in_ok-places.places.items in
    let after = c.in_ok-after.after.items in
    let paths_are : c.deref-2.result.now ≡ map standard_path vs = c.deref-2.ensures.value ∙ c.in_ok-paths.ensures ∙ ap (map standard_path) c.deref.ensures.value in
    let placed : ArePlaces (map standard_path vs) (length vs) places =
    subst (λ (n : ℕ). ArePlaces (map standard_path vs) n places) (length-map vs standard_path) (subst (λ (ps : List ℕ). ArePlaces ps (length ps) places) paths_are c.in_ok-places.ensures.places) in
    let size = c.in_ok-places.ensures.size in
    let kept_are : c.deref-6.result.now ≡ map (kept_call vs places) ws =
    c.deref-6.ensures.value ∙ c.in_ok-kept.ensures ∙ (λ i. map (kept_call (c.deref-3.ensures.value i) (c.deref-4.ensures.value i)) (c.deref-5.ensures.value i)) in
    let own : AreCarried (map (clock_in w) (all_clocks old)) (map (clock_in (opening new)) (all_clocks new)) (map (kept_call vs places) ws) (length (map (clock_in (opening new)) (all_clocks new))) after =
    subst (λ (b : List Clock). AreCarried b (map (clock_in (opening new)) (all_clocks new)) (map (kept_call vs places) ws) (length (map (clock_in (opening new)) (all_clocks new))) after) before_is
    (subst (λ (h : List Clock). AreCarried c.args.before.now h (map (kept_call vs places) ws) (length h) after) here_is
    (subst (λ (k : List (Option ℕ)). AreCarried c.args.before.now c.args.here.now k (length c.args.here.now) after) kept_are c.in_ok-after.ensures)) in
    clocks_carried (find_name pair.names) are.numbers are.count (names_respect pair.names) (names_tell pair.names) are.numbered old new pair.old_named pair.new_named w vs ws are.old_is.standards_are are.new_is.standards_are places after placed (omega (arith, are.below, size)) own
