use Rattle.std.proofs.Common.{◌≡◌, ◌∙◌, ap, ℕ, List}
use Rattle.std.specs.Prelude.{◌||◌, not}
use Rattle.std.specs.List.{list_any}
use Rattle.plant_types.specs.Words.{same_word}
use Rattle.st_tree.specs.View.{view_body}
use Rattle.base_words.specs.Names.{is_among}
use Rattle.logic_source.specs.Source.{view_routine}
use Rattle.logic_source.specs.Paths.{called_in, is_called}
use Rattle.logic_frames.specs.Reached.{numbers_of, flag_all}
use Rattle.logic_frames.proofs.reached.flag_asked.Goals as goal

pub returns : goal.returns
returns c =
    let calls = c.args.calls in
    let called : (n : List ℕ) → is_among c.in_ok-called.called n ≡ is_called (view_routine c.args.routine.now) n = (λ n. c.in_ok-called.ensures n ∙ ap (λ b. list_any (same_word n) (called_in (view_body b))) c.deref.ensures.value) in
    c.flag_instances.ensures ∙ (λ i. flag_all c.args.flags.now.items (numbers_of (λ n. not calls || called n i) (c.deref-2.ensures.value i)))
