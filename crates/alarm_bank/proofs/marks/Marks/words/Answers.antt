use Rattle.std.proofs.Common.{◌≡◌, ℕ, Bool, List, length, ap, sym, ◌∙◌, subst}
use Rattle.alarm_bank.specs.Marks.{flags_of, AreMarks}
use Rattle.alarm_bank.proofs.MarkLaws.{length-flags_of}
use Rattle.alarm_bank.proofs.marks.Marks.words.Goals as goal

pub returns-clause-marks : goal.returns-clause-marks
returns-clause-marks c =
    let many : c.self.inside.count ≡ length c.args.self.now = sym (length-flags_of c.self.inside.count c.self.inside.words.items) ∙ ap (λ (m : List Bool). length m) c.self.view_is in
    subst (λ (n : ℕ). AreMarks n c.as_slice.result.now) many (subst (λ (ws : List ℕ). AreMarks c.self.inside.count ws) (sym c.as_slice.ensures.value) c.self.invariant)

pub returns-clause-flags : goal.returns-clause-flags
returns-clause-flags c =
    let many : c.self.inside.count ≡ length c.args.self.now = sym (length-flags_of c.self.inside.count c.self.inside.words.items) ∙ ap (λ (m : List Bool). length m) c.self.view_is in
    sym c.self.view_is ∙ ap (λ (ws : List ℕ). flags_of c.self.inside.count ws) (sym c.as_slice.ensures.value) ∙ ap (λ (n : ℕ). flags_of n c.as_slice.result.now) many
