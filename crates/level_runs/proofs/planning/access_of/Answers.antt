use Rattle.std.proofs.Common.{ℕ, List, length, map, get_or, ap, sym, subst, ◌∙◌, arith}
use Rattle.std.specs.Prelude.{slice_get}
use Rattle.level_runs.specs.Accesses.{AreGlobalsOf}
use Rattle.level_runs.proofs.Globals.{access_by}
use Rattle.level_runs.proofs.planning.access_of.Goals as goal

pub slots_at-requires : goal.slots_at-requires
slots_at-requires c = λ i p at.
    let within = c.written.ensures.part.inside i p (ap (λ xs. slice_get xs i) (sym c.written.ensures.is) ∙ at) in
    omega (arith, within, ap length c.slots-slots.ensures)

pub returns-clause-tells : goal.returns-clause-tells
returns-clause-tells c = λ whole is.
    let part = c.args.part.now in
    let reads = c.in_ok-globals_among.field-0.items in
    let writes = c.in_ok-globals_among-2.field-0.items in
    access_by c.args.globals whole part reads writes
    (subst (λ (xs : List ℕ). AreGlobalsOf c.args.globals xs reads) c.slots-slots.ensures c.in_ok-globals_among.ensures)
    (subst (λ (xs : List ℕ). AreGlobalsOf c.args.globals xs writes) (c.deref.ensures.value ∙ c.in_ok-written.ensures ∙ (λ i. map (λ p. get_or (c.slots-slots.ensures i) p 0) (c.written.ensures.is i))) c.in_ok-globals_among-2.ensures) is
