use Rattle.logic_carry.proofs.paths.path_number.Goals as goal

pub returns-in-Some-clause-grows : goal.returns-in-Some-clause-grows
returns-in-Some-clause-grows c = λ key n is. is
