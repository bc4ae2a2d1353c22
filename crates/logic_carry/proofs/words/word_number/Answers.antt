use Rattle.logic_carry.proofs.words.word_number.Goals as goal

pub returns-in-Some-clause-grows : goal.returns-in-Some-clause-grows
returns-in-Some-clause-grows c = λ name n is. is
