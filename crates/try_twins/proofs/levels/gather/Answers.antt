use Rattle.try_twins.proofs.levels.gather.Goals as goal

pub returns-clause-gathered : goal.returns-clause-gathered
returns-clause-gathered c = c.in_ok-gather.ensures.after.0

pub returns-clause-values : goal.returns-clause-values
returns-clause-values c = c.in_ok-gather.ensures.fits.1.shape.values

pub returns-clause-clocks : goal.returns-clause-clocks
returns-clause-clocks c = c.in_ok-gather.ensures.fits.1.shape.clocks

pub returns-clause-flags : goal.returns-clause-flags
returns-clause-flags c = c.in_ok-gather.ensures.fits.1.flags
