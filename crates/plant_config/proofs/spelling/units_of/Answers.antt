use Rattle.plant_config.proofs.spelling.units_of.Goals as goal

pub misspelled-requires : goal.misspelled-requires
misspelled-requires g c = rw (← c.handed.view_is) c.in-Err.ensures

pub returns-in-Ok : goal.returns-in-Ok
returns-in-Ok g c = record { limited = c.requires; units_are = rw (← c.handed.view_is) c.in-Ok.ensures }

pub returns-in-Err : goal.returns-in-Err
returns-in-Err g c = c.misspelled.ensures c.args.file.now c.args.epoch c.requires
