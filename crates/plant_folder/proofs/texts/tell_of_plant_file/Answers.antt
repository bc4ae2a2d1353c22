use Rattle.plant_folder.proofs.FetchLaws.{file_refused}
use Rattle.plant_folder.proofs.texts.tell_of_plant_file.Goals as goal

pub refused-requires-clause-lawful : goal.refused-requires-clause-lawful
refused-requires-clause-lawful g c = file_refused _ c.args.fault.now c.requires.lawful
