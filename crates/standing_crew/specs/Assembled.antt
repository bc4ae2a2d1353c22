-- How a crew of workers that stand judges the runs that came back. They and what was handed out are lists of what jobs start from.
use Rattle.std.specs.Prelude.{◌⊎◌, Bool, List, Option, Some, None, Result, Ok, Err}
use Rattle.crew.specs.Ticks.{HasStranger, HasDouble, LacksOne, IsTicked}
use Rattle.crew.specs.declared.fault.CrewFault.{CrewFault}
use Rattle.crew.specs.declared.fault.CrewFault.TheVariants.{Memory, NoThread, Lost, Misfit}

-- why runs are refused: a stranger or a double is a misfit; where there is neither, a run that is missing is lost
abbrev pub IsCollectFault : {S : Type 0} → List S → List S → CrewFault → Type 0
IsCollectFault starts runs Memory = Unit {0}
IsCollectFault starts runs NoThread = ⊥
IsCollectFault starts runs Lost = (HasStranger starts runs → ⊥) × (HasDouble runs → ⊥) × LacksOne starts runs
IsCollectFault starts runs Misfit = HasStranger starts runs ⊎ HasDouble runs

-- the answer of a crew whose workers are gone
abbrev pub IsLost : {T : Type 0} → Result T CrewFault → Type 0
IsLost (Ok _) = ⊥
IsLost (Err Memory) = ⊥
IsLost (Err NoThread) = ⊥
IsLost (Err Lost) = Unit {0}
IsLost (Err Misfit) = ⊥

-- no fault, unless memory was refused
abbrev pub IsMemoryOrNone : Option CrewFault → Type 0
IsMemoryOrNone None = Unit {0}
IsMemoryOrNone (Some Memory) = Unit {0}
IsMemoryOrNone (Some NoThread) = ⊥
IsMemoryOrNone (Some Lost) = ⊥
IsMemoryOrNone (Some Misfit) = ⊥

-- what is gathered of the runs that came back: they are ticked off; unless memory was refused, or the last of them is of no job or comes twice
abbrev pub IsGathered : {S : Type 0} → List S → Option CrewFault → List Bool → List S → Type 0
IsGathered starts None ticks runs = IsTicked starts ticks runs
IsGathered starts (Some Memory) ticks runs = Unit {0}
IsGathered starts (Some NoThread) ticks runs = ⊥
IsGathered starts (Some Lost) ticks runs = ⊥
IsGathered starts (Some Misfit) ticks runs = HasStranger starts runs ⊎ HasDouble runs
