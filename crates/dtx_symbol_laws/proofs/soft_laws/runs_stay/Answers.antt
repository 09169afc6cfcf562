use Rattle.dtx_symbol_laws.proofs.SoftPlaces.{places_stay}
use Rattle.dtx_symbol_laws.proofs.SoftRuns.{soft_runs, soft_tracking}
use Rattle.dtx_symbol_laws.proofs.soft_laws.runs_stay.Goals as goal

pub returns-clause-intervals : goal.returns-clause-intervals
returns-clause-intervals c = places_stay

pub returns-clause-lengths : goal.returns-clause-lengths
returns-clause-lengths c = soft_runs

pub returns-clause-tracking : goal.returns-clause-tracking
returns-clause-tracking c = soft_tracking
