use Rattle.dtx_symbol_laws.proofs.SoftPlaces.{no_place, run_places}
use Rattle.dtx_symbol_laws.proofs.soft_laws.places_of_data.Goals as goal

pub returns-clause-runs : goal.returns-clause-runs
returns-clause-runs c = run_places

pub returns-clause-elsewhere : goal.returns-clause-elsewhere
returns-clause-elsewhere c = no_place
