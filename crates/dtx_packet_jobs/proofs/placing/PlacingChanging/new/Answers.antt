use Rattle.std.proofs.Common.{refl}
use Rattle.dtx_recipes.specs.Place.{placed_count}
use Rattle.dtx_packet_jobs.proofs.placing.PlacingChanging.new.Goals as goal

pub returns : goal.returns
unfolding placed_count
returns c = record { changed = refl; without = refl; field = refl }
