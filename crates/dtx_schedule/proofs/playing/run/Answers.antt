use Rattle.std.proofs.Common.{List, arith}
use Rattle.std.specs.Prelude.{Option, Result, Ok, Err}
use Rattle.std.proofs.lemmas.Result.{err_from_is_err_and}
use Rattle.dtx_meaning.proofs.MeaningLemmas.{write_is_fault}
use Rattle.dtx_meaning.specs.declared.status.Status.{Status}
use Rattle.dtx_net.specs.Steps.{Step}
use Rattle.dtx_outside.specs.Shelf.{Files}
use Rattle.dtx_plan.specs.declared.transmitter.Transmitter.{Transmitter}
use Rattle.dtx_schedule.specs.Played.{IsRunOf}
use Rattle.dtx_schedule.specs.PlayedSoFar.{IsDoneOf}
use Rattle.dtx_schedule.specs.declared.playout.Playout.{Playout}
use Rattle.dtx_schedule.proofs.Begun.{none_played}
use Rattle.dtx_schedule.proofs.Fronts.{nothing_first, part_under_way, parts_grow}
use Rattle.dtx_schedule.proofs.playing.run.Goals as goal

run_of : (ts : List Transmitter) (steps : List Step) (held : Files) (result : Result (Unit {0}) Status)
    (playout : Playout) (now : Option Files)
    → IsDoneOf ts steps held result playout now → IsRunOf ts steps held result playout now
run_of ts steps held (Ok _) playout now is = is
run_of ts steps held (Err status) playout now (fault, is) = grind (arith, part_under_way)

pub returns-in_err-begin_files-clause-run : goal.returns-in_err-begin_files-clause-run
returns-in_err-begin_files-clause-run g c =
    grind (arith, err_from_is_err_and, write_is_fault, parts_grow, nothing_first)

pub returns-clause-run : goal.returns-clause-run
returns-clause-run g c = grind (arith, run_of, none_played)
