use Rattle.std.proofs.Common.{arith, rules}
use Rattle.dtx_schedule.proofs.ProgressOf.{progress_of, progress_played, wanting}
use Rattle.dtx_schedule.proofs.playing.play.Goals as goal

pub returns-in-Err-clause-played : goal.returns-in-Err-clause-played
returns-in-Err-clause-played g c = search (rules, wanting)

pub returns-in-Err-play_with-clause-played : goal.returns-in-Err-play_with-clause-played
returns-in-Err-play_with-clause-played g c = λ held feed told there inside.
    c.in-Err-play_with.ensures.run c.args.transmitters.now held feed c.in-Ok.ensures told there inside

pub returns-in-Ok-play_with-clause-played : goal.returns-in-Ok-play_with-clause-played
returns-in-Ok-play_with-clause-played g c = λ held feed told there inside.
    let is = c.in-Ok-play_with.ensures.run c.args.transmitters.now held feed c.in-Ok.ensures told there inside in
    record { files = is.files; playing = is.playing }

pub returns-in-Err-clause-progress : goal.returns-in-Err-clause-progress
returns-in-Err-clause-progress g c = search (rules, progress_of, returns-in-Err-clause-played)

pub returns-in-Err-play_with-clause-progress : goal.returns-in-Err-play_with-clause-progress
returns-in-Err-play_with-clause-progress g c = search (rules, progress_of, returns-in-Err-play_with-clause-played)

pub returns-in-Ok-play_with-clause-progress : goal.returns-in-Ok-play_with-clause-progress
returns-in-Ok-play_with-clause-progress g c = grind (arith, progress_played, returns-in-Ok-play_with-clause-played)
