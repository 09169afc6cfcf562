use Rattle.dtx_schedule.proofs.playout.Playout.find.Goals as goal

pub returns-clause-place : goal.returns-clause-place
returns-clause-place c = λ ts steps playing. c.find.ensures.place ts steps playing.net
