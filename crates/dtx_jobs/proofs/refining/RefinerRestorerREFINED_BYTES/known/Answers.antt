use Rattle.dtx_jobs.proofs.refining.RefinerRestorerREFINED_BYTES.known.Goals as goal

pub returns-clause-held : goal.returns-clause-held
returns-clause-held c = λ symbols is. c.holds_few.ensures symbols is.stands
