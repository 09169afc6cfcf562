use Rattle.dtx_jobs.proofs.acquiring.AcquirerRestorerACQUIRED_BYTES.known.Goals as goal

pub returns-clause-held : goal.returns-clause-held
returns-clause-held c = λ symbols is. is.few
