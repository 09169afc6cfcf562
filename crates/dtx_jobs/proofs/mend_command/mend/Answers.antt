use Rattle.dtx_jobs.proofs.mend_command.mend.Goals as goal

pub returns : goal.returns
returns g c = record { performed = c.transform.ensures.performed; stages = c.transform.ensures.stages }
