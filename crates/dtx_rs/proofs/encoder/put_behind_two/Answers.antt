use Rattle.dtx_rs.proofs.encoder.put_behind_two.Goals as goal

pub returns-clause-other : goal.returns-clause-other
returns-clause-other c = c.put_behind-2.ensures
