use Rattle.dtx_dvb.proofs.receiving.flag.Goals as goal

pub returns : goal.returns
returns c = c.flag_error.ensures
