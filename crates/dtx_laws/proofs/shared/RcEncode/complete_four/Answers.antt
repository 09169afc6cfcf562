use Rattle.dtx_laws.proofs.shared.RcEncode.complete_four.Goals as goal

pub returns : goal.returns
returns g c = cc
