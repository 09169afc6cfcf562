use Rattle.std.proofs.Common.{arith}
use Rattle.dtx_watch.proofs.ToldLemmas.{settled, notes_stay}
use Rattle.dtx_watch.proofs.laws.notes_stay.Goals as goal

pub returns : goal.returns
returns c = record {
  whole = λ d k a h e. settled d k h a e;
  stays = λ d r k h. notes_stay d r k (omega (arith, h)) (settled d k h);
}
