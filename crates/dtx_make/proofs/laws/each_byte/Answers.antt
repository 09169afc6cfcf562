use Rattle.dtx_make.proofs.LaidBytesLemmas.{laid_covered, laid_stays}
use Rattle.dtx_make.proofs.laws.each_byte.Goals as goal

pub returns : goal.returns
returns c = record { covered = laid_covered; stays = laid_stays }
