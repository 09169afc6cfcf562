use Rattle.dtx_recipes.specs.MendedBack.{put_right}
use Rattle.dtx_recipes.specs.SymbolFile.{file_segments}
use Rattle.dtx_file_laws.proofs.Whole.{near_back, stream_back}
use Rattle.dtx_file_laws.proofs.laws.air.what_was_coded_is_received.Goals as goal

pub returns-clause-undamaged : goal.returns-clause-undamaged
returns-clause-undamaged c = λ names packets are some few.
    stream_back names packets are some few (c.received_undamaged.ensures.good packets some are)

pub returns-clause-near : goal.returns-clause-near
returns-clause-near c = λ names packets file are some few long slight.
    (put_right packets 0 (file_segments file), near_back names packets file are some few long slight)
