-- Lemmas of what `receive` makes of symbols: the packets of all segments.
use Rattle.std.proofs.Common.{◌≡◌, ℕ, List}
use Rattle.dtx_engine.specs.Made.{only, joined}
use Rattle.dtx_jobs.proofs.GivingLemmas.{receives_whole}
use Rattle.dtx_recipes.specs.Receive.{received_bytes, receiving, with_corrections}
use Rattle.dtx_recipes.proofs.ReceiveLemmas.{corrections_given}

-- what is made of all segments is their packets
pub receives_all : (file : List ℕ) → joined (receiving.made file) (receiving.rest file) ≡ only (received_bytes file)
receives_all file = receives_whole with_corrections corrections_given file
