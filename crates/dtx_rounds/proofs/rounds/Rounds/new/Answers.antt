use Rattle.dtx_rounds.specs.declared.rounds.Rounds.{Rounds}
use Rattle.dtx_rounds.proofs.PassedRounds.{made_first}
use Rattle.dtx_rounds.proofs.rounds.Rounds.new.Goals as goal

pub returns : goal.returns
returns c = record {
  begun = λ heard given. made_first c.args.scale c.args.count heard given begun c.in_ok-new.ensures.scale
      c.in_ok-empty_rounds.ensures.off c.in_ok-empty_rounds.ensures.long;
}
  where
    begun : Rounds
    begun = record { means = c.in_ok-new.field-0; rounds = c.in_ok-empty_rounds.field-0 }
