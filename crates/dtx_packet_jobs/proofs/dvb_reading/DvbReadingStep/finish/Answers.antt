use Rattle.std.proofs.Common.{◌≡◌, ℕ, [], ◌∷◌, ap₂, ◌∙◌, arith, length}
use Rattle.dtx_dvb.specs.Reading.{read_dvb}
use Rattle.dtx_dvb.proofs.ReadingLemmas.{length-read}
use Rattle.dtx_meaning.specs.Status.{done}
use Rattle.dtx_meaning.specs.declared.status.Outcome.{Outcome}
use Rattle.dtx_recipes.specs.DvbRead.{whole_blocks}
use Rattle.dtx_packet_jobs.proofs.dvb_reading.DvbReadingStep.finish.Goals as goal

-- the answer with these numbers
answer : ℕ → ℕ → ℕ → ℕ → ℕ → Outcome
answer blocks packets fixed flagged loose = done (blocks ∷ packets ∷ fixed ∷ flagged ∷ loose ∷ [])

pub returns-clause-outcome : goal.returns-clause-outcome
unfolding answer
returns-clause-outcome c = λ given stand.
    let state = c.args.self.now in
    let packets : c.saturating_sub-packets.result ≡ length (read_dvb given) =
    omega (arith, c.saturating_sub-packets.ensures, stand.blocks, length-read given) in
    c.done.ensures
    ∙ ap₂ (λ (b p : ℕ). answer b p state.gathered.fixed state.gathered.flagged c.args.loose) stand.blocks packets
    ∙ ap₂ (λ (f g : ℕ). answer (whole_blocks given) (length (read_dvb given)) f g c.args.loose) stand.fixed
    stand.flagged
