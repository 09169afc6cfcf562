use Rattle.std.proofs.Common.{◌≡◌, ℕ, ◌*◌, ◌/◌, List, [], ◌∷◌, length, ap, ap₂, ◌∙◌, arith}
use Rattle.dtx_meaning.specs.Status.{done}
use Rattle.dtx_meaning.specs.declared.status.Outcome.{Outcome}
use Rattle.dtx_packets.specs.Packets.{packets_of}
use Rattle.dtx_recipes.specs.Place.{bare_fields, placed, placed_count}
use Rattle.dtx_forms.proofs.FilePacketsLemmas.{length-packets_of}
use Rattle.dtx_packet_jobs.proofs.PlacedCounts.{bare_is, closed_fields-most, fits_with}
use Rattle.dtx_packet_jobs.proofs.placing.PlacingChange.finish.Goals as goal

-- the answer with these numbers
answer : ℕ → ℕ → ℕ → ℕ → Outcome
answer packets placed bare loose = done (packets ∷ placed ∷ bare ∷ loose ∷ [])

-- how many packets were given
units_are : (units : ℕ) (given : List ℕ) → length given ≡ 188 * units → units ≡ length (packets_of given)
units_are units given long = omega (arith, length-packets_of given, long)

pub overflow_add-bare : goal.overflow_add-bare
overflow_add-bare c =
    let some = c.requires.given in
    fits_with c.args.self.now.bare _ (omega (
      arith,
      units_are c.args.units some.0 some.1,
      some.2.without,
      closed_fields-most (packets_of some.0) (length (packets_of some.0) / 312),
      c.ranges.units.fits,
    ))

pub returns-clause-answer : goal.returns-clause-answer
unfolding answer
returns-clause-answer c = λ given long counted.
    let packets = packets_of given in
    let units : c.args.units ≡ length packets = units_are c.args.units given long in
    c.done.ensures
    ∙ ap₂ (λ (placed bare : ℕ). answer c.args.units placed bare c.args.loose) counted.changed
    (bare_is c.args.self.now packets c.args.units counted units)
    ∙ ap (λ (n : ℕ). answer n (placed_count packets) (bare_fields (placed packets)) c.args.loose) units
