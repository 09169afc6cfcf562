use Rattle.std.proofs.Common.{◌≡◌, ◌*◌, ◌%◌, ◌&&◌, ◌||◌, ◌==◌, nat_le, not, ℕ, Bool, List, length, sym, ap, subst, ◌∙◌}
use Rattle.std.proofs.Common.{◌+◌, ◌/◌, arith, refl}
use mir.Val.{bool_byte}
use Rattle.std.specs.Prelude.{if◌then◌else◌}
use Rattle.dtx_adapter.specs.Feed.{is_placeholder}
use Rattle.dtx_packets.specs.Packets.{packets_of}
use Rattle.dtx_packet_jobs.specs.Placing.{IsCounted}
use Rattle.dtx_recipes.specs.Place.{as_placeholder, becomes, is_open}
use Rattle.dtx_forms.proofs.FilePacketsLemmas.{length-packets_of}
use Rattle.dtx_packet_jobs.proofs.PlacedBytes.{packets_of-next}
use Rattle.dtx_packet_jobs.proofs.PlacedCounts.{becomes_is, closed_fields-most, counted-next, fits_with}
use Rattle.dtx_packet_jobs.proofs.PlacedCounts.{placed_count-most}
use Rattle.dtx_packet_jobs.proofs.placing.PlacingChange.change.Goals as goal
use Rattle.dtx_packet_jobs.proofs.placing.PlacingChange.change.Goals.{After-pid-pid}

-- the packet's place in its field
place_is : (index : ℕ) (given : List ℕ) → length given ≡ 188 * index → index % 312 ≡ length (packets_of given) % 312
place_is index given long = omega (arith, length-packets_of given, long)

-- whether the packet becomes a placeholder
is : (c : After-pid-pid) (given : List ℕ) → length given ≡ 188 * c.args.index
    → IsCounted c.args.self.now (packets_of given)
    → becomes (packets_of given) c.args.unit.now
    ≡ ((c.pid-pid.result == 0x1FFF) && (nat_le 52 (c.args.index % 312) && not c.args.self.now.found))
is c given long counted =
    becomes_is c.args.self.now (packets_of given) c.args.unit.now (c.args.index % 312) c.pid-pid.result counted
    (place_is c.args.index given long) c.pid-pid.ensures

pub overflow_add-self : goal.overflow_add-self
overflow_add-self c =
    let some = c.requires.given in
    fits_with c.args.self.now.bare _ (omega (
      arith,
      length-packets_of some.0,
      some.1,
      some.2.without,
      closed_fields-most (packets_of some.0) (length (packets_of some.0) / 312),
      c.requires.most,
    ))

pub overflow_add-self-2 : goal.overflow_add-self-2
overflow_add-self-2 c =
    let some = c.requires.given in
    fits_with c.args.self.now.placed _ (omega (
      arith,
      length-packets_of some.0,
      some.1,
      some.2.changed,
      placed_count-most (packets_of some.0),
      c.requires.most,
    ))

pub returns-clause-changed : goal.returns-clause-changed
returns-clause-changed c = λ given long counted.
    let unit = c.args.unit.now in
    c.become_placeholder.ensures
    ∙ ap (λ (b : Bool). if b then as_placeholder unit else unit)
    (sym (is (goal.at.returns-clause-changed c).After-pid-pid given long counted))

pub returns-clause-tallied : goal.returns-clause-tallied
unfolding is_open is_placeholder
returns-clause-tallied c = λ given long counted.
    let s = c.args.self.now in
    let unit = c.args.unit.now in
    let place = c.args.index % 312 in
    subst (IsCounted _) (sym (packets_of-next given unit (omega (arith, long)) c.requires.long))
    (counted-next s _ (packets_of given) unit place _ counted (place_is c.args.index given long)
    (ap (λ (pid : ℕ). s.found || (nat_le 52 place && ((pid == 8191) || (pid == 8186)))) c.pid-pid.ensures)
    (ap (λ (b : Bool). s.placed + bool_byte b)
    (sym (is (goal.at.returns-clause-tallied c).After-pid-pid given long counted))) refl refl)
