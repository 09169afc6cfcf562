use Rattle.std.proofs.Common.{◌≡◌, ◌+◌, ◌-◌, length, map, take, sym, ap, ◌∙◌}
use Rattle.std.proofs.Common.{arith, rules, to_z, of_z, w64}
use Rattle.std.proofs.lemmas.Int.{to_z-of_z}
use Rattle.dtx_acquire.specs.Agreement.{is_second}
use Rattle.dtx_level.specs.Shown.{constant, gain, shows}
use Rattle.dtx_level.specs.Levelled.{By, by_sync, level}
use Rattle.dtx_level.specs.Measures.{constant_in_hundredths, gain_in_hundredths, later_by, levelled_sync}
use Rattle.dtx_level.specs.Measures.{measure_at, noise}
use Rattle.dtx_level.specs.Leveller.{Holding}
use Rattle.dtx_level.proofs.Shows.{gain_some}
use Rattle.dtx_level.proofs.MeasuresBehind.{front_levelled, later_measured, measure_is}
use Rattle.dtx_level.proofs.Steps.{by_is}
use Rattle.dtx_level.proofs.leveller.Leveller.stretch.Goals as goal

pub begin-requires-clause-some : goal.begin-requires-clause-some
begin-requires-clause-some c = λ e.
    let read : to_z w64 (of_z w64 c.standing-standing.result.gain) ≡ c.standing-standing.result.gain =
    to_z-of_z w64 c.standing-standing.result.gain (search rules) in
    gain_some c.self.inside.held 0 (ap (λ (x : Holding). shows x.held 0) c.self.view_is ∙ c.requires.front)
    (ap (λ xs. gain xs 0) (sym c.all.ensures) ∙ sym c.standing-standing.ensures.gain ∙ sym read ∙ e)

pub returns : goal.returns
returns c =
    let held = c.self.inside.held in
    let g : c.standing-standing.result.gain ≡ gain held 0 =
    c.standing-standing.ensures.gain ∙ ap (λ xs. gain xs 0) c.all.ensures in
    let o : c.standing-standing.result.constant ≡ constant held 0 =
    c.standing-standing.ensures.constant ∙ ap (λ xs. constant xs 0) c.all.ensures in
    let read_g : to_z w64 (of_z w64 c.standing-standing.result.gain) ≡ c.standing-standing.result.gain =
    to_z-of_z w64 c.standing-standing.result.gain (search rules) in
    let read_o : to_z w64 (of_z w64 c.standing-standing.result.constant) ≡ c.standing-standing.result.constant =
    to_z-of_z w64 c.standing-standing.result.constant (search rules) in
    let begun : ◌≡◌ {A = By} (record {
      begun = c.begin.new.self.begun;
      gain = c.begin.new.self.gain;
      constant = c.begin.new.self.constant;
    }) (by_sync held 0) =
    by_is _ _ _ _ _ _ c.begin.ensures.begun (c.begin.ensures.gain ∙ read_g ∙ g)
    (c.begin.ensures.constant ∙ read_o ∙ o) in
    let given : take c.give.new.self.count c.give.new.self.given.items
    ≡ map (level (by_sync held 0)) (take c.args.step.count held) =
    c.give.ensures.given ∙ ap (λ (x : By). map (level x) (take c.args.step.count held)) begun in
    let front : c.front.result ≡ levelled_sync held 0 =
    c.front.ensures ∙ ap (take 832) given ∙ front_levelled held c.args.step.count c.requires.some in
    let measured : c.measure_of.result ≡ later_by (c.self.inside.symbols - length held) (measure_at held 0) =
    measure_is c.measure_of.result (c.self.inside.symbols - length held + 0) (by_sync held 0) (levelled_sync held 0)
    (omega (arith, c.measure_of.ensures.place, c.len.ensures.long))
    (c.measure_of.ensures.second ∙ ap is_second front)
    (c.measure_of.ensures.gain ∙ ap gain_in_hundredths g)
    (c.measure_of.ensures.constant ∙ ap constant_in_hundredths o)
    (c.measure_of.ensures.noise ∙ ap (λ xs. noise xs 515) front)
    ∙ sym (later_measured held (c.self.inside.symbols - length held)) in
    let by = by_is _ _ _ _ _ _ c.give.ensures.begun c.give.ensures.gain c.give.ensures.constant ∙ begun in
    let place = ap (λ n. c.self.inside.symbols - n) c.len.ensures.long in
    rw (← c.self.view_is) (cc (
      given,
      measured,
      by,
      place,
      c.give.ensures.held,
      c.count.ensures.syncs,
      c.count.ensures.slips,
      c.count.ensures.last,
    ))
