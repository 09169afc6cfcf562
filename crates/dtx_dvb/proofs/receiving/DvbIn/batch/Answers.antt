use Rattle.std.proofs.Common.{◌≡◌, ◌+◌, ◌*◌, ◌++◌, ℕ, [], List, length, get_or, take, sym, ◌∙◌, subst, arith}
use Rattle.std.proofs.lemmas.List.{length-append}
use Rattle.dtx_outer.specs.Inner.{Kept, StandsFor}
use Rattle.dtx_outer.specs.declared.inner.Taken.TheVariants.{None}
use Rattle.dtx_dvb.proofs.Giving.{few_blocks, nothing_finished}
use Rattle.dtx_dvb.proofs.Batch.{batch_given, long_part}
use Rattle.dtx_dvb.proofs.receiving.DvbIn.batch.Goals as goal

pub returns-clause-none : goal.returns-clause-none
returns-clause-none c = λ y q p s k l m.
    let bytes : List ℕ = c.args.bytes.now in
    let here : StandsFor 204 188 12 17 c.self.inside.inner y =
    subst (λ (kept : Kept). StandsFor 204 188 12 17 kept y) (sym c.self.view_is) s in
    let before : List ℕ = y ++ take (204 * (4 * q + p)) bytes in
    let t = (c.take_fours.ensures.taken y q p here k l).none (few_blocks before (omega (
      arith,
      m,
      length-append y (take (204 * (4 * q + p)) bytes),
      long_part (4 * q + p) (length c.args.packets.now) bytes c.requires.whole (omega (arith, k, l)),
    ))) in (
      t.0,
      c.loop-q.invariant.done q p (omega (arith, k, c.loop-q-test.false)) l
          ∙ nothing_finished (get_or (get_or c.take_fours.new.taken q []) p None)
          (get_or (get_or c.args.packets.now q []) p []) (get_or (get_or c.take_fours.new.outs q []) p []) t.0 t.1,
    )

pub returns-clause-packets : goal.returns-clause-packets
returns-clause-packets c = λ y s.
    let here : StandsFor 204 188 12 17 c.self.inside.inner y =
    subst (λ (k : Kept). StandsFor 204 188 12 17 k y) (sym c.self.view_is) s in
    let same : length c.loop-q.packets ≡ length c.args.packets.now =
    omega (arith, c.loop-q.invariant.long, c.take_fours.auto.outs) in
    batch_given y c.args.bytes.now c.args.packets.now c.loop-q.packets c.take_fours.new.taken (record {
      white = c.self.inside.inner.white;
      new = c.take_fours.new.outs;
      blocks = here.blocks;
      white_is = c.self.invariant;
      behind = here.given;
      long = omega (arith, c.requires.whole, same);
      taken_each = λ q p k l. c.take_fours.ensures.taken y q p here (omega (arith, k, same)) l;
      finished_each = λ q p k l. c.loop-q.invariant.done q p (omega (arith, k, same, c.loop-q-test.false)) l;
    })
