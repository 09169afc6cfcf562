use Rattle.std.proofs.Common.{◌++◌, ℕ, List, sym, ap, ◌∙◌, subst}
use Rattle.dtx_outer.specs.Inner.{Kept, StandsFor}
use Rattle.dtx_dvb.specs.Reading.{read_dvb}
use Rattle.dtx_dvb.specs.Given.{given}
use Rattle.dtx_dvb.proofs.Giving.{gives, few_blocks, nothing_finished}
use Rattle.dtx_dvb.proofs.receiving.DvbIn.block.Goals as goal

pub returns-clause-none : goal.returns-clause-none
returns-clause-none c = λ y s l.
    let here : StandsFor 204 188 12 17 c.self.inside.inner y =
    subst (λ (k : Kept). StandsFor 204 188 12 17 k y) (sym c.self.view_is) s in
    let t = (c.take-taken.ensures.taken y here).none (few_blocks y l) in (
      t.0,
      ap (λ (bytes : List ℕ). record { 0 = bytes }) (c.finish.ensures
          ∙ nothing_finished c.take-taken.result c.args.packet.now.0 c.take-taken.new.out t.0 t.1),
    )

pub returns-clause-packets : goal.returns-clause-packets
returns-clause-packets c = λ y s.
    let here : StandsFor 204 188 12 17 c.self.inside.inner y =
    subst (λ (k : Kept). StandsFor 204 188 12 17 k y) (sym c.self.view_is) s in
    gives c.self.inside.inner.white y c.args.bytes.now c.args.packet.now.0 c.take-taken.new.out here.blocks
    c.take-taken.result c.self.invariant here.given c.told-bytes (c.take-taken.ensures.taken y here)
    ∙ ap (λ bytes. read_dvb y ++ given c.take-taken.result bytes) (sym c.finish.ensures)
