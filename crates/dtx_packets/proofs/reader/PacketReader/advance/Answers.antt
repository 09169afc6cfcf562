use Rattle.std.proofs.Common.{◌≡◌, ◌*◌, length, length-take-le, ◌∙◌, arith, rules}
use Rattle.dtx_packets.proofs.Reading.{step_leaves, step_of_told}
use Rattle.dtx_packets.proofs.reader.PacketReader.advance.Goals as goal

pub returns-in-Ok-clause-told : goal.returns-in-Ok-clause-told
returns-in-Ok-clause-told g c =
    let wanted = c.min-wanted.result in
    let long : length c.fill.new.into ≡ wanted * 188 =
    c.fill.auto.into ∙ length-take-le (wanted * 188) c.args.bytes.now (omega (arith, c.min-wanted.ensures)) in
    step_of_told (g.S.Shelf.files c.args.shelf.now) c.args.name.now c.args.self.now c.step_over.new.self
    c.in-Ok.filled wanted c.step_over.result c.fill.new.into _
    (omega (arith, c.requires.some, c.fill.auto.into))
    (omega (arith, c.min-wanted.ensures, c.max.ensures, c.left.ensures, c.fill.auto.into))
    (omega (arith, long))
    (search rules)
    c.step_over.ensures

pub returns-in-Ok-clause-left : goal.returns-in-Ok-clause-left
returns-in-Ok-clause-left g c =
    let wanted = c.min-wanted.result in
    let long : length c.fill.new.into ≡ wanted * 188 =
    c.fill.auto.into ∙ length-take-le (wanted * 188) c.args.bytes.now (omega (arith, c.min-wanted.ensures)) in
    step_leaves c.args.self.now c.step_over.new.self c.in-Ok.filled wanted _ c.step_over.result
    (omega (arith, c.min-wanted.ensures, c.fill.auto.into))
    (omega (arith, c.min-wanted.ensures, c.max.ensures, c.left.ensures))
    (omega (arith, c.in-Ok.ensures.bound, long))
    c.step_over.ensures
