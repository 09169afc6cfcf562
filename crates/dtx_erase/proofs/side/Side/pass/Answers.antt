use Rattle.std.proofs.Common.{◌≡◌, ◌+◌, ◌-◌, ◌*◌, ◌∙◌, length, ap, arith}
use borrow.Rule.Slice.PartMut.{post_of}
use Rattle.dtx_erase.proofs.Gathered.{passed_through}
use Rattle.dtx_erase.proofs.side.Side.pass.Goals as goal

pub returns-clause-gathered : goal.returns-clause-gathered
returns-clause-gathered c =
    let old = c.self.inside in
    let same : 156 + 828 * c.args.count - 156 ≡ 828 * c.args.count = omega arith in
    passed_through c.copy_from_slice.new.self old.gathered c.gather.new.bytes
    (post_of 156 (156 + 828 * c.args.count - 156) old.gathered) (828 * c.args.count)
    (omega (arith, ap length c.copy_from_slice.ensures.after, c.self.told.0)) (omega (arith, c.self.told.1))
    (omega (arith, c.gather.auto.bytes, c.self.told.1, c.requires, same)) ∙ grind arith
