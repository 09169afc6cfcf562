use Rattle.std.proofs.Common.{◌-◌, length, get_or, set, bit_xor, refl, ap₂}
use Rattle.dtx_rs.proofs.Sums.{fed_is}
use Rattle.dtx_rs.proofs.register.feed.Goals as goal

pub returns : goal.returns
returns c =
    let old = c.args.register.now in
    let turned = c.rotate_left.new.self in
    fed_is c.args.divisor.now old (set turned (length turned - 1) 0) c.add_scaled.new.register c.args.byte
    (bit_xor c.args.byte (get_or old 0 0)) c.requires.some
    (ap₂ (λ ys k. set ys (k - 1) 0) c.rotate_left.ensures.after c.rotate_left.ensures.len) refl c.add_scaled.ensures
