use Rattle.std.proofs.Common.{◌≡◌, ℕ, ◌*◌, ◌<◌, length, sym, subst, arith}
use Rattle.dtx_dvb.proofs.RandomizerLemmas.{randomizer_bytes_by, small_byte}
use Rattle.dtx_dvb.proofs.randomizer.Dvb.new.Goals as goal

pub invariant_of-result : goal.invariant_of-result
invariant_of-result c =
    let long : length c.loop-t.bytes.items ≡ 188 * 8 =
    omega (arith, c.loop-t.invariant.long, c.loop-t-test.false, c.loop-t.auto.t-end, c.loop-t.bytes.ok.0) in
    let each = λ (t : ℕ) (l : t < 188 * 8). c.loop-t.invariant.each t (omega (arith, l, long)) in
    record {
      long = long;
      all = randomizer_bytes_by c.loop-t.bytes.items long each;
      small = λ t l. subst (λ (x : ℕ). x < 256) (sym (each t (omega (arith, l, long)))) (small_byte t);
    }
