use Rattle.std.proofs.Common.{◌≡◌, ◌+◌, ◌-◌, ◌*◌, ◌++◌, List, ℕ, length, get_or, ap, ap₂, sym, ◌∙◌, arith}
use Rattle.std.proofs.lemmas.Slice.{take-put_mid}
use Rattle.std.specs.Int.{to_le_bytes, w32}
use Rattle.dtx_lists.proofs.Written.{length-put_mid}
use Rattle.dtx_rs.proofs.WordBytes.{word_bytes-more}
use Rattle.dtx_rs.proofs.words.bytes_of.Goals as goal

pub loop-i-preserved : goal.loop-i-preserved
loop-i-preserved c =
    let i : ℕ = c.loop-i.i in
    let copied : List ℕ = c.copy_from_slice.new.self in
    let is : c.copy_from_slice.new.self ≡ to_le_bytes w32 (get_or c.args.words.now c.loop-i.i 0) =
    c.copy_from_slice.ensures.after ∙ c.to_le_bytes.ensures in
    let four : length c.copy_from_slice.new.self ≡ 4 = ap length is in
    record {
      front = take-put_mid (4 * i) (4 * i + 4 - 4 * i) c.loop-i.bytes copied (4 * (i + 1)) (omega arith)
          (omega (arith, c.loop-i.invariant.long))
          ∙ ap₂ ◌++◌ c.loop-i.invariant.front is
          ∙ sym (word_bytes-more c.args.words.now i (omega (arith, c.told-words)));
      long = length-put_mid (4 * i) (4 * i + 4 - 4 * i) c.loop-i.bytes copied (omega (arith, c.loop-i.invariant.long))
          (omega arith) ∙ c.loop-i.invariant.long;
    }
