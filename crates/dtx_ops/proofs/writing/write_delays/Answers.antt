use Rattle.std.proofs.Common.{ℕ, List, ◌++◌, ◌∙◌, drop, ap, refl}
use Rattle.std.proofs.lemmas.List.{drop-drop}
use Rattle.byteorder.specs.Endian.{big_bytes}
use Rattle.dtx_ops.proofs.Writes.{wrote_at}
use Rattle.dtx_ops.proofs.writing.write_delays.Goals as goal

pub returns : goal.returns
returns c =
    wrote_at 3 _ (big_bytes 3 c.args.stamp) (drop 3 c.args.out.now)
    (big_bytes 3 c.args.max_delay) c.write_u24.new.buf c.write_u24-2.new.buf 3 c.write_u24.ensures refl refl
    c.write_u24-2.ensures
    ∙ ap (λ (t : List ℕ). big_bytes 3 c.args.stamp ++ (big_bytes 3 c.args.max_delay ++ t))
    (drop-drop 3 3 c.args.out.now)
