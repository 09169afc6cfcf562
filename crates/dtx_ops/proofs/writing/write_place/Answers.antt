use Rattle.std.proofs.Common.{ℕ, List, ◌++◌, ◌∙◌, drop, ap, refl}
use Rattle.std.proofs.lemmas.List.{drop-drop}
use Rattle.byteorder.specs.Endian.{big_bytes}
use Rattle.dtx_ops.proofs.Writes.{wrote_at}
use Rattle.dtx_ops.proofs.writing.write_place.Goals as goal

pub returns : goal.returns
returns c =
    wrote_at 4 _ (big_bytes 4 c.args.frame) (drop 4 c.args.out.now) (big_bytes 2 c.args.index) c.write_u32.new.buf
    c.write_u16.new.buf 2 c.write_u32.ensures refl refl c.write_u16.ensures
    ∙ ap (λ (t : List ℕ). big_bytes 4 c.args.frame ++ (big_bytes 2 c.args.index ++ t)) (drop-drop 2 4 c.args.out.now)
