use Rattle.std.proofs.Common.{ℕ, replicate}
use Rattle.std.proofs.lemmas.List.{length-replicate}
use Rattle.dtx_make.proofs.Joined.{joined_parts}
use Rattle.dtx_make.proofs.made.joined.Goals as goal

pub returns : goal.returns
returns c =
    joined_parts c.args.header.now c.args.payload.now c.copy_from_slice.new.self c.copy_from_slice-2.new.self
    (replicate 184 0)
    c.copy_from_slice.ensures.after c.copy_from_slice-2.ensures.after c.told-header (length-replicate {A = ℕ} 184 0)
