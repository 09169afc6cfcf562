use Rattle.std.proofs.Common.{◌+◌, ◌∙◌, List, ℕ, [], ◌∷◌, ◌++◌, ap, get_or}
use Rattle.dtx_ops.specs.Spelling.{spelling}
use Rattle.dtx_ops.proofs.Writes.{packet_written}
use Rattle.dtx_ops.proofs.writing.write.Goals as goal

pub returns-clause-spelling : goal.returns-clause-spelling
unfolding spelling
returns-clause-spelling g c =
    packet_written c.args.packet.now.0 c.copy_from_slice.new.self 31 250 (16 + c.args.counter) c.told-packet
    ∙ ap (λ (word : List ℕ). (get_or c.args.packet.now.0 0 0 ∷ 31 ∷ 250 ∷ (16 + c.args.counter) ∷ [])
    ++ word) (c.copy_from_slice.ensures.after ∙ c.payload-word.ensures.codeword)
