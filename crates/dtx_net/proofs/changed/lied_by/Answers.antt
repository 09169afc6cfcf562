use Rattle.std.proofs.Common.{rules, ◌≡◌, ℕ, List, Result, Ok, ap, ◌∙◌}
use Rattle.dtx_ops.specs.declared.fields.Ops.{Ops}
use Rattle.dtx_ops.specs.declared.refusal.OpsNo.{OpsNo}
use Rattle.dtx_ops.specs.Reading.{reading}
use Rattle.dtx_ops.specs.Spelling.{spelling}
use Rattle.dtx_packets.specs.Packets.{sync_of, counter_of}
use Rattle.dtx_net.specs.Steps.{lied_by, lied_packet}
use Rattle.dtx_net.proofs.changed.lied_by.Goals as goal

-- what is spelled of the fields that a packet reads as, but for the states, is the packet that lies of them
lied_is : (packet states changed : List ℕ) (counter : ℕ) (ops : Ops)
    → ◌≡◌ {A = Result Ops OpsNo} (Ok ops) (reading packet)
    → changed ≡ spelling (record ops { states = states }) counter (sync_of packet) → counter ≡ counter_of packet
    → changed ≡ lied_packet packet states
unfolding lied_packet
lied_is packet states changed counter ops reads is same =
    is ∙ ap (λ n. spelling (record ops { states = states }) n (sync_of packet)) same ∙ ap (lied_by packet states) reads

-- the counter is not named, so that a wrong one is refused as such
pub returns-in-Ok : goal.returns-in-Ok
returns-in-Ok c =
    lied_is c.args.packet.now.0 c.args.states.now c.write.new.packet.0 _ c.in-Ok.ops c.in-Ok.ensures.reading
    c.write.ensures.spelling (search rules)
