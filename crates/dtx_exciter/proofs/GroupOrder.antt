-- What a group's packets order.
use Rattle.std.proofs.Common.{◌≡◌, ℕ, Option, Some, None, List, [], get_or, sym, ap, ◌∙◌}
use Rattle.std.proofs.Math.ListN.{get_or-map}
use Rattle.dtx_packets.specs.declared.packet.Packet.{Packet}
use Rattle.dtx_ops.specs.declared.fields.Ops.{Ops}
use Rattle.dtx_exciter.specs.Order.{either, ordered}
use Rattle.dtx_exciter.specs.Packets.{reads}
use Rattle.dtx_exciter.specs.Step.{bytes_of}

-- packet k, as its bytes
pub packet_in : (packets : List Packet) (k : ℕ) → (get_or packets k (record { 0 = [] })).0
    ≡ get_or (bytes_of packets) k []
packet_in packets k = sym (get_or-map (λ p. p.0) packets k (record { 0 = [] }))

-- what packet k orders at this place
pub order_is : (packets : List Packet) (place k : ℕ) (o : Option Ops)
    → o ≡ ordered place (reads (get_or packets k (record { 0 = [] })).0)
    → o ≡ ordered place (reads (get_or (bytes_of packets) k []))
order_is packets place k o h = h ∙ ap (λ p. ordered place (reads p)) (packet_in packets k)

pub first_some : (ops : Ops) (a b : Option Ops) → a ≡ Some ops → Some ops ≡ either a b
first_some ops a b e = sym (ap (λ o. either o b) e)

pub first_none : (a b : Option Ops) (o : Option Ops) → a ≡ None → o ≡ b → o ≡ either a b
first_none a b o e h = h ∙ sym (ap (λ x. either x b) e)
