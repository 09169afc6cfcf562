-- How far a schedule is played, once more steps are done.
use Rattle.std.proofs.Common.{◌≡◌, ℕ, ◌+◌, ◌<◌, List, [], ◌∷◌, ◌++◌, map, take, drop, length, sym, ap, ◌∙◌}
use Rattle.std.proofs.Common.{append_assoc, get_or, arith}
use Rattle.std.specs.Prelude.{Option, Err}
use Rattle.std.specs.List.{range_with_len}
use Rattle.std.proofs.lemmas.List.{map-append, take_more, take-append-drop}
use Rattle.std.proofs.lemmas.List.FromFn.{map-range_with_len_more}
use Rattle.dtx_lists.proofs.Range.{range_with_len-parts}
use Rattle.dtx_meaning.specs.Status.{IsFault, of_write}
use Rattle.dtx_meaning.specs.declared.status.Status.{Status}
use Rattle.dtx_outside.specs.Shelf.{Files}
use Rattle.dtx_outside.specs.declared.shelf.WriteNo.{WriteNo}
use Rattle.dtx_outside.specs.declared.shelf.WriteNo.TheVariants as write
use Rattle.dtx_packets.specs.declared.packet.Packet as packet
use Rattle.dtx_plan.specs.declared.transmitter.Transmitter.{Transmitter}
use Rattle.dtx_net.specs.Steps.{Step, packet_step}
use Rattle.dtx_schedule.specs.declared.playout.Playout.{Playout}
use Rattle.dtx_schedule.specs.PlayedSoFar.{IsDoneOf, IsUnderWay, packet_steps}
use Rattle.dtx_schedule.proofs.Fronts.{under_way_more}

-- where a file isn't written
pub unwritten : (ts : List Transmitter) (steps : List Step) (held : Files) (playout : Playout) (now : Option Files)
    (cause : WriteNo) → IsUnderWay ts steps held now → IsDoneOf ts steps held (Err (of_write cause)) playout now
unwritten ts steps held playout now write.Failed left = (tt, left)
unwritten ts steps held playout now write.Memory left = (tt, left)

-- a fault while the first of some steps are done is one while all are
pub fault_more : (ts : List Transmitter) (some more all : List Step) (held : Files) (status : Status)
    (now : Option Files) → some ++ more ≡ all
    → IsFault status × IsUnderWay ts some held now → IsFault status × IsUnderWay ts all held now
fault_more ts some more all held status now is (fault, left) = grind (arith, under_way_more)

-- ---- one packet more of many

pub steps_on : (before : List Step) (who : ℕ) (packets : List (List ℕ)) (p : List ℕ)
    → (before ++ packet_steps who packets) ++ packet_step who p ∷ [] ≡ before ++ packet_steps who (packets ++ p ∷ [])
steps_on before who packets p = simp (append_assoc, map-append)

-- packet i behind those before it
pub packet_on : (before : List Step) (who : ℕ) (packets : List packet.Packet) (i : ℕ) (d : packet.Packet)
    → i < length packets
    → (before ++ packet_steps who (map (λ p. p.0) (take i packets))) ++ packet_step who (get_or packets i d).0 ∷ []
    ≡ before ++ packet_steps who (map (λ p. p.0) (take (i + 1) packets))
packet_on before who packets i d within =
    steps_on before who (map (λ (p : packet.Packet). p.0) (take i packets)) (get_or packets i d).0
    ∙ ap (λ ps. before ++ packet_steps who ps)
    (sym (ap (map (λ (p : packet.Packet). p.0)) (take_more packets i d within)
    ∙ map-append (λ (p : packet.Packet). p.0) (take i packets) (get_or packets i d ∷ [])))

-- and of numbered packets
pub numbered_on : (before : List Step) (who : ℕ) (packet : ℕ → List ℕ) (from i : ℕ)
    → (before ++ packet_steps who (map packet (range_with_len from i))) ++ packet_step who (packet (from + i)) ∷ []
    ≡ before ++ packet_steps who (map packet (range_with_len from (i + 1)))
numbered_on before who packet from i = grind (arith, steps_on, map-range_with_len_more)

-- ---- all of many

-- the packets behind those that are given
pub packets_rest : (before : List Step) (who : ℕ) (packets : List packet.Packet) (n : ℕ)
    → (before ++ packet_steps who (map (λ p. p.0) (take n packets)))
    ++ packet_steps who (map (λ p. p.0) (drop n packets)) ≡ before ++ packet_steps who (map (λ p. p.0) packets)
packets_rest before who packets n = simp (append_assoc, ← map-append, take-append-drop)

-- and of numbered packets
pub numbered_rest : (before : List Step) (who : ℕ) (packet : ℕ → List ℕ) (from n more all : ℕ) → n + more ≡ all
    → (before ++ packet_steps who (map packet (range_with_len from n)))
    ++ packet_steps who (map packet (range_with_len (from + n) more))
    ≡ before ++ packet_steps who (map packet (range_with_len from all))
numbered_rest before who packet from n more all is = simp (append_assoc, ← map-append, ← range_with_len-parts, is)
