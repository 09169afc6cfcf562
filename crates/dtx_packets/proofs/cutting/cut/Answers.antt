use Rattle.std.proofs.Common.{◌≡◌, ◌+◌, ◌<◌, ◌/◌, ◌++◌, ◌∷◌, [], length, get_or, map, take, drop, ap, sym, ◌∙◌, arith}
use Rattle.std.proofs.lemmas.List.{take_more_set, map_push, drop-set-lt, drop-drop}
use Rattle.std.proofs.lemmas.List.FromFn.{map-range_with_len_more}
use Rattle.dtx_packets.specs.declared.packet.Packet.{Packet}
use Rattle.dtx_packets.specs.Packets.{packet_at, packets_from, whole_packets}
use Rattle.dtx_packets.proofs.ChunksLemmas.{get_or-first_chunks}
use Rattle.dtx_packets.proofs.cutting.cut.Goals as goal

pub loop-k-preserved : goal.loop-k-preserved
loop-k-preserved c =
    let k = c.loop-k.k in
    let into = c.loop-k.into in
    let bytes = c.args.bytes.now in
    let before = c.loop-k.invariant in
    let here : k < length bytes / 188 = omega (arith, c.as_chunks.ensures.front_len, c.loop-k-test.true) in
    let chunk : get_or c.as_chunks.result.0.now k [] ≡ packet_at bytes k =
    ap (λ chunks. get_or chunks k []) c.as_chunks.ensures.front
    ∙ get_or-first_chunks 188 (length bytes / 188) bytes k here in
    let packet : Packet = record { 0 = get_or c.as_chunks.result.0.now k [] } in
    record {
      packets =
          ap (map (λ (p : Packet). p.0)) (take_more_set into k packet (omega (arith, c.requires, c.loop-k.auto.into)))
          ∙ map_push (λ (p : Packet). p.0) (take k into) packet
          ∙ ap (λ xs. xs ++ packet.0 ∷ []) before.packets
          ∙ ap (λ x. packets_from bytes 0 k ++ x ∷ []) chunk
          ∙ sym (map-range_with_len_more (packet_at bytes) 0 k k (omega arith));
      rest =
          drop-set-lt (k + 1) into k packet (omega arith)
          ∙ sym (drop-drop 1 k into)
          ∙ ap (drop 1) before.rest
          ∙ drop-drop 1 k c.args.into.now;
    }

pub returns-clause-packets : goal.returns-clause-packets
returns-clause-packets c =
    let bytes = c.args.bytes.now in
    let all : whole_packets bytes ≡ c.loop-k.k =
    omega (arith, c.as_chunks.ensures.front_len, c.loop-k-test.false, c.loop-k.auto.k-end) in
    ap (λ n. map (λ (p : Packet). p.0) (take n c.loop-k.into)) all ∙ c.loop-k.invariant.packets
    ∙ ap (packets_from bytes 0) (sym all)
