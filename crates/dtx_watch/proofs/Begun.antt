-- What a watcher keeps of nothing, and of the anchor's packet.
use Rattle.std.proofs.Common.{◌≡◌, ◌<◌, false, None, List, [], ◌∷◌, length, take, set, sym, ap, subst, ◌∙◌, arith}
use Rattle.std.proofs.lemmas.List.{map-set, take_more_set, length-map}
use Rattle.dtx_packets.specs.declared.packet.Packet.{Packet}
use Rattle.dtx_cadence.specs.Anchor as cadence
use Rattle.dtx_laws.specs.Branches.{HasWidths, spreading}
use Rattle.dtx_coder.specs.Groups.{Coding, aligned_coding}
use Rattle.dtx_coder.specs.Runs.{AreStates}
use Rattle.dtx_coder.specs.Along.{RunsAlong}
use Rattle.dtx_coder.proofs.AlongLemmas.{along_begins}
use Rattle.dtx_exciter.specs.Step.{bytes_of}
use Rattle.dtx_exciter.specs.Kept.{RunsUnder}
use Rattle.dtx_exciter.proofs.UnderLemmas.{under_nothing, syncs_nothing}
use Rattle.dtx_exciter.proofs.EndsLemmas.{last_single}
use Rattle.dtx_watch.specs.declared.watcher.Watcher.{Watcher}
use Rattle.dtx_watch.specs.Watch.{stamped_before}
use Rattle.dtx_watch.specs.Kept.{are_some, KeepsUnder, StandsFor}
use Rattle.dtx_watch.proofs.ToldLemmas.{part_is}

pub stands_nothing : (w : Watcher) → w.count ≡ 0 → w.part ≡ 0 → cadence.StandsFor w.anchor [] → StandsFor w []
stands_nothing w count part h = grind (arith, syncs_nothing, part_is, under_nothing)

pub keeps_single : (w : Watcher) (packets : List Packet) (packet : Packet) (coder : Coding) → w.first ≡ 0
    → w.flushed ≡ false → w.ordered ≡ false → w.latest ≡ None → w.packets ≡ set packets 0 packet
    → 0 < length packets → w.coder ≡ aligned_coding coder → AreStates coder.states
    → HasWidths 52 (spreading 4) coder.branches → KeepsUnder w (packet.0 ∷ [])
unfolding stamped_before
keeps_single w packets packet coder first flushed ordered latest held some coded states widths = record {
  first = λ _. first;
  flushed = flushed;
  partial = ap (λ x. take 1 (bytes_of x)) held ∙ ap (take 1) (map-set (λ p. p.0) packets 0 packet)
      ∙ take_more_set (bytes_of packets) 0 packet.0 (let n : length (bytes_of packets)
      ≡ length packets = length-map packets (λ p. p.0) in omega (arith, n, some));
  ordered = ordered ∙ ap are_some (sym (last_single packet.0));
  latest = latest;
  coder = subst (λ o. RunsUnder [] o w.coder) (sym (last_single packet.0))
      (coder.states, subst (RunsAlong [] 0 coder.states) (sym coded) (along_begins coder states widths));
}
