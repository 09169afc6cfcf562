-- Laws of what a receiver gives that corrects each word.
use Rattle.std.proofs.Common.{◌≡◌, ℤ, List, [], length, map, ap, refl, arith}
use Rattle.std.specs.List.{flat_map}
use Rattle.std.proofs.lemmas.List.{nil_from_length}
use Rattle.dtx_receiver.specs.Bytes.{bytes_in}
use Rattle.dtx_receiver.proofs.CountingLemmas.{nothing_given, given_more, all_more}
use Rattle.dtx_receiver.specs.Packets.{all_packets, run_packets, received}
use Rattle.dtx_receiver.specs.Runs.{runs}
use Rattle.dtx_recipes.specs.Giving.{IsGiving}
use Rattle.dtx_recipes.specs.Receive.{with_corrections}

no_packets : (list : List (List ℤ)) → length (runs list) ≡ 0 → all_packets list ≡ []
unfolding all_packets
no_packets list none = ap (flat_map (λ run. run_packets (bytes_in run))) (nil_from_length (runs list) none)

packets_are : (list : List (List ℤ)) → received list ≡ map (λ r. r.packet.0) (all_packets list)
unfolding received
packets_are list = refl

pub corrections_given : IsGiving with_corrections
corrections_given = grind (arith, nothing_given, given_more, all_more, packets_are, no_packets)
