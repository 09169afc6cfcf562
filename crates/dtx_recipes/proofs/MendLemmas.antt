-- Laws of what a receiver gives that mends each word.
use Rattle.std.proofs.Common.{◌≡◌, ℤ, List, [], length, map, refl, ap, arith}
use Rattle.std.specs.List.{flat_map}
use Rattle.std.proofs.lemmas.List.{nil_from_length}
use Rattle.dtx_erase.proofs.GrowingLemmas.{nothing_mended, mended_more, mended_end}
use Rattle.dtx_erase.specs.Mended.{all_mended, mended, mended_run}
use Rattle.dtx_receiver.specs.Runs.{runs}
use Rattle.dtx_recipes.specs.Giving.{IsGiving}
use Rattle.dtx_recipes.specs.Mend.{with_mendings}

-- ---- what is given

no_packets : (list : List (List ℤ)) → length (runs list) ≡ 0 → all_mended list ≡ []
unfolding all_mended
no_packets list none = ap (flat_map mended_run) (nil_from_length (runs list) none)

packets_are : (list : List (List ℤ)) → mended list ≡ map (λ r. r.packet.0) (all_mended list)
unfolding mended
packets_are list = refl

pub mendings_given : IsGiving with_mendings
mendings_given = grind (arith, nothing_mended, mended_more, mended_end, packets_are, no_packets)
