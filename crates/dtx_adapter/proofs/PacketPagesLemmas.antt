-- The pages that operations packets carry.
use Rattle.std.proofs.Common.{◌≡◌, ℕ, ◌/◌, ◌%◌, ◌<◌, ◌≤◌, ◌==◌, cond, Some, None, List, length, sym, subst, ◌↔◌, IsTrue}
use Rattle.std.proofs.Common.{slice_get, eq-eqb, eqb-true, arith}
use Rattle.std.specs.List.{find}
use Rattle.std.proofs.lemmas.List.{length-map}
use Rattle.dtx_ops.specs.declared.paging.Paging.{Paging}
use Rattle.dtx_ops.specs.declared.paging.Paging.TheVariants.{One, Of}
use Rattle.dtx_ops.specs.Paging.{page_of, IsPaged}
use Rattle.dtx_plan.specs.Sound.{IsSound}
use Rattle.dtx_plan.specs.declared.plan.Plan.{Plan}
use Rattle.dtx_plan.specs.declared.transmitter.Transmitter.{Transmitter}
use Rattle.dtx_adapter.specs.Feed.{entry_of, pages_for, listed, is_listed, filled_groups, paging_at, ops_at}
use Rattle.dtx_adapter.proofs.PagesLemmas.{paging_of-few, paging_of-many, page_has_place, entry_on_page}

pub packet_of_one : (plan : Plan) (stream before : List (List ℕ)) (k : ℕ) → length plan.transmitters ≤ 35
    → (ops_at plan stream before k).paging ≡ One
unfolding ops_at
packet_of_one plan stream before k few = paging_of-few plan.transmitters (filled_groups stream (k / 4)) few

pub packet_of_many : (plan : Plan) (stream before : List (List ℕ)) (k : ℕ) → 35 < length plan.transmitters
    → (ops_at plan stream before k).paging
    ≡ Of (filled_groups stream (k / 4) % pages_for (length plan.transmitters)) (pages_for (length plan.transmitters))
unfolding ops_at
packet_of_many plan stream before k many = paging_of-many plan.transmitters (filled_groups stream (k / 4)) many

pub packet_has_place : (plan : Plan) (stream before : List (List ℕ)) (k : ℕ) → IsSound plan
    → IsPaged (ops_at plan stream before k).paging (length (ops_at plan stream before k).offsets.items)
unfolding ops_at
packet_has_place plan stream before k sound = subst (IsPaged (paging_at plan stream (k / 4)))
    (sym (length-map (listed plan.transmitters (paging_at plan stream (k / 4))) entry_of))
    (page_has_place plan.transmitters (filled_groups stream (k / 4)) sound.transmitters.most)

-- a page of several has the transmitters whose places divide to its number
page_has : (paging : Paging) (page pages i : ℕ) → paging ≡ Of page pages
    → IsTrue (is_listed paging i) ↔ (page_of paging ≡ i / 34)
page_has paging page pages i is = grind (arith, eqb-true, eq-eqb)

pub on_one_page : (plan : Plan) (stream before : List (List ℕ)) (k i : ℕ) → 35 < length plan.transmitters
    → IsTrue (is_listed (ops_at plan stream before k).paging i)
    ↔ (page_of (ops_at plan stream before k).paging ≡ i / 34)
on_one_page plan stream before k i many = grind (arith, page_has, packet_of_many)

pub packet_entry : (plan : Plan) (stream before : List (List ℕ)) (k i : ℕ) (t : Transmitter) → IsSound plan
    → slice_get plan.transmitters i ≡ Some t
    → find (λ e. e.address == t.address) (ops_at plan stream before k).offsets.items
    ≡ cond (is_listed (ops_at plan stream before k).paging i) (Some (entry_of t)) None
unfolding ops_at
packet_entry plan stream before k i t sound at = grind (arith, entry_on_page)
