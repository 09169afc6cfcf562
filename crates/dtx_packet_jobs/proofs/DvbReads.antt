-- What a block gives, counted and put behind what was given before.
use Rattle.std.proofs.Common.{◌≡◌, ℕ, ◌+◌, ◌/◌, ◌%◌, ◌<◌, ◌++◌, List, [], length, get_or, refl, sym, ap, ap₂, ◌∙◌}
use Rattle.std.proofs.Common.{arith, append_assoc}
use Rattle.std.specs.List.{flat_map, range_with_len}
use Rattle.std.proofs.lemmas.Grind.{flat_map-append}
use Rattle.std.proofs.lemmas.List.{append-nil, get_or_default}
use Rattle.dtx_lists.proofs.Range.{range_with_len-parts}
use Rattle.dtx_dvb.proofs.CountsLemmas.{fixed-append, flagged-append}
use Rattle.dtx_dvb.specs.Given.{given, given_in}
use Rattle.dtx_dvb.specs.Read.{Read, fixed_in, fixed_of, flag_of, flagged_in}
use Rattle.dtx_outer.specs.declared.inner.Taken.{Taken}
use Rattle.dtx_outer.specs.declared.inner.Taken.TheVariants.{None, Good, Bad}
use Rattle.dtx_recipes.specs.DvbRead.{bytes_of_reads}
use Rattle.dtx_recipes.proofs.DvbReadLemmas.{bytes_of_reads-append}
use Rattle.dtx_packet_jobs.specs.DvbReading.{HasGathered}
use Rattle.dtx_packet_jobs.specs.declared.dvb_reading.Gathered.{Gathered}

fixed_given : (taken : Taken) (packet : List ℕ) → fixed_in (given taken packet) ≡ fixed_of taken
unfolding fixed_in
fixed_given None packet = refl
fixed_given (Good fixed) packet = omega arith
fixed_given Bad packet = refl

flagged_given : (taken : Taken) (packet : List ℕ) → flagged_in (given taken packet) ≡ flag_of taken
unfolding flagged_in
flagged_given None packet = refl
flagged_given (Good fixed) packet = refl
flagged_given Bad packet = refl

-- what a block gives, put behind what is gathered
pub gathered_on : (old new : Gathered) (taken : Taken) (packet : List ℕ) (reads : List Read) (before : List ℕ)
    → HasGathered old reads before → new.fixed ≡ old.fixed + fixed_of taken → new.flagged ≡ old.flagged + flag_of taken
    → new.packets ≡ old.packets ++ bytes_of_reads (given taken packet)
    → HasGathered new (reads ++ given taken packet) before
gathered_on old new taken packet reads before was fixed flagged packets = record {
  fixed = grind (arith, fixed_given, fixed-append);
  flagged = flagged ∙ ap₂ (λ (a b : ℕ). a + b) was.flagged (sym (flagged_given taken packet))
      ∙ sym (flagged-append reads (given taken packet));
  bytes = bytes_of_reads-append reads (given taken packet)
      ∙ ap (λ z. z ++ bytes_of_reads (given taken packet)) was.bytes
      ∙ append_assoc before old.packets (bytes_of_reads (given taken packet)) ∙ ap (λ z. before ++ z) (sym packets);
}

-- what one block more of a batch gives, behind what was given before
pub given_on : (taken : List (List Taken)) (packets : List (List (List ℕ))) (p : ℕ) (four : List Taken) (t : Taken)
    (heads : List (List ℕ)) (packet : List ℕ) (reads : List Read) → p / 4 < length taken → p / 4 < length packets
    → p % 4 < length (get_or taken (p / 4) []) → p % 4 < length (get_or packets (p / 4) [])
    → (reads ++ flat_map (given_in taken packets) (range_with_len 0 p))
    ++ given (get_or (get_or taken (p / 4) four) (p % 4) t) (get_or (get_or packets (p / 4) heads) (p % 4) packet)
    ≡ reads ++ flat_map (given_in taken packets) (range_with_len 0 (p + 1))
given_on taken packets p four t heads packet reads few less one same =
    let q : ℕ = p / 4 in
    let gives : ℕ → List Read = given_in taken packets in
    let here : 0 + p ≡ p = omega arith in
    let answer : get_or (get_or taken q four) (p % 4) t ≡ get_or (get_or taken q []) (p % 4) None =
    ap (λ ts. get_or ts (p % 4) t) (get_or_default taken q four [] few)
    ∙ get_or_default (get_or taken q []) (p % 4) t None one in
    let bytes : get_or (get_or packets q heads) (p % 4) packet ≡ get_or (get_or packets q []) (p % 4) [] =
    ap (λ ps. get_or ps (p % 4) packet) (get_or_default packets q heads [] less)
    ∙ get_or_default (get_or packets q []) (p % 4) packet [] same in
    append_assoc reads (flat_map gives (range_with_len 0 p))
    (given (get_or (get_or taken q four) (p % 4) t) (get_or (get_or packets q heads) (p % 4) packet))
    ∙ ap (λ z. reads ++ z) (grind (arith, append-nil, range_with_len-parts, flat_map-append))
