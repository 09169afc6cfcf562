-- The coded and interleaved bytes of packets that stand behind other packets.
use Rattle.std.proofs.Common.{◌≡◌, ℕ, ◌+◌, ◌*◌, ◌/◌, ◌%◌, ◌<◌, List, [], ◌∷◌, ◌++◌, length, take, drop, get_or, refl}
use Rattle.std.proofs.Common.{sym, ap, ap₂, ◌∙◌, arith, lit<, zero-add, append-nil, length-append, length-take-le}
use Rattle.std.proofs.Common.{take_all, take_at, take-take, take-append-drop}
use Rattle.dtx_lists.proofs.Enumerated.{pieces_append, length-pieces, piece_at}
use Rattle.dtx_laws.specs.Words.{codeword}
use Rattle.dtx_laws.specs.Branches.{leaving_all, after_all}
use Rattle.dtx_laws.specs.Interleaving.{interleaved}
use Rattle.dtx_laws.proofs.ChoiceLemmas.{codeword_length}
use Rattle.dtx_laws.proofs.PlacesLemmas.{leaving_append, after_append}
use Rattle.dtx_laws.proofs.InterleavingLemmas.{length-interleaved, leaving_calls_is, zeros_calls}
use Rattle.dtx_whiten.specs.Randomizer.{randomized}
use Rattle.dtx_whiten.proofs.PacketsLemmas.{length-randomized}
use Rattle.dtx_coder.specs.Stream.{coded_from, coded, spread, whole_groups}
use Rattle.dtx_coder.specs.Groups.{zero_branches}

-- the codeword of packet k
abbrev code : ℕ × List ℕ → List ℕ
code p = codeword 207 187 (randomized p.0 p.1)

pub coded_append : (k : ℕ) (ps qs : List (List ℕ))
    → coded_from k (ps ++ qs) ≡ coded_from k ps ++ coded_from (k + length ps) qs
unfolding coded_from
coded_append k ps qs = pieces_append code k ps qs

-- the randomizer begins anew with each field
pub coded_place : (j k : ℕ) (ps : List (List ℕ)) → j % 312 ≡ k % 312 → coded_from j ps ≡ coded_from k ps
unfolding coded_from randomized
coded_place j k [] e = refl
coded_place j k (p ∷ ps) e = ap₂ ◌++◌ (grind arith) (coded_place (j + 1) (k + 1) ps (omega arith))

length-codeword : (k : ℕ) (p : List ℕ) → length (codeword 207 187 (randomized k p)) ≡ 207
length-codeword k p = codeword_length 207 187 (randomized k p) ∙ ap (λ n. n + 20) (length-randomized k p)

pub length-coded : (k : ℕ) (ps : List (List ℕ)) → length (coded_from k ps) ≡ 207 * length ps
unfolding coded_from
length-coded k ps = length-pieces code 207 k ps length-codeword

-- the codeword of packet k stands there
pub coded_at : (s : ℕ) (ps : List (List ℕ)) (k : ℕ) → k < length ps
    → take 207 (drop (207 * k) (coded_from s ps)) ≡ codeword 207 187 (randomized (s + k) (get_or ps k []))
unfolding coded_from
coded_at s ps k l = piece_at code 207 s ps k [] length-codeword l

-- from zeros in every branch what leaves is the map of places
leaving_zeros : (x : List ℕ) → leaving_all 52 zero_branches x ≡ interleaved 52 4 x
leaving_zeros x =
    rw (← append-nil x, ← leaving_calls_is 52 zero_branches (x ∷ []), zeros_calls 52 4 (x ∷ []) (lit< tt), append-nil x)

-- the bytes of the packets behind ps
abbrev pub bytes_behind : List (List ℕ) → List (List ℕ) → List ℕ
bytes_behind ps qs = leaving_all 52 (after_all 52 zero_branches (coded ps)) (coded_from (length ps) qs)

pub spread_append : (ps qs : List (List ℕ)) → spread (ps ++ qs) ≡ spread ps ++ bytes_behind ps qs
unfolding spread
spread_append ps qs = rw (coded_append, zero-add, ← leaving_zeros, leaving_append, leaving_zeros)

pub branches_append : (ps qs : List (List ℕ)) → after_all 52 zero_branches (coded (ps ++ qs))
    ≡ after_all 52 (after_all 52 zero_branches (coded ps)) (coded_from (length ps) qs)
branches_append ps qs = grind (arith, coded_append, zero-add, after_append)

pub length-spread : (ps : List (List ℕ)) → length (spread ps) ≡ 207 * length ps
unfolding spread
length-spread ps = length-interleaved 52 4 (coded ps) ∙ length-coded 0 ps

-- the bytes of whole groups alone
pub whole_is : (ps : List (List ℕ)) (u : ℕ) → length ps ≡ 4 * u → whole_groups ps ≡ spread ps
unfolding whole_groups
whole_is ps u e = take_all (828 * (length ps / 4)) (spread ps) (omega (arith, e, length-spread ps))

pub length-whole : (ps : List (List ℕ)) → length (whole_groups ps) ≡ 828 * (length ps / 4)
unfolding whole_groups
length-whole ps = length-take-le (828 * (length ps / 4)) (spread ps) (omega (arith, length-spread ps))

take_front : (ps qs : List (List ℕ)) (u : ℕ) → length ps ≡ 4 * u
    → take (828 * u) (whole_groups (ps ++ qs)) ≡ whole_groups ps
unfolding whole_groups
take_front ps qs u e =
    take-take (828 * u) (828 * (length (ps ++ qs) / 4)) (spread (ps ++ qs)) (omega (arith, e, length-append ps qs))
    ∙ ap (take (828 * u)) (spread_append ps qs)
    ∙ take_at (spread ps) (bytes_behind ps qs) (828 * u) (omega (arith, e, length-spread ps))
    ∙ sym (whole_is ps u e)

-- the bytes of a longer stream go on behind those of its first groups
pub whole_append : (ps qs : List (List ℕ)) (u : ℕ) → length ps ≡ 4 * u
    → whole_groups (ps ++ qs) ≡ whole_groups ps ++ drop (828 * u) (whole_groups (ps ++ qs))
whole_append ps qs u e = sym (take-append-drop (828 * u) (whole_groups (ps ++ qs)))
    ∙ ap (λ xs. xs ++ drop (828 * u) (whole_groups (ps ++ qs))) (take_front ps qs u e)

-- the next group's bytes
pub whole_next : (ps qs : List (List ℕ)) (u : ℕ) → length ps ≡ 4 * u → length qs ≡ 4
    → whole_groups (ps ++ qs) ≡ whole_groups ps ++ bytes_behind ps qs
whole_next ps qs u e f = whole_is (ps ++ qs) (u + 1) (omega (arith, e, f, length-append ps qs))
    ∙ spread_append ps qs
    ∙ ap (λ xs. xs ++ bytes_behind ps qs) (sym (whole_is ps u e))
