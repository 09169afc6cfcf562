-- Rounds one behind the other, and over a capture: their segments are whole, what is known stays known, and costs rise.
use Rattle.std.proofs.Common.{◌≡◌, ℕ, zero, suc, ℤ, ◌+◌, List, refl, ap, ◌∙◌, arith, ◌<◌, ◌≤◌, Some, length}
use Rattle.dtx_receiver.specs.Bytes.{bytes_in}
use Rattle.dtx_acquire.specs.Acquired.{acquired, all_fields}
use Rattle.dtx_acquire.proofs.AcquiredLemmas.{length-heard_in}
use Rattle.dtx_pins.proofs.PinnedFieldLemmas.{pinned_found}
use Rattle.dtx_rounds.specs.RunField.{AreSegments}
use Rattle.dtx_rounds.specs.Known.{known_bytes, known_word}
use Rattle.dtx_rounds.specs.Rounds.{heard_of, refined, rounded, rounds_of, coder_cost, groups_in, paths_in, pins_in}
use Rattle.dtx_rounds.proofs.Kept.{more_known_costs_more, word_kept}
use Rattle.dtx_rounds.proofs.RoundLevels.{after_long, length-after}

pub rounds_stay : (scale n : ℕ) (heard given : List (List ℤ)) → rounded scale heard given ≡ given
    → rounds_of scale heard given n ≡ given
unfolding rounds_of
rounds_stay scale zero heard given e = refl
rounds_stay scale (suc n) heard given e = ap (rounded scale heard) (rounds_stay scale n heard given e) ∙ e

-- so many rounds and then more
pub rounds_more : (scale r n : ℕ) (heard given : List (List ℤ))
    → rounds_of scale heard given (r + n) ≡ rounds_of scale heard (rounds_of scale heard given r) n
unfolding rounds_of
rounds_more scale r zero heard given = (let same : r + 0 ≡ r = omega arith in ap (rounds_of scale heard given) same)
rounds_more scale r (suc n) heard given =
    let next : r + suc n ≡ suc (r + n) = omega arith in
    ap (rounds_of scale heard given) next ∙ ap (rounded scale heard) (rounds_more scale r n heard given)

pub refined_next : (scale r : ℕ) (symbols : List ℤ)
    → refined scale symbols (r + 1) ≡ rounded scale (heard_of symbols) (refined scale symbols r)
unfolding refined rounds_of
refined_next scale r symbols = grind arith

pub refined_stays : (scale r n : ℕ) (symbols : List ℤ) → refined scale symbols (r + 1) ≡ refined scale symbols r
    → refined scale symbols (r + n) ≡ refined scale symbols r
unfolding refined
refined_stays scale r n symbols e = grind (arith, rounds_more, rounds_stay, refined_next)

-- ---- one round

pub length-rounded : (scale : ℕ) (heard given : List (List ℤ)) → length (rounded scale heard given) ≡ length given
unfolding rounded
length-rounded scale heard given = length-after scale heard given (known_bytes (bytes_in given))

pub rounded_long : (scale : ℕ) (heard given : List (List ℤ)) → AreSegments given → length heard ≡ length given
    → AreSegments (rounded scale heard given)
unfolding rounded
rounded_long scale heard given long same = after_long scale heard given (known_bytes (bytes_in given)) long same

pub known_stays : (scale k : ℕ) (heard given : List (List ℤ)) (code : List ℕ) → 0 < scale → scale < 19
    → AreSegments given → length heard ≡ length given → known_word (bytes_in given) k ≡ Some code
    → known_word (bytes_in (rounded scale heard given)) k ≡ Some code
unfolding rounded paths_in
known_stays scale k heard given code some most long same e = word_kept scale heard given k code
    (λ f. pinned_found scale (pins_in heard (known_bytes (bytes_in given)) f) (groups_in heard f)) some most long same e

pub costs_rise : (scale f e : ℕ) (heard given : List (List ℤ)) → 0 < scale → scale < 19 → AreSegments given
    → length heard ≡ length given → e < 12 → coder_cost scale heard (known_bytes (bytes_in given)) f e
    ≤ coder_cost scale heard (known_bytes (bytes_in (rounded scale heard given))) f e
costs_rise scale f e heard given some most long same l = grind (arith, more_known_costs_more, known_stays)

-- ---- the segments of a capture

pub length-heard : (scale : ℕ) (symbols : List ℤ) → length (heard_of symbols) ≡ length (acquired scale symbols)
unfolding heard_of acquired
length-heard scale symbols = length-heard_in scale (all_fields symbols)
