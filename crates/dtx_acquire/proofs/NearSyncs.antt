-- Symbols that lie near those of a field sync: they agree with one, and its field is told.
use Rattle.std.proofs.Common.{◌≡◌, ℕ, ℤ, pos, ◌+◌, ◌<◌, ◌≤◌, Bool, true, ◌&&◌, leb, List, length, map, sum, get_or, sym}
use Rattle.std.proofs.Common.{ap, ap₂, ◌∙◌, subst, arith}
use Rattle.std.proofs.lemmas.Bool.{le-leb}
use Rattle.dtx_lists.proofs.Range.{map-range_same}
use Rattle.dtx_frame.proofs.CountsLemmas.{sum_is, total_zeros}
use Rattle.dtx_trellis.specs.Trellis.{symbol_of}
use Rattle.dtx_frame.specs.Segments.{field_sync}
use Rattle.dtx_acquire.specs.Agreement.{agrees, is_second, unlike, unlike_at}
use Rattle.dtx_acquire.specs.Sent.{IsNear, IsSync}
use Rattle.dtx_acquire.proofs.NearLevels.{sign_near}
use Rattle.dtx_acquire.proofs.SentLemmas.{fives, front_like, second_sent, sync_at, unlike_sent, unlike_sign}

-- the symbols of a field sync stand near their own from a place on
abbrev pub IsNearSync : ℕ → List ℤ → ℕ → List ℤ → Type 0
IsNearSync scale symbols place sent = (k : ℕ) → k < 832
    → IsNear scale (get_or sent k (pos 0)) (get_or symbols (place + k) (pos 0))

unlike_near : (scale : ℕ) (symbols : List ℤ) (place i : ℕ) (second : Bool) (last : List ℤ) → i < 820
    → IsNearSync scale symbols place (field_sync second last) → unlike_at symbols place i ≡ unlike_sign second i
unfolding unlike_at
unlike_near scale symbols place i second last l h = grind (arith, sign_near, fives, sync_at)

pub agrees_near : (scale : ℕ) (symbols : List ℤ) (place : ℕ) (sent : List ℤ) → IsSync sent
    → place + 832 ≤ length symbols → IsNearSync scale symbols place sent → agrees symbols place ≡ true
unfolding agrees unlike
agrees_near scale symbols place sent is l h = ap₂ ◌&&◌ (le-leb (place + 832) (length symbols) l) (ap (λ n. leb n 128)
    (sum_is (unlike_at symbols place) 0 515
    ∙ total_zeros (unlike_at symbols place) 0 515
    (λ i a b. unlike_near scale symbols place i is.second (map symbol_of is.last) (omega arith)
    (subst (IsNearSync scale symbols place) is.is h) ∙ front_like is.second i (omega arith))))

pub second_near : (scale : ℕ) (symbols : List ℤ) (second : Bool) (last : List ℤ)
    → IsNearSync scale symbols 0 (field_sync second last) → is_second symbols ≡ second
unfolding is_second unlike
second_near scale symbols second last h = ap (λ n. leb 32 n)
    (ap sum (map-range_same (unlike_at symbols 0) (unlike_at (field_sync second last) 0) 578 63
    (λ i a b. unlike_near scale symbols 0 i second last (omega arith) h
    ∙ sym (unlike_sent second last i (omega arith)))))
    ∙ second_sent second last
