-- What whitening keeps.
use Rattle.std.proofs.Common.{◌≡◌, ℕ, ◌+◌, ◌<◌, List, length, get_or, sym, subst, arith, bit_xor}
use Rattle.std.specs.Int.Bits.{xor_assoc, xor_self, xor_zero_r, xor_lt}
use Rattle.std.proofs.lemmas.List.FromFn.{fill_by_all, length-map-range_with_len, get_or-map-range_with_len}
use Rattle.dtx_galois.specs.Field.{AreBytes}
use Rattle.dtx_galois.proofs.BytesLemmas.{AreBytes-from_places}
use Rattle.dtx_laws.specs.Whitening.{whitened}
use Rattle.dtx_laws.proofs.PartsLemmas.{byte_at}

pub length-whitened : (white head : List ℕ) (from : ℕ) → length (whitened white from head) ≡ length head
unfolding whitened
length-whitened white head from = grind (arith, length-map-range_with_len)

pub get_or-whitened : (white head : List ℕ) (from j : ℕ) → j < length head
    → get_or (whitened white from head) j 0 ≡ bit_xor (get_or head j 0) (get_or white (from + j) 0)
unfolding whitened
get_or-whitened white head from j l = grind (arith, get_or-map-range_with_len)

-- known place by place
pub whitened_by : (white : List ℕ) (from : ℕ) (head new : List ℕ) → length new ≡ length head
    → ((j : ℕ) → j < length head → get_or new j 0 ≡ bit_xor (get_or head j 0) (get_or white (from + j) 0))
    → new ≡ whitened white from head
unfolding whitened
whitened_by white from head new l h =
    fill_by_all (λ j. bit_xor (get_or head j 0) (get_or white (from + j) 0)) new (length head) 0 l h

pub bytes_whitened : (white head : List ℕ) (from : ℕ) → AreBytes white → AreBytes head
    → AreBytes (whitened white from head)
bytes_whitened white head from b c = AreBytes-from_places (whitened white from head) (λ j l. subst (λ (x : ℕ). x < 256)
    (sym (get_or-whitened white head from j (omega (arith, l, length-whitened white head from))))
    (xor_lt 8 (get_or head j 0) (get_or white (from + j) 0) (byte_at head j c) (byte_at white (from + j) b)))

pub whitened_twice : (white head : List ℕ) (from : ℕ) → whitened white from (whitened white from head) ≡ head
whitened_twice white head from = sym (grind (arith, whitened_by, length-whitened, at))
  where
    at : (j : ℕ) → j < length head → bit_xor (get_or (whitened white from head) j 0) (get_or white (from + j) 0)
        ≡ get_or head j 0
    at j l = simp (get_or-whitened, xor_assoc, xor_self, xor_zero_r)
