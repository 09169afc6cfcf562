-- The list of the randomizer's bytes.
use Rattle.std.proofs.Common.{◌≡◌, ℕ, ◌+◌, ◌*◌, ◌<◌, List, length, get_or, sym, subst, arith}
use Rattle.std.proofs.lemmas.List.FromFn.{fill_by_all, length-map-range_with_len, get_or-map-range_with_len}
use Rattle.std.proofs.lemmas.Nat.Bits.{bit_at-lt}
use Rattle.dtx_galois.specs.Field.{AreBytes}
use Rattle.dtx_galois.proofs.BytesLemmas.{AreBytes-from_places}
use Rattle.dtx_whiten.specs.Randomizer.{tapped, register, randomizer_byte, randomizer_bytes}

pub length-randomizer_bytes : length randomizer_bytes ≡ 187 * 312
unfolding randomizer_bytes
length-randomizer_bytes = length-map-range_with_len randomizer_byte 0 (187 * 312)

pub get_or-randomizer_bytes : (at : ℕ) → at < 187 * 312 → get_or randomizer_bytes at 0 ≡ randomizer_byte at
unfolding randomizer_bytes
get_or-randomizer_bytes at l =
    get_or-map-range_with_len randomizer_byte 0 (187 * 312) at at 0 l (let e : 0 + at ≡ at = omega arith in e)

tapped_small : (p : ℕ) → tapped p < 256
unfolding tapped
tapped_small p =
    omega (
      arith,
      bit_at-lt p 0,
      bit_at-lt p 2,
      bit_at-lt p 3,
      bit_at-lt p 6,
      bit_at-lt p 10,
      bit_at-lt p 11,
      bit_at-lt p 12,
      bit_at-lt p 13,
    )

pub byte_small : (t : ℕ) → randomizer_byte t < 256
unfolding randomizer_byte
byte_small t = tapped_small (register t)

pub bytes_randomizer_bytes : AreBytes randomizer_bytes
bytes_randomizer_bytes =
    AreBytes-from_places randomizer_bytes
    (λ at l. subst (λ (x : ℕ). x < 256)
    (sym (get_or-randomizer_bytes at (subst (λ (x : ℕ). at < x) length-randomizer_bytes l))) (byte_small at))

pub randomizer_bytes_by : (bytes : List ℕ) → length bytes ≡ 187 * 312
    → ((at : ℕ) → at < 187 * 312 → get_or bytes at 0 ≡ randomizer_byte at) → bytes ≡ randomizer_bytes
unfolding randomizer_bytes
randomizer_bytes_by bytes l h = fill_by_all randomizer_byte bytes (187 * 312) 0 l h
