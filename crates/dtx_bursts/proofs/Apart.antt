-- Where a symbol's level is the opposite one, the bytes that hang on it are others.
use Rattle.std.proofs.Common.{◌≡◌, ℕ, ℤ, ◌+◌, ◌-◌, ◌*◌, ◌/◌, ◌<◌, List, length, get_or, arith}
use Rattle.dtx_slice.specs.Unrolled.{pair_from, coder_of, byte_back}
use Rattle.dtx_slice.proofs.InverseLemmas.{coder_of_small}
use Rattle.dtx_receiver.specs.Bytes.{groups_of, bytes_in}
use Rattle.dtx_bursts.proofs.Bytes.{AreWhole, byte_at, level_before, pair_is}

-- the byte of five levels: that of the coder's symbol before, and those of its four pairs
abbrev joined : ℕ → ℕ → ℕ → ℕ → ℕ → ℕ
joined v w x y z = 64 * pair_from (v / 4) w + 16 * pair_from (w / 4) x + 4 * pair_from (x / 4) y + pair_from (y / 4) z

-- the level on which a byte hangs, of five
abbrev pub level_on : List (List ℤ) → ℕ → ℕ → ℕ
level_on run y i = level_before run (4 * (y / 12) + i) (coder_of 0 y)

joined_is : (run : List (List ℤ)) (y : ℕ) → AreWhole run → 0 < length run → y < 828 * groups_of run
    → get_or (bytes_in run) y 0
    ≡ joined (level_on run y 0) (level_on run y 1) (level_on run y 2) (level_on run y 3) (level_on run y 4)
unfolding byte_back
joined_is run y whole some l = grind (arith, byte_at, pair_is, coder_of_small, level_before)

-- the last of the five
by_last : (v w x y z p q r s : ℕ) → z < 8 → joined v w x y (7 - z) ≡ joined p q r s z → ⊥
by_last v w x y z p q r s l e = omega (arith, l, e)

-- the first, where the second is as it was
by_first : (v w x y z r s t : ℕ) → v < 8 → w < 8 → joined (7 - v) w x y z ≡ joined v w r s t → ⊥
by_first v w x y z r s t l m e = omega (arith, l, m, e)

pub apart_by_last : (a b : List (List ℤ)) (y : ℕ) → AreWhole a → 0 < length a → y < 828 * groups_of a → AreWhole b
    → 0 < length b → y < 828 * groups_of b → level_on b y 4 < 8 → level_on a y 4 ≡ 7 - level_on b y 4
    → get_or (bytes_in a) y 0 ≡ get_or (bytes_in b) y 0 → ⊥
apart_by_last a b y wa sa la wb sb lb small e same = grind (arith, by_last, joined_is)

pub apart_by_first : (a b : List (List ℤ)) (y : ℕ) → AreWhole a → 0 < length a → y < 828 * groups_of a → AreWhole b
    → 0 < length b → y < 828 * groups_of b → level_on b y 0 < 8 → level_on b y 1 < 8
    → level_on a y 0 ≡ 7 - level_on b y 0 → level_on a y 1 ≡ level_on b y 1
    → get_or (bytes_in a) y 0 ≡ get_or (bytes_in b) y 0 → ⊥
apart_by_first a b y wa sa la wb sb lb small next e f same = grind (arith, by_first, joined_is)
