-- What a capture becomes when its field syncs level it to eight steps a unit (the profile's own; ATSC A/53 Part 2, the
-- levels of 8-VSB and data field sync).
use Rattle.std.specs.Prelude.{ℕ, ℤ, pos, negsuc, neg_ℤ, ◌-◌, ◌+ℤ◌, ◌-ℤ◌, ◌*ℤ◌, int_lt, Bool, true, false, if◌then◌else◌}
use Rattle.std.specs.Prelude.{Option, Some, None, List, [], ◌∷◌, ◌++◌, length, map, take, drop}
use Rattle.std.specs.Int.{int_div_euclid, int_max, int_min}
use Rattle.dtx_acquire.specs.Acquired.{is_met}
use Rattle.dtx_level.specs.Shown.{constant, gain}
use Rattle.dtx_level.specs.Syncs.{all_syncs}

-- ---- a symbol

-- the whole number next to n / g, for g above 0: (2 * n + g) div (2 * g), rounded down, so ties go up
unfoldable pub next_whole : ℤ → ℤ → ℤ
next_whole n g = int_div_euclid (pos 2 *ℤ n +ℤ g) (pos 2 *ℤ g)

-- the whole number next to n / g, for any g but 0; where g is below 0, n and g are both negated
unfoldable pub nearest : ℤ → ℤ → ℤ
nearest n g = if int_lt g (pos 0) then next_whole (neg_ℤ n) (neg_ℤ g) else next_whole n g

-- the number, but -127 or 127 where it lies beyond these
abbrev pub in_bounds : ℤ → ℤ
in_bounds x = int_max (negsuc 126) (int_min x (pos 127))

-- A symbol x at gain g with constant o: the whole number next to 40 * (2 * 258 * 257 * x - o) / g. (Where s stands as
-- u * s + c, that is 8 * s.)
unfoldable pub levelled_symbol : ℤ → ℤ → ℤ → ℤ
levelled_symbol g o x = in_bounds (nearest (pos 40 *ℤ (pos 132612 *ℤ x -ℤ o)) g)

-- the gain and the constant by which symbols are levelled; before the first sync (`begun` is false) each symbol becomes
-- 0
pub record By : Type 0 where
  pub begun : Bool
  pub gain : ℤ
  pub constant : ℤ

abbrev pub level : By → ℤ → ℤ
level by x = if by.begun then levelled_symbol by.gain by.constant x else pos 0

-- no sync, and the sync at a place
abbrev pub nothing : By
nothing = record { begun = false; gain = pos 0; constant = pos 0 }

abbrev pub by_sync : List ℤ → ℕ → By
by_sync symbols place = record { begun = true; gain = gain symbols place; constant = constant symbols place }

-- ---- all symbols

-- The levelled symbols from `from` on, where the next syncs stand at these places. The symbols up to the first of these
-- syncs, or up to the end, are levelled by `by`. The others are levelled by the last sync at or before them.
unfoldable pub stretches : By → List ℤ → ℕ → List ℕ → List ℤ
stretches by symbols from [] = map (level by) (drop from symbols)
stretches by symbols from (place ∷ places) =
    map (level by) (take (place - from) (drop from symbols)) ++ stretches (by_sync symbols place) symbols place places

-- all symbols levelled, where those before the first sync are levelled by `by`
unfoldable pub levelled_behind : By → List ℤ → List ℤ
levelled_behind by symbols = stretches by symbols 0 (all_syncs symbols)

-- the list, or nothing where there is no sync
abbrev pub where_some : List ℕ → List ℤ → List ℤ
where_some [] xs = []
where_some (place ∷ places) xs = xs

-- All that is levelled. Where there is no sync it is empty.
unfoldable pub levelled : List ℤ → List ℤ
levelled symbols = where_some (all_syncs symbols) (levelled_behind nothing symbols)

-- ---- piece by piece

-- How many symbols have a known levelled value, whatever follows them. They are those before the last sync, at `place`.
-- Where the segment is there at which the next sync is due, they are all symbols but the last 831, at which a sync may
-- begin.
abbrev pub known_behind : List ℤ → Option ℕ → ℕ
known_behind symbols None = 0
known_behind symbols (Some place) = if is_met symbols place then length symbols - 831 else place

-- the last of these places, or the one before them where there is none
abbrev pub last_behind : Option ℕ → List ℕ → Option ℕ
last_behind before [] = before
last_behind before (place ∷ places) = last_behind (Some place) places

-- the last of these places, if there is one
abbrev pub last_of : List ℕ → Option ℕ
last_of places = last_behind None places

unfoldable pub known : List ℤ → ℕ
known symbols = known_behind symbols (last_of (all_syncs symbols))

-- what is levelled while these symbols come: it holds whatever follows them
unfoldable pub levelled_so_far : List ℤ → List ℤ
levelled_so_far symbols = take (known symbols) (levelled symbols)

-- what the end of the symbols adds
unfoldable pub levelled_rest : List ℤ → List ℤ
levelled_rest symbols = drop (known symbols) (levelled symbols)
