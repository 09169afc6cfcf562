-- The page in the data of a packet.
use Rattle.std.proofs.Common.{◌≡◌, ℕ, ◌+◌, ◌*◌, ◌<◌, ◌≤◌, ◌==◌, nat_le, nat_lt, ◌||◌, Bool, true, false, if◌then◌else◌}
use Rattle.std.proofs.Common.{List, ◌∷◌, ◌++◌, length, drop, slice_index, refl, drop-cons, arith, rules}
use Rattle.std.proofs.lemmas.Bool.{or_parts, or_from, ltb-false, le-ltb, leb-false, lt-leb}
use Rattle.std.proofs.lemmas.List.{drop-drop, get_or-drop}
use Rattle.dtx_galois.specs.Field.{AreBytes}
use Rattle.dtx_ops.specs.declared.paging.Paging.{Paging}
use Rattle.dtx_ops.specs.declared.paging.Paging.TheVariants.{One, Of}
use Rattle.dtx_ops.specs.Fields.{paging_in, count_in, behind_count}
use Rattle.dtx_ops.specs.Paging.{page_of, pages_of, kind_of, paging_bytes, count_place, most_of, IsPaged}

-- the entries of a page find room behind their count
pub room : (p : Paging) → 4 * most_of p + length (paging_bytes p) ≤ 145
room One = omega arith
room (Of page pages) = omega arith

-- a page has no more entries than a list of them holds
pub most_few : (p : Paging) → most_of p ≤ 35
most_few One = omega arith
most_few (Of page pages) = omega arith

pub kind_small : (p : Paging) → kind_of p < 256
kind_small One = omega arith
kind_small (Of page pages) = omega arith

-- what names a page is bytes
pub bytes_paging : (p : Paging) (n : ℕ) → IsPaged p n → AreBytes (paging_bytes p)
bytes_paging One n h = tt
bytes_paging (Of page pages) n h = grind arith

-- the byte at a place and those behind it
pub byte_and_rest : (k : ℕ) (bytes : List ℕ) → k < length bytes
    → slice_index bytes k ∷ drop (k + 1) bytes ≡ drop k bytes
byte_and_rest k bytes l = grind (arith, drop-cons)

-- ---- data that name a page

-- the page is found
pub paging_named : (p : Paging) (bytes rest : List ℕ) → slice_index bytes 0 ≡ kind_of p
    → drop 18 bytes ≡ paging_bytes p ++ rest → paging_in bytes ≡ p
unfolding paging_in
paging_named One bytes rest kind e = rw kind refl
paging_named (Of page pages) bytes rest kind e = grind (arith, get_or-drop)

count_there : (p : Paging) (n : ℕ) (rest : List ℕ)
    → slice_index (paging_bytes p ++ n ∷ rest) (length (paging_bytes p)) ≡ n
count_there One n rest = refl
count_there (Of page pages) n rest = refl

count_dropped : (p : Paging) (n : ℕ) (rest : List ℕ)
    → drop (length (paging_bytes p) + 1) (paging_bytes p ++ n ∷ rest) ≡ rest
count_dropped One n rest = refl
count_dropped (Of page pages) n rest = refl

-- the count is found
pub count_named : (p : Paging) (n : ℕ) (bytes rest : List ℕ) → paging_in bytes ≡ p
    → drop 18 bytes ≡ paging_bytes p ++ n ∷ rest → count_in bytes ≡ n
unfolding count_in
count_named p n bytes rest named e = grind (arith, get_or-drop, count_there)

-- what stands behind it is found
pub behind_named : (p : Paging) (n : ℕ) (bytes rest : List ℕ) → paging_in bytes ≡ p
    → drop 18 bytes ≡ paging_bytes p ++ n ∷ rest → behind_count bytes ≡ rest
unfolding behind_count
behind_named p n bytes rest named e = grind (arith, drop-drop, count_dropped)

-- ---- the other way round

name_if : (is_two : Bool) (bytes : List ℕ) → length bytes ≡ 164
    → (let p = if is_two then Of (slice_index bytes 18) (slice_index bytes 19) else One in
    paging_bytes p ++ slice_index bytes (count_place p) ∷ drop (count_place p + 1) bytes ≡ drop 18 bytes)
name_if true bytes l = grind (arith, byte_and_rest)
name_if false bytes l = byte_and_rest 18 bytes (omega (arith, l))

-- what names the page, the count, and what stands behind it are the bytes from byte 18 on
pub name_and_rest : (bytes : List ℕ) → length bytes ≡ 164
    → paging_bytes (paging_in bytes) ++ count_in bytes ∷ behind_count bytes ≡ drop 18 bytes
unfolding paging_in count_in behind_count
name_and_rest bytes l = name_if (slice_index bytes 0 == 2) bytes l

-- ---- the rules on a page

pub paged_unless : (p : Paging) (n : ℕ) → (nat_lt 30 (pages_of p) || nat_le (pages_of p) (page_of p)) ≡ false
    → nat_lt (most_of p) n ≡ false → IsPaged p n
paged_unless p n named few = grind (arith, or_parts, leb-false, ltb-false)

pub page_passes : (p : Paging) (n : ℕ) → IsPaged p n
    → (nat_lt 30 (pages_of p) || nat_le (pages_of p) (page_of p)) ≡ false
page_passes p n h = grind (arith, or_from, le-ltb, lt-leb)
