-- Entries and their bytes.
use Rattle.std.proofs.Common.{◌≡◌, ℕ, zero, suc, ◌+◌, ◌*◌, ◌^◌, ◌<◌, ◌≤◌, List, [], ◌∷◌, ◌++◌, length, map, drop}
use Rattle.std.proofs.Common.{get_or, refl, ap, ap₂, sym, ◌∙◌, append_assoc, All, pos, arith}
use Rattle.std.proofs.Math.Facts.{Fits-of_z, Fits-lt-pow, Fits-of_lt, sfits_to_z}
use Rattle.std.proofs.lemmas.Int.{of_z-to_z, to_z-of_z}
use Rattle.std.proofs.lemmas.Bool.{cases_lt}
use Rattle.std.proofs.lemmas.List.{append-nil, drop-drop, length-drop, get_or_default}
use Rattle.std.proofs.lemmas.List.FromFn.{map-range_with_len_more, fill_by_all, get_or-map-range_with_len}
use Rattle.std.proofs.lemmas.List.FromFn.{length-map-range_with_len}
use Rattle.std.proofs.lemmas.Grind.{flat_map-append}
use Rattle.std.specs.Int.{w16, cast_unsigned}
use Rattle.std.specs.List.{flat_map, range_with_len}
use Rattle.byteorder.specs.Endian.{big_bytes, big_number}
use Rattle.dtx_galois.specs.Field.{AreBytes}
use Rattle.dtx_galois.proofs.BytesLemmas.{bytes_append}
use Rattle.dtx_ops.specs.declared.fields.Entry.{Entry}
use Rattle.dtx_ops.specs.Fields.{entry_in, entries_in}
use Rattle.dtx_ops.specs.Spelling.{IsEntry, entry_bytes}
use Rattle.dtx_ops.proofs.NumbersLemmas.{number_and_rest, bytes_are, AreBytes-drop}

-- a number of two bytes is below 2 ^ 16
two_below : (bytes : List ℕ) → 2 ≤ length bytes → AreBytes bytes → big_number 2 bytes < 2 ^ 16
two_below [] l h = absurd (omega arith)
two_below (x ∷ []) l h = absurd (omega arith)
two_below (x ∷ y ∷ bytes) l h = omega (arith, h.0, h.1.0)

-- the entry in its bytes
pub entry_in-bytes : (e : Entry) (rest : List ℕ) → IsEntry e → entry_in (entry_bytes e ++ rest) ≡ e
unfolding entry_in entry_bytes
entry_in-bytes e rest h = grind (arith, Fits-lt-pow, Fits-of_z, to_z-of_z)

-- the bytes of the entry in them
pub bytes-entry_in : (bytes : List ℕ) → 4 ≤ length bytes → AreBytes bytes
    → entry_bytes (entry_in bytes) ++ drop 4 bytes ≡ bytes
unfolding entry_in entry_bytes
bytes-entry_in bytes l h = grind (arith, length-drop, AreBytes-drop, of_z-to_z, two_below, drop-drop, number_and_rest)

-- an entry that was read
pub is_entry_in : (bytes : List ℕ) → 4 ≤ length bytes → AreBytes bytes → IsEntry (entry_in bytes)
unfolding entry_in
is_entry_in bytes l h = grind (arith, two_below, sfits_to_z, Fits-of_lt, length-drop, AreBytes-drop)

-- four bytes for each entry
pub length-entries : (es : List Entry) → length (flat_map entry_bytes es) ≡ 4 * length es
unfolding entry_bytes
length-entries [] = refl
length-entries (e ∷ es) = omega (arith, length-entries es)

pub bytes-entries : (es : List Entry) → AreBytes (flat_map entry_bytes es)
unfolding entry_bytes
bytes-entries [] = tt
bytes-entries (e ∷ es) =
    bytes_append (big_bytes 2 e.address ++ big_bytes 2 (cast_unsigned w16 e.offset)) (flat_map entry_bytes es)
    (grind (arith, bytes_append, bytes_are)) (bytes-entries es)

-- what stands behind the first k entries
behind_entries : (es : List Entry) (k : ℕ) (d : Entry) (rest : List ℕ) → k < length es
    → drop (4 * k) (flat_map entry_bytes es ++ rest) ≡ entry_bytes (get_or es k d)
    ++ drop (4 * k + 4) (flat_map entry_bytes es ++ rest)
unfolding entry_bytes
behind_entries [] k d rest l = absurd (omega arith)
behind_entries (e ∷ es) zero d rest l = refl
behind_entries (e ∷ es) (suc k) d rest l =
    let here : 4 * suc k ≡ suc (suc (suc (suc (4 * k)))) = omega arith in
    let next : suc (suc (suc (suc (4 * k)))) + 4 ≡ suc (suc (suc (suc (4 * k + 4)))) = omega arith in
    rw (here, next) (behind_entries es k d rest (omega arith))

-- the entries in their bytes
pub entries_in-bytes : (es : List Entry) (rest : List ℕ) → All IsEntry es
    → entries_in (length es) (flat_map entry_bytes es ++ rest) ≡ es
unfolding entries_in
entries_in-bytes es rest h =
    let none : Entry = record { address = 0; offset = pos 0 } in
    sym (fill_by_all (λ i. entry_in (drop (4 * i) (flat_map entry_bytes es ++ rest))) es (length es) none refl (λ k l.
    sym (ap entry_in (behind_entries es k none rest l)
    ∙ entry_in-bytes (get_or es k none) (drop (4 * k + 4) (flat_map entry_bytes es ++ rest)) (h k none l))))

-- the bytes of the entries in them, and the rest
pub bytes-entries_in : (count : ℕ) (bytes : List ℕ) → 4 * count ≤ length bytes → AreBytes bytes
    → flat_map entry_bytes (entries_in count bytes) ++ drop (4 * count) bytes ≡ bytes
unfolding entries_in
bytes-entries_in zero bytes l h = refl
bytes-entries_in (suc n) bytes l h =
    let entry : ℕ → Entry = λ i. entry_in (drop (4 * i) bytes) in
    let before : List Entry = map entry (range_with_len 0 n) in
    let here : List ℕ = drop (4 * n) bytes in
    let plus : suc n ≡ n + 1 = omega arith in
    let far : 4 * suc n ≡ 4 * n + 4 = omega arith in
    let more : map entry (range_with_len 0 (suc n)) ≡ before ++ entry n ∷ [] =
    ap (λ (m : ℕ). map entry (range_with_len 0 m)) plus ∙ map-range_with_len_more entry 0 n n (omega arith) in
    let next : drop (4 * suc n) bytes ≡ drop 4 here = ap (λ (m : ℕ). drop m bytes) far
    ∙ sym (drop-drop 4 (4 * n) bytes) in
    let one : flat_map entry_bytes (entry n ∷ []) ≡ entry_bytes (entry n) = append-nil (entry_bytes (entry n)) in
    ap₂ (λ (es : List Entry) (t : List ℕ). flat_map entry_bytes es ++ t) more next
    ∙ ap (λ (t : List ℕ). t ++ drop 4 here) (grind (arith, flat_map-append))
    ∙ append_assoc (flat_map entry_bytes before) (entry_bytes (entry n)) (drop 4 here)
    ∙ ap (λ (t : List ℕ). flat_map entry_bytes before ++ t) (grind (arith, bytes-entry_in, length-drop, AreBytes-drop))
    ∙ bytes-entries_in n bytes (omega arith) h

-- entries that were read
pub are_entries_in : (count : ℕ) (bytes : List ℕ) → 4 * count ≤ length bytes → AreBytes bytes
    → All IsEntry (entries_in count bytes)
unfolding entries_in
are_entries_in count bytes l h =
    grind (arith, length-map-range_with_len, get_or-map-range_with_len, is_entry_in, length-drop, AreBytes-drop)

pub length-entries_in : (count : ℕ) (bytes : List ℕ) → length (entries_in count bytes) ≡ count
unfolding entries_in
length-entries_in count bytes = length-map-range_with_len (λ i. entry_in (drop (4 * i) bytes)) 0 count

-- each of the first i entries and the next one
pub one_more_entry : (es : List Entry) (i : ℕ) (none : Entry) → i < length es → IsEntry (get_or es i none)
    → ((k : ℕ) (d : Entry) → k < i → IsEntry (get_or es k d)) → (k : ℕ) (d : Entry) → k < i + 1
    → IsEntry (get_or es k d)
one_more_entry es i none l h before k d less = grind (arith, cases_lt, get_or_default)
