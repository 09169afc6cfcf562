-- The data of fields, and the fields of data.
use Rattle.std.proofs.Common.{◌≡◌, ℕ, suc, ◌+◌, ◌-◌, ◌*◌, ◌/◌, ◌%◌, ◌^◌, ◌<◌, ◌≤◌, ◌==◌, List, [], ◌∷◌, ◌++◌, None, Ok}
use Rattle.std.proofs.Common.{length, drop, get_or, replicate, slice_index, refl, ap, ap₂, sym, ◌∙◌, length-append}
use Rattle.std.proofs.Common.{subst, arith, rules}
use Rattle.std.proofs.Math.Seq.{drop-append_seam}
use Rattle.std.proofs.lemmas.List.{length-drop, length-replicate, get_or-drop}
use Rattle.std.proofs.lemmas.List.FromFn.{get_or-map-range_with_len}
use Rattle.std.specs.List.{AllByRecursion, flat_map, list_all}
use Rattle.byteorder.specs.Endian.{big_bytes, big_number}
use Rattle.byteorder.specs.Numbers.{big_number-reads_back, big_from-lt}
use Rattle.dtx_galois.specs.Field.{AreBytes}
use Rattle.dtx_galois.proofs.BytesLemmas.{bytes_append, bytes_zeros}
use Rattle.dtx_ops.specs.declared.fields.Entry.{Entry}
use Rattle.dtx_ops.specs.declared.fields.Ops.{Ops}
use Rattle.dtx_ops.specs.Fields.{states_at, states_in, stamp_in, max_delay_in, frame_in, index_in, paging_in, count_in}
use Rattle.dtx_ops.specs.Fields.{behind_count, entries_in, fields}
use Rattle.dtx_ops.specs.Paging.{kind_of, paging_bytes, count_place, most_of, IsPaged}
use Rattle.dtx_ops.specs.Reading.{first, data_rules, has_twice, unless, data_reading}
use Rattle.dtx_ops.specs.Spelling.{states_bits, entry_bytes, times_bytes, head_bytes, data_of, IsValid}
use Rattle.dtx_ops.proofs.AddressesLemmas.{differ_unless_twice, not_twice}
use Rattle.dtx_ops.proofs.DigitsLemmas.{states_at-bits, bits-states_at, bits_pad, bits_below}
use Rattle.dtx_ops.proofs.EntriesLemmas.{length-entries, entries_in-bytes, bytes-entries_in, are_entries_in}
use Rattle.dtx_ops.proofs.EntriesLemmas.{length-entries_in, bytes-entries}
use Rattle.dtx_ops.proofs.NumbersLemmas.{number_at, bytes_are, byte_within, AreBytes-drop}
use Rattle.dtx_ops.proofs.PagingLemmas.{room, most_few, kind_small, bytes_paging, byte_and_rest, name_and_rest}
use Rattle.dtx_ops.proofs.PagingLemmas.{paging_named, count_named, behind_named}
use Rattle.dtx_ops.proofs.PassingLemmas.{Passes, passes_unrefused, unrefused_passes, zeros_blank, blank_zeros}

-- the bytes behind the entries, which are 00
abbrev zeros_of : Ops → List ℕ
zeros_of f = replicate (145 - length (paging_bytes f.paging) - 4 * length f.offsets.items) 0

-- the data from each place on
abbrev from_page : Ops → List ℕ
from_page f = flat_map entry_bytes f.offsets.items ++ zeros_of f

abbrev from_18 : Ops → List ℕ
from_18 f = paging_bytes f.paging ++ length f.offsets.items ∷ from_page f

abbrev from_12 : Ops → List ℕ
from_12 f = big_bytes 4 f.frame ++ (big_bytes 2 f.index ++ from_18 f)

abbrev from_6 : Ops → List ℕ
from_6 f = big_bytes 3 f.stamp ++ (big_bytes 3 f.max_delay ++ from_12 f)

layout : (f : Ops) → data_of f ≡ kind_of f.paging ∷ (big_bytes 5 (states_bits f.states) ++ from_6 f)
unfolding data_of head_bytes times_bytes
layout f = grind arith

pub data_long : (f : Ops) → length f.offsets.items ≤ most_of f.paging → length (data_of f) ≡ 164
data_long f few = grind (arith, layout, room, length-append, length-entries, length-replicate)

pub length-data_of : (f : Ops) → IsValid f → length (data_of f) ≡ 164
length-data_of f h = data_long f h.paged.fits

pub AreBytes-data_of : (f : Ops) → IsValid f → AreBytes (data_of f)
AreBytes-data_of f h =
    let es = f.offsets.items in
    let name : List ℕ = paging_bytes f.paging in
    let rest : AreBytes (from_page f) = grind (arith, bytes_append, bytes-entries, bytes_zeros) in
    let count : AreBytes (length es ∷ from_page f) = (omega (arith, h.few), rest) in
    let named = bytes_append name (length es ∷ from_page f) (bytes_paging f.paging (length es) h.paged) count in
    let index = bytes_append (big_bytes 2 f.index) (from_18 f) (bytes_are 2 f.index) named in
    let frame = bytes_append (big_bytes 4 f.frame) (big_bytes 2 f.index ++ from_18 f) (bytes_are 4 f.frame) index in
    let max_delay = bytes_append (big_bytes 3 f.max_delay) (from_12 f) (bytes_are 3 f.max_delay) frame in
    let stamp = bytes_append (big_bytes 3 f.stamp) (big_bytes 3 f.max_delay
    ++ from_12 f) (bytes_are 3 f.stamp) max_delay in
    let states = bytes_append (big_bytes 5 (states_bits f.states)) (from_6 f)
    (bytes_are 5 (states_bits f.states)) stamp in
    rw (layout f) ((kind_small f.paging, states))

all_below : (states : List ℕ) → ((e : ℕ) → e < length states → slice_index states e < 8)
    → AllByRecursion (λ s. s < 8) states
all_below [] h = tt
all_below (s ∷ states) h = (h 0 (omega arith), all_below states (λ e l. h (suc e) (omega arith)))

states_below : (f : Ops) → IsValid f → AllByRecursion (λ s. s < 8) f.states
states_below f h = all_below f.states h.states

-- the fields of the data of valid fields
times_back : (f : Ops) → IsValid f → (stamp_in (data_of f) ≡ f.stamp) × (max_delay_in (data_of f) ≡ f.max_delay)
    × (frame_in (data_of f) ≡ f.frame) × (index_in (data_of f) ≡ f.index)
unfolding stamp_in max_delay_in frame_in index_in
times_back f h =
    let e : (k : ℕ) → drop k (data_of f)
    ≡ drop k (kind_of f.paging ∷ (big_bytes 5 (states_bits f.states) ++ from_6 f)) = λ k. ap (drop k) (layout f) in (
      ap (big_number 3) (e 6) ∙ big_number-reads_back 3 f.stamp (big_bytes 3 f.max_delay
          ++ from_12 f) (omega (arith, h.stamp)),
      ap (big_number 3) (e 9) ∙ big_number-reads_back 3 f.max_delay (from_12 f) (omega (arith, h.max_delay)),
      ap (big_number 4) (e 12)
          ∙ big_number-reads_back 4 f.frame (big_bytes 2 f.index ++ from_18 f) (omega (arith, h.frame)),
      ap (big_number 2) (e 16)
          ∙ big_number-reads_back 2 f.index (from_18 f) (omega (arith, h.index)),
    )

states_back : (f : Ops) → IsValid f → states_in (data_of f) ≡ f.states
unfolding states_in
states_back f h =
    let small = states_below f h in
    let number = ap (λ (t : List ℕ). big_number 5 (drop 1 t)) (layout f)
    ∙ big_number-reads_back 5 (states_bits f.states) (from_6 f) (bits_below f.states h.twelve small) in
    ap states_at number ∙ states_at-bits f.states h.twelve small

named : (f : Ops) → drop 18 (data_of f) ≡ from_18 f
named f = ap (drop 18) (layout f)

paging_back : (f : Ops) → paging_in (data_of f) ≡ f.paging
paging_back f = grind (arith, paging_named, layout, named)

count_back : (f : Ops) → count_in (data_of f) ≡ length f.offsets.items
count_back f = count_named f.paging (length f.offsets.items) (data_of f) (from_page f) (paging_back f) (named f)

page_back : (f : Ops) → behind_count (data_of f) ≡ from_page f
page_back f = behind_named f.paging (length f.offsets.items) (data_of f) (from_page f) (paging_back f) (named f)

entries_back : (f : Ops) → IsValid f → entries_in (count_in (data_of f)) (behind_count (data_of f)) ≡ f.offsets.items
entries_back f h = ap₂ entries_in (count_back f) (page_back f) ∙ entries_in-bytes f.offsets.items (zeros_of f) h.entries

pub fields-data_of : (f : Ops) → IsValid f → fields (data_of f) ≡ f
unfolding fields
fields-data_of f h = grind (arith, times_back, states_back, paging_back, entries_back)

pub passes-data_of : (f : Ops) → IsValid f → Passes (data_of f)
passes-data_of f h =
    let es = f.offsets.items in
    let times = times_back f h in
    let pad : slice_index (data_of f) 5 ≡ states_bits f.states % 256 =
    ap (λ (t : List ℕ). slice_index t 5) (layout f) in
    let rest : drop (4 * count_in (data_of f)) (behind_count (data_of f)) ≡ zeros_of f =
    ap₂ (λ (n : ℕ) (t : List ℕ). drop (4 * n) t) (count_back f) (page_back f)
    ∙ ap (λ (n : ℕ). drop n (from_page f)) (sym (length-entries es))
    ∙ drop-append_seam (flat_map entry_bytes es) (zeros_of f) in
    let paged : IsPaged (paging_in (data_of f)) (count_in (data_of f)) = rw (paging_back f, count_back f) h.paged in
    record {
      kind = ap (λ (t : List ℕ). slice_index t 0) (layout f) ∙ ap kind_of (sym (paging_back f));
      pad = omega (arith, pad, bits_pad f.states);
      stamp = omega (arith, times.0, h.stamp);
      max_delay = omega (arith, times.1, h.max_delay);
      index = omega (arith, times.3, h.index);
      paged = paged;
      once = ap has_twice (entries_back f h) ∙ not_twice es h.differ;
      blank = ap (list_all (λ byte. byte == 0)) rest
          ∙ blank_zeros (145 - length (paging_bytes f.paging) - 4 * length es);
    }

-- valid fields, read from their data
pub data_reading-data_of : (f : Ops) → IsValid f → data_reading (data_of f) ≡ Ok f
unfolding data_reading
data_reading-data_of f h = ap₂ unless (unrefused_passes (data_of f) (passes-data_of f h)) (fields-data_of f h)

-- the bytes behind the count
page_long : (bytes : List ℕ) → length bytes ≡ 164
    → length (paging_bytes (paging_in bytes)) + length (behind_count bytes) ≡ 145
page_long bytes l =
    let name : List ℕ = paging_bytes (paging_in bytes) in
    let all = ap (λ (t : List ℕ). length t) (name_and_rest bytes l) in
    omega (arith, l, all, length-append name (count_in bytes ∷ behind_count bytes), length-drop 18 bytes)

AreBytes-page : (bytes : List ℕ) → AreBytes bytes → AreBytes (behind_count bytes)
unfolding behind_count
AreBytes-page bytes h = AreBytes-drop (count_place (paging_in bytes) + 1) bytes h

-- the data of the fields of data that no rule refuses
pub data_of-fields : (bytes : List ℕ) → length bytes ≡ 164 → AreBytes bytes → Passes bytes
    → data_of (fields bytes) ≡ bytes
unfolding fields states_in stamp_in max_delay_in frame_in index_in
data_of-fields bytes l h p =
    let n : ℕ = count_in bytes in
    let page : List ℕ = behind_count bytes in
    let name : List ℕ = paging_bytes (paging_in bytes) in
    let es : List Entry = entries_in n page in
    let long : length es ≡ n = length-entries_in n page in
    let fits : 4 * n ≤ length page = omega (arith, page_long bytes l, p.paged.fits, room (paging_in bytes)) in
    let at_page : from_page (fields bytes) ≡ page = ap (λ (t : List ℕ). flat_map entry_bytes es ++ t)
    (ap (λ (m : ℕ). replicate m 0) (omega (arith, long, page_long bytes l, length-drop (4 * n) page))
    ∙ sym (zeros_blank (drop (4 * n) page) p.blank)) ∙ bytes-entries_in n page fits (AreBytes-page bytes h) in
    let at_18 : from_18 (fields bytes) ≡ drop 18 bytes =
    ap₂ (λ (m : ℕ) (t : List ℕ). name ++ m ∷ t) long at_page ∙ name_and_rest bytes l in
    let at_16 = ap (λ (t : List ℕ). big_bytes 2 (index_in bytes) ++ t) at_18
    ∙ number_at 2 16 18 bytes refl (omega (arith, l)) h in
    let at_12 = ap (λ (t : List ℕ). big_bytes 4 (frame_in bytes) ++ t) at_16
    ∙ number_at 4 12 16 bytes refl (omega (arith, l)) h in
    let at_9 = ap (λ (t : List ℕ). big_bytes 3 (max_delay_in bytes) ++ t) at_12
    ∙ number_at 3 9 12 bytes refl (omega (arith, l)) h in
    let at_6 = ap (λ (t : List ℕ). big_bytes 3 (stamp_in bytes) ++ t) at_9
    ∙ number_at 3 6 9 bytes refl (omega (arith, l)) h in
    let number : ℕ = big_number 5 (drop 1 bytes) in
    let pad : number % 16 ≡ 0 = omega (arith, p.pad, get_or-drop 1 bytes 4 0) in
    let below : number < 2 ^ 40 = big_from-lt 0 5 (drop 1 bytes) (grind (arith, byte_within, AreBytes-drop)) in
    let states : states_bits (states_at number) ≡ number = bits-states_at number pad below in
    let at_1 = ap₂ (λ (m : ℕ) (t : List ℕ). big_bytes 5 m ++ t) states at_6
    ∙ number_at 5 1 6 bytes refl (omega (arith, l)) h in
    layout (fields bytes) ∙ ap₂ (λ (m : ℕ) (t : List ℕ). m ∷ t) (sym p.kind) at_1
    ∙ byte_and_rest 0 bytes (omega (arith, l))

-- fields of data that no rule refuses are valid
pub valid_fields : (bytes : List ℕ) → length bytes ≡ 164 → AreBytes bytes → Passes bytes → IsValid (fields bytes)
unfolding fields states_in states_at stamp_in max_delay_in frame_in index_in
valid_fields bytes l h p =
    let n : ℕ = count_in bytes in
    let page : List ℕ = behind_count bytes in
    let fits : 4 * n ≤ length page = omega (arith, page_long bytes l, p.paged.fits, room (paging_in bytes)) in
    let number : ℕ = big_number 5 (drop 1 bytes) in
    record {
      twelve = refl;
      states = λ e less.
          let here : get_or (states_at number) e 0 ≡ number / 2 ^ (37 - 3 * e) % 8 =
          get_or-map-range_with_len (λ k. number / 2 ^ (37 - 3 * k) % 8) 0 12 e e 0 less (omega arith) in
          omega (arith, here);
      stamp = p.stamp;
      max_delay = p.max_delay;
      frame = big_from-lt 0 4 (drop 12 bytes) (byte_within (drop 12 bytes) (AreBytes-drop 12 bytes h));
      index = p.index;
      few = omega (arith, length-entries_in n page, p.paged.fits, most_few (paging_in bytes));
      paged = subst (λ (m : ℕ). IsPaged (paging_in bytes) m) (sym (length-entries_in n page)) p.paged;
      entries = are_entries_in n page fits (AreBytes-page bytes h);
      differ = differ_unless_twice (entries_in n page) p.once;
    }

-- ---- the same by the rules

pub unrefused-data_of : (f : Ops) → IsValid f → first (data_rules (data_of f)) ≡ None
unrefused-data_of f h = unrefused_passes (data_of f) (passes-data_of f h)

pub valid_unrefused : (bytes : List ℕ) → length bytes ≡ 164 → AreBytes bytes → first (data_rules bytes) ≡ None
    → IsValid (fields bytes)
valid_unrefused bytes l h e = valid_fields bytes l h (passes_unrefused bytes e)

pub spelled_unrefused : (bytes : List ℕ) → length bytes ≡ 164 → AreBytes bytes → first (data_rules bytes) ≡ None
    → data_of (fields bytes) ≡ bytes
spelled_unrefused bytes l h e = data_of-fields bytes l h (passes_unrefused bytes e)
