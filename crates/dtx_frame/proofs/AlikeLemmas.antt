-- Each field sync looks like one, and like that of its field.
use Rattle.std.proofs.Common.{◌≡◌, ℕ, ◌+◌, ◌/◌, ◌<◌, ◌==◌, Bool, true, false, nat_le, ℤ, pos, List, get_or, refl, sym}
use Rattle.std.proofs.Common.{ap, ◌∙◌, arith, to_z, of_z, w8}
use Rattle.std.proofs.lemmas.Bool.{eqb-true}
use Rattle.std.proofs.lemmas.List.{get_or_append_left}
use Rattle.dtx_lists.proofs.Below.{holds_below, at_below}
use Rattle.dtx_slice.specs.Slicing.{sliced}
use Rattle.dtx_frame.specs.declared.tables.TheConstants.{FIRST, SECOND}
use Rattle.dtx_frame.proofs.RecurrencesLemmas.{short_at, table_bits}
use Rattle.dtx_frame.specs.Segments.{pn63, field_sync, sync_symbols}
use Rattle.dtx_frame.specs.Detection.{differs, differing, looks_like, looks_second, opposite, opposites}
use Rattle.dtx_frame.proofs.SymbolsLemmas.{first_is, second_is, length_front}
use Rattle.dtx_frame.proofs.CountsLemmas.{same_is, other_is, sum_is, total_zeros, total_ones}

-- the two fields' syncs are the same in the first 515 symbols
same_test : holds_below (λ i. sliced (get_or SECOND i (pos 0)) == sliced (get_or FIRST i (pos 0))) 515 ≡ true
unfolding sliced
same_test = refl

second_same : (i : ℕ) → i < 515 → sliced (get_or (sync_symbols true) i (pos 0))
    ≡ sliced (get_or (sync_symbols false) i (pos 0))
second_same i l = ap (λ (xs : List ℤ). sliced (get_or xs i (pos 0))) (sym second_is)
    ∙ eqb-true (sliced (get_or SECOND i (pos 0))) (sliced (get_or FIRST i (pos 0)))
    (at_below (λ i. sliced (get_or SECOND i (pos 0)) == sliced (get_or FIRST i (pos 0))) 515 i same_test l)
    ∙ ap (λ (xs : List ℤ). sliced (get_or xs i (pos 0))) first_is

-- in the middle one of the short sequences
abbrev has_sign : List ℕ → ℕ → Bool
has_sign s i = sliced (get_or FIRST (578 + i) (pos 0)) / 4 == get_or s i 0

first_test : holds_below (has_sign (table_bits 515 63)) 63 ≡ true
unfolding sliced
first_test = refl

abbrev has_other_sign : List ℕ → ℕ → Bool
has_other_sign s i = sliced (get_or SECOND (578 + i) (pos 0)) / 4 + get_or s i 0 == 1

second_test : holds_below (has_other_sign (table_bits 515 63)) 63 ≡ true
unfolding sliced
second_test = refl

first_sign : (i : ℕ) → i < 63 → sliced (get_or (sync_symbols false) (578 + i) (pos 0)) / 4 ≡ get_or pn63 i 0
first_sign i l = ap (λ (xs : List ℤ). sliced (get_or xs (578 + i) (pos 0)) / 4) (sym first_is)
    ∙ eqb-true (sliced (get_or FIRST (578 + i) (pos 0)) / 4) (get_or pn63 i 0) (short_at has_sign 63 i first_test l)

second_sign : (i : ℕ) → i < 63 → sliced (get_or (sync_symbols true) (578 + i) (pos 0)) / 4 + get_or pn63 i 0 ≡ 1
second_sign i l = ap (λ (xs : List ℤ). sliced (get_or xs (578 + i) (pos 0)) / 4 + get_or pn63 i 0) (sym second_is)
    ∙ eqb-true (sliced (get_or SECOND (578 + i) (pos 0)) / 4 + get_or pn63 i 0) 1
    (short_at has_other_sign 63 i second_test l)

-- a field sync's first 820 symbols
sync_at : (second : Bool) (last : List ℤ) (i : ℕ) → i < 820
    → get_or (field_sync second last) i (pos 0) ≡ get_or (sync_symbols second) i (pos 0)
unfolding field_sync
sync_at second last i l = get_or_append_left (sync_symbols second) last (pos 0) i (omega (arith, length_front second))

alike_at : (second : Bool) (last : List ℤ) (i : ℕ) → i < 515
    → sliced (get_or (field_sync second last) i (pos 0)) ≡ sliced (get_or (sync_symbols false) i (pos 0))
alike_at false last i l = ap sliced (sync_at false last i (omega arith))
alike_at true last i l = ap sliced (sync_at true last i (omega arith)) ∙ second_same i l

differs_not : (second : Bool) (last : List ℤ) (i : ℕ) → i < 515 → differs (field_sync second last) i ≡ 0
unfolding differs
differs_not second last i l = grind (arith, same_is, alike_at)

pub none_differ : (second : Bool) (last : List ℤ) → differing (field_sync second last) ≡ 0
unfolding differing
none_differ second last = sum_is (differs (field_sync second last)) 0 515
    ∙ total_zeros (differs (field_sync second last)) 0 515 (λ i _ l. differs_not second last i (omega arith))

pub looks_alike : (second : Bool) (last : List ℤ) → looks_like (field_sync second last) ≡ true
unfolding looks_like
looks_alike second last = ap (λ n. nat_le n 32) (none_differ second last)

none_opposite : (last : List ℤ) (i : ℕ) → i < 63 → opposite (field_sync false last) i ≡ 0
unfolding opposite
none_opposite last i l = grind (arith, same_is, sync_at, first_sign)

all_opposite : (last : List ℤ) (i : ℕ) → i < 63 → opposite (field_sync true last) i ≡ 1
unfolding opposite
all_opposite last i l = grind (arith, other_is, sync_at, second_sign)

pub second_told : (second : Bool) (last : List ℤ) → looks_second (field_sync second last) ≡ second
unfolding looks_second opposites
second_told false last = grind (arith, sum_is, total_zeros, none_opposite)
second_told true last = grind (arith, sum_is, total_ones, all_opposite)

-- the table's symbols, as signed bytes are read
table_test : holds_below (λ i. sliced (to_z w8 (of_z w8 (get_or FIRST i (pos 0)))) == sliced (get_or FIRST i (pos 0)))
    820 ≡ true
unfolding sliced
table_test = refl

table_read : (i : ℕ) → i < 820 → sliced (to_z w8 (of_z w8 (get_or FIRST i (pos 0)))) ≡ sliced (get_or FIRST i (pos 0))
table_read i l = eqb-true (sliced (to_z w8 (of_z w8 (get_or FIRST i (pos 0))))) (sliced (get_or FIRST i (pos 0)))
    (at_below (λ i. sliced (to_z w8 (of_z w8 (get_or FIRST i (pos 0)))) == sliced (get_or FIRST i (pos 0))) 820 i
    table_test l)

pub table_level : (i : ℕ) → i < 820 → sliced (to_z w8 (of_z w8 (get_or FIRST i (pos 0))))
    ≡ sliced (get_or (sync_symbols false) i (pos 0))
table_level i l = table_read i l ∙ ap (λ (xs : List ℤ). sliced (get_or xs i (pos 0))) first_is

pub table_sign : (i : ℕ) → i < 63 → sliced (to_z w8 (of_z w8 (get_or FIRST (578 + i) (pos 0)))) / 4 ≡ get_or pn63 i 0
table_sign i l = ap (λ x. x / 4) (table_level (578 + i) (omega arith)) ∙ first_sign i l
