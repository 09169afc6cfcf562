-- The tables are the definition's symbols.
use Rattle.std.proofs.Common.{◌≡◌, ℕ, zero, suc, ◌<◌, ℤ, pos, ◌*ℤ◌, ◌-ℤ◌, Bool, true, false, cond, List, ◌++◌}
use Rattle.std.proofs.Common.{map, take, length, refl, sym, ap, ap₂, ◌∙◌, arith, to_z, of_z, w8}
use Rattle.dtx_frame.specs.declared.tables.TheConstants.{FIRST, IN_FRONT, SECOND}
use Rattle.dtx_frame.proofs.RecurrencesLemmas.{table_511, table_63, table_bits}
use Rattle.dtx_trellis.specs.Trellis.{symbol_of}
use Rattle.dtx_frame.specs.Segments.{bit_symbol, inverted, mode_bits, segment_sync, sync_symbols}

-- the symbols of a sync with these sequences
abbrev symbols_with : Bool → List ℕ → List ℕ → List ℤ
symbols_with second long short =
    segment_sync ++ map bit_symbol (long ++ short ++ cond second (inverted short) short ++ short ++ mode_bits
    ++ (short ++ take 29 short))

with_sequences : (second : Bool) → symbols_with second (table_bits 4 511) (table_bits 515 63) ≡ sync_symbols second
unfolding sync_symbols
with_sequences second = ap₂ (symbols_with second) table_511 table_63

first_with : FIRST ≡ symbols_with false (table_bits 4 511) (table_bits 515 63)
unfolding segment_sync bit_symbol
first_with = refl

pub first_is : FIRST ≡ sync_symbols false
first_is = first_with ∙ with_sequences false

second_with : SECOND ≡ symbols_with true (table_bits 4 511) (table_bits 515 63)
unfolding segment_sync bit_symbol
second_with = refl

pub second_is : SECOND ≡ sync_symbols true
second_is = second_with ∙ with_sequences true

pub in_front_is : IN_FRONT ≡ segment_sync
unfolding segment_sync bit_symbol
in_front_is = refl

pub length_sync : length segment_sync ≡ 4
unfolding segment_sync
length_sync = refl

pub length_front : (second : Bool) → length (sync_symbols second) ≡ 820
length_front false = ap length (sym first_is) ∙ refl
length_front true = ap length (sym second_is) ∙ refl

-- a level's symbol, as signed bytes give it
abbrev pub level_symbol : ℕ → ℤ
level_symbol z = to_z w8 (of_z w8 (to_z w8 (of_z w8 (pos 2 *ℤ to_z w8 z)) -ℤ pos 7))

pub level_symbol_is : (z : ℕ) → z < 8 → level_symbol z ≡ symbol_of z
unfolding symbol_of
level_symbol_is zero l = refl
level_symbol_is (suc zero) l = refl
level_symbol_is (suc (suc zero)) l = refl
level_symbol_is (suc (suc (suc zero))) l = refl
level_symbol_is (suc (suc (suc (suc zero)))) l = refl
level_symbol_is (suc (suc (suc (suc (suc zero))))) l = refl
level_symbol_is (suc (suc (suc (suc (suc (suc zero)))))) l = refl
level_symbol_is (suc (suc (suc (suc (suc (suc (suc zero))))))) l = refl
level_symbol_is (suc (suc (suc (suc (suc (suc (suc (suc z)))))))) l = absurd (omega arith)
