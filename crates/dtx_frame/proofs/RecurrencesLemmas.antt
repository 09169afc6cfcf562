-- The fixed sequences, by a test of each of their places. They are computed once: then they are read from the table of
-- a field sync.
use Rattle.std.proofs.Common.{◌≡◌, ℕ, ℤ, pos, negsuc, ◌+◌, ◌%◌, ◌<◌, ◌≤◌, ◌==◌, leb, Bool, true, List, [], ◌∷◌}
use Rattle.std.proofs.Common.{take, drop, map, length, get_or, refl, sym, ap, ◌∙◌, subst, arith}
use Rattle.std.proofs.lemmas.Bool.{eqb-true, leb-true}
use Rattle.dtx_lists.proofs.Below.{holds_below, at_below}
use Rattle.dtx_frame.specs.declared.tables.TheConstants.{FIRST}
use Rattle.dtx_frame.specs.Segments.{extended, pn511, pn63}

-- the bit for which a symbol of a sync stands
abbrev pub bit_of : ℤ → ℕ
bit_of (pos n) = 1
bit_of (negsuc n) = 0

-- the bits of n symbols of a first field's table from symbol i on
abbrev pub table_bits : ℕ → ℕ → List ℕ
table_bits i n = map bit_of (take n (drop i FIRST))

-- where the sequences stand in it
pub table_511 : table_bits 4 511 ≡ pn511
unfolding pn511 extended
table_511 = refl

pub table_63 : table_bits 515 63 ≡ pn63
unfolding pn63 extended
table_63 = refl

-- what a test finds at each place of the table
pub long_at : (test : List ℕ → ℕ → Bool) (n p : ℕ) → holds_below (test (table_bits 4 511)) n ≡ true → p < n
    → test pn511 p ≡ true
long_at test n p t l = subst (λ s. test s p ≡ true) table_511 (at_below (test (table_bits 4 511)) n p t l)

pub short_at : (test : List ℕ → ℕ → Bool) (n p : ℕ) → holds_below (test (table_bits 515 63)) n ≡ true → p < n
    → test pn63 p ≡ true
short_at test n p t l = subst (λ s. test s p ≡ true) table_63 (at_below (test (table_bits 515 63)) n p t l)

-- ---- the long one

table_length_511 : length (table_bits 4 511) ≡ 511
table_length_511 = refl

pub length_511 : length pn511 ≡ 511
length_511 = ap length (sym table_511) ∙ table_length_511

table_front_511 : take 9 (table_bits 4 511) ≡ 0 ∷ 0 ∷ 0 ∷ 0 ∷ 0 ∷ 0 ∷ 0 ∷ 1 ∷ 0 ∷ []
table_front_511 = refl

pub front_511 : take 9 pn511 ≡ 0 ∷ 0 ∷ 0 ∷ 0 ∷ 0 ∷ 0 ∷ 0 ∷ 1 ∷ 0 ∷ []
front_511 = ap (take 9) (sym table_511) ∙ table_front_511

abbrev keeps_511 : List ℕ → ℕ → Bool
keeps_511 s n =
    get_or s (n + 9) 0 == (get_or s (n + 7) 0 + get_or s (n + 6) 0 + get_or s (n + 4) 0 + get_or s (n + 3) 0 + get_or s
    (n + 1) 0 + get_or s n 0) % 2

rule_test_511 : holds_below (keeps_511 (table_bits 4 511)) 502 ≡ true
rule_test_511 = refl

pub rule_511 : (n : ℕ) → n < 502
    → get_or pn511 (n + 9) 0 ≡ (get_or pn511 (n + 7) 0 + get_or pn511 (n + 6) 0 + get_or pn511 (n + 4) 0 + get_or pn511
    (n + 3) 0 + get_or pn511 (n + 1) 0 + get_or pn511 n 0) % 2
rule_511 n l = eqb-true _ _ (long_at keeps_511 502 n rule_test_511 l)

abbrev is_bit : List ℕ → ℕ → Bool
is_bit s i = leb (get_or s i 0) 1

bits_test_511 : holds_below (is_bit (table_bits 4 511)) 511 ≡ true
bits_test_511 = refl

pub bit_511 : (p : ℕ) → p < 511 → get_or pn511 p 0 < 2
bit_511 p l = let h : get_or pn511 p 0 ≤ 1 = leb-true (get_or pn511 p 0) 1 (long_at is_bit 511 p bits_test_511 l) in
    omega arith

-- ---- the short one

table_length_63 : length (table_bits 515 63) ≡ 63
table_length_63 = refl

pub length_63 : length pn63 ≡ 63
length_63 = ap length (sym table_63) ∙ table_length_63

table_front_63 : take 6 (table_bits 515 63) ≡ 1 ∷ 1 ∷ 1 ∷ 0 ∷ 0 ∷ 1 ∷ []
table_front_63 = refl

pub front_63 : take 6 pn63 ≡ 1 ∷ 1 ∷ 1 ∷ 0 ∷ 0 ∷ 1 ∷ []
front_63 = ap (take 6) (sym table_63) ∙ table_front_63

abbrev keeps_63 : List ℕ → ℕ → Bool
keeps_63 s n = get_or s (n + 6) 0 == (get_or s (n + 1) 0 + get_or s n 0) % 2

rule_test_63 : holds_below (keeps_63 (table_bits 515 63)) 57 ≡ true
rule_test_63 = refl

pub rule_63 : (n : ℕ) → n < 57 → get_or pn63 (n + 6) 0 ≡ (get_or pn63 (n + 1) 0 + get_or pn63 n 0) % 2
rule_63 n l = eqb-true _ _ (short_at keeps_63 57 n rule_test_63 l)
