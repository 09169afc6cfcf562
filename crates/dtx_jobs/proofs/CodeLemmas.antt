-- Lemmas of the symbols of a stream: those of its whole groups.
use Rattle.std.proofs.Common.{◌≡◌, ℕ, ◌+◌, ◌-◌, ◌%◌, ◌≤◌, List, ◌++◌, length, map, take, refl, ap, ap₂, ◌∙◌, arith}
use Rattle.std.proofs.Math.Seq.{take-add}
use Rattle.std.proofs.lemmas.List.{take_at, drop_at, take_all, take-take, length-append, length-take-le}
use Rattle.dtx_coder.proofs.StreamLemmas.{a53_whole}
use Rattle.dtx_coder.specs.Stream.{a53, symbols_of, a53_symbols}
use Rattle.dtx_files.specs.Symbols.{byte_of_symbol}
use Rattle.dtx_recipes.specs.SymbolFile.{symbol_bytes, in_groups}

-- packets behind the last whole group bring no symbols
same_symbols : (ps qs : List (List ℕ)) → a53 ps ≡ a53 qs → symbol_bytes ps ≡ symbol_bytes qs
unfolding a53_symbols
same_symbols ps qs e = ap (λ ss. map byte_of_symbol (symbols_of ss)) e

pub symbols_whole : (ps : List (List ℕ)) → symbol_bytes ps ≡ symbol_bytes (take (in_groups ps) ps)
symbols_whole ps = same_symbols ps (take (in_groups ps) ps) (a53_whole ps)

-- the packets of whole groups are all in groups
pub all_in_groups : (ps : List (List ℕ)) → length ps % 4 ≡ 0 → take (in_groups ps) ps ≡ ps
all_in_groups ps whole = take_all (in_groups ps) ps (omega (arith, whole))

-- those in groups where the first n of some packets stand behind whole groups
pub groups_behind : (ps more : List (List ℕ)) (n : ℕ) → length ps % 4 ≡ 0 → n ≤ length more
    → take (in_groups (ps ++ take n more)) (ps ++ take n more) ≡ ps ++ take (n - n % 4) more
groups_behind ps more n whole within =
    let qs = take n more in
    let m : ℕ = n - n % 4 in
    let all : in_groups (ps ++ qs) ≡ length ps + m = grind (arith, length-append, length-take-le) in
    ap (λ k. take k (ps ++ qs)) all ∙ take-add (length ps) m (ps ++ qs) ∙ ap₂ ◌++◌ (take_at ps qs (length ps) refl)
    (ap (take m) (drop_at ps qs (length ps) refl) ∙ take-take m n more (omega arith))
