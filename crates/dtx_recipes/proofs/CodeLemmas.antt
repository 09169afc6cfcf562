-- Laws of the symbols of a stream: those of its first packets are a prefix of those of all.
use Rattle.std.proofs.Common.{◌≡◌, ℕ, ℤ, ◌-◌, ◌*◌, ◌/◌, ◌%◌, ◌≤◌, List, [], ◌++◌, length, map, refl, sym, ap, ◌∙◌}
use Rattle.std.proofs.Common.{arith}
use Rattle.std.specs.List.{range_with_len, flat_map}
use Rattle.std.proofs.lemmas.Grind.{flat_map-append}
use Rattle.std.proofs.lemmas.List.{map-append, length-append, take-append-le}
use Rattle.dtx_coder.proofs.NextLemmas.{a53_nothing}
use Rattle.dtx_coder.proofs.StreamLemmas.{a53_from, a53_whole}
use Rattle.dtx_coder.specs.Stream.{a53, group_segments, symbols_of, a53_symbols}
use Rattle.dtx_engine.specs.Made.{only, AreFrontsOf}
use Rattle.dtx_files.specs.Symbols.{byte_of_symbol}
use Rattle.dtx_packets.proofs.PacketLemmas.{packets_of-append}
use Rattle.dtx_packets.specs.Packets.{packets_of}
use Rattle.dtx_recipes.specs.Code.{coding}
use Rattle.dtx_recipes.specs.SymbolFile.{symbol_bytes}

-- no packets have no symbols
symbols_none : symbol_bytes [] ≡ []
unfolding a53_symbols
symbols_none = ap (λ ss. map byte_of_symbol (symbols_of ss)) a53_nothing

a53_more : (ps qs : List (List ℕ)) → (rest : List (List ℤ)) × (a53 (ps ++ qs) ≡ a53 ps ++ rest)
a53_more ps qs =
    let u : ℕ = length ps / 4 in
    let rest : List (List ℤ) = flat_map (group_segments (ps ++ qs)) (range_with_len u (length (ps ++ qs) / 4 - u)) in
    let within : 4 * u ≤ length ps = omega arith in (
      rest,
      a53_from (ps ++ qs) u (omega (arith, length-append ps qs))
          ∙ ap (λ z. a53 z ++ rest) (take-append-le (4 * u) ps qs within) ∙ ap (λ z. z ++ rest) (sym (a53_whole ps)),
    )

-- the symbols of `ps` are a prefix of those of `ps ++ qs`
symbols_more : (ps qs : List (List ℕ)) → (rest : List ℕ) × (symbol_bytes (ps ++ qs) ≡ symbol_bytes ps ++ rest)
unfolding a53_symbols
symbols_more ps qs =
    let more = a53_more ps qs in (
      map byte_of_symbol (symbols_of more.0),
      ap (λ ss. map byte_of_symbol (symbols_of ss)) more.1 ∙ ap (map byte_of_symbol) (grind (arith, flat_map-append))
          ∙ map-append byte_of_symbol (symbols_of (a53 ps)) (symbols_of more.0),
    )

-- ---- what is made

pub codes_none : coding.made [] ≡ only []
codes_none = ap only symbols_none

pub codes_more : (a b : List ℕ) → length a % 188 ≡ 0 → AreFrontsOf (coding.made a) (coding.made (a ++ b))
codes_more a b whole =
    let more = symbols_more (packets_of a) (packets_of b) in
    ((more.0, sym (ap symbol_bytes (packets_of-append a b whole) ∙ more.1)), ([], refl))
