-- A capture whose samples lie near a stream's symbols, and what is answered and written of it.
use Rattle.std.proofs.Common.{◌≡◌, ◌≢◌, ℕ, ℤ, zero, suc, pos, ◌+◌, ◌*◌, ◌<◌, ◌≤◌, List, [], ◌++◌, length, take, drop}
use Rattle.std.proofs.Common.{get_or, refl, sym, ap, ◌∙◌, arith}
use Rattle.std.proofs.Math.Seq.{take-add}
use Rattle.std.proofs.lemmas.List.{drop-drop, get_or-map, length-map, map-append, take_all}
use Rattle.dtx_acquire.specs.Sent.{AreNear}
use Rattle.dtx_coder.proofs.CountsLemmas.{length-a53}
use Rattle.dtx_coder.specs.Stream.{a53, a53_symbols, symbols_of}
use Rattle.dtx_engine.specs.Made.{only}
use Rattle.dtx_engine.specs.Recipe.{meaning_of_file}
use Rattle.dtx_files.specs.Symbols.{segment_bytes}
use Rattle.dtx_forms.specs.Shapes.{single_bytes}
use Rattle.dtx_meaning.specs.Meaning.{Meaning}
use Rattle.dtx_meaning.specs.declared.status.Outcome.{Outcome}
use Rattle.dtx_meaning.specs.declared.status.Status.TheVariants.{Done}
use Rattle.dtx_repeated_feed.specs.DoneWith.{IsDoneWith}
use Rattle.dtx_symbol_laws.specs.RestoredFile.{restored_with}
use Rattle.dtx_jobs.proofs.StreamBackLemmas.{length-symbol_bytes, stream_read_back}
use Rattle.dtx_recipes.specs.Restoring.{Restoring, restoring_by}
use Rattle.dtx_recipes.specs.SymbolFile.{segment_at, segments_from, symbol_of_byte, symbols, whole_segments}
use Rattle.dtx_recipes.specs.SymbolFile.{symbol_bytes}
use Rattle.dtx_file_laws.specs.Damaged.{IsNoisy}
use Rattle.dtx_file_laws.proofs.Whole.{as_many, count_segments}

-- ---- the symbols of a stream's file

symbols_from : (file : List ℕ) (first n : ℕ)
    → symbols_of (segments_from file first n) ≡ symbols (take (832 * n) (drop (832 * first) file))
symbols_from file first zero = refl
symbols_from file first (suc n) =
    let rest = drop (832 * first) file in
    let next : 832 * (first + 1) ≡ 832 * first + 832 = omega arith in
    let more : 832 * suc n ≡ 832 + 832 * n = omega arith in
    ap (λ xs. segment_at file first ++ xs)
    (rw (symbols_from file (first + 1) n, next, ← drop-drop 832 (832 * first) file))
    ∙ sym (map-append symbol_of_byte (take 832 rest) (take (832 * n) (drop 832 rest)))
    ∙ ap symbols (sym (take-add 832 (832 * n) rest)) ∙ ap (λ m. symbols (take m rest)) (sym more)

symbols_back : (packets : List (List ℕ)) → a53_symbols packets ≡ symbols (symbol_bytes packets)
unfolding a53_symbols
symbols_back packets =
    let file : List ℕ = symbol_bytes packets in
    let n : ℕ = 832 * whole_segments file in
    ap symbols_of (sym (stream_read_back packets)) ∙ symbols_from file 0 (whole_segments file)
    ∙ ap symbols (take_all n file (omega (arith, count_segments packets file refl, length-symbol_bytes packets)))

-- ---- a capture

symbol_at : (file : List ℕ) (i : ℕ) → i < length file
    → get_or (symbols file) i (pos 0) ≡ symbol_of_byte (get_or file i 0)
symbol_at file i l = get_or-map symbol_of_byte file i 0 (pos 0) l

pub are_near : (scale : ℕ) (packets : List (List ℕ)) (file : List ℕ) → IsNoisy scale (symbol_bytes packets) file
    → AreNear scale (a53_symbols packets) (symbols file)
are_near scale packets file noisy = grind (arith, length-map, symbols_back, symbol_at)

pub few_symbols : (packets : List (List ℕ)) (file : List ℕ) → length packets ≤ 624000000
    → length file ≡ length (symbol_bytes packets) → length file ≤ 520832000000
few_symbols packets file few long = omega (arith, as_many packets file long, length-a53 packets, few)

-- ---- what is answered and written

pub stream_bytes : (packets : List (List ℕ)) → segment_bytes (a53 packets) ≡ symbol_bytes packets
unfolding a53_symbols
stream_bytes packets = refl

pub restored_as : (restoring : Restoring) (names packets : List (List ℕ)) (file : List ℕ) (all : List (List ℤ))
    (outcome : Outcome) → outcome.status ≡ Done → 4 ≤ length packets → all ≡ a53 packets
    → (all ≢ [] → meaning_of_file single_bytes (restoring_by restoring) names file ≡ restored_with names outcome all)
    → IsDoneWith names (only (symbol_bytes packets)) (meaning_of_file single_bytes (restoring_by restoring) names file)
restored_as restoring names packets file all outcome done some is means =
    let found : all ≢ [] = λ none.
    let nothing : length (a53 packets) ≡ 0 = ap length (sym is ∙ none) in
    omega (arith, nothing, length-a53 packets, some) in
    record {
      done = ap (λ (m : Meaning). m.outcome.status) (means found) ∙ done;
      outputs = grind (arith, stream_bytes);
    }
