-- What `soft` means over whole files.
use Rattle.std.proofs.Common.{◌≡◌, ℕ, ℤ, zero, suc, ◌+◌, ◌*◌, ◌%◌, ◌<◌, ◌≤◌, All, List, [], ◌∷◌, ◌++◌, length, map}
use Rattle.std.proofs.Common.{take, drop, get_or, min, refl, sym, ap, ap₂, ◌∙◌, arith}
use Rattle.std.specs.Prelude.{None}
use Rattle.std.specs.List.{range_with_len}
use Rattle.std.proofs.Math.Seq.{take-add}
use Rattle.std.proofs.lemmas.Bool.{eqb-true}
use Rattle.std.proofs.lemmas.List.{append_assoc, drop-drop, get_or-take, length-take-le, map-append, take-append-drop}
use Rattle.std.proofs.lemmas.List.Elements.{All-get_or}
use Rattle.dtx_lists.proofs.Below.{at_below}
use Rattle.dtx_coder.specs.Stream.{symbols_of}
use Rattle.dtx_receiver.specs.Intervals.{NoneLooks}
use Rattle.dtx_meaning.specs.Meaning.{Meaning}
use Rattle.dtx_meaning.specs.Status.{done, ended}
use Rattle.dtx_meaning.specs.declared.status.Status.TheVariants.{TooLong}
use Rattle.dtx_engine.specs.Made.{only, outputs_of}
use Rattle.dtx_engine.specs.Recipe.{first_refused, meaning_of_file, whole_units}
use Rattle.dtx_files.proofs.AppendedLemmas.{segment_bytes-append}
use Rattle.dtx_files.specs.Symbols.{byte_of_symbol, segment_bytes}
use Rattle.dtx_forms.proofs.AllowedFileLemmas.{all_read, first_read, none_found}
use Rattle.dtx_forms.specs.Shapes.{segments}
use Rattle.dtx_recipes.specs.Soft.{soft_numbers, soft_rest, soft_so_far, soft_symbols, softening}
use Rattle.dtx_jobs.proofs.SoftLemmas.{all_is}
use Rattle.dtx_recipes.proofs.SoftLemmas.{so_far_on}
use Rattle.dtx_recipes.specs.SymbolFile.{file_segments, segment_at, segments_from, symbol_of_byte, symbols}
use Rattle.dtx_recipes.specs.SymbolFile.{whole_segments}
use Rattle.dtx_jobs.proofs.SymbolFileLemmas.{file_segments-whole, first_segments, length-segments_of}
use Rattle.dtx_symbol_laws.specs.SoftFields.{copied_of, softened_of, softened_until}
use Rattle.dtx_symbol_laws.proofs.SoftFields.{none_stay, nothing_counted}

-- ---- the end of the file

all_allowed : (file : List ℕ) → first_refused segments softening file ≡ None
unfolding first_refused
all_allowed file = none_found (range_with_len 0 (min (whole_units segments file) segments.limit))

pub all_softened : (names : List (List ℕ)) (file : List ℕ) → whole_segments file ≤ 626000000
    → meaning_of_file segments softening names file ≡ softened_of names file
all_softened names file few =
    let front : List ℕ = take (832 * whole_segments file) file in
    let means : List (List ℤ) → List ℕ → Meaning = λ list bytes. record {
      outcome = done (soft_numbers list (length file % 832));
      outputs = outputs_of names (only bytes);
    } in
    all_read segments softening names file (all_allowed file) few ∙ ap (means (file_segments front))
    (sym (grind (arith, segment_bytes-append)) ∙ ap segment_bytes (all_is (file_segments front)))
    ∙ ap (λ list. means list (segment_bytes (soft_symbols list))) (file_segments-whole file)

pub too_many_segments : (names : List (List ℕ)) (file : List ℕ) → 626000000 < whole_segments file
    → meaning_of_file segments softening names file ≡ softened_until names file
too_many_segments names file many = first_read segments softening names file (all_allowed file) many
    ∙ ap (λ (list : List (List ℤ)). record {
      outcome = ended TooLong;
      outputs = outputs_of names (only (segment_bytes (soft_so_far list)));
    }) (first_segments file 626000000 (omega (arith, many)))

-- what the first segments give is a front part of what all give
pub first_are_front : (s : List (List ℤ)) (n : ℕ)
    → (rest : List (List ℤ)) × (soft_symbols s ≡ soft_so_far (take n s) ++ rest)
first_are_front s n =
    let on = so_far_on (take n s) (drop n s) in (
      on.0 ++ soft_rest s,
      sym (all_is s)
          ∙ ap (λ list. list ++ soft_rest s) (ap soft_so_far (sym (take-append-drop n s)) ∙ on.1)
          ∙ append_assoc (soft_so_far (take n s)) on.0 (soft_rest s),
    )

-- ---- a file that is copied

symbols_from : (file : List ℕ) (first n : ℕ)
    → symbols_of (segments_from file first n) ≡ symbols (take (832 * n) (drop (832 * first) file))
symbols_from file first zero = refl
symbols_from file first (suc n) =
    let rest = drop (832 * first) file in
    let next : 832 * (first + 1) ≡ 832 * first + 832 = omega arith in
    let more : 832 * suc n ≡ 832 + 832 * n = omega arith in
    ap (λ xs. segment_at file first ++ xs)
    (rw (symbols_from file (first + 1) n, next, ← drop-drop 832 (832 * first) file))
    ∙ sym (map-append symbol_of_byte (take 832 rest) (take (832 * n) (drop 832 rest)))
    ∙ ap symbols (sym (take-add 832 (832 * n) rest)) ∙ ap (λ m. symbols (take m rest)) (sym more)

pub byte_back : (b : ℕ) → b < 256 → byte_of_symbol (symbol_of_byte b) ≡ b
byte_back b l = grind (arith, eqb-true, at_below)

bytes_back : (bytes : List ℕ) → ((k : ℕ) → k < length bytes → get_or bytes k 0 < 256)
    → map byte_of_symbol (symbols bytes) ≡ bytes
bytes_back [] h = refl
bytes_back (b ∷ bytes) h = ap₂ (λ (x : ℕ) (xs : List ℕ). x ∷ xs) (byte_back b (h 0 (omega arith)))
    (bytes_back bytes (λ k l. h (suc k) (omega (arith, l))))

-- of bytes the symbols as bytes are those of all whole segments
segments_back : (file : List ℕ) → All (λ b. b < 256) file
    → segment_bytes (file_segments file) ≡ take (832 * whole_segments file) file
segments_back file h = grind (arith, length-take-le, symbols_from, bytes_back, get_or-take, All-get_or)

pub copied_whole : (names : List (List ℕ)) (file : List ℕ) → All (λ b. b < 256) file
    → whole_segments file ≤ 626000000 → NoneLooks (file_segments file) 0 (whole_segments file)
    → meaning_of_file segments softening names file ≡ copied_of names file
copied_whole names file bytes few none =
    grind (arith, length-segments_of, all_softened, none_stay, segments_back, nothing_counted)
