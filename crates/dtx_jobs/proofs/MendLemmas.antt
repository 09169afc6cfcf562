-- Lemmas of what `mend` makes of symbols: where none is missing the same as where each word is corrected.
use Rattle.std.proofs.Common.{◌≡◌, ◌≢◌, ℕ, ℤ, zero, suc, ◌+◌, ◌*◌, false, List, [], ◌∷◌, ◌++◌, take, drop, refl}
use Rattle.std.proofs.Common.{subst, arith}
use Rattle.std.specs.Prelude.{Option, Some, None}
use Rattle.std.specs.FinMap.{get}
use Rattle.std.specs.List.{All}
use Rattle.std.proofs.lemmas.Bool.{ne_eqb}
use Rattle.std.proofs.lemmas.List.Elements.{All-drop, All-head, All-tail, All-take}
use Rattle.dtx_erase.specs.Marks.{AllThere, AreThere, is_missing}
use Rattle.dtx_erase.proofs.UnmarkedLemmas.{all_same, bytes_same, so_far_same}
use Rattle.dtx_outside.specs.Shelf.{Files}
use Rattle.dtx_engine.specs.Recipe.{Course, course_from, meaning, meaning_at, meaning_of_file}
use Rattle.dtx_engine.specs.declared.piece.Ending.{Ending}
use Rattle.dtx_engine.specs.declared.piece.Ending.TheVariants.{Whole, Refused}
use Rattle.dtx_forms.specs.Shapes.{segments}
use Rattle.dtx_jobs.proofs.GivenLemmas.{all_allowed}
use Rattle.dtx_recipes.specs.Mend.{mend_job, mending_symbols, with_mendings}
use Rattle.dtx_recipes.specs.MendedBack.{NoneMissing}
use Rattle.dtx_recipes.specs.Receive.{receive_job, receiving, with_corrections}
use Rattle.dtx_jobs.proofs.SplicedSymbolsLemmas.{segments_cut}
use Rattle.dtx_recipes.specs.SymbolFile.{file_segments, segments_from, symbol_of_byte, symbols, whole_segments}
use Rattle.dtx_jobs.proofs.SymbolFileLemmas.{file_segments-whole}

-- ---- where no symbol is missing

-- a byte other than 0x80 is a symbol that is there
byte_there : (byte : ℕ) → byte ≢ 128 → is_missing (symbol_of_byte byte) ≡ false
byte_there byte other = grind (arith, ne_eqb)

symbols_there : (bytes : List ℕ) → All (λ byte. byte ≢ 128) bytes → AreThere (symbols bytes)
symbols_there [] h = tt
symbols_there (x ∷ bytes) h =
    let rest = All-tail (λ byte. byte ≢ 128) x bytes h in
    (byte_there x (All-head (λ byte. byte ≢ 128) x bytes h), symbols_there bytes rest)

-- the segments from one on, where no byte of the file is 0x80
each_there : (file : List ℕ) (first count : ℕ) → All (λ byte. byte ≢ 128) file
    → AllThere (segments_from file first count)
each_there file first zero h = tt
each_there file first (suc count) h = (
  symbols_there (take 832 (drop (832 * first) file)) (All-take (λ byte. byte ≢ 128) 832 (drop (832 * first) file)
      (All-drop (λ byte. byte ≢ 128) (832 * first) file h)),
  each_there file (first + 1) count h,
)

pub file_there : (file : List ℕ) → NoneMissing file → AllThere (file_segments file)
file_there file h = subst (λ (list : List (List ℤ)). AllThere list) (file_segments-whole file)
    (each_there (take (832 * whole_segments file) file) 0 (whole_segments (take (832 * whole_segments file) file)) h)

front_there : (front rest : List (List ℤ)) → AllThere (front ++ rest) → AllThere front
front_there [] rest h = tt
front_there (x ∷ front) rest h = (h.0, front_there front rest h.1)

-- the same is made of bytes, and answered
same_ending : (names : List (List ℕ)) (given : List ℕ) (ending : Ending) → AllThere (file_segments given)
    → meaning_at mending_symbols names given ending ≡ meaning_at receiving names given ending
same_ending names given (Whole loose) h = grind (arith, so_far_same, all_same, bytes_same)
same_ending names given (Refused status) h = rw (so_far_same (file_segments given) h) refl

pub same_file : (names : List (List ℕ)) (file : List ℕ) → NoneMissing file
    → meaning_of_file segments mending_symbols names file ≡ meaning_of_file segments receiving names file
same_file names file h =
    let c : Course = course_from segments file None in
    let n : ℕ = 832 * c.taken in
    let cut = segments_cut file n in
    cc (
      all_allowed with_mendings file,
      same_ending names (take n file) c.ending (grind (arith, front_there, file_there)),
      all_allowed with_corrections file,
    )

-- what the words mean, where the input is such a file
same_found : (input output : List ℕ) (held : Files) (found : Option (List ℕ))
    → ((file : List ℕ) → found ≡ Some file → NoneMissing file)
    → meaning segments mending_symbols 0 (output ∷ []) found ≡ meaning segments receiving 0 (output ∷ []) found
same_found input output held None h = refl
same_found input output held (Some file) h = same_file (output ∷ []) file (h file refl)

pub same_words : (verb input output : List ℕ) (held : Files)
    → ((file : List ℕ) → get held input ≡ Some file → NoneMissing file)
    → mend_job.means (verb ∷ input ∷ output ∷ []) held ≡ receive_job.means (verb ∷ input ∷ output ∷ []) held
same_words verb input output held h = grind (arith, same_found)
