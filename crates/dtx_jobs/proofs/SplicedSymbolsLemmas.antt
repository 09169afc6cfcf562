-- What `receive` writes of the first bytes of a symbol file, and of two files one behind the other.
use Rattle.std.proofs.Common.{◌≡◌, ℕ, ◌+◌, ◌*◌, ◌%◌, ◌<◌, ◌≤◌, All, List, ◌++◌, length, take, drop, sym, ap, ◌∙◌, subst}
use Rattle.std.proofs.Common.{append_assoc, arith}
use Rattle.std.specs.Prelude.{ℤ}
use Rattle.std.specs.List.{flat_map}
use Rattle.std.proofs.lemmas.Bool.{cond-false}
use Rattle.std.proofs.lemmas.Grind.{flat_map-append}
use Rattle.std.proofs.lemmas.List.{length-append, length-take-le, take-append-drop}
use Rattle.dtx_receiver.specs.Intervals.{AreRuns}
use Rattle.dtx_receiver.specs.Packets.{received}
use Rattle.dtx_receiver.proofs.SplicingLemmas.{more_received, spliced_received}
use Rattle.dtx_recipes.specs.Receive.{IsWritten, received_bytes}
use Rattle.dtx_jobs.proofs.ReceivedLemmas.{all_received}
use Rattle.dtx_recipes.specs.SymbolFile.{file_segments, whole_segments}
use Rattle.dtx_jobs.proofs.SymbolFileLemmas.{length-segments_of, file_segments-whole}
use Rattle.dtx_recipes.proofs.SymbolFileLemmas.{file_segments-append}

-- of a symbol file all packets are written
all_written : (file : List ℕ) → whole_segments file ≤ 626000000 → IsWritten file (received_bytes file)
all_written file few verb input output held apart is = simp (cond-false, is, all_received)

bytes-append : (a b : List (List ℕ)) → flat_map (λ (p : List ℕ). p) (a ++ b)
    ≡ flat_map (λ (p : List ℕ). p) a ++ flat_map (λ (p : List ℕ). p) b
bytes-append a b = flat_map-append (λ (p : List ℕ). p) a b

-- the segments of a file's first bytes are the file's first segments
pub segments_cut : (file : List ℕ) (n : ℕ)
    → (rest : List (List ℤ)) × (file_segments file ≡ file_segments (take n file) ++ rest)
segments_cut file n =
    let front : List ℕ = take n file in
    let m : ℕ = 832 * whole_segments front in
    let long : length (take m front) ≡ m = length-take-le m front (omega arith) in
    let rest : List ℕ = drop m front ++ drop n file in
    let parts : take m front ++ rest ≡ file =
    cc (append_assoc (take m front) (drop m front) (drop n file), take-append-drop m front, take-append-drop n file)
    in (
      file_segments rest,
      cc (parts, file_segments-append (take m front) rest (omega (arith, long)), file_segments-whole front),
    )

pub cut_bytes : (file : List ℕ) (n : ℕ) → (rest : List ℕ) × (received_bytes file ≡ received_bytes (take n file) ++ rest)
cut_bytes file n =
    let more = segments_cut file n in
    let brought = more_received (file_segments (take n file)) more.0 in (
      flat_map (λ (p : List ℕ). p) brought.0,
      cc (more.1, brought.1, bytes-append (received (file_segments (take n file))) brought.0),
    )

fewer : (file : List ℕ) (n : ℕ) → whole_segments file ≤ 626000000 → whole_segments (take n file) ≤ 626000000
fewer file n few = omega (arith, sym (length-append (take n file) (drop n file)) ∙ ap length (take-append-drop n file))

pub cut_written : (file : List ℕ) (n : ℕ) → whole_segments file ≤ 626000000
    → (first rest : List ℕ) × IsWritten file (first ++ rest) × IsWritten (take n file) first
cut_written file n few =
    let cut = cut_bytes file n in (
      received_bytes (take n file),
      cut.0,
      subst (IsWritten file) cut.1 (all_written file few),
      all_written (take n file) (fewer file n few),
    )

pub spliced_bytes : (a b : List ℕ) (places : List (ℕ × ℕ)) → length a % 832 ≡ 0 → AreRuns (file_segments a) 0 places
    → All (λ p. p.0 + p.1 < whole_segments a) places → received_bytes (a ++ b) ≡ received_bytes a ++ received_bytes b
spliced_bytes a b places whole are ended =
    grind (arith, file_segments-append, spliced_received, length-segments_of, bytes-append)

pub spliced_written : (a b : List ℕ) (places : List (ℕ × ℕ)) → whole_segments (a ++ b) ≤ 626000000
    → length a % 832 ≡ 0 → AreRuns (file_segments a) 0 places → All (λ p. p.0 + p.1 < whole_segments a) places
    → (x y : List ℕ) × IsWritten a x × IsWritten b y × IsWritten (a ++ b) (x ++ y)
spliced_written a b places few whole are ended = (
  received_bytes a,
  received_bytes b,
  all_written a (omega (arith, few, length-append a b)),
  all_written b (omega (arith, few, length-append a b)),
  subst (IsWritten (a ++ b)) (spliced_bytes a b places whole are ended) (all_written (a ++ b) few),
)
