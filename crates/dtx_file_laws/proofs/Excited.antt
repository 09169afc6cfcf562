-- What `excite` answers and writes of a file whose packets are known.
use Rattle.std.proofs.Common.{◌≡◌, ◌≢◌, ℕ, ℤ, ◌*◌, ◌≤◌, List, [], ◌∷◌, take, sym, ap, ◌∙◌, subst, arith}
use Rattle.std.specs.Prelude.{min, Option, Some, None}
use Rattle.std.specs.List.{range_with_len}
use Rattle.std.proofs.lemmas.List.{append-nil}
use Rattle.dtx_exciter.specs.Emission.{emission}
use Rattle.dtx_exciter.specs.Log.{Line, life_lines}
use Rattle.dtx_engine.specs.Made.{both, joined, only}
use Rattle.dtx_engine.specs.Recipe.{first_refused, meaning_of_file, whole_units}
use Rattle.dtx_files.specs.LogText.{log_text}
use Rattle.dtx_files.specs.Symbols.{segment_bytes}
use Rattle.dtx_forms.proofs.AllowedFileLemmas.{all_read, none_found}
use Rattle.dtx_forms.specs.Shapes.{coded_packets}
use Rattle.dtx_recipes.specs.Excite.{excited, exciting}
use Rattle.dtx_meaning.specs.Meaning.{IsAnswered, Meaning, with_outputs}
use Rattle.dtx_meaning.specs.declared.status.Status.{Status}
use Rattle.dtx_meaning.specs.declared.status.Status.TheVariants.{Done}
use Rattle.dtx_outside.proofs.FilesLemmas.{get-insert_other, get-insert_same}
use Rattle.dtx_outside.specs.Shelf.{Files, with_file}
use Rattle.dtx_packets.proofs.PacketLemmas.{packets_of-piece}
use Rattle.dtx_packets.specs.Packets.{packets_of, whole_packets}
use Rattle.dtx_repeated_feed.specs.DoneWith.{IsDoneWith}
use Rattle.dtx_file_laws.specs.Back.{Holds}
use Rattle.dtx_file_laws.proofs.Answered.{read_whole}

all_allowed : (a d : ℕ) (file : List ℕ) → first_refused coded_packets (exciting a d) file ≡ None
unfolding first_refused
all_allowed a d file = none_found (range_with_len 0 (min (whole_units coded_packets file) coded_packets.limit))

-- bytes behind the whole packets are in none
pub whole_read : (file : List ℕ) → packets_of (take (188 * whole_packets file) file) ≡ packets_of file
whole_read file = packets_of-piece file 0 (whole_packets file) (omega arith)

made_of : (a d : ℕ) (packets : List (List ℕ)) (sent : List (List ℤ)) (lines : List Line)
    → emission a d packets ≡ sent → life_lines a d 0 packets ≡ lines
    → joined (excited a d packets) (only []) ≡ both (segment_bytes sent) (log_text lines)
made_of a d packets sent lines sends logs = grind (arith, append-nil)

pub excited_with : (names : List (List ℕ)) (a d : ℕ) (file : List ℕ) (packets : List (List ℕ))
    → whole_packets file ≤ 624000000 → packets_of file ≡ packets → (sent : List (List ℤ)) (lines : List Line)
    → emission a d packets ≡ sent → life_lines a d 0 packets ≡ lines
    → IsDoneWith names (both (segment_bytes sent) (log_text lines))
    (meaning_of_file coded_packets (exciting a d) names file)
excited_with names a d file packets few holds sent lines sends logs =
    grind (arith, all_read, all_allowed, whole_read, made_of)

-- ---- where the call is done

pub few_read : (a d : ℕ) (names : List (List ℕ)) (file : List ℕ)
    → (meaning_of_file coded_packets (exciting a d) names file).outcome.status ≡ Done → whole_packets file ≤ 624000000
few_read a d names file done = (read_whole coded_packets (exciting a d) names file done).few

pub two_hold : (m : Meaning) (output log first second : List ℕ) (held : Files) (now : Option Files) (status : Status)
    → output ≢ log → m.outputs ≡ (output, first) ∷ (log, second) ∷ [] → IsAnswered m (Some held) status now
    → Holds now output first × Holds now log second
two_hold m output log first second held now status apart is answered =
    let P : Option Files → Type 0 = λ (o : Option Files). Holds o output first × Holds o log second in
    subst P (sym (answered.files ∙ ap (λ outputs. with_outputs outputs (Some held)) is)) (
      get-insert_other (with_file output first held) log second output apart ∙ get-insert_same held output first,
      get-insert_same (with_file output first held) log second,
    )
