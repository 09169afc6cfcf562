-- The files of the transmitters of a network (the profile's own).
use Rattle.std.specs.Prelude.{◌≡◌, ℕ, suc, Some, List, [], ◌∷◌, slice_get}
use Rattle.std.specs.List.{flat_map}
use Rattle.dtx_meaning.specs.Meaning.{Outputs, IsFrontOf}
use Rattle.dtx_plan.specs.declared.transmitter.Transmitter.{Transmitter}
use Rattle.dtx_files.specs.Symbols.{segment_bytes}
use Rattle.dtx_files.specs.LogText.{log_text}
use Rattle.dtx_words.specs.Names.{symbol_name, log_name}
use Rattle.dtx_net.specs.Steps.{Step}
use Rattle.dtx_net.specs.Lives.{sent_segments, lines_of}

-- the symbol file of transmitter t at place `who` of the plan's list: what it sends in these steps, which are those of
-- all transmitters
unfoldable pub symbol_file : Transmitter → ℕ → List Step → List ℕ
symbol_file t who steps = segment_bytes (sent_segments t who steps)

-- the log of that transmitter
unfoldable pub log_file : Transmitter → ℕ → List Step → List ℕ
log_file t who steps = log_text (lines_of t who steps)

-- the names of the two files of each transmitter, in the plan's order
abbrev pub transmitter_names : List Transmitter → List (List ℕ)
transmitter_names ts = flat_map (λ t. symbol_name t.address ∷ log_name t.address ∷ []) ts

-- ---- what the two files of each transmitter hold

-- the symbols and the log of each transmitter, by its place in the plan's list
abbrev pub Contents : Type 0
Contents = ℕ → Transmitter → List ℕ × List ℕ

-- these contents as outputs: the symbol file and then the log of each transmitter, in the plan's order
abbrev pub files_of : Contents → List Transmitter → Outputs
files_of contents [] = []
files_of contents (t ∷ ts) =
    (symbol_name t.address, (contents 0 t).0) ∷ (
      log_name t.address,
      (contents 0 t).1,
    ) ∷ files_of (λ who. contents (suc who)) ts

-- each file in `fewer` is a prefix of the same file in `more`
abbrev pub AreFronts : List Transmitter → Contents → Contents → Type 0
AreFronts ts fewer more =
    (who : ℕ) (t : Transmitter) → slice_get ts who ≡ Some t
    → IsFrontOf (fewer who t).0 (more who t).0 × IsFrontOf (fewer who t).1 (more who t).1

-- all files are empty
abbrev pub nothing : Contents
nothing who t = ([], [])

-- what each transmitter sends and logs in these steps, which are those of all transmitters
abbrev pub played : List Step → Contents
played steps who t = (symbol_file t who steps, log_file t who steps)

-- the outputs of a schedule of these steps
abbrev pub played_outputs : List Transmitter → List Step → Outputs
played_outputs ts steps = files_of (played steps) ts
