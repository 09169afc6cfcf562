-- What appending leaves of the two files of a transmitter.
use Rattle.std.proofs.Common.{◌≡◌, ◌==◌, true, length, ℕ, List, [], ◌∷◌, ◌++◌, take, drop, refl, ap, ◌∙◌, arith}
use Rattle.std.specs.Prelude.{Option, Some, Result, Ok, Err, unwrap_or}
use Rattle.std.specs.FinMap.{get}
use Rattle.std.proofs.lemmas.Bool.{eqb-true}
use Rattle.std.proofs.lemmas.List.{append-nil, take-append-drop}
use Rattle.dtx_outside.proofs.FilesLemmas.{get-insert_other, insert_same}
use Rattle.dtx_outside.specs.Shelf.{Files, with_file, IsAppended}
use Rattle.dtx_outside.specs.declared.shelf.WriteNo.{WriteNo}
use Rattle.dtx_outside.specs.declared.shelf.WriteNo.TheVariants.{Failed, Memory}
use Rattle.dtx_words.specs.Names.{symbol_name, log_name}
use Rattle.dtx_words.proofs.NetworkNamesLemmas.{symbols_no_logs}
use Rattle.dtx_schedule.specs.Playout.{HasPair, IsAddedTo, IsPairOf}
use Rattle.dtx_schedule.proofs.Fronts.{front_same}

-- ---- one file

-- nothing added to a file
nothing_more : (held : Files) (name file : List ℕ) → get held name ≡ Some file → held ≡ with_file name (file ++ []) held
nothing_more held name file is = grind (arith, append-nil, insert_same)

pub file_appended : (told now : Option Files) (held : Files) (name file bytes : List ℕ)
    (result : Result (Unit {0}) WriteNo) → told ≡ Some held
    → get held name ≡ Some file → IsAppended name bytes told result now → IsAddedTo name file bytes held result now
file_appended told now held name file bytes result there is appended = by_result result (grind arith)
  where
    added : (more : List ℕ) → with_file name (unwrap_or (get held name) [] ++ more) held
        ≡ with_file name (file ++ more) held
    added more = ap (λ found. with_file name (unwrap_or found [] ++ more) held) is

    by_result : (result : Result (Unit {0}) WriteNo) → IsAppended name bytes (Some held) result now
        → IsAddedTo name file bytes held result now
    by_result (Ok _) left = left ∙ ap Some (added bytes)
    by_result (Err Failed) left = (
      take left.0 bytes,
      (drop left.0 bytes, take-append-drop left.0 bytes),
      left.2 ∙ ap Some (added (take left.0 bytes)),
    )
    by_result (Err Memory) left = ([], (bytes, refl), left ∙ ap Some (nothing_more held name file is))

is_nothing : (xs : List ℕ) → (length xs == 0) ≡ true → xs ≡ []
is_nothing [] e = refl
is_nothing (x ∷ xs) e = absurd (omega (arith, eqb-true (length (x ∷ xs)) 0 e))

pub nothing_appended : (told : Option Files) (held : Files) (name file bytes : List ℕ) → (length bytes == 0) ≡ true
    → told ≡ Some held → get held name ≡ Some file → told ≡ Some (with_file name (file ++ bytes) held)
nothing_appended told held name file bytes none there is = grind (arith, nothing_more, is_nothing)

-- ---- both files

-- what `append_some` says of a file
abbrev pub AppendsTo : List ℕ → List ℕ → Option Files → Result (Unit {0}) WriteNo → Option Files → Type 0
AppendsTo name bytes told result now = (held : Files) (file : List ℕ) → told ≡ Some held → get held name ≡ Some file
    → IsAddedTo name file bytes held result now

-- the log stands while the symbols are added
log_stands : (address : ℕ) (sent logged symbols : List ℕ) (held : Files) → HasPair address sent logged held
    → get (with_file (symbol_name address) symbols held) (log_name address) ≡ Some logged
log_stands address sent logged symbols held has = grind (arith, get-insert_other, symbols_no_logs)

pub symbols_not_appended : (address : ℕ) (sent logged symbols line : List ℕ) (held : Files) (now : Option Files)
    (why cause : WriteNo)
    → HasPair address sent logged held → IsAddedTo (symbol_name address) sent symbols held (Err why) now
    → IsPairOf address sent logged symbols line held (Err cause) now
symbols_not_appended address sent logged symbols line held now why cause has (part, front, is) = (
  part,
  [],
  front,
  (line, refl),
  is ∙ ap Some (nothing_more (with_file (symbol_name address) (sent ++ part) held) (log_name address) logged
      (log_stands address sent logged (sent ++ part) held has)),
)

pub both_appended : (address : ℕ) (sent logged symbols line : List ℕ) (held : Files) (mid now : Option Files)
    (result : Result (Unit {0}) WriteNo)
    → HasPair address sent logged held → mid ≡ Some (with_file (symbol_name address) (sent ++ symbols) held)
    → AppendsTo (log_name address) line mid result now → IsPairOf address sent logged symbols line held result now
both_appended address sent logged symbols line held mid now result has first second =
    by_result result (second (with_file (symbol_name address) (sent ++ symbols) held) logged first
    (log_stands address sent logged (sent ++ symbols) held has))
  where
    by_result : (result : Result (Unit {0}) WriteNo)
        → IsAddedTo (log_name address) logged line (with_file (symbol_name address) (sent ++ symbols) held) result now
        → IsPairOf address sent logged symbols line held result now
    by_result (Ok _) left = left
    by_result (Err cause) (text, front, is) = (symbols, text, front_same symbols, front, is)
