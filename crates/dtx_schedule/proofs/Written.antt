-- What one step brings, written to the files of its transmitter.
use Rattle.std.proofs.Common.{◌≡◌, ℕ, List, [], ◌∷◌, ◌++◌, refl, sym, ap, ◌∙◌, arith}
use Rattle.std.specs.Prelude.{Option, Some, Result, Ok, Err, slice_get}
use Rattle.dtx_meaning.specs.Meaning.{IsFrontOf, with_outputs}
use Rattle.dtx_net.specs.Steps.{Step}
use Rattle.dtx_outside.specs.Shelf.{Files}
use Rattle.dtx_outside.specs.declared.shelf.WriteNo.{WriteNo}
use Rattle.dtx_plan.specs.Sound.{AreTransmitters}
use Rattle.dtx_plan.specs.declared.transmitter.Transmitter.{Transmitter}
use Rattle.dtx_schedule.specs.Playout.{Brings, HasPair, IsPairOf, with_pair, AreNames}
use Rattle.dtx_schedule.specs.PlayedSoFar.{IsUnderWay, IsWrittenOf}
use Rattle.dtx_schedule.specs.TransmitterFiles.{files_of, log_file, played, played_outputs, symbol_file}
use Rattle.dtx_schedule.specs.declared.pair.FileNames.{FileNames}
use Rattle.dtx_schedule.proofs.Elsewhere.{log_elsewhere, symbols_elsewhere}
use Rattle.dtx_schedule.proofs.FilesLemmas.{AreApart, apart_of, at_places, contents_same, files_with, has_pair, put}
use Rattle.dtx_schedule.proofs.FilesLemmas.{set_pair, with_outputs-told}
use Rattle.dtx_schedule.proofs.Fronts.{front_added, front_behind, front_of_same, front_same}

pub are_apart : (ts : List Transmitter) (names : List FileNames) → AreTransmitters ts → AreNames ts names → AreApart ts
are_apart ts names are named = apart_of ts are named.small

written : (ts : List Transmitter) (steps : List Step) (step : Step) (t : Transmitter) (symbols line : List ℕ)
    → slice_get ts step.who ≡ Some t → Brings ts steps step symbols line → files_of (put (played steps) step.who (
      symbol_file t step.who steps ++ symbols,
      log_file t step.who steps ++ line,
    )) ts ≡ played_outputs ts (steps ++ step ∷ [])
written ts steps step t symbols line at_t brings =
    let more : List Step = steps ++ step ∷ [] in
    let pair : List ℕ × List ℕ = (symbol_file t step.who steps ++ symbols, log_file t step.who steps ++ line) in
    contents_same ts (put (played steps) step.who pair) (played more)
    (at_places (λ who u p. p ≡ played more who u) ts (played steps) step.who t pair at_t
    (ap (λ z. (z, log_file t step.who steps ++ line)) (sym (brings.sent t at_t))
    ∙ ap (λ z. (symbol_file t step.who more, z)) (sym (brings.logged t at_t))) (λ other u at_u n.
    ap (λ z. (z, log_file u other steps)) (sym (symbols_elsewhere u other steps step (λ same. n (sym same))))
    ∙ ap (λ z. (symbol_file u other more, z)) (sym (log_elsewhere u other steps step (λ same. n (sym same))))))

broken : (ts : List Transmitter) (steps : List Step) (step : Step) (t : Transmitter) (symbols line part text : List ℕ)
    (held : Files) (now : Option Files)
    → slice_get ts step.who ≡ Some t → Brings ts steps step symbols line → IsFrontOf part symbols → IsFrontOf text line
    → now ≡ with_outputs (files_of (put (played steps) step.who (
      symbol_file t step.who steps ++ part,
      log_file t step.who steps ++ text,
    )) ts) (Some held) → IsUnderWay ts (steps ++ step ∷ []) held now
broken ts steps step t symbols line part text held now at_t brings front front_too is = record {
  done = steps;
  next = step ∷ [];
  rest = [];
  whole = refl;
  one = omega arith;
  contents = put (played steps) step.who pair;
  least = at_places (λ who u p. IsFrontOf (symbol_file u who steps) p.0
      × IsFrontOf (log_file u who steps) p.1) ts (played steps) step.who t pair at_t
      (front_added (symbol_file t step.who steps) part, front_added (log_file t step.who steps) text)
      (λ other u at_u n. (front_same (symbol_file u other steps), front_same (log_file u other steps)));
  most = at_places (λ who u p. IsFrontOf p.0 (symbol_file u who more)
      × IsFrontOf p.1 (log_file u who more)) ts (played steps) step.who t pair at_t (
        front_behind (symbol_file t step.who steps) part symbols (symbol_file t step.who more)
            (brings.sent t at_t) front,
        front_behind (log_file t step.who steps) text line (log_file t step.who more) (brings.logged t at_t) front_too,
      ) (λ other u at_u n. (
        front_of_same (symbol_file u other steps) (symbol_file u other more)
            (sym (symbols_elsewhere u other steps step (λ same. n (sym same)))),
        front_of_same (log_file u other steps) (log_file u other more)
            (sym (log_elsewhere u other steps step (λ same. n (sym same)))),
      ));
  files = is;
}
  where
    more : List Step
    more = steps ++ step ∷ []

    pair : List ℕ × List ℕ
    pair = (symbol_file t step.who steps ++ part, log_file t step.who steps ++ text)

-- what `append_both` says of both
abbrev pub AddsTo : ℕ → List ℕ → List ℕ → Option Files → Result (Unit {0}) WriteNo → Option Files → Type 0
AddsTo address symbols line told result now =
    (sent logged : List ℕ) (held : Files) → told ≡ Some held → HasPair address sent logged held
    → IsPairOf address sent logged symbols line held result now

pub step_written : (ts : List Transmitter) (steps : List Step) (step : Step) (t : Transmitter) (symbols line : List ℕ)
    (held : Files)
    (told now : Option Files) (result : Result (Unit {0}) WriteNo) → AreApart ts → slice_get ts step.who ≡ Some t
    → Brings ts steps step symbols line
    → told ≡ with_outputs (played_outputs ts steps) (Some held) → AddsTo t.address symbols line told result now
    → IsWrittenOf ts (steps ++ step ∷ []) held result now
step_written ts steps step t symbols line held told now result apart at_t brings is adds =
    by_result result (adds (symbol_file t step.who steps) (log_file t step.who steps) before (is
    ∙ with_outputs-told (played_outputs ts steps) held) (has_pair ts step.who t (played steps) held apart at_t))
  where
    before : Files
    before = files_with (played_outputs ts steps) held

    put_outputs : (a b : List ℕ)
        → Some (with_pair t.address a b before) ≡ with_outputs (files_of (put (played steps) step.who (a, b)) ts)
        (Some held)
    put_outputs a b = ap Some (set_pair ts step.who t (played steps) a b held apart at_t)
        ∙ sym (with_outputs-told (files_of (put (played steps) step.who (a, b)) ts) held)

    by_result : (result : Result (Unit {0}) WriteNo)
        → IsPairOf t.address (symbol_file t step.who steps) (log_file t step.who steps) symbols line before result now
        → IsWrittenOf ts (steps ++ step ∷ []) held result now
    by_result (Ok _) left =
        left ∙ put_outputs (symbol_file t step.who steps ++ symbols) (log_file t step.who steps ++ line)
        ∙ ap (λ outputs. with_outputs outputs (Some held)) (written ts steps step t symbols line at_t brings)
    by_result (Err cause) (part, text, front, front_too, left) =
        broken ts steps step t symbols line part text held now at_t brings front front_too
        (left ∙ put_outputs (symbol_file t step.who steps ++ part) (log_file t step.who steps ++ text))
