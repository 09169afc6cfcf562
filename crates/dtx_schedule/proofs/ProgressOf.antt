-- How far a schedule came that was broken off, and one that was played.
use Rattle.std.proofs.Common.{◌≡◌, ℕ, suc, ◌+◌, ◌*◌, ◌≤◌, List, [], ◌∷◌, ◌++◌, length, take, refl, sym, ap}
use Rattle.std.proofs.Common.{subst, ◌∙◌, inl, inr, arith, append_assoc}
use Rattle.std.specs.Prelude.{Option, Some, Result, Ok, Err}
use Rattle.std.specs.Option.{option_map}
use Rattle.std.proofs.Math.Seq.{take-append-add, take-append_seam}
use Rattle.std.proofs.lemmas.List.{append-nil, length-append, take_all}
use Rattle.dtx_meaning.proofs.MeaningLemmas.{part_of_none}
use Rattle.dtx_meaning.specs.Meaning.{ArePartWritten, IsFrontOf, with_outputs}
use Rattle.dtx_meaning.specs.declared.status.Status.{Status}
use Rattle.dtx_meaning.specs.declared.status.Status.TheVariants.{Memory}
use Rattle.dtx_net.specs.Steps.{Step}
use Rattle.dtx_outside.specs.Shelf.{Files, with_file}
use Rattle.dtx_plan.specs.declared.transmitter.Transmitter.{Transmitter}
use Rattle.dtx_words.specs.Names.{symbol_name, log_name}
use Rattle.dtx_schedule.specs.Played.{IsBrokenOff, IsPlayFault, IsPlayOf}
use Rattle.dtx_schedule.specs.PlayedSoFar.{IsUnderWay, IsProgressOf, IsComplete, Progress, begun_files}
use Rattle.dtx_schedule.proofs.FilesLemmas.{contents_same}
use Rattle.dtx_schedule.proofs.ProgressLemmas.{all_files, all_played, only_begun}
use Rattle.dtx_schedule.specs.TransmitterFiles.{AreFronts, Contents, files_of, nothing, played, played_outputs}
use Rattle.dtx_schedule.specs.declared.playing.PlayedSchedule.{PlayedSchedule}
use Rattle.dtx_schedule.proofs.Fronts.{front_same, fronts_then, steps_grow}

-- ---- while the files were begun

none_before : (a : List ℕ) → IsFrontOf a [] → a ≡ []
none_before [] front = refl
none_before (x ∷ a) (rest, e) = cc

-- so many of the first files were begun
abbrev AreFirstBegun : List Transmitter → Option Files → Option Files → Type 0
AreFirstBegun ts start now = (n : ℕ) × (n ≤ 2 * length ts) × (now ≡ with_outputs (take n (files_of nothing ts)) start)

first_begun : (ts : List Transmitter) (start now : Option Files) → ArePartWritten (files_of nothing ts) start now
    → AreFirstBegun ts start now
first_begun [] start now is = (0, omega arith, is)
first_begun (t ∷ ts) start now (inl same) = (0, omega arith, same)
first_begun (t ∷ ts) start now (inr (front, none, inl same)) = (
  1,
  omega arith,
  same ∙ ap (λ a. option_map (with_file (symbol_name t.address) a) start) (none_before front none),
)
first_begun (t ∷ ts) start now (inr (front, none, inr (text, empty, rest))) =
    let more = first_begun ts _ now rest in (
      suc (suc more.0),
      omega (arith, more.1),
      more.2
          ∙ ap (λ a. with_outputs (take more.0 (files_of nothing ts)) (option_map (with_file (log_name t.address) a)
          (option_map (with_file (symbol_name t.address) front) start))) (none_before text empty)
          ∙ ap (λ a. with_outputs (take more.0 (files_of nothing ts)) (option_map (with_file (log_name t.address) [])
          (option_map (with_file (symbol_name t.address) a) start))) (none_before front none),
    )

-- ---- in the midst of a step

-- what is done, and at most one more, is a front of what is done and the step behind it
next_grows : (ts : List Transmitter) (done next rest : List Step) → length next ≤ 1
    → AreFronts ts (played (done ++ next)) (played (take (length done + 1) (done ++ (next ++ rest))))
next_grows ts done [] rest one = subst (λ steps. AreFronts ts (played (done ++ [])) (played steps))
    (append_assoc done [] (take 1 rest) ∙ sym (take-append-add done rest 1)) (steps_grow ts (done ++ []) (take 1 rest))
next_grows ts done (step ∷ []) rest one = subst (λ steps. AreFronts ts (played (done ++ step ∷ [])) (played steps))
    (sym (take-append-add done (step ∷ rest) 1)) (λ who t at_t. (front_same _, front_same _))
next_grows ts done (step ∷ other ∷ next) rest one = absurd (omega (arith, one))

under_way : (ts : List Transmitter) (steps : List Step) (held : Files) (now : Option Files)
    → IsUnderWay ts steps held now
    → (progress : Progress ts steps) × (now ≡ with_outputs (begun_files ts steps progress) (Some held))
under_way ts steps held now is = (
  record {
    begun = 2 * length ts;
    fits = omega arith;
    done = length is.done;
    within = omega (arith, ap length is.whole, length-append is.done (is.next ++ is.rest));
    contents = is.contents;
    least = grind (arith, take-append_seam);
    most = subst (λ all. AreFronts ts is.contents (played (take (length is.done + 1) all))) is.whole
        (fronts_then ts is.contents (played (is.done ++ is.next)) _ is.most
        (next_grows ts is.done is.next is.rest is.one));
    ready = inl refl;
  },
  is.files ∙ ap (λ outputs. with_outputs outputs (Some held)) (sym (all_files is.contents ts)),
)

-- ---- all steps

same_bytes : (a b : List ℕ) → IsFrontOf a b → IsFrontOf b a → a ≡ b
same_bytes a b ([], first) second = sym (append-nil a) ∙ first
same_bytes a b (x ∷ r, first) (s, second) =
    absurd (omega (arith, ap length first, ap length second, length-append a (x ∷ r), length-append b s))

same_contents : (ts : List Transmitter) (f g : Contents) → AreFronts ts f g → AreFronts ts g f
    → files_of f ts ≡ files_of g ts
same_contents ts f g there back = contents_same ts f g (λ who t at_t.
    ap (λ z. (z, (f who t).1)) (same_bytes (f who t).0 (g who t).0 (there who t at_t).0 (back who t at_t).0)
    ∙ ap (λ z. ((g who t).0, z)) (same_bytes (f who t).1 (g who t).1 (there who t at_t).1 (back who t at_t).1))

pub whole_files : (ts : List Transmitter) (steps : List Step) (progress : Progress ts steps)
    → IsComplete ts steps progress → begun_files ts steps progress ≡ played_outputs ts steps
whole_files ts steps progress is =
    ap (λ n. take n (files_of progress.contents ts)) is.begun ∙ all_files progress.contents ts
    ∙ same_contents ts progress.contents (played steps) (subst (λ all. AreFronts ts progress.contents (played all))
    (take_all (progress.done + 1) steps (omega (arith, is.done))) progress.most) (grind (arith, take_all))

-- ---- wherever it came

pub broken_off : (ts : List Transmitter) (steps : List Step) (held : Files) (now : Option Files)
    → IsBrokenOff ts steps held now
    → (progress : Progress ts steps) × (now ≡ with_outputs (begun_files ts steps progress) (Some held))
broken_off ts steps held now (inl begun) =
    let first = first_begun ts (Some held) now begun in (only_begun ts steps first.0 first.1, first.2)
broken_off ts steps held now (inr is) = under_way ts steps held now is

pub progress_played : (ts : List Transmitter) (steps : List Step) (held : Files) (now : Option Files)
    → now ≡ with_outputs (played_outputs ts steps) (Some held)
    → (progress : Progress ts steps) × IsComplete ts steps progress
    × (now ≡ with_outputs (begun_files ts steps progress) (Some held))
progress_played ts steps held now is = (
  all_played ts steps,
  record { begun = refl; done = refl },
  is ∙ ap (λ outputs. with_outputs outputs (Some held)) (sym (all_files (played steps) ts)),
)

pub progress_of : (ts : List Transmitter) (steps : List Step) (held : Files) (result : Result PlayedSchedule Status)
    (now : Option Files) → IsPlayOf ts steps held result now → IsProgressOf ts steps held result now
progress_of ts steps held (Ok done) now is = progress_played ts steps held now is.files
progress_of ts steps held (Err status) now is = broken_off ts steps held now is.off

-- want of memory, before a file was begun
pub wanting : (ts : List Transmitter) (steps : List Step) (held : Files) (now : Option Files) → now ≡ Some held
    → IsPlayFault ts steps held Memory now
wanting ts steps held now same = grind (arith, part_of_none)
