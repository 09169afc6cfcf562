-- What `repeat` writes where the segments that it sends and the lines that it logs are known, and what its words mean.
use Rattle.std.proofs.Common.{◌≡◌, ℕ, ℤ, Option, Some, None, List, [], ◌∷◌, length, ap, ap₂, ◌∙◌, arith}
use Rattle.std.specs.Prelude.{if◌then◌else◌, is_some}
use Rattle.std.specs.FinMap.{get}
use Rattle.dtx_engine.specs.Made.{both, outputs_of}
use Rattle.dtx_engine.specs.Recipe.{meaning, meaning_of_file}
use Rattle.dtx_exciter.specs.Log.{Line}
use Rattle.dtx_files.specs.LogText.{log_text}
use Rattle.dtx_files.specs.Symbols.{segment_bytes}
use Rattle.dtx_meaning.specs.Meaning.{Meaning, refused}
use Rattle.dtx_meaning.specs.declared.status.Status.TheVariants.{Same}
use Rattle.dtx_outside.specs.Shelf.{Files}
use Rattle.dtx_receiver.specs.Intervals.{NoneLooks}
use Rattle.dtx_repeat.specs.Lives.{lives, repeated, repeated_log}
use Rattle.dtx_repeat.proofs.LivesLemmas.{as_many}
use Rattle.dtx_words.specs.Fitting.{command_of, number_in}
use Rattle.dtx_words.specs.Names as names
use Rattle.dtx_words.specs.declared.rows.Command.{Command}
use Rattle.dtx_words.specs.declared.rows.Command.TheVariants.{Repeat}
use Rattle.dtx_jobs.proofs.GivenLemmas.{no_run_in}
use Rattle.dtx_recipes.specs.Repeat.{repeating}
use Rattle.dtx_symbol_laws.specs.RepeatedFiles.{repeated_of}
use Rattle.dtx_forms.specs.Shapes.{segments}
use Rattle.dtx_recipes.specs.SymbolFile.{file_segments, whole_segments}
use Rattle.dtx_forms.specs.Job.{task_meaning}
use Rattle.dtx_forms.specs.Logged.{transmit_with}
use Rattle.dtx_repeated_feed.specs.DoneWith.{IsDoneWith}
use Rattle.dtx_top.specs.Jobs.{means, means_of}

-- where there is a life, a segment looks like a field sync
pub some_looks : (file : List ℕ) (life : List (List ℕ)) → lives (file_segments file) ≡ life ∷ []
    → NoneLooks (file_segments file) 0 (whole_segments file) → ⊥
some_looks file life one none =
    let count : length (lives (file_segments file)) ≡ 1 = ap length one in
    omega (arith, count, as_many (file_segments file), (no_run_in file).1 none)

pub done_with : (outputs : List (List ℕ)) (a d : ℕ) (file : List ℕ) (sent : List (List ℤ)) (lines : List Line)
    → repeated a d (file_segments file) ≡ sent → repeated_log a d (file_segments file) ≡ lines
    → meaning_of_file segments (repeating a d) outputs file ≡ repeated_of a d outputs file
    → IsDoneWith outputs (both (segment_bytes sent) (log_text lines))
    (meaning_of_file segments (repeating a d) outputs file)
done_with outputs a d file sent lines sends logs is = record {
  done = ap (λ (m : Meaning). m.outcome.status) is;
  outputs = ap (λ (m : Meaning). m.outputs) is
      ∙ ap₂ (λ s l. outputs_of outputs (both (segment_bytes s) (log_text l))) sends logs;
}

-- what the words mean over a file
pub by_words : (verb input of_address of_delay output log file : List ℕ) (address delay : ℕ) (held : Files)
    → command_of (verb ∷ input ∷ of_address ∷ of_delay ∷ output ∷ log ∷ []) ≡ Some Repeat
    → number_in 65535 of_address ≡ Some address → number_in 4294967295 of_delay ≡ Some delay
    → names.repeated (input ∷ output ∷ log ∷ []) ≡ None → get held input ≡ Some file
    → means (verb ∷ input ∷ of_address ∷ of_delay ∷ output ∷ log ∷ []) held
    ≡ meaning_of_file segments (repeating address delay) (output ∷ log ∷ []) file
by_words verb input of_address of_delay output log file address delay held fit is_address is_delay once there =
    let to : List (List ℕ) = output ∷ log ∷ [] in
    ap (λ (command : Option Command). means_of command (verb ∷ input ∷ of_address ∷ of_delay ∷ to) held) fit
    ∙ ap₂ (λ a d. task_meaning (transmit_with segments repeating a d input output log) held) is_address is_delay
    ∙ ap (λ (name : Option (List ℕ)). if is_some name then refused Same
    else meaning segments (repeating address delay) 0 to (get held input)) once
    ∙ ap (meaning segments (repeating address delay) 0 to) there
