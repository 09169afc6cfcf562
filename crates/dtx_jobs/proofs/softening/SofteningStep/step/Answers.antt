use Rattle.std.proofs.Common.{◌<◌, ◌++◌, [], ℕ, List, length, ap, ap₂, sym, subst, ◌∙◌, arith}
use Rattle.std.proofs.lemmas.List.{take_more}
use Rattle.dtx_engine.specs.Made.{both}
use Rattle.dtx_files.specs.Symbols.{segment_bytes}
use Rattle.dtx_receiver.specs.Bytes.{symbols_in}
use Rattle.dtx_recipes.specs.Soft.{soft_so_far}
use Rattle.dtx_recipes.specs.SymbolFile.{file_segments}
use Rattle.dtx_jobs.specs.Softening.{IsSoftening}
use Rattle.dtx_jobs.proofs.SymbolFileLemmas.{chunks_on, length-segments_of}
use Rattle.dtx_jobs.proofs.softening.SofteningStep.step.Goals as goal

pub take-requires-clause-most : goal.take-requires-clause-most
take-requires-clause-most c =
    let some = c.requires.given in
    omega (arith, some.2.softening.count, some.1, length-segments_of some.0, c.requires.some, c.requires.most)

pub take-requires-clause-is_kept : goal.take-requires-clause-is_kept
take-requires-clause-is_kept c = c.requires.given.2.is_kept

pub returns-clause-stepped : goal.returns-clause-stepped
returns-clause-stepped c = λ given front long stand is.
    let before = file_segments given in
    let chunks : List (List ℕ) = c.as_chunks.result.0.now in
    let some : 0 < length chunks = omega (arith, c.requires.some, c.as_chunks.ensures.front_len) in
    let all = chunks_on given c.args.bytes.now 1 chunks (omega (arith, long)) c.as_chunks.ensures.front
    c.as_chunks.ensures.front_len (omega (arith, c.requires.some))
    ∙ ap (λ xs. before ++ symbols_in xs) (take_more chunks 0 [] some) in
    let taken = c.take.ensures.gathered before front.first
    (record { softening = stand.softening; bytes = ap (λ m. m.first) is }) in
    record {
      stand = record {
        softening = subst (IsSoftening c.take.new.self) (sym all) taken.softening;
        is_kept = c.take.ensures.is_kept;
      };
      made = ap₂ both (ap (λ s. segment_bytes (soft_so_far s)) all ∙ taken.bytes) (ap (λ m. m.second) is);
    }
