use Rattle.std.proofs.Common.{ℕ, [], ◌∷◌, ◌++◌, ap, ap₂, ◌∙◌, arith, length, refl, take}
use Rattle.dtx_files.specs.Symbols.{segment_bytes}
use Rattle.dtx_engine.specs.Made.{only}
use Rattle.dtx_meaning.specs.Status.{done}
use Rattle.dtx_meaning.specs.declared.status.Outcome.{Outcome}
use Rattle.dtx_soft.specs.Softened.{softened_cost}
use Rattle.dtx_recipes.specs.Soft.{field_sum, flushed, has_group}
use Rattle.dtx_jobs.proofs.SoftLemmas.{no_cost}
use Rattle.dtx_jobs.proofs.SofteningLemmas.{field_sum_all, rest_of}
use Rattle.dtx_recipes.specs.SymbolFile.{file_segments}
use Rattle.dtx_jobs.proofs.SymbolFileLemmas.{length-segments_of}
use Rattle.dtx_jobs.proofs.softening.SofteningStep.finish.Goals as goal

pub flush-requires-clause-fields : goal.flush-requires-clause-fields
flush-requires-clause-fields c =
    let given = c.requires.given in
    let was = given.2.2 in
    omega (arith, was.is_kept.fields, was.softening.count, given.2.1, given.1, length-segments_of given.2.0)

pub flush-requires-clause-cost : goal.flush-requires-clause-cost
flush-requires-clause-cost c =
    let given = c.requires.given in
    let was = given.2.2 in
    omega (arith, was.is_kept.cost, was.softening.count, given.2.1, given.1, length-segments_of given.2.0)

pub returns-clause-outcome : goal.returns-clause-outcome
returns-clause-outcome c = λ given stand.
    let s = file_segments given in
    let old = c.args.self.now in
    let was = stand.softening in
    let outcome : ℕ → ℕ → ℕ → Outcome =
    λ segments fields cost. done (segments ∷ fields ∷ cost ∷ c.args.loose ∷ []) in
    let sums = field_sum_all old s c.unwrap_or-rows.result was c.unwrap_or-rows.ensures in
    c.done.ensures
    ∙ ap₂ (λ n m. outcome n m c.flush.new.self.cost) (c.flush.ensures.count ∙ was.count)
    (sums has_group old.fields c.flush.new.self.fields refl was.fields c.flush.ensures.fields)
    ∙ ap (λ n. outcome (length s) (field_sum has_group s (length s)) n)
    (sums (softened_cost 1) old.cost c.flush.new.self.cost no_cost was.cost c.flush.ensures.cost)

pub returns-clause-rest : goal.returns-clause-rest
returns-clause-rest c = λ given stand.
    let old = c.args.self.now in
    let rows = c.unwrap_or-rows.result in
    ap only (c.flush.ensures.symbols
    ∙ ap (λ m. m.first ++ segment_bytes (flushed (take rows old.field.items))) c.requires.empty
    ∙ rest_of old (file_segments given) rows stand.softening c.unwrap_or-rows.ensures)
