use Rattle.std.proofs.Common.{◌≡◌, ℕ, List, ap, ap₂, sym, subst, ◌∙◌, arith}
use Rattle.std.proofs.lemmas.List.{append-nil}
use Rattle.dtx_engine.specs.Made.{Made, both, joined}
use Rattle.dtx_repeat.specs.GoingOn.{last_life}
use Rattle.dtx_repeat.specs.Lives.{lives_so_far}
use Rattle.dtx_repeat.specs.Repeater.{StandsFor}
use Rattle.dtx_repeat.specs.declared.repeater.Repeater.{Repeater}
use Rattle.dtx_recipes.specs.Repeat.{repeating, sent_in}
use Rattle.dtx_recipes.specs.SymbolFile.{file_segments}
use Rattle.dtx_jobs.specs.Repetition.{WasRepeated, gathered}
use Rattle.dtx_jobs.proofs.RepeatLemmas.{repeats_last}
use Rattle.dtx_jobs.proofs.SymbolFileLemmas.{length-segments_of}
use Rattle.dtx_jobs.proofs.repetition.RepetitionStep.finish.Goals as goal
use Rattle.dtx_jobs.proofs.repetition.RepetitionStep.finish.Goals.{After-end}

-- the repeater stood for the segments
abbrev HasStood : ℕ → ℕ → Repeater → List ℕ → Type 0
HasStood a d repeater given =
    StandsFor a d repeater (file_segments given) (last_life (lives_so_far (file_segments given)))

pub end-requires-clause-some : goal.end-requires-clause-some
end-requires-clause-some c =
    let a = c.args.self.now.address in
    let d = c.args.self.now.delay in
    let units = c.requires.given in
    let some = units.2 in
    let is = some.2.repeating.sending in (
      a,
      d,
      file_segments some.0,
      record {
        stands = subst (λ r. HasStood a d r some.0) (sym c.deref_mut.ensures.value) is.stands;
        counted = is.counted;
      },
    )

pub end-requires-clause-few : goal.end-requires-clause-few
end-requires-clause-few c =
    let units = c.requires.given in
    let some = units.2 in
    omega (arith, some.2.few.packets, some.2.repeating.count, some.1, units.1, length-segments_of some.0)

-- what the end brings is what is left of it
rest : (c : After-end) (given : List ℕ) → WasRepeated c.args.self.now given
    → gathered c.end.new.sending ≡ (repeating c.args.self.now.address c.args.self.now.delay).rest given
rest c given stand =
    let a = c.args.self.now.address in
    let d = c.args.self.now.delay in
    let s = file_segments given in
    let is = stand.repeating.sending in
    let front : Made = sent_in a d (lives_so_far s) in
    let on = c.end.ensures a d s (record {
      stands = subst (λ r. HasStood a d r given) (sym c.deref_mut.ensures.value) is.stands;
      counted = is.counted;
    }) in
    repeats_last a d given (gathered c.end.new.sending) (on.made front
    (ap₂ both (sym (append-nil front.first)) (sym (append-nil front.second))
    ∙ ap (joined front) (sym c.requires.empty)))

pub returns-then-self-eq0-clause-rest : goal.returns-then-self-eq0-clause-rest
returns-then-self-eq0-clause-rest c = rest (goal.at.returns-then-self-eq0-clause-rest c).After-end

pub returns-else-self-eq0-clause-rest : goal.returns-else-self-eq0-clause-rest
returns-else-self-eq0-clause-rest c = rest (goal.at.returns-else-self-eq0-clause-rest c).After-end
