use Rattle.std.proofs.Common.{length, ap, ◌∙◌, arith}
use Rattle.dtx_repeat.specs.GoingOn.{last_life}
use Rattle.dtx_repeat.specs.Lives.{lives_so_far}
use Rattle.dtx_recipes.specs.SymbolFile.{file_segments}
use Rattle.dtx_jobs.proofs.repetition.RepetitionStep.clear.Goals as goal

pub returns-clause-stands : goal.returns-clause-stands
returns-clause-stands c = λ given stand.
    let is = stand.repeating in
    record {
      repeating = record {
        sending = record { stands = is.sending.stands; counted = c.clear.ensures.tally ∙ is.sending.counted };
        count = is.count;
        begun = is.begun;
      };
      few = record {
        runs = stand.few.runs;
        packets = omega (arith, stand.few.packets, ap (λ t. t.packets) c.clear.ensures.tally);
      };
    }

pub returns-clause-ready : goal.returns-clause-ready
returns-clause-ready c = λ first units grouped few.
    let some = c.requires.given.1 in
    let s = file_segments some.0 in
    let is = some.2.repeating in (
      s,
      record {
        sending = record { stands = is.sending.stands; counted = c.clear.ensures.tally ∙ is.sending.counted };
        count = is.count;
        begun = is.begun;
      },
      omega (
        arith,
        few,
        c.groups_are_spaced.ensures.part (last_life (lives_so_far s)),
        ap length c.clear.ensures.symbols,
      ),
      omega (arith, few, ap length c.clear.ensures.lines),
    )
