use Rattle.std.proofs.Common.{ap, length, arith}
use Rattle.dtx_recipes.specs.Acquire.{with_acquirer}
use Rattle.dtx_jobs.proofs.acquiring.AcquirerRestorerACQUIRED_BYTES.finish.Goals as goal

pub push_all-requires : goal.push_all-requires
push_all-requires c =
    omega (
      arith,
      c.requires.stands.1.few,
      c.finish.ensures.room,
      ap length c.requires.empty,
      ap length c.given.ensures,
    )

pub returns-clause-rest : goal.returns-clause-rest
returns-clause-rest c = λ symbols is.
    cc (c.push_all.ensures.bytes, c.requires.empty, c.given.ensures, c.finish.ensures.given symbols is)

pub returns-clause-answer : goal.returns-clause-answer
returns-clause-answer c = λ symbols is.
    let new = c.finish.new.self in
    let scale = c.args.self.now.scale in
    cc (c.finish.ensures.runs symbols is, c.finish.ensures.segments symbols is, c.finish.ensures.cost symbols is)

pub returns-clause-kept : goal.returns-clause-kept
returns-clause-kept c = ap with_acquirer c.finish.ensures.scale
