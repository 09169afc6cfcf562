use Rattle.std.proofs.Common.{[], length, ap, sym, subst, ◌∙◌, arith}
use Rattle.dtx_repeat.specs.GoingOn.{AreGiven, last_life}
use Rattle.dtx_repeat.specs.Lives.{lives, lives_so_far}
use Rattle.dtx_repeat.proofs.LivesLemmas.{lives_end}
use Rattle.dtx_jobs.specs.Repetition.{IsSentOn}
use Rattle.dtx_jobs.proofs.repetition.end.Goals as goal

pub send_all-requires-clause-some : goal.send_all-requires-clause-some
send_all-requires-clause-some c =
    let some = c.requires.some in
    let a = some.0 in
    let d = some.1 in
    let s = some.2 in
    let life = last_life (lives_so_far s) in
    let given = lives_end s c.finish.new.batch.packets.items (c.finish.ensures.packets a d s life some.3.stands) in (
      a,
      d,
      [],
      lives_so_far s,
      record { stands = c.finish.ensures.stands a d s life some.3.stands; counted = some.3.counted },
      λ none. c.as_slice.ensures.value ∙ given.1 none,
    )

pub send_all-requires-clause-few : goal.send_all-requires-clause-few
send_all-requires-clause-few c =
    omega (arith, c.finish.ensures.few, c.requires.few, ap length c.as_slice.ensures.value)

pub send_all-requires-clause-symbols : goal.send_all-requires-clause-symbols
send_all-requires-clause-symbols c =
    omega (arith, c.finish.ensures.few, ap (λ m. length m.first) c.requires.empty, ap length c.as_slice.ensures.value)

pub send_all-requires-clause-lines : goal.send_all-requires-clause-lines
send_all-requires-clause-lines c =
    omega (arith, c.finish.ensures.few, ap (λ m. length m.second) c.requires.empty, ap length c.as_slice.ensures.value)

pub returns : goal.returns
returns c = λ a d s is.
    let life = last_life (lives_so_far s) in
    let items = c.as_slice.result.now in
    let given = subst (AreGiven (lives_so_far s) (lives s)) (sym c.as_slice.ensures.value)
    (lives_end s c.finish.new.batch.packets.items (c.finish.ensures.packets a d s life is.stands)) in
    subst (λ xs. IsSentOn a d c.send_all.new.repeater c.args.sending.now c.send_all.new.sending [] (lives_so_far s)
    (lives s) (length xs)) c.as_slice.ensures.value
    (subst (λ ls. IsSentOn a d c.send_all.new.repeater c.args.sending.now c.send_all.new.sending [] (lives_so_far s) ls
    (length items)) (sym given.0)
    (c.send_all.ensures.sent a d [] (lives_so_far s)
    (record { stands = c.finish.ensures.stands a d s life is.stands; counted = is.counted }) given.1))
