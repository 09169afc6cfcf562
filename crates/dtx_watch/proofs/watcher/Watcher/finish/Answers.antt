use Rattle.std.proofs.Common.{◌<◌, arith}
use Rattle.dtx_watch.proofs.Taken.{nothing_waits, some_wait, few_in_part, place_of_part}
use Rattle.dtx_watch.proofs.watcher.Watcher.finish.Goals as goal

pub tell_group-requires-clause-place : goal.tell_group-requires-clause-place
tell_group-requires-clause-place c =
    place_of_part c.args.self.now c.requires.given.0 c.requires.given.1 c.if-self-gt0.true

pub tell_group-requires-clause-part : goal.tell_group-requires-clause-part
tell_group-requires-clause-part c =
    let l : c.args.self.now.part < 4 = few_in_part c.args.self.now c.requires.given.0 c.requires.given.1 in
    omega (arith, l)

pub returns-then-self-gt0 : goal.returns-then-self-gt0
returns-then-self-gt0 c = λ before h.
    some_wait c.args.self.now before c.tell_group.new.notes.items h c.if-self-gt0.true c.tell_group.ensures.told

pub returns-else-self-gt0 : goal.returns-else-self-gt0
returns-else-self-gt0 c = λ before h. nothing_waits c.args.self.now before c.clear.new.self.items h
    (let l = c.if-self-gt0.false in omega (arith, l)) c.clear.ensures
