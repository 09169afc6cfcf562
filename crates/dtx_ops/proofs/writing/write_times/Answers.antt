use Rattle.std.proofs.Common.{ℕ, List, ◌++◌, ◌∙◌, drop, ap, refl, arith}
use Rattle.std.proofs.lemmas.List.{drop-drop, length-drop, length-take}
use Rattle.byteorder.specs.Endian.{big_bytes}
use Rattle.dtx_ops.specs.Spelling.{times_bytes}
use Rattle.dtx_ops.proofs.Writes.{wrote_at}
use Rattle.dtx_ops.proofs.writing.write_times.Goals as goal

pub returns-clause-times : goal.returns-clause-times
unfolding times_bytes
returns-clause-times c =
    let f = c.args.ops.now in
    let delays : List ℕ = big_bytes 3 f.stamp ++ big_bytes 3 f.max_delay in
    let place : List ℕ = big_bytes 4 f.frame ++ big_bytes 2 f.index in
    wrote_at 6 _ delays (drop 6 c.args.out.now) place c.write_delays.new.out c.write_place.new.out 6
    c.write_delays.ensures refl refl c.write_place.ensures
    ∙ ap (λ (t : List ℕ). delays ++ (place ++ t)) (drop-drop 6 6 c.args.out.now)

pub write_delays-requires-clause-stamp : goal.write_delays-requires-clause-stamp
write_delays-requires-clause-stamp c = c.requires.stamp

pub write_delays-requires-clause-max_delay : goal.write_delays-requires-clause-max_delay
write_delays-requires-clause-max_delay c = c.requires.max_delay

pub write_delays-requires-clause-room : goal.write_delays-requires-clause-room
write_delays-requires-clause-room c = omega (arith, c.requires.room)

pub write_place-requires : goal.write_place-requires
write_place-requires c = simp (length-take, length-drop) (omega (arith, c.requires.room))
