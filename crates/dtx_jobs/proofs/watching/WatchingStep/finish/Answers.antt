use Rattle.std.proofs.Common.{◌≡◌, ◌++◌, List, length, ap, sym, subst, ◌∙◌, arith}
use Rattle.dtx_packets.specs.Packets.{packets_of}
use Rattle.dtx_watch.specs.Kept.{StandsFor}
use Rattle.dtx_watch.proofs.ToldLemmas.{all_told}
use Rattle.dtx_watch.specs.Watch.{told, waiting}
use Rattle.dtx_watch.specs.WatchText.{watch_text}
use Rattle.dtx_watch.specs.declared.notes.Note.{Note}
use Rattle.dtx_meaning.specs.Status.{done}
use Rattle.dtx_engine.specs.Made.{only}
use Rattle.dtx_forms.proofs.FilePacketsLemmas.{length-packets_of}
use Rattle.dtx_recipes.specs.Watch.{watch_tally, watch_numbers, tally_with}
use Rattle.dtx_jobs.proofs.WatchLemmas.{has_room, tally_parts, waiting_is}
use Rattle.dtx_recipes.specs.declared.watch_tally.WatchTally.{WatchTally}
use Rattle.dtx_jobs.proofs.watching.WatchingStep.finish.Goals as goal

pub finish-requires : goal.finish-requires
finish-requires c =
    let units = c.requires.given in
    let some = units.2 in
    record {
      given = (
        packets_of some.0,
        subst (λ w. StandsFor w (packets_of some.0)) (sym c.deref_mut.ensures.value) some.2.watcher,
        omega (arith, some.1, units.1, length-packets_of some.0),
      );
    }

pub gather-requires-clause-tally : goal.gather-requires-clause-tally
gather-requires-clause-tally c =
    let units = c.requires.given in
    let some = units.2 in
    has_room (packets_of some.0) c.args.self.now.tally (length (packets_of some.0)) some.2.tally
    (omega (arith, some.1, units.1, length-packets_of some.0))
    (omega (arith, some.1, units.1, length-packets_of some.0))

pub returns-clause-outcome : goal.returns-clause-outcome
returns-clause-outcome c = λ given stand.
    let ps = packets_of given in
    let notes : List Note = c.finish.new.notes.items in
    let stands = subst (λ w. StandsFor w ps) (sym c.deref_mut.ensures.value) stand.watcher in
    let waits : notes ≡ waiting ps = c.finish.ensures ps stands in
    c.done.ensures
    ∙ ap done
    (c.numbers.ensures
    ∙ ap (λ (t : WatchTally). watch_numbers t c.args.loose)
    (c.gather.ensures.tally ∙ ap (λ (t : WatchTally). tally_with t notes) stand.tally
    ∙ tally_parts (length ps) (told ps) notes
    ∙ ap (watch_tally (length ps)) (ap (λ x. told ps ++ x) waits ∙ sym (all_told ps))))

pub returns-clause-rest : goal.returns-clause-rest
returns-clause-rest c = λ given stand.
    let ps = packets_of given in
    let notes : List Note = c.finish.new.notes.items in
    let stands = subst (λ w. StandsFor w ps) (sym c.deref_mut.ensures.value) stand.watcher in
    ap only (c.gather.ensures.lines ∙ ap (λ m. m.first ++ watch_text notes) c.requires.empty
    ∙ waiting_is ps notes (c.finish.ensures ps stands))
