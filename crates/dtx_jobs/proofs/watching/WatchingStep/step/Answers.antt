use Rattle.std.proofs.Common.{◌≡◌, ◌+◌, ◌<◌, ◌∷◌, ◌++◌, [], ℕ, List, length, take, get_or, sym, ap, ap₂, subst, ◌∙◌}
use Rattle.std.proofs.Common.{append_assoc, arith}
use Rattle.std.proofs.lemmas.List.{length_push, take_more}
use Rattle.dtx_engine.specs.Made.{both}
use Rattle.dtx_packets.specs.Packets.{packets_of}
use Rattle.dtx_watch.specs.Kept.{StandsFor}
use Rattle.dtx_watch.specs.Watch.{told}
use Rattle.dtx_watch.specs.WatchText.{watch_text}
use Rattle.dtx_watch.specs.declared.notes.Note.{Note}
use Rattle.dtx_forms.proofs.FilePacketsLemmas.{length-packets_of, packets_on}
use Rattle.dtx_recipes.specs.Watch.{watch_tally, watched_bytes, tally_with}
use Rattle.dtx_recipes.proofs.WatchLemmas.{watched_parts}
use Rattle.dtx_jobs.specs.Watching.{IsWatched}
use Rattle.dtx_recipes.specs.declared.watch_tally.WatchTally.{WatchTally}
use Rattle.dtx_jobs.proofs.WatchLemmas.{has_room, tally_parts}
use Rattle.dtx_jobs.proofs.watching.WatchingStep.step.Goals as goal

pub take-requires : goal.take-requires
take-requires c =
    let some = c.requires.given in
    let before = packets_of some.0 in
    let few : length before < 624000000 = omega (
      arith,
      some.1,
      c.requires.some,
      c.requires.most,
      length-packets_of some.0,
    ) in
    record {
      room = (before, subst (λ w. StandsFor w before) (sym c.deref_mut.ensures.value) some.2.watcher, few);
    }

pub overflow_add-self : goal.overflow_add-self
overflow_add-self c =
    let some = c.requires.given in
    omega (
      arith,
      some.1,
      c.requires.some,
      c.requires.most,
      length-packets_of some.0,
      ap (λ (t : WatchTally). t.packets) some.2.tally,
    )

pub gather-requires-clause-tally : goal.gather-requires-clause-tally
gather-requires-clause-tally c =
    let some = c.requires.given in
    let before = packets_of some.0 in
    let few : length before < 624000000 = omega (
      arith,
      some.1,
      c.requires.some,
      c.requires.most,
      length-packets_of some.0,
    ) in
    has_room before _ (length before + 1) (ap (λ (t : WatchTally). record t { packets = t.packets + 1 }) some.2.tally)
    (omega (arith, few)) (omega (arith, few))

pub returns-clause-stepped : goal.returns-clause-stepped
returns-clause-stepped c = λ given front long stand is.
    let before = packets_of given in
    let chunks : List (List ℕ) = c.as_chunks.result.0.now in
    let p : List ℕ = get_or chunks 0 [] in
    let notes : List Note = c.take.new.notes.items in
    let some : 0 < length chunks = omega (arith, c.requires.some, c.as_chunks.ensures.front_len) in
    let all : packets_of (given ++ take 188 c.args.bytes.now) ≡ before ++ p ∷ [] =
    packets_on given c.args.bytes.now 1 chunks (omega (arith, long)) c.as_chunks.ensures.front
    (omega (arith, c.requires.some)) ∙ ap (λ ps. before ++ ps) (take_more chunks 0 [] some) in
    let stands = subst (λ w. StandsFor w before) (sym c.deref_mut.ensures.value) stand.watcher in
    let taken = c.take.ensures before stands in
    record {
      stand = subst (IsWatched c.gather.new.self) (sym all) (record {
        watcher = subst (λ b. StandsFor b.value (before ++ p ∷ [])) (sym c.gather.ensures.watcher) taken.stands;
        tally =
            c.gather.ensures.tally
            ∙ ap (λ (t : WatchTally). tally_with (record t { packets = t.packets + 1 }) notes) stand.tally
            ∙ tally_parts (length before + 1) (told before) notes
            ∙ ap₂ watch_tally (sym (length_push before p)) (sym taken.notes);
      });
      made = ap₂ both
          (ap watched_bytes all ∙ watched_parts before (before ++ p ∷ []) notes taken.notes
          ∙ ap (λ m. m.first ++ watch_text notes) is
          ∙ append_assoc front.first c.args.self.now.lines (watch_text notes)
          ∙ ap (λ z. front.first ++ z) (sym c.gather.ensures.lines))
          (ap (λ m. m.second) is);
    }
