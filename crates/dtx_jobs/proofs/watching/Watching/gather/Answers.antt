use Rattle.std.proofs.Common.{◌<◌, List, length, take, get_or, sym, ap, ◌∙◌, arith, subst}
use Rattle.std.proofs.lemmas.List.{length-take-le}
use Rattle.dtx_watch.specs.declared.notes.Note.{Note}
use Rattle.dtx_watch.specs.declared.notes.NoteKind.TheVariants.{Lock}
use Rattle.dtx_recipes.specs.Watch.{HasRoom}
use Rattle.dtx_jobs.proofs.WatchLemmas.{room_within, lines_next, tally_next}
use Rattle.dtx_jobs.proofs.watching.Watching.gather.Goals as goal

pub put-requires-clause-tally : goal.put-requires-clause-tally
put-requires-clause-tally c =
    let ns : List Note = c.args.self.now.notes.items in
    let h : c.loop-i.i < length ns = omega (arith, c.loop-i-test.true, c.len-i-end.ensures.value) in
    subst (λ t. HasRoom t 1) (sym c.loop-i.invariant.tally)
    (room_within c.args.self.now.tally (take c.loop-i.i ns)
    (omega (arith, h, length-take-le c.loop-i.i ns (omega (arith, h)), c.len-i-end.ensures.fits)) c.requires.tally)

pub loop-i-preserved : goal.loop-i-preserved
loop-i-preserved c =
    let ns : List Note = c.args.self.now.notes.items in
    let old = c.args.self.now in
    let h : c.loop-i.i < length ns = omega (arith, c.loop-i-test.true, c.len-i-end.ensures.value) in
    let is = ap (λ (xs : List Note). get_or xs c.loop-i.i (record { packet = 0; what = Lock }))
    (c.as_slice.ensures.value ∙ ap (λ v. v.items) c.loop-i.invariant.notes) in
    record {
      lines = lines_next old.lines c.loop-i.self.lines c.put.new.self.lines ns c.loop-i.i _ _ h is
          c.loop-i.invariant.lines
          c.put.ensures.lines;
      tally = tally_next old.tally c.loop-i.self.tally c.put.new.self.tally ns c.loop-i.i _ _ h is
          c.loop-i.invariant.tally
          c.put.ensures.tally;
      long = omega (arith, c.put.ensures.long, c.loop-i.invariant.long);
      watcher = c.put.ensures.watcher ∙ c.loop-i.invariant.watcher;
      notes = c.put.ensures.notes ∙ c.loop-i.invariant.notes;
    }
