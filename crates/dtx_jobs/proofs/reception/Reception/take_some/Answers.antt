use Rattle.std.proofs.Common.{◌+◌, ◌++◌, ℕ, List, length, take, subst, sym, ap, ◌∙◌, arith}
use Rattle.std.proofs.lemmas.List.{length-map, length-take-le}
use Rattle.dtx_receiver.specs.Bytes.{symbols_in, symbols_of}
use Rattle.dtx_recipes.specs.Tally.{tally_with}
use Rattle.dtx_recipes.specs.declared.tally.Tally.{Tally}
use Rattle.dtx_jobs.proofs.Tallied.{tally_on}
use Rattle.dtx_jobs.proofs.reception.Reception.take_some.Goals as goal

pub returns-clause-receiving : goal.returns-clause-receiving
returns-clause-receiving g c = λ before is.
    let giving = g.R.SegmentReceiver.giving in
    let stands = subst (λ r. g.R.SegmentReceiver.stands r before) (sym c.deref_mut.ensures.value) is.receiver in
    let batch = c.as_slice.result.now in
    let taken = c.take_some-progress.ensures in
    let count : ℕ = c.take_some-progress.result.segments in
    let begins : ℕ = c.take_some-progress.result.runs in
    let segments : List (List ℕ) = take count c.args.segments.now in
    let old : Tally = c.args.self.now.tally in
    record {
      receiver = taken.stands before stands;
      tally = c.add.ensures.counted
          ∙ ap (λ (t : Tally). tally_with (record t { segments = t.segments + count; runs = t.runs + begins }) batch)
          is.tally
          ∙ tally_on giving before (symbols_in segments) count begins batch
          (length-map segments symbols_of ∙ length-take-le count c.args.segments.now taken.within)
          (taken.runs before stands)
          (taken.packets before stands ∙ ap (λ z. giving.so_far before ++ z) (sym c.as_slice.ensures.value));
    }

pub returns-clause-bounded : goal.returns-clause-bounded
returns-clause-bounded g c =
    let is = c.add.ensures.counted in
    let old = c.requires.bounded in
    let few = c.take_some-progress.ensures.few in
    let brought = ap length c.as_slice.ensures.value in
    let segments = ap (λ (t : Tally). t.segments) is in
    let runs = ap (λ (t : Tally). t.runs) is in
    let packets = ap (λ (t : Tally). t.packets) is in
    record {
      runs = omega (arith, segments, runs, old.runs, c.take_some-progress.ensures.few_runs);
      packets = omega (arith, segments, packets, few, brought, old.packets);
      fixed = omega (arith, segments, few, brought, old.fixed, c.add.ensures.most_fixed);
      flagged = omega (arith, segments, few, brought, old.flagged, c.add.ensures.most_flagged);
    }
