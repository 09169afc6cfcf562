use Rattle.std.proofs.Common.{◌≡◌, ◌++◌, ◌⊎◌, ℕ, ℤ, List, [], length, inl, inr, ap, refl, ◌∙◌, arith}
use Rattle.dtx_files.proofs.AppendedLemmas.{segment_bytes-append}
use Rattle.dtx_files.specs.Symbols.{segment_bytes}
use Rattle.dtx_refine.specs.Refiner.{IsEnding, Refining, StandsFor}
use Rattle.dtx_jobs.proofs.refining.finish_all.Goals as goal

-- the segments that the end has brought so far have these bytes
abbrev AreBrought : Refining → List ℤ → List ℕ → Type 0
AreBrought refiner symbols bytes =
    (before : List (List ℤ)) × IsEnding refiner symbols before × (bytes ≡ segment_bytes before)

-- also where the end was not told yet
brought : (refiner : Refining) (symbols : List ℤ) (bytes : List ℕ)
    → (StandsFor refiner symbols → IsEnding refiner symbols [])
    → (StandsFor refiner symbols × (bytes ≡ [])) ⊎ AreBrought refiner symbols bytes → AreBrought refiner symbols bytes
brought refiner symbols bytes begins (inl (stands, none)) = ([], begins stands, none)
brought refiner symbols bytes begins (inr are) = are

pub loop-gathered-init : goal.loop-gathered-init
loop-gathered-init c =
    let is = c.requires.stands.1 in
    record {
      ending = λ symbols is. inl (is.stands, c.requires.empty);
      scale = refl;
      rounds = refl;
      count = refl;
      room = omega (arith, ap length c.requires.empty, is.stands.few, is.few);
    }

pub loop-gathered-preserved : goal.loop-gathered-preserved
loop-gathered-preserved c =
    let old = c.loop-gathered.refiner in
    let bytes = c.loop-gathered.gathered in
    let given = c.finish.new.self.given in
    let inv = c.loop-gathered.invariant in
    record {
      ending = λ symbols is.
          let are = brought old symbols bytes (c.finish.ensures.begins symbols) (inv.ending symbols is) in
          inr (
            are.0 ++ given,
            c.finish.ensures.more symbols are.0 are.1,
            cc (c.push_all.ensures.bytes, are.2, c.given.ensures, segment_bytes-append are.0 given),
          );
      scale = c.finish.ensures.scale ∙ inv.scale;
      rounds = c.finish.ensures.rounds ∙ inv.rounds;
      count = c.finish.ensures.symbols ∙ inv.count;
      room = omega (arith, inv.room, c.finish.ensures.waiting, c.push_all.ensures.long, ap length c.given.ensures);
    }

pub push_all-requires : goal.push_all-requires
push_all-requires c =
    omega (arith, c.loop-gathered.invariant.room, c.finish.ensures.waiting, ap length c.given.ensures)

pub returns-clause-finished : goal.returns-clause-finished
returns-clause-finished c = λ symbols is.
    let old = c.loop-gathered.refiner in
    let bytes = c.loop-gathered.gathered in
    let inv = c.loop-gathered.invariant in
    let done = c.loop-gathered-test.false in
    let are = brought old symbols bytes (c.finish.ensures.begins symbols) (inv.ending symbols is) in
    let all = c.finish.ensures in
    rw (← inv.scale) (rw (← inv.rounds) (record {
      rest = are.2 ∙ ap segment_bytes (all.all symbols are.0 are.1 done);
      count = all.symbols ∙ inv.count;
      runs_are = all.runs symbols are.0 are.1 done;
      segments_are = all.segments symbols are.0 are.1 done;
      cost_is = all.cost symbols are.0 are.1 done;
      known_are = all.known symbols are.0 are.1 done;
      moved_are = all.moved symbols are.0 are.1 done;
    }))
