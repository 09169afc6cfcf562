use Rattle.std.proofs.Common.{◌≡◌, ◌+◌, ◌++◌, ℕ, ℤ, List, length, take, refl, sym, ap, subst, ◌∙◌, arith}
use Rattle.std.proofs.lemmas.List.{length-append, length-map, length-take-le}
use Rattle.dtx_receiver.specs.Runs.{runs}
use Rattle.dtx_receiver.specs.Bytes.{symbols_in, symbols_of}
use Rattle.dtx_repeat.specs.GoingOn.{AreGiven, last_life, longer}
use Rattle.dtx_repeat.specs.Lives.{lives_so_far, packets_in}
use Rattle.dtx_repeat.specs.Repeater.{StandsFor, given_with}
use Rattle.dtx_repeat.proofs.LivesLemmas.{as_many_so_far}
use Rattle.dtx_repeat.proofs.SeveralLemmas.{lives_several, with_runs}
use Rattle.dtx_recipes.specs.SymbolFile.{file_segments}
use Rattle.dtx_jobs.specs.Repetition.{IsRepeating, IsSentOn}
use Rattle.dtx_jobs.proofs.LivesOn.{begun_on, sent_on}
use Rattle.dtx_jobs.proofs.SymbolFileLemmas.{chunks_on, length-segments_of}
use Rattle.dtx_jobs.proofs.repetition.RepetitionStep.step.Goals as goal
use Rattle.dtx_jobs.proofs.repetition.RepetitionStep.step.Goals.{After-as_slice, After-send_all}

-- ---- the segments that are taken

pub overflow_add-self : goal.overflow_add-self
overflow_add-self c =
    let some = c.requires.given in
    omega (
      arith,
      some.2.repeating.count,
      some.1,
      length-segments_of some.0,
      c.requires.most,
      c.as_chunks.ensures.front_len,
      c.take_some-progress.ensures.within,
    )

pub overflow_add-self-2 : goal.overflow_add-self-2
overflow_add-self-2 c =
    let some = c.requires.given in
    omega (
      arith,
      some.2.few.runs,
      some.2.repeating.count,
      some.1,
      length-segments_of some.0,
      c.requires.most,
      c.requires.some,
      c.take_some-progress.ensures.few_runs,
    )

-- their symbols
abbrev taken_of : After-as_slice → List (List ℤ)
taken_of c = symbols_in (take c.take_some-progress.result.segments c.as_chunks.result.0.now)

long : (c : After-as_slice) → length (taken_of c) ≡ c.take_some-progress.result.segments
long c =
    let n : ℕ = c.take_some-progress.result.segments in
    length-map (take n c.as_chunks.result.0.now) symbols_of
    ∙ length-take-le n c.as_chunks.result.0.now c.take_some-progress.ensures.within

-- the repeater stood for those before
stood : (c : After-as_slice) (s : List (List ℤ)) → IsRepeating c.args.self.now s
    → StandsFor c.args.self.now.address c.args.self.now.delay c.deref_mut.result.now s (last_life (lives_so_far s))
stood c s is =
    subst (λ r. StandsFor c.args.self.now.address c.args.self.now.delay r s (last_life (lives_so_far s)))
    (sym c.deref_mut.ensures.value) is.sending.stands

-- a life more where they begin a run
begun : (c : After-as_slice) (s : List (List ℤ)) → IsRepeating c.args.self.now s
    → IsSentOn c.args.self.now.address c.args.self.now.delay c.deref_mut-2.result.now c.args.self.now.sending
    c.restart.new.self (s ++ taken_of c) (lives_so_far s)
    (with_runs c.take_some-progress.result.runs (lives_so_far s)) 0
begun c s is =
    let a = c.args.self.now.address in
    let d = c.args.self.now.delay in
    let life = last_life (lives_so_far s) in
    let begins = c.take_some-progress.result.runs in
    begun_on a d c.deref_mut-2.result.now c.args.self.now.sending c.restart.new.self s (taken_of c) begins
    c.args.self.now.runs c.take_some-progress.ensures.few_runs (is.begun ∙ sym (as_many_so_far s))
    (subst (λ r. StandsFor a d r (s ++ taken_of c) (given_with begins life)) (sym c.deref_mut-2.ensures.value)
    (c.take_some-progress.ensures.stands a d s life (stood c s is)))
    is.sending.counted c.restart.ensures.tally c.restart.ensures.symbols c.restart.ensures.lines

-- the last life is given the packets that they bring
given : (c : After-as_slice) (s : List (List ℤ)) → IsRepeating c.args.self.now s
    → AreGiven (with_runs c.take_some-progress.result.runs (lives_so_far s)) (lives_so_far (s ++ taken_of c))
    c.as_slice.result.now
given c s is =
    let a = c.args.self.now.address in
    let d = c.args.self.now.delay in
    let life = last_life (lives_so_far s) in
    let begins = c.take_some-progress.result.runs in
    let taken = c.take_some-progress.ensures in
    subst (AreGiven (with_runs begins (lives_so_far s)) (lives_so_far (s ++ taken_of c))) (sym c.as_slice.ensures.value)
    (lives_several s (taken_of c) c.take_some-progress.new.batch.packets.items begins taken.few_runs
    (λ some. long c ∙ taken.alone some) (taken.runs a d s life (stood c s is))
    (taken.packets a d s life (stood c s is)))

-- ---- their packets are sent

pub send_all-requires-clause-some : goal.send_all-requires-clause-some
send_all-requires-clause-some c =
    let some = c.requires.given in
    let s = file_segments some.0 in
    let sent = (goal.at.send_all-requires-clause-some c).After-as_slice in (
      c.args.self.now.address,
      c.args.self.now.delay,
      s ++ taken_of sent,
      with_runs c.take_some-progress.result.runs (lives_so_far s),
      (begun sent s some.2.repeating).sending,
      (given sent s some.2.repeating).1,
    )

pub send_all-requires-clause-few : goal.send_all-requires-clause-few
send_all-requires-clause-few c =
    let some = c.requires.given in
    omega (
      arith,
      ap length c.as_slice.ensures.value,
      c.take_some-progress.ensures.few,
      c.take_some-progress.ensures.within,
      some.2.few.packets,
      some.2.repeating.count,
      some.1,
      length-segments_of some.0,
      c.requires.most,
      c.as_chunks.ensures.front_len,
      ap (λ t. t.packets) c.restart.ensures.tally,
    )

-- what was known before that
abbrev before_sent : After-send_all → After-as_slice
before_sent c = c.before.before

sent : (c : After-send_all) (s all : List (List ℤ)) → all ≡ s ++ taken_of (before_sent c)
    → IsRepeating c.args.self.now s
    → IsSentOn c.args.self.now.address c.args.self.now.delay c.send_all.new.repeater c.args.self.now.sending
    c.send_all.new.sending all (lives_so_far s) (lives_so_far all) (length c.as_slice.result.now)
sent c s all e is =
    let a = c.args.self.now.address in
    let d = c.args.self.now.delay in
    let old = c.args.self.now.sending in
    let new = c.send_all.new.sending in
    let count = length c.as_slice.result.now in
    let next : List (List ℤ) = s ++ taken_of (before_sent c) in
    let ls = with_runs c.take_some-progress.result.runs (lives_so_far s) in
    let on = begun (before_sent c) s is in
    let to = given (before_sent c) s is in
    subst (λ z. IsSentOn a d c.send_all.new.repeater old new z (lives_so_far s) (lives_so_far z) count) (sym e)
    (subst (λ z. IsSentOn a d c.send_all.new.repeater old new next (lives_so_far s) z count) (sym to.0)
    (sent_on a d c.deref_mut-2.result.now c.send_all.new.repeater old c.restart.new.self new next next (lives_so_far s)
    ls (longer ls (packets_in c.as_slice.result.now)) 0 count count (omega arith) on
    (c.send_all.ensures.sent a d next ls on.sending to.1)))

counted : (c : After-send_all) (s all : List (List ℤ)) → all ≡ s ++ taken_of (before_sent c)
    → IsRepeating c.args.self.now s
    → (c.args.self.now.segments + c.take_some-progress.result.segments ≡ length all)
    × (c.args.self.now.runs + c.take_some-progress.result.runs ≡ length (runs all))
counted c s all e is =
    let a = c.args.self.now.address in
    let d = c.args.self.now.delay in
    let grown = c.take_some-progress.ensures.runs a d s (last_life (lives_so_far s)) (stood (before_sent c) s is) in (
      omega (arith, is.count, ap length e, length-append s (taken_of (before_sent c)), long (before_sent c)),
      omega (arith, is.begun, ap (λ z. length (runs z)) e, grown),
    )

pub returns-clause-stepped : goal.returns-clause-stepped
returns-clause-stepped c = λ before front whole stand is.
    let after = (goal.at.returns-clause-stepped c).After-send_all in
    let n = c.take_some-progress.result.segments in
    let s = file_segments before in
    let taken = c.take_some-progress.ensures in
    let all = chunks_on before c.args.bytes.now n _ (omega (arith, whole)) c.as_chunks.ensures.front
    c.as_chunks.ensures.front_len (omega (arith, taken.within, c.as_chunks.ensures.front_len)) in
    let on = sent after s _ all stand.repeating in
    let counts = counted after s _ all stand.repeating in
    record {
      stand = record {
        repeating = record { sending = on.sending; count = counts.0; begun = counts.1 };
        few = record {
          runs = omega (arith, stand.few.runs, taken.few_runs, taken.some);
          packets = omega (
            arith,
            stand.few.packets,
            ap length c.as_slice.ensures.value,
            taken.few,
            c.send_all.ensures.count,
            ap (λ t. t.packets) c.restart.ensures.tally,
          );
        };
      };
      made = on.made front is;
    }

pub returns-clause-ready : goal.returns-clause-ready
returns-clause-ready c =
    let after = (goal.at.returns-clause-ready c).After-send_all in
    let room = c.requires.ready in
    let all = room.0 ++ taken_of (before_sent after) in
    let on = sent after room.0 all refl room.1 in
    let counts = counted after room.0 all refl room.1 in
    let taken = c.take_some-progress.ensures in (
      all,
      record { sending = on.sending; count = counts.0; begun = counts.1 },
      omega (
        arith,
        room.2,
        on.spaced,
        ap length c.as_slice.ensures.value,
        taken.few,
        taken.within,
        c.as_chunks.ensures.front_len,
      ),
      omega (
        arith,
        room.3,
        ap length c.as_slice.ensures.value,
        taken.few,
        taken.some,
        taken.within,
        c.as_chunks.ensures.front_len,
        c.restart.ensures.short,
        c.send_all.ensures.short,
      ),
    )
