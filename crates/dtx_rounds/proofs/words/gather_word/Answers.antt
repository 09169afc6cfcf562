use Rattle.std.proofs.Common.{◌+◌, ◌≤◌, ◌++◌, length, sym, subst, arith, ◌∙◌}
use Rattle.dtx_outer.proofs.WordsLemmas.{word_by}
use Rattle.dtx_rounds.proofs.Stretches.{IsGathered, from_behind, from_front, gathered_on, stretch_there}
use Rattle.dtx_rounds.proofs.words.gather_word.Goals as goal
use Rattle.dtx_rounds.proofs.words.gather_word.Goals.{then-at-lt-BYTES, else-at-lt-BYTES}

pub gather_stretch-requires-else-at-lt-BYTES-clause-there : goal.gather_stretch-requires-else-at-lt-BYTES-clause-there
gather_stretch-requires-else-at-lt-BYTES-clause-there c =
    let run = c.stretch_from-at in
    omega (
      arith,
      c.if-at-lt-BYTES.false,
      stretch_there c.args.k c.loop-j.j run.result.count run.result.at (64584 + length c.args.behind.now)
          run.ensures.spaced run.ensures.some (omega (arith, run.ensures.few, c.loop-j.invariant.within))
          c.requires.whole,
    )

pub loop-j-preserved : goal.loop-j-preserved
loop-j-preserved c =
    let both = c.args.bytes.now ++ c.args.behind.now in
    let at = c.stretch_from-at.result.at in
    let count = c.stretch_from-at.result.count in
    let run = c.stretch_from-at.ensures in
    let within : c.loop-j.j + count ≤ 207 = omega (arith, run.few, c.loop-j.invariant.within) in
    elim c.if-at-lt-BYTES.branch [
      | then-at-lt-BYTES w ↦ subst (λ word. IsGathered both word c.args.k (c.loop-j.j + count)) (sym w.word-is)
          (gathered_on both c.loop-j.word w.gather_stretch.new.word c.args.k c.loop-j.j count at run.spaced within
          c.loop-j.invariant w.gather_stretch.array_long
          (λ i l. w.gather_stretch.ensures.gathered i l
          ∙ from_front c.args.bytes.now c.args.behind.now at i count
          (omega (arith, run.in_field w.if-at-lt-BYTES.true, c.requires.long)) l)
          w.gather_stretch.ensures.before)
      | else-at-lt-BYTES w ↦ subst (λ word. IsGathered both word c.args.k (c.loop-j.j + count)) (sym w.word-is)
          (gathered_on both c.loop-j.word w.gather_stretch-else-at-lt-BYTES.new.word c.args.k c.loop-j.j count at
          run.spaced
          within c.loop-j.invariant w.gather_stretch-else-at-lt-BYTES.array_long
          (λ i l. w.gather_stretch-else-at-lt-BYTES.ensures.gathered i l
          ∙ from_behind c.args.bytes.now c.args.behind.now at i 64584 c.requires.long w.if-at-lt-BYTES.false)
          w.gather_stretch-else-at-lt-BYTES.ensures.before)
    ]

pub returns : goal.returns
returns c =
    word_by 207 52 4 (c.args.bytes.now ++ c.args.behind.now) c.args.k c.loop-j.word c.loop-j.invariant.long
    (λ i l. c.loop-j.invariant.gathered i (omega (arith, l, c.loop-j-test.false)))
