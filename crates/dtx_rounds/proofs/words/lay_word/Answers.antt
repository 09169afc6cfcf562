use Rattle.std.proofs.Common.{◌≡◌, ◌+◌, ◌≤◌, ◌++◌, Option, List, ℕ, sym, subst, arith, ◌∙◌, ap₂}
use Rattle.dtx_rounds.proofs.Stretches.{IsLaidTo, laid_behind, laid_front, laid_on}
use Rattle.dtx_rounds.proofs.words.lay_word.Goals as goal
use Rattle.dtx_rounds.proofs.words.lay_word.Goals.{then-at-lt-BYTES, else-at-lt-BYTES}

pub loop-j-preserved : goal.loop-j-preserved
loop-j-preserved c =
    let first = c.args.known.now ++ c.args.next.now in
    let word = c.args.word.now in
    let at = c.stretch_from-at.result.at in
    let count = c.stretch_from-at.result.count in
    let run = c.stretch_from-at.ensures in
    let within : c.loop-j.j + count ≤ 207 = omega (arith, run.few, c.loop-j.invariant.within) in
    elim c.if-at-lt-BYTES.branch [
      | then-at-lt-BYTES w ↦
          let new : c.if-at-lt-BYTES.known ++ c.if-at-lt-BYTES.next ≡ w.lay_stretch.new.known ++ c.loop-j.next =
          ap₂ (λ (xs ys : List (Option ℕ)). xs ++ ys) w.known-is w.next-is in
          subst (IsLaidTo word c.args.k (c.loop-j.j + count) first) (sym new)
          (laid_on word c.args.k c.loop-j.j count at first _ _ run.spaced within c.loop-j.invariant
          (laid_front word c.loop-j.j count at c.loop-j.known w.lay_stretch.new.known c.loop-j.next
          w.lay_stretch.auto.known
          (omega (arith, run.in_field w.if-at-lt-BYTES.true, c.loop-j.auto.known, c.requires.known))
          (record { laid = w.lay_stretch.ensures.laid; others = w.lay_stretch.ensures.others })))
      | else-at-lt-BYTES w ↦
          let down = w.lay_stretch-else-at-lt-BYTES in
          let new : c.if-at-lt-BYTES.known ++ c.if-at-lt-BYTES.next ≡ c.loop-j.known ++ down.new.known =
          ap₂ (λ (xs ys : List (Option ℕ)). xs ++ ys) w.known-is w.next-is in
          subst (IsLaidTo word c.args.k (c.loop-j.j + count) first) (sym new)
          (laid_on word c.args.k c.loop-j.j count at first _ _ run.spaced within c.loop-j.invariant
          (laid_behind word c.loop-j.j count at 64584 c.loop-j.known c.loop-j.next down.new.known
          (c.loop-j.auto.known ∙ c.requires.known) w.if-at-lt-BYTES.false
          (record { laid = down.ensures.laid; others = down.ensures.others })))
    ]
