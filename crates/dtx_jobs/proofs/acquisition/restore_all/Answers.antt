use Rattle.std.proofs.Common.{◌≡◌, ◌+◌, ◌-◌, ◌<◌, ◌≤◌, ◌++◌, ℕ, ℤ, List, append_assoc, drop, length, length-drop}
use Rattle.std.proofs.Common.{length-append, take, take-append-drop, refl, sym, ap, ◌∙◌, subst, arith}
use Rattle.std.proofs.Math.Seq.{take-add}
use Rattle.std.proofs.lemmas.List.{append-nil, take_all}
use Rattle.dtx_files.proofs.AppendedLemmas.{segment_bytes-append}
use Rattle.dtx_files.specs.Symbols.{segment_bytes}
use Rattle.dtx_recipes.specs.Restoring.{Restoring}
use Rattle.dtx_jobs.proofs.acquisition.restore_all.Goals as goal

-- the symbols that are left, as they are cut off
rest : (piece : List ℤ) (done : ℕ) → take (length piece - done) (drop done piece) ≡ drop done piece
rest piece done = take_all (length piece - done) (drop done piece) (omega (arith, length-drop done piece))

-- some symbols more
more_taken : (before piece : List ℤ) (done n : ℕ)
    → (before ++ take done piece) ++ take n (take (length piece - done) (drop done piece))
    ≡ before ++ take (done + n) piece
more_taken before piece done n =
    append_assoc before (take done piece) (take n (take (length piece - done) (drop done piece)))
    ∙ ap (λ xs. before ++ (take done piece ++ take n xs)) (rest piece done)
    ∙ ap (λ xs. before ++ xs) (sym (take-add done n piece))

-- they are no more than all
most_left : (before piece : List ℤ) (done most : ℕ) → length before + length piece ≤ most
    → length (before ++ take done piece) + length (take (length piece - done) (drop done piece)) ≤ most
most_left before piece done most few =
    omega (
      arith,
      few,
      length-append before (take done piece),
      length-append (take done piece) (drop done piece),
      ap length (take-append-drop done piece),
      ap length (rest piece done),
    )

pub loop-done-init : goal.loop-done-init
loop-done-init g c =
    let made = g.R.Restorer.restoring c.args.restorer.now in
    record {
      within = omega arith;
      stands = λ before is. subst (g.R.Restorer.stands c.args.restorer.now) (sym (append-nil before)) is;
      made = λ before is.
          cc (append-nil before, append-nil (segment_bytes (made.so_far before)), c.requires.empty);
      kept = refl;
      room = omega (arith, ap length c.requires.empty);
    }

pub take-done-requires : goal.take-done-requires
take-done-requires g c =
    let before = c.requires.most in
    let piece = c.args.piece.now in
    let done = c.loop-done.done in
    record {
      most = (
        before.0 ++ take done piece,
        c.loop-done.invariant.stands before.0 before.1,
        most_left before.0 piece done 520832000000 before.2,
      );
    }

pub push_all-requires : goal.push_all-requires
push_all-requires g c =
    let before = c.requires.most in
    let piece = c.args.piece.now in
    let done = c.loop-done.done in
    let few = c.known.ensures.held before.0 before.1 in
    let cut = ap length (rest piece done) in
    omega (
      arith,
      few,
      c.known.ensures.room,
      c.requires.few,
      c.loop-done.invariant.room,
      c.take-done.ensures.room,
      c.take-done.ensures.within,
      ap length c.given.ensures,
      cut,
      length-drop done piece,
      c.loop-done-test.true,
    )

pub loop-done-smaller : goal.loop-done-smaller
loop-done-smaller g c =
    let before = c.requires.most in
    let piece = c.args.piece.now in
    let done = c.loop-done.done in
    let left = length-drop done piece in
    let cut = ap length (rest piece done) in
    let some : 0 < length (take (length piece - done) (drop done piece)) =
    omega (arith, left, cut, c.loop-done-test.true) in
    let more = c.take-done.ensures.some (before.0 ++ take done piece)
    (c.loop-done.invariant.stands before.0 before.1) some in
    omega (arith, more, c.loop-done-test.true)

pub loop-done-preserved : goal.loop-done-preserved
loop-done-preserved g c =
    let made = g.R.Restorer.restoring c.args.restorer.now in
    let piece = c.args.piece.now in
    let done = c.loop-done.done in
    let n = c.take-done.result in
    let inv = c.loop-done.invariant in
    let left = length-drop done piece in
    let cut = ap length (rest piece done) in
    let brought : List (List ℤ) = g.R.Restorer.given c.take-done.new.self in
    record {
      within = omega (arith, left, cut, c.take-done.ensures.within, c.loop-done-test.true);
      stands = λ before is.
          subst (g.R.Restorer.stands c.take-done.new.self) (more_taken before piece done n)
          (c.take-done.ensures.stands (before ++ take done piece) (inv.stands before is));
      made = λ before is.
          ap (λ (s : List ℤ). segment_bytes (made.so_far s)) (sym (more_taken before piece done n))
          ∙ ap segment_bytes (subst (λ (r : Restoring).
          r.so_far ((before ++ take done piece) ++ take n (take (length piece - done) (drop done piece)))
          ≡ r.so_far (before ++ take done piece) ++ brought) inv.kept
          (c.take-done.ensures.made (before ++ take done piece) (inv.stands before is)))
          ∙ segment_bytes-append (made.so_far (before ++ take done piece)) brought
          ∙ ap (λ z. z ++ segment_bytes brought) (inv.made before is)
          ∙ append_assoc (segment_bytes (made.so_far before)) c.loop-done.gathered (segment_bytes brought)
          ∙ ap (λ z. segment_bytes (made.so_far before) ++ z)
          (sym (c.push_all.ensures.bytes ∙ ap (λ s. c.loop-done.gathered ++ segment_bytes s) c.given.ensures));
      kept = c.take-done.ensures.kept ∙ inv.kept;
      room = omega (arith, c.push_all.ensures.long, c.take-done.ensures.room, inv.room, ap length c.given.ensures);
    }

pub returns-clause-restored : goal.returns-clause-restored
returns-clause-restored g c =
    let made = g.R.Restorer.restoring c.args.restorer.now in
    let all = take_all c.loop-done.done c.args.piece.now c.loop-done-test.false in
    record {
      stands = λ before is.
          subst (λ (xs : List ℤ). g.R.Restorer.stands c.loop-done.restorer (before ++ xs)) all
          (c.loop-done.invariant.stands before is);
      made = λ before is.
          cc (all, c.loop-done.invariant.made before is);
    }
