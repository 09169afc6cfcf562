use Rattle.std.proofs.Common.{◌≡◌, ◌+◌, ◌-◌, ◌<◌, ◌++◌, ℕ, ℤ, List, append_assoc, drop, length, length-drop, map}
use Rattle.std.proofs.Common.{take, sym, ap, ◌∙◌, subst, arith}
use Rattle.std.proofs.Math.Seq.{take-add}
use Rattle.std.proofs.lemmas.Grind.{flat_map-append}
use Rattle.std.proofs.lemmas.List.{map-append, take_all}
use Rattle.dtx_files.specs.Symbols.{byte_of_symbol}
use Rattle.dtx_level.specs.Levelled.{levelled_so_far}
use Rattle.dtx_level.specs.Leveller.{StandsFor, all_given, as_list}
use Rattle.dtx_level.specs.Measures.{measure_text, measures_text, measures_so_far}
use Rattle.dtx_jobs.specs.Levelling.{bytes_brought}
use Rattle.dtx_jobs.proofs.LevelLemmas.{nothing_brought}
use Rattle.dtx_jobs.proofs.levelling.level_all.Goals as goal

-- the symbols that are left, as they are cut off
rest : (piece : List ℤ) (done : ℕ) → take (length piece - done) (drop done piece) ≡ drop done piece
rest piece done = take_all (length piece - done) (drop done piece) (omega (arith, length-drop done piece))

-- some symbols more
more_taken : (before piece : List ℤ) (done n : ℕ)
    → (before ++ take done piece) ++ take n (take (length piece - done) (drop done piece))
    ≡ before ++ take (done + n) piece
more_taken before piece done n =
    append_assoc before (take done piece) (take n (take (length piece - done) (drop done piece)))
    ∙ ap (λ xs. before ++ (take done piece ++ take n xs)) (rest piece done)
    ∙ ap (λ xs. before ++ xs) (sym (take-add done n piece))

pub loop-done-smaller : goal.loop-done-smaller
loop-done-smaller c =
    let before = c.requires.stands in
    let piece = c.args.piece.now in
    let done = c.loop-done.done in
    let left = length-drop done piece in
    let cut = ap length (rest piece done) in
    let some : 0 < length (take (length piece - done) (drop done piece)) =
    omega (arith, left, cut, c.loop-done-test.true) in
    let more = c.take-done.ensures.some (before.0 ++ take done piece)
    (c.loop-done.invariant.stands before.0 before.1) some in
    omega (arith, more, c.loop-done-test.true)

pub add-requires-clause-first : goal.add-requires-clause-first
add-requires-clause-first c = λ some.
    let before = c.requires.stands in
    let inv = c.loop-done.invariant in
    let done = before.0 ++ take c.loop-done.done c.args.piece.now in
    nothing_brought (map byte_of_symbol (levelled_so_far before.0)) c.loop-done.brought.zeros
    c.loop-done.brought.symbols
    (sym (ap (map byte_of_symbol) (c.take-done.ensures.zeros done (inv.stands before.0 before.1) some))
    ∙ inv.symbols_are before.0 before.1)

pub loop-done-preserved : goal.loop-done-preserved
loop-done-preserved c =
    let piece = c.args.piece.now in
    let done = c.loop-done.done in
    let n = c.take-done.result in
    let inv = c.loop-done.invariant in
    let now = c.take-done.new.self in
    let left = length-drop done piece in
    let cut = ap length (rest piece done) in
    let next : c.args.leveller.now.symbols + done + n ≡ c.args.leveller.now.symbols + (done + n) = omega arith in
    record {
      within = omega (arith, left, cut, c.take-done.ensures.within, c.loop-done-test.true);
      stands = λ before h.
          subst (StandsFor now) (more_taken before piece done n)
          (c.take-done.ensures.stands (before ++ take done piece) (inv.stands before h));
      symbols_are = λ before h.
          let was = levelled_so_far (before ++ take done piece) in
          let first = map byte_of_symbol (levelled_so_far before) in
          ap (λ (s : List ℤ). map byte_of_symbol (levelled_so_far s)) (sym (more_taken before piece done n))
          ∙ ap (map byte_of_symbol) (c.take-done.ensures.given (before ++ take done piece) (inv.stands before h))
          ∙ map-append byte_of_symbol was (all_given now)
          ∙ ap (λ (b : List ℕ). b ++ map byte_of_symbol (all_given now)) (inv.symbols_are before h)
          ∙ append_assoc first (bytes_brought c.loop-done.brought) (map byte_of_symbol (all_given now))
          ∙ ap (λ (b : List ℕ). first ++ b) (sym c.add.ensures.symbols);
      lines = λ before h.
          let was = measures_so_far (before ++ take done piece) in
          let first = measures_text (measures_so_far before) in
          ap (λ (s : List ℤ). measures_text (measures_so_far s)) (sym (more_taken before piece done n))
          ∙ ap measures_text (c.take-done.ensures.measured (before ++ take done piece) (inv.stands before h))
          ∙ flat_map-append measure_text was (as_list now.measured)
          ∙ ap (λ (b : List ℕ). b ++ measures_text (as_list now.measured)) (inv.lines before h)
          ∙ append_assoc first c.loop-done.brought.lines (measures_text (as_list now.measured))
          ∙ ap (λ (b : List ℕ). first ++ b) (sym c.add.ensures.lines);
      count = c.take-done.ensures.symbols ∙ ap (λ k. k + n) inv.count ∙ next;
      room = omega (arith, c.add.ensures.long, c.take-done.ensures.room, inv.room);
      short = omega (arith, c.add.ensures.long, c.add.ensures.short, c.take-done.ensures.lines, inv.short);
    }

pub returns : goal.returns
returns c =
    let all = take_all c.loop-done.done c.args.piece.now c.loop-done-test.false in
    record {
      stands = λ before h.
          subst (λ (xs : List ℤ). StandsFor c.loop-done.leveller (before ++ xs)) all
          (c.loop-done.invariant.stands before h);
      symbols_are = λ before h.
          cc (all, c.loop-done.invariant.symbols_are before h);
      lines = λ before h.
          cc (all, c.loop-done.invariant.lines before h);
    }
