use Rattle.std.proofs.Common.{sym, append_assoc, ◌≡◌, ℕ, ℤ, ◌+◌, ◌-◌, ◌<◌, ◌≤◌, List, [], ◌∷◌, ◌++◌, length, map, take}
use Rattle.std.proofs.Common.{get_or, ap, subst, ◌∙◌, arith}
use Rattle.std.proofs.lemmas.List.{length-append, length-map, length-take-le, map-append, take_all, take_more}
use Rattle.dtx_receiver.specs.Receiver.{AreGrouped}
use Rattle.dtx_receiver.specs.Bytes.{symbols_in, symbols_of}
use Rattle.dtx_erase.specs.Marks.{shown, shown_run}
use Rattle.dtx_erase.specs.Sides.{Side}
use Rattle.dtx_erase.proofs.Quiet.{bits_zero}
use Rattle.dtx_erase.proofs.mark_side.take_marks.Goals as goal

-- one segment more
more : (run : List (List ℤ)) (segments : List (List ℕ)) (i : ℕ) → i < length segments
    → (run ++ shown_run (symbols_in (take i segments))) ++ map shown (symbols_of (get_or segments i [])) ∷ []
    ≡ run ++ shown_run (symbols_in (take (i + 1) segments))
more run segments i l =
    append_assoc run (shown_run (symbols_in (take i segments))) (map shown (symbols_of (get_or segments i [])) ∷ [])
    ∙ ap (λ z. run ++ z) (sym (ap (λ z. shown_run (symbols_in z)) (take_more segments i [] l)
    ∙ ap shown_run (map-append symbols_of (take i segments) (get_or segments i [] ∷ []))
    ∙ map-append (map shown) (symbols_in (take i segments)) (symbols_of (get_or segments i []) ∷ [])))

-- how many segments the run has then
now : (run : List (List ℤ)) (segments : List (List ℕ)) (i : ℕ) → i ≤ length segments
    → length (run ++ shown_run (symbols_in (take i segments))) ≡ length run + i
now run segments i l = length-append run (shown_run (symbols_in (take i segments)))
    ∙ omega (
      arith,
      length-map (symbols_in (take i segments)) (map shown),
      length-map (take i segments) symbols_of,
      length-take-le i segments l,
    )

pub loop-i-preserved : goal.loop-i-preserved
loop-i-preserved c =
    let i : ℕ = c.loop-i.i in
    let segments : List (List ℕ) = c.args.segments.now in
    let l : i < length segments = c.loop-i-test.true in
    record {
      long = omega (arith, c.to_symbols.auto.symbols, c.loop-i.invariant.long);
      rest = c.take.ensures.rest
          ∙ ap (λ (s : Side). record s { groups = c.take.new.self.groups }) c.loop-i.invariant.rest;
      grouped = λ run given d e.
          let before = run ++ shown_run (symbols_in (take i segments)) in
          subst (λ s. AreGrouped c.take.new.self.groups s given)
          (ap (λ y. before ++ y ∷ []) (c.as_marks.ensures ∙ ap (map shown) c.to_symbols.ensures)
          ∙ more run segments i l)
          (c.take.ensures.grouped before given (c.loop-i.invariant.grouped run given d e)
          (omega (arith, now run segments i (omega (arith, l)), e, l, c.requires.place)));
      held = omega (arith, c.take.ensures.held, c.loop-i.invariant.held);
      lowest = λ _ z e. grind (arith, bits_zero, c.take.ensures.bits);
    }

pub returns-clause-grouped : goal.returns-clause-grouped
returns-clause-grouped c = λ run given d e.
    subst (λ xs. AreGrouped c.loop-i.side.groups (run ++ shown_run (symbols_in xs)) given)
    (grind (arith, take_all, c.loop-i-test.false)) (c.loop-i.invariant.grouped run given d e)
