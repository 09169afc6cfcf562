use Rattle.std.proofs.Common.{◌≡◌, ℕ, ℤ, ◌+◌, ◌<◌, ◌≤◌, List, [], ◌∷◌, ◌++◌, length, take, get_or, refl, sym, ap, subst}
use Rattle.std.proofs.Common.{◌∙◌, arith, append_assoc}
use Rattle.std.proofs.lemmas.List.{append-nil, length-append, length-map, length-take-le, map-append, take_all}
use Rattle.std.proofs.lemmas.List.{take_more}
use Rattle.dtx_receiver.specs.Receiver.{AreGrouped}
use Rattle.dtx_receiver.specs.Bytes.{symbols_in, symbols_of}
use Rattle.dtx_receiver.proofs.groups.Groups.take_all.Goals as goal

-- one segment more
more : (run : List (List ℤ)) (segments : List (List ℕ)) (i : ℕ) → i < length segments
    → (run ++ symbols_in (take i segments)) ++ symbols_of (get_or segments i []) ∷ []
    ≡ run ++ symbols_in (take (i + 1) segments)
more run segments i l =
    append_assoc run (symbols_in (take i segments)) (symbols_of (get_or segments i []) ∷ [])
    ∙ ap (λ z. run ++ z) (sym (ap symbols_in (take_more segments i [] l)
    ∙ map-append symbols_of (take i segments) (get_or segments i [] ∷ [])))

-- how many segments the run has then
now : (run : List (List ℤ)) (segments : List (List ℕ)) (i : ℕ) → i ≤ length segments
    → length (run ++ symbols_in (take i segments)) ≡ length run + i
now run segments i l =
    length-append run (symbols_in (take i segments))
    ∙ omega (arith, length-map (take i segments) symbols_of, length-take-le i segments l)

pub loop-i-init : goal.loop-i-init
loop-i-init c = record {
  long = refl;
  grouped = λ run given d e. subst (λ s. AreGrouped c.args.self.now s given) (sym (append-nil run)) d;
  held = omega (arith, ap length c.requires.none);
}

pub loop-i-preserved : goal.loop-i-preserved
loop-i-preserved c =
    let i : ℕ = c.loop-i.i in
    let segments : List (List ℕ) = c.args.segments.now in
    let l : i < length segments = c.loop-i-test.true in
    record {
      long = omega (arith, c.to_symbols.auto.symbols, c.loop-i.invariant.long);
      grouped = λ run given d e.
          let x : List ℤ = c.to_symbols.new.symbols in
          let before = run ++ symbols_in (take i segments) in
          subst (λ s. AreGrouped c.take.new.self s given)
          (ap (λ y. before ++ y ∷ []) c.to_symbols.ensures ∙ more run segments i l)
          (c.take.ensures.grouped before given (c.loop-i.invariant.grouped run given d e)
          (omega (arith, now run segments i (omega (arith, l)), e, l, c.requires.place)));
      held = omega (arith, c.take.ensures.held, c.loop-i.invariant.held);
    }

pub returns-clause-grouped : goal.returns-clause-grouped
returns-clause-grouped c = λ run given d e.
    subst (λ xs. AreGrouped c.loop-i.self (run ++ symbols_in xs) given)
    (take_all c.loop-i.i c.args.segments.now (omega (arith, c.loop-i-test.false)))
    (c.loop-i.invariant.grouped run given d e)
