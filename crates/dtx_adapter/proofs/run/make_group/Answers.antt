use Rattle.std.proofs.Common.{◌≡◌, ◌⊎◌, inl, inr, ℕ, suc, ◌+◌, ◌/◌, ◌%◌, ◌<◌, ◌≤◌, Bool, true, false, refl, cond}
use Rattle.std.proofs.Common.{List, [], ◌∷◌, ◌++◌, length, take, drop, get_or, sym, ap, subst, ◌∙◌, arith, append_assoc}
use Rattle.std.proofs.lemmas.List.{length-append, take_all, length-set, length-take-le, drop-set-lt, take_more}
use Rattle.std.proofs.lemmas.List.{take_more_set}
use Rattle.dtx_coder.specs.Stream.{states}
use Rattle.dtx_adapter.specs.Feed.{is_placeholder, placeholders, as_feed_packet, feed}
use Rattle.dtx_adapter.specs.Filling.{Filling, Fills, filled_ops}
use Rattle.dtx_adapter.proofs.FeedsLemmas.{placeholders-append, placeholders-one}
use Rattle.dtx_adapter.proofs.MakingLemmas.{fills_none, made_none, fills_next, made_next, still_given}
use Rattle.dtx_adapter.proofs.Runs.{not_one}
use Rattle.dtx_adapter.proofs.run.make_group.Goals as goal
use Rattle.dtx_adapter.proofs.run.make_group.Goals.{then-make, else-make}

pub loop-i-init : goal.loop-i-init
unfolding placeholders
loop-i-init c = record {
  long = refl;
  rest = refl;
  filled = refl;
  few = omega arith;
  told = refl;
  fills = λ plan stream fills long whole. fills_none plan c.args.filler.now stream (c.args.first / 4) fills;
  fed = λ plan stream fills long whole told. made_none plan stream;
}

-- the count of one packet more
more_filled : (b : Bool) (filled : ℕ) (given : List (List ℕ)) (p : List ℕ) → b ≡ is_placeholder p
    → filled ≡ placeholders given → filled + cond b 1 0 ≡ placeholders (given ++ p ∷ [])
more_filled b filled given p is e =
    ap (λ n. n + cond b 1 0) e
    ∙ ap (λ x. placeholders given + cond x 1 0) is
    ∙ ap (λ n. placeholders given + n) (sym (placeholders-one p))
    ∙ sym (placeholders-append given (p ∷ []))

none_filled : (b : Bool) (n m : ℕ) → b ≡ false → m ≡ n → m ≡ n + cond b 1 0
none_filled true n m is e = absurd cc
none_filled false n m is e = omega (arith, e)

at_most_one : (b : Bool) → cond b 1 0 ≤ 1
at_most_one true = omega arith
at_most_one false = omega arith

pub loop-i-preserved : goal.loop-i-preserved
loop-i-preserved c =
    let old = c.args.packets.now in
    let now = c.loop-i.packets in
    let i : ℕ = c.loop-i.i in
    let p : List ℕ = get_or old i [] in
    let before = c.loop-i.invariant in
    let filler : Filling = c.loop-i.filler in
    let here : i < length old = c.loop-i-test.true in
    let still = still_given old now i [] here before.long before.rest in
    let given = take_more old i [] here in
    let adds : c.if-make.filled ≡ c.loop-i.filled + cond c.make.result 1 0 = elim c.if-make.branch [
      | then-make w ↦ w.filled-is ∙ ap (λ b. c.loop-i.filled + cond b 1 0) (sym w.if-make.true)
      | else-make w ↦ none_filled c.make.result c.loop-i.filled c.if-make.filled w.if-make.false w.filled-is
    ] in
    let was : is_placeholder (get_or now i []) ≡ is_placeholder p = ap is_placeholder still.0 in
    let counted : c.make.new.self ≡ record filler {
      counter = cond (is_placeholder p) ((filler.counter + 1) % 16) filler.counter;
      filled = cond (is_placeholder p) true filler.filled;
    } =
    c.make.ensures.counted
    ∙ ap (λ b. record filler {
      counter = cond b ((filler.counter + 1) % 16) filler.counter;
      filled = cond b true filler.filled;
    }) was in
    let u : ℕ = c.args.first / 4 in
    let long_given : length (take i old) ≡ i = length-take-le i old (omega arith) in
    let few_given : length (take i old) < 4 = omega arith in
    let tells : (q : List ℕ) → (placeholders old ≡ 0) ⊎ (c.args.filler.now.states ≡ q)
    → (is_placeholder p ≡ false) ⊎ (filler.states ≡ q) =
    λ q said. elim said [
      | inl none ↦ inl (not_one old i [] here none)
      | inr known ↦ inr (before.told ∙ known)
    ] in
    record {
      long = length-set now i c.make.new.bytes ∙ before.long;
      rest = drop-set-lt (i + 1) now i c.make.new.bytes (omega arith)
          ∙ (let one : i + 1 ≡ suc i = omega arith in ap (λ n. drop n now) one ∙ still.1
          ∙ ap (λ n. drop n old) (sym one));
      filled = adds ∙ more_filled c.make.result c.loop-i.filled (take i old) p (c.make.ensures.placeholder
          ∙ was) before.filled ∙ ap placeholders (sym given);
      few = omega (arith, adds, at_most_one c.make.result, before.few);
      told = ap (λ (f : Filling). f.states) counted ∙ before.told;
      fills = λ plan stream fills long whole.
          let at = length-append stream (take i old) in
          subst (λ front. Fills plan c.make.new.self (stream ++ front) u) (sym given)
          (subst (λ whole. Fills plan c.make.new.self whole u) (append_assoc stream (take i old) (p ∷ []))
          (fills_next plan filler c.make.new.self (stream ++ take i old) p u
          (before.fills plan stream fills long whole) (omega (arith, at, long, whole))
          (omega (arith, at, long, whole, few_given)) counted));
      fed = λ plan stream fills long whole told.
          let group : (c.args.first + i) / 4 ≡ u = omega (arith, whole, few_given, long_given) in
          take_more_set now i c.make.new.bytes (omega arith)
          ∙ ap (λ q. take i now ++ q ∷ []) (c.make.ensures.made
          ∙ ap (as_feed_packet (filled_ops filler (c.args.first + i)) filler.counter (c.args.first + i)) still.0)
          ∙ made_next plan filler stream (take i old) (take i now) p (c.args.first + i)
          (subst (Fills plan filler (stream ++ take i old)) (sym group) (before.fills plan stream fills long whole))
          (ap (λ n. n % 4) long ∙ whole) few_given (omega (arith, long_given, long))
          (tells (states (feed plan stream)) told) (before.fed plan stream fills long whole told)
          ∙ ap (λ front. drop (length stream) (feed plan (stream ++ front))) (sym given);
    }

pub returns : goal.returns
returns c =
    let old = c.args.packets.now in
    let now = c.loop-i.packets in
    let i : ℕ = c.loop-i.i in
    let all : take i old ≡ old = take_all i old c.loop-i-test.false in
    record {
      fed = λ plan stream fills long whole told.
          sym (take_all i now (omega (arith, c.loop-i.invariant.long)))
          ∙ c.loop-i.invariant.fed plan stream fills long whole told
          ∙ ap (λ front. drop (length stream) (feed plan (stream ++ front))) all;
      fills = λ plan stream fills long whole.
          subst (λ front. Fills plan c.loop-i.filler (stream ++ front) (c.args.first / 4)) all
          (c.loop-i.invariant.fills plan stream fills long whole);
      filled = c.loop-i.invariant.filled ∙ ap placeholders all;
    }
