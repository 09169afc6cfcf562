use Rattle.std.proofs.Common.{◌≡◌, ℕ, ◌+◌, ◌*◌, ◌/◌, ◌%◌, ◌<◌, ◌++◌, List, [], length, get_or, take, drop, subst, sym}
use Rattle.std.proofs.Common.{ap, ◌∙◌, append_assoc, arith}
use Rattle.std.proofs.Math.Seq.{take-add}
use Rattle.std.proofs.lemmas.List.{take_all, length-append, length-drop, length-take-le}
use Rattle.dtx_outer.specs.Inner.{IsTaken}
use Rattle.dtx_outer.specs.declared.inner.Taken.TheVariants.{None}
use Rattle.dtx_receiver.specs.Packets.{early_of}
use Rattle.dtx_receiver.proofs.Giving.{gives, with_more}
use Rattle.dtx_receiver.proofs.outer_decoding.give_through.Goals as goal

next : (i : ℕ) → 207 * i + 207 ≡ 207 * (i + 1)
next i = omega arith

-- block p is one of four
of_four : (p : ℕ) → 4 * (p / 4) + p % 4 ≡ p
of_four p = omega arith

pub loop-p-preserved : goal.loop-p-preserved
loop-p-preserved c =
    let p : ℕ = c.loop-p.p in
    let bytes : List ℕ = c.args.bytes.now in
    let inv = c.loop-p.invariant in
    let groups : ℕ = length c.args.heads.now in
    let l : p < 4 * groups = omega (arith, c.loop-p-test.true, c.take_fours.auto.outs) in
    let part : List ℕ = take 207 (drop (207 * p) bytes) in
    let long : length part ≡ 207 =
    length-take-le 207 (drop (207 * p) bytes) (omega (arith, length-drop (207 * p) bytes, c.requires.heads, l)) in
    let come : length (take (207 * p) bytes) ≡ 207 * p =
    length-take-le (207 * p) bytes (omega (arith, c.requires.heads, l)) in
    let more : (before : List ℕ) → (before ++ take (207 * p) bytes) ++ part ≡ before ++ take (207 * (p + 1)) bytes =
    λ before. append_assoc before (take (207 * p) bytes) part
    ∙ ap (λ xs. before ++ xs) (sym (take-add (207 * p) 207 bytes) ∙ ap (λ n. take n bytes) (next p)) in
    record {
      packets = λ before given s f. ap early_of (sym (more before))
          ∙ with_more (before ++ take (207 * p) bytes) ((before ++ take (207 * p) bytes) ++ part) given
          c.loop-p.batch.packets.items c.hand.new.batch.packets.items _
          (gives c.args.inner.now.white (before ++ take (207 * p) bytes) part _ _ (s.blocks + p) _ c.requires.white
          (omega (arith, length-append before (take (207 * p) bytes), s.given, come)) long
          (subst (λ j. IsTaken 207 187 52 4 c.args.inner.now.white (before ++ take (207 * j) bytes)
          (take 207 (drop (207 * j) bytes)) (get_or (get_or c.args.heads.now (p / 4) []) (p % 4) [])
          (get_or (get_or c.take_fours.new.outs (p / 4) []) (p % 4) [])
          (get_or (get_or c.take_fours.new.taken (p / 4) []) (p % 4) None)) (of_four p)
          (c.take_fours.ensures.taken before (p / 4) (p % 4) s (omega (arith, l)) (omega arith))))
          c.hand.ensures.packets (inv.packets before given s f);
      few = omega (arith, inv.few, c.hand.ensures.few);
    }

pub returns-clause-packets : goal.returns-clause-packets
returns-clause-packets c =
    let bytes : List ℕ = c.args.bytes.now in
    let e : c.loop-p.p ≡ 4 * length c.args.heads.now =
    omega (arith, c.loop-p-test.false, c.loop-p.auto.p-end, c.take_fours.auto.outs) in
    λ before given s f.
    ap (λ xs. early_of (before ++ xs)) (sym (take_all (207 * c.loop-p.p) bytes (omega (arith, e, c.requires.heads))))
    ∙ c.loop-p.invariant.packets before given s f
