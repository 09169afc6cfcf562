use Rattle.std.proofs.Common.{◌≡◌, suc, ◌+◌, ◌-◌, ◌*◌, ◌≤◌, [], ◌++◌, length, get_or, set, take, drop, refl, sym, ap}
use Rattle.std.proofs.Common.{◌∙◌, arith}
use Rattle.std.proofs.Math.Nat.{mul-le-mul_right, suc-mul}
use Rattle.std.proofs.lemmas.List.{map-set, get_or-map, length-map, length-set, length-take-le, length-drop}
use Rattle.dtx_spread.specs.Rings.{lists_of}
use Rattle.dtx_spread.proofs.Tiling.{exchanged_on}
use Rattle.dtx_spread.proofs.Written.{length_written}
use Rattle.dtx_spread.proofs.rings.exchange_columns.Goals as goal

pub loop-c-preserved : goal.loop-c-preserved
loop-c-preserved c =
    let n = c.loop-c.c in
    let h = c.loop-c.invariant in
    let rings = c.loop-c.rings in
    let at = c.branch_at-branch.result in
    let s = c.args.rows.stride in
    let start = n * s in
    let count = c.count_of.result in
    let e = c.exchange_at in
    let z = start + s - start in
    let part = take z (drop start c.args.come.now) in
    let exact : z ≡ s = omega arith in
    let within : suc n * s ≤ c.args.places.width * s = mul-le-mul_right s (omega (arith, c.loop-c-test.true)) in
    let room : start + s ≤ length c.loop-c.gone = omega (arith, h.room, within, suc-mul n s, c.requires.gone) in
    let went : length e.new.gone ≡ z =
    e.auto.gone
    ∙ length-take-le z (drop start c.loop-c.gone) (omega (arith, room, exact, length-drop start c.loop-c.gone)) in
    let item : (get_or rings at c.index-rings-branch.result).items ≡ get_or (lists_of rings) at [] =
    sym (get_or-map (λ r. r.items) rings at c.index-rings-branch.result []
    (omega (arith, c.branch_at-branch.ensures.below, h.count))) in
    record {
      exchanged = exchanged_on (length c.args.rings.now) c.args.places.next c.args.places.first n s c.args.rows.whole
          c.args.rows.rest at count start z z (lists_of c.args.rings.now) (lists_of rings)
          (lists_of (set rings at e.new.ring)) c.args.come.now part c.loop-c.gone e.new.gone c.requires.places.0
          (omega (arith, c.loop-c-test.true, c.requires.places.1)) (length-map rings (λ r. r.items) ∙ h.count)
          refl (omega (arith, room)) c.count_of.ensures.is c.requires.rows.1 exact
          (went ∙ exact) c.branch_at-branch.ensures.is refl
          (map-set (λ r. r.items) rings at e.new.ring
          ∙ ap (set (lists_of rings) at) (e.ensures.items
          ∙ ap (λ xs. drop count (xs ++ take count part)) item))
          (λ k l. e.ensures.gone k l ∙ ap (λ xs. get_or (xs ++ take count part) k 0) item) h.exchanged;
      count = length-set rings at e.new.ring ∙ h.count;
      room = length_written start z c.loop-c.gone e.new.gone (omega (arith, room, exact)) went ∙ h.room;
    }
