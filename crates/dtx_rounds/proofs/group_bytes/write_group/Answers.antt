use Rattle.std.proofs.Common.{ℕ, ℤ, ◌<◌, List, [], get_or, length, take, refl, sym, subst, ◌∙◌, arith}
use Rattle.std.specs.List.{flat_map}
use Rattle.std.proofs.lemmas.List.{get_or-replicate}
use Rattle.dtx_slice.specs.Slicing.{sliced_data}
use Rattle.dtx_receiver.proofs.SegmentsLemmas.{segment_long}
use Rattle.dtx_rounds.proofs.GroupBytes.{flat_more, levels_put}
use Rattle.dtx_rounds.proofs.group_bytes.write_group.Goals as goal

pub loop-i-init : goal.loop-i-init
loop-i-init c = record {
  small = λ i l. subst (λ x. x < 8) (sym (get_or-replicate {A = ℕ} 3312 i 0 0 l)) (omega arith);
  long = refl;
  written = refl;
}

pub loop-i-preserved : goal.loop-i-preserved
loop-i-preserved c =
    let i : ℕ = c.loop-i.i in
    let segments : List (List ℤ) = c.args.segments.now in
    let x : List ℤ = get_or segments i [] in
    let l : i < length segments = omega (arith, c.loop-i-test.true, c.requires.four) in
    record {
      small = c.put_levels.ensures.small c.loop-i.invariant.small;
      long = c.put_levels.array_long;
      written = levels_put i c.loop-i.levels c.put_levels.new.group (sliced_data x)
          (flat_map sliced_data (take i segments)) c.loop-i.invariant.long c.loop-i-test.true
          (segment_long x (c.told-segments i l)) c.put_levels.ensures.levels c.loop-i.invariant.written
          ∙ sym (flat_more sliced_data segments i l);
    }
