use Rattle.std.proofs.Common.{ℕ, ◌+◌, ◌∙◌, List, length, ap, arith, get_or}
use Rattle.std.proofs.lemmas.List.{length-replicate}
use Rattle.dtx_galois.specs.Field.{pow}
use Rattle.dtx_fast.specs.Recurrence.{walked}
use Rattle.dtx_fast.proofs.RowsLemmas.{walked_front}
use Rattle.dtx_fast.proofs.Blocks.{not_moved, moved_more, block_value, blocks_more}
use Rattle.dtx_fast.proofs.places.Places.walk.Goals as goal

pub loop-block-init : goal.loop-block-init
loop-block-init c =
    let cs : List ℕ = c.args.found.now.coefficients in
    let copied = c.copied-coefficients in
    record {
      done = λ q l. absurd (omega (arith, l));
      moved = λ k l. ap (λ xs. get_or xs k 0) copied.ensures.same
          ∙ not_moved (pow 2 254) k (get_or cs k 0) (copied.ensures.bytes k);
      long = ap length copied.ensures.same ∙ c.args.found.now.long;
      room = length-replicate {A = ℕ} 256 0;
    }

pub loop-block-preserved : goal.loop-block-preserved
loop-block-preserved c =
    let self = c.args.self.now in
    let found = c.args.found.now in
    let b : ℕ = c.loop-block.block in
    let w : ℕ = found.order + 1 in
    let g : ℕ = pow 2 254 in
    let cs : ℕ → ℕ = λ i. get_or found.coefficients i 0 in
    let ds : List ℕ = c.loop-block.coefficients in
    let kept = c.loop-block.invariant in
    record {
      done = blocks_more b c.loop-block.values c.put.new.values c.walk-next.result (λ q. walked w cs (pow g q))
          kept.done c.put.ensures.before c.put.ensures.block
          (λ r l. c.walk-next.ensures.values r l ∙ walked_front w (pow self.rows.base.0 r) ds
          (omega (arith, kept.long, found.room))
          ∙ ap (λ (a : ℕ). walked w (λ i. get_or ds i 0) (pow a r)) self.inverses
          ∙ block_value w g b r cs (λ i. get_or ds i 0) kept.moved);
      moved = λ k l. moved_more g b k (cs k) (get_or ds k 0) (get_or c.move_on.new.coefficients k 0) (kept.moved k l)
          (c.move_on.ensures.moved k l);
      long = c.move_on.ensures.long;
      room = c.put.ensures.long;
    }
