use Rattle.std.proofs.Common.{◌≡◌, ℕ, ◌+◌, ◌-◌, ◌*◌, ◌≤◌, ◌++◌, length, drop, take, sym, ap, subst, ◌∙◌}
use Rattle.std.proofs.Common.{arith, below_more}
use Rattle.std.proofs.lemmas.Slice.{drop-put_mid}
use Rattle.dtx_lists.proofs.Written.{length-put_mid}
use borrow.Rule.Slice.PartMut.{put_mid}
use Rattle.dtx_frame.specs.Segments.{segment_sync}
use Rattle.dtx_frame.proofs.SymbolsLemmas.{in_front_is, length_sync}
use Rattle.dtx_frame.proofs.Parts.{part_put, piece_before, behind_too}
use Rattle.dtx_frame.proofs.data.put_segment_syncs.Goals as goal

pub loop-s-preserved : goal.loop-s-preserved
loop-s-preserved c =
    let a : ℕ = 832 * c.loop-s.s in
    let inv = c.loop-s.invariant in
    let now = c.loop-s.symbols in
    let old = c.args.symbols.now in
    let part = c.copy_from_slice.new.self in
    let is : part ≡ segment_sync = c.copy_from_slice.ensures.after ∙ in_front_is in
    let four : length part ≡ 4 = ap length is ∙ length_sync in
    let k : a + 4 - a ≡ 4 = omega arith in
    let next : 832 * (c.loop-s.s + 1) ≡ a + 832 = omega arith in
    let inside : a ≤ length now = omega (arith, inv.long, c.loop-s-test.true) in
    record {
      long = length-put_mid a (a + 4 - a) now part (omega (arith, inv.long, c.loop-s-test.true)) (four ∙ sym k)
          ∙ inv.long;
      done = below_more (λ s. take 832 (drop (832 * s) (put_mid a (a + 4 - a) now part))
          ≡ segment_sync ++ take 828 (drop (832 * s + 4) old)) c.loop-s.s
          (λ s l. piece_before a (a + 4 - a) (832 * s) 832 now part (omega arith) inside ∙ inv.done s l)
          (subst (λ n. take 832 (drop a (put_mid a n now part)) ≡ segment_sync ++ take 828 (drop (a + 4) old)) (sym k)
          (part_put a 4 828 now part four inside
          ∙ ap (λ ys. ys ++ take 828 (drop (a + 4) now)) is
          ∙ ap (λ ys. segment_sync ++ take 828 ys) (behind_too a 4 now old inv.rest)));
      rest = drop-put_mid a (a + 4 - a) now part (832 * (c.loop-s.s + 1)) (omega arith) inside (four ∙ sym k)
          ∙ ap (λ n. drop n now) next ∙ behind_too a 832 now old inv.rest ∙ ap (λ n. drop n old) (sym next);
    }
