use Rattle.std.proofs.Common.{◌≡◌, ℕ, ◌+◌, ◌<◌, ℤ, pos, List, map, drop, length, length-drop, length-append, get_or}
use Rattle.std.proofs.Common.{set, sym, ap, ◌∙◌, arith, below_more}
use Rattle.std.proofs.lemmas.List.{get_or-set_same, get_or-set_other, length-set, get_or-map, length-map}
use Rattle.std.proofs.lemmas.List.{get_or_append_left}
use Rattle.dtx_lists.proofs.Parts.{append_from_parts}
use Rattle.dtx_trellis.specs.Trellis.{symbol_of}
use Rattle.dtx_frame.specs.Segments.{data_segment, segment_sync}
use Rattle.dtx_frame.proofs.SymbolsLemmas.{in_front_is, level_symbol, level_symbol_is, length_sync}
use Rattle.dtx_frame.proofs.data.data_segment.Goals as goal

pub loop-d-init : goal.loop-d-init
loop-d-init c =
    let rest : List ℤ = drop 4 c.args.out.now in
    let now = c.copy_from_slice.new.self in
    let is : c.copy_from_slice.new.self ≡ segment_sync = c.copy_from_slice.ensures.after ∙ in_front_is in
    let four : length c.copy_from_slice.new.self ≡ 4 = ap length is ∙ length_sync in
    record {
      long = length-append now rest ∙ omega (arith, four, length-drop 4 c.args.out.now, c.told-out);
      front = λ k l. get_or_append_left now rest (pos 0) k (omega (arith, four))
          ∙ ap (λ (xs : List ℤ). get_or xs k (pos 0)) is;
      values = λ k l. absurd (omega arith);
    }

pub loop-d-preserved : goal.loop-d-preserved
loop-d-preserved c =
    let d : ℕ = c.loop-d.d in
    let z : ℕ = get_or c.args.levels.now d 0 in
    let inv = c.loop-d.invariant in
    let l : c.loop-d.d < 828 = c.loop-d-test.true in
    record {
      long = length-set c.loop-d.out (4 + d) (level_symbol z) ∙ inv.long;
      front = λ k m. get_or-set_other c.loop-d.out (4 + d) k (level_symbol z) (pos 0) (omega arith) ∙ inv.front k m;
      values = below_more (λ k. get_or (set c.loop-d.out (4 + d) (level_symbol z)) (4 + k) (pos 0)
          ≡ symbol_of (get_or c.args.levels.now k 0)) d
          (λ k m. get_or-set_other c.loop-d.out (4 + d) (4 + k) (level_symbol z) (pos 0) (omega arith) ∙ inv.values k m)
          (get_or-set_same c.loop-d.out (4 + d) (level_symbol z) (pos 0) (omega (arith, inv.long))
          ∙ level_symbol_is z (c.requires d (omega (arith, c.told-levels))));
    }

pub returns : goal.returns
unfolding data_segment
returns c =
    let levels = c.args.levels.now in
    append_from_parts (pos 0) c.loop-d.out segment_sync (map symbol_of levels) 4 828 c.loop-d.invariant.long length_sync
    (length-map levels symbol_of ∙ c.told-levels)
    c.loop-d.invariant.front
    (λ k l. c.loop-d.invariant.values k (omega (arith, c.loop-d-test.false))
    ∙ sym (get_or-map symbol_of levels k 0 (pos 0) (omega (arith, c.told-levels))))
