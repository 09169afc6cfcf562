use Rattle.std.proofs.Common.{rules, ◌≡◌, ◌+◌, ◌-◌, ◌*◌, ◌/◌, ◌%◌, ◌<◌, [], length, take, drop, get_or, ap, sym}
use Rattle.std.proofs.Common.{◌∙◌, arith}
use Rattle.std.proofs.lemmas.List.{take_all}
use Rattle.dtx_lists.proofs.Written.{length-put_mid}
use Rattle.dtx_packets.proofs.ChunksLemmas.{get_or-first_chunks}
use Rattle.dtx_dvb.specs.Stream.{blocks_from}
use Rattle.dtx_dvb.proofs.Blocks.{words_none, words_on}
use Rattle.dtx_dvb.proofs.StreamLemmas.{blocks_place}
use Rattle.dtx_dvb.proofs.sending.encode_fours.Goals as goal

pub loop-i-init : goal.loop-i-init
loop-i-init c = record { done = words_none c.args.place; long = c.requires.room }

pub loop-i-preserved : goal.loop-i-preserved
loop-i-preserved c =
    let i = c.loop-i.i in
    let place = c.args.place in
    let packets = c.args.packets.now in
    let here : i < length packets / 4 = omega (arith, c.as_chunks.ensures.front_len, c.loop-i-test.true) in
    let four : get_or c.as_chunks.result.0.now i [] ≡ take 4 (drop (4 * i) packets) =
    ap (λ fours. get_or fours i []) c.as_chunks.ensures.front
    ∙ get_or-first_chunks 4 (length packets / 4) packets i here in
    let words : c.encode_four.new.words ≡ blocks_from (place + 4 * i) (take 4 (drop (4 * i) packets)) =
    c.encode_four.ensures
    ∙ blocks_place ((place + 4 * i) % 8) (place + 4 * i) _ (omega arith)
    ∙ ap (blocks_from (place + 4 * i)) four in
    record {
      done = words_on place i (816 * i + 816 - 816 * i) packets c.loop-i.words c.encode_four.new.words
          (omega (arith, here)) (omega arith) c.loop-i.invariant.long c.loop-i.invariant.done words;
      long = length-put_mid (816 * i) (816 * i + 816 - 816 * i) c.loop-i.words c.encode_four.new.words
          (omega (arith, here, c.loop-i.invariant.long)) (search rules) ∙ c.loop-i.invariant.long;
    }

pub returns : goal.returns
returns c =
    let packets = c.args.packets.now in
    let whole = c.requires.whole in
    let all : 4 * c.loop-i.i ≡ length packets =
    omega (arith, whole, c.as_chunks.ensures.front_len, c.loop-i-test.false, c.loop-i.auto.i-end) in
    sym (take_all (816 * c.loop-i.i) c.loop-i.words (omega (arith, all, c.loop-i.invariant.long)))
    ∙ c.loop-i.invariant.done
    ∙ ap (blocks_from c.args.place) (take_all (4 * c.loop-i.i) packets (omega (arith, all)))
