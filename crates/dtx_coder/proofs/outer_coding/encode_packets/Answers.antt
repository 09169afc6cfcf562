use Rattle.std.proofs.Common.{rules, ◌≡◌, ◌+◌, ◌-◌, ◌*◌, ◌/◌, ◌<◌, [], length, take, drop, get_or, ap, sym, ◌∙◌, arith}
use Rattle.std.proofs.Common.{take_all}
use Rattle.dtx_lists.proofs.Written.{length-put_mid}
use Rattle.dtx_packets.proofs.ChunksLemmas.{get_or-first_chunks}
use Rattle.dtx_coder.specs.Stream.{coded_from}
use Rattle.dtx_coder.proofs.Packets.{words_none, words_on}
use Rattle.dtx_coder.proofs.outer_coding.encode_packets.Goals as goal

pub loop-i-init : goal.loop-i-init
loop-i-init c = record { done = words_none c.args.first; long = c.requires.room }

pub loop-i-preserved : goal.loop-i-preserved
loop-i-preserved c =
    let i = c.loop-i.i in
    let packets = c.args.packets.now in
    let here : i < length packets / 4 = omega (arith, c.as_chunks.ensures.front_len, c.loop-i-test.true) in
    let group : get_or c.as_chunks.result.0.now i [] ≡ take 4 (drop (4 * i) packets) =
    ap (λ groups. get_or groups i []) c.as_chunks.ensures.front
    ∙ get_or-first_chunks 4 (length packets / 4) packets i here in
    let words : c.encode_group.new.words ≡ coded_from (c.args.first + 4 * i) (take 4 (drop (4 * i) packets)) =
    c.encode_group.ensures ∙ ap (coded_from (c.args.first + 4 * i)) group in
    record {
      done = words_on c.args.first i (828 * i + 828 - 828 * i) packets c.loop-i.words c.encode_group.new.words
          (omega (arith, here)) (omega arith) c.loop-i.invariant.long c.loop-i.invariant.done words;
      long = length-put_mid (828 * i) (828 * i + 828 - 828 * i) c.loop-i.words c.encode_group.new.words
          (omega (arith, here, c.loop-i.invariant.long)) (search rules) ∙ c.loop-i.invariant.long;
    }

pub returns : goal.returns
returns c =
    let packets = c.args.packets.now in
    let whole = c.requires.whole in
    let all : 4 * c.loop-i.i ≡ length packets =
    omega (arith, whole, c.as_chunks.ensures.front_len, c.loop-i-test.false, c.loop-i.auto.i-end) in
    sym (take_all (828 * c.loop-i.i) c.loop-i.words (omega (arith, all, c.loop-i.invariant.long)))
    ∙ c.loop-i.invariant.done
    ∙ ap (coded_from c.args.first) (take_all (4 * c.loop-i.i) packets (omega (arith, all)))
