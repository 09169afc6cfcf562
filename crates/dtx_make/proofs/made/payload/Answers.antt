use Rattle.std.proofs.Common.{◌/◌, ◌^◌, ap, sym, ◌∙◌, arith, rules}
use Rattle.std.proofs.Math.ListN.{length-set}
use Rattle.dtx_make.specs.Made.{next_number}
use Rattle.dtx_make.proofs.StreamsLemmas.{made_payload_by, number_first, number_more, payload_more}
use Rattle.dtx_make.proofs.made.payload.Goals as goal

pub returns : goal.returns
returns c = made_payload_by c.args.seed c.args.index c.loop-byte.byte-items c.loop-byte-test.array_long
    (λ k h. c.loop-byte.invariant.each k (omega (arith, h)))

pub loop-byte-init : goal.loop-byte-init
loop-byte-init c = record {
  long = search rules;
  number = c.first-number.ensures
      ∙ sym (number_first c.args.seed c.args.index);
  each = λ k h. absurd (omega arith);
}

pub loop-byte-preserved : goal.loop-byte-preserved
loop-byte-preserved c =
    let before = c.loop-byte.invariant in
    let i = c.loop-byte.byte-index in
    let is = c.next-number.ensures ∙ ap next_number before.number ∙ sym (number_more c.args.seed c.args.index i) in
    record {
      long = length-set c.loop-byte.byte-items i _ ∙ before.long;
      number = is;
      each = payload_more c.args.seed c.args.index c.loop-byte.byte-items i _ (omega (arith, before.long)) before.each
          (ap (λ z. z / 2 ^ 56) is);
    }
