use Rattle.std.proofs.Common.{◌≡◌, ◌≤◌, ◌*◌, ◌/◌, length, take, ap, ap₂, sym, subst, ◌∙◌, arith}
use Rattle.std.proofs.lemmas.List.{length-append, length-take-le}
use Rattle.dtx_dvb.specs.Stream.{HasSent, dvb}
use Rattle.dtx_engine.specs.Made.{both}
use Rattle.dtx_packets.specs.Packets.{packets_of}
use Rattle.dtx_forms.proofs.FilePacketsLemmas.{length-packets_of, packets_on}
use Rattle.dtx_packet_jobs.proofs.dvb_coding.DvbCodingStep.step.Goals as goal

pub returns-clause-stepped : goal.returns-clause-stepped
returns-clause-stepped c = λ given front long stand is.
    let before = packets_of given in
    let count = c.send-count.result in
    let bytes = c.args.bytes.now in
    let many : length before ≡ c.args.first = length-packets_of given ∙ omega (arith, long) in
    let fits : count ≤ length bytes / 188 =
    omega (arith, c.send-count.ensures.within, c.as_chunks.ensures.front_len) in
    let all = packets_on given bytes count c.as_chunks.result.0.now (omega (arith, long)) c.as_chunks.ensures.front
    fits in
    let sent = c.send-count.ensures.sent before front.first many
    (record { coder = stand.coder; bytes = ap (λ m. m.first) is }) in
    record {
      stand = record {
        coder = subst (λ ps. HasSent ps c.send-count.new.self.coder.value) (sym all) sent.coder;
        packets = omega (
          arith,
          long,
          length-append given (take (188 * count) bytes),
          length-take-le (188 * count) bytes (omega (arith, fits)),
        );
      };
      made = ap₂ both (ap dvb all ∙ sent.bytes) (ap (λ m. m.second) is);
    }
