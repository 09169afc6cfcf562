use Rattle.std.proofs.Common.{ℕ, ◌≡◌, ◌≤◌, ◌*◌, ◌/◌, ◌++◌, List, length, take, ap, ap₂, sym, subst, ◌∙◌, arith}
use Rattle.std.proofs.lemmas.List.{length-append, length-take-le}
use Rattle.dtx_coder.specs.Groups.{StandsFor}
use Rattle.dtx_engine.specs.Made.{both}
use Rattle.dtx_packets.specs.Packets.{packets_of}
use Rattle.dtx_forms.proofs.FilePacketsLemmas.{length-packets_of, packets_on}
use Rattle.dtx_jobs.proofs.CodeLemmas.{all_in_groups, groups_behind, symbols_whole}
use Rattle.dtx_recipes.specs.SymbolFile.{symbol_bytes, in_groups}
use Rattle.dtx_jobs.proofs.stream_coder.StreamCoderStep.step.Goals as goal

pub returns-clause-stepped : goal.returns-clause-stepped
returns-clause-stepped c = λ given front long stand is.
    let before = packets_of given in
    let bytes = c.args.bytes.now in
    let chunks : List (List ℕ) = c.as_chunks.result.0.now in
    let count = c.batch_packets-count.result in
    let coder = c.code_batch.new.self.coder.value in
    let many : length before ≡ c.args.first = length-packets_of given ∙ omega (arith, long) in
    let grouped = c.requires.ready.grouped c.requires.some in
    let fits : count ≤ length bytes / 188 =
    omega (arith, c.batch_packets-count.ensures, c.as_chunks.ensures.front_len) in
    let all = packets_on given bytes count chunks (omega (arith, long)) c.as_chunks.ensures.front fits in
    let groups = ap (λ ps. take (in_groups ps) ps) all
    ∙ groups_behind before chunks count (omega (arith, many, grouped)) (omega (arith, c.batch_packets-count.ensures)) in
    let was = subst (StandsFor c.args.self.now.coder.value) (all_in_groups before (omega (arith, many, grouped)))
    stand.coder in
    record {
      stand = record {
        coder = subst (StandsFor coder) (sym groups) (c.code_batch.ensures.coder before many was);
        packets = omega (
          arith,
          long,
          length-append given (take (188 * count) bytes),
          length-take-le (188 * count) bytes (omega (arith, fits)),
        );
      };
      made = ap₂ both
          (symbols_whole (packets_of (given ++ take (188 * count) bytes)) ∙ ap symbol_bytes groups
          ∙ c.code_batch.ensures.brought before front.first many was (ap (λ m. m.first) is))
          (ap (λ m. m.second) is);
    }
