use Rattle.std.proofs.Common.{◌/◌, [], length, get_or, ap, sym, ◌∙◌, arith}
use Rattle.dtx_packets.proofs.ChunksLemmas.{get_or-first_chunks}
use Rattle.dtx_sizes.specs.Fields.{field_place}
use Rattle.dtx_coder.proofs.BatchesLemmas.{batch_on, batch_symbols, few_sent}
use Rattle.dtx_coder.proofs.batch.Batch.send.Goals as goal

pub returns-clause-coder : goal.returns-clause-coder
returns-clause-coder c = λ before packets long within was.
    let batch = c.args.self.now.bytes in
    batch_on before packets batch c.args.group c.field_place-place.result _ c.args.coder.now c.send.new.self
    c.send.new.air.segments c.send.new.air.symbols (record {
      place = c.field_place-place.ensures ∙ ap field_place (sym long);
      whole = omega (arith, c.requires.grouped, long);
      within = within;
      room = omega arith;
      bytes_are = ap (λ groups. get_or groups c.args.group []) c.as_chunks.ensures.front
          ∙ get_or-first_chunks 828 (length batch / 828) batch c.args.group (omega arith);
      interleaved = was;
      group = c.send.ensures;
    })

pub returns-clause-symbols : goal.returns-clause-symbols
returns-clause-symbols c = λ before packets long within was.
    let batch = c.args.self.now.bytes in
    batch_symbols before packets batch c.args.group c.field_place-place.result _ c.args.coder.now c.send.new.self
    c.send.new.air.segments c.send.new.air.symbols (record {
      place = c.field_place-place.ensures ∙ ap field_place (sym long);
      whole = omega (arith, c.requires.grouped, long);
      within = within;
      room = omega arith;
      bytes_are = ap (λ groups. get_or groups c.args.group []) c.as_chunks.ensures.front
          ∙ get_or-first_chunks 828 (length batch / 828) batch c.args.group (omega arith);
      interleaved = was;
      group = c.send.ensures;
    })

pub returns-clause-few : goal.returns-clause-few
returns-clause-few c =
    few_sent c.args.coder.now c.send.new.self _ c.send.new.air.segments c.send.new.air.symbols c.send.ensures
