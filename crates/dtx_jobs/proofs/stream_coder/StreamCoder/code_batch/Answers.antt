use Rattle.std.proofs.Common.{◌≡◌, ◌≤◌, ◌*◌, ◌++◌, ℕ, ℤ, List, length, map, take, ap}
use Rattle.std.proofs.Common.{sym, ◌∙◌, arith, append_assoc, subst}
use Rattle.std.proofs.lemmas.List.{map-append, take_all, append-nil}
use Rattle.std.proofs.lemmas.List.{length-append, length-map, length-take}
use Rattle.dtx_coder.proofs.BatchesLemmas.{batch_sent}
use Rattle.dtx_coder.specs.Batches.{AreInterleaved}
use Rattle.dtx_coder.specs.Groups.{StandsFor}
use Rattle.dtx_coder.specs.Stream.{a53_symbols}
use Rattle.dtx_files.specs.Symbols.{byte_of_symbol}
use Rattle.dtx_recipes.specs.SymbolFile.{symbol_bytes}
use Rattle.dtx_jobs.proofs.stream_coder.StreamCoder.code_batch.Goals as goal

pub loop-i-init : goal.loop-i-init
loop-i-init c = record {
  sent = λ before long stands. c.interleave.ensures before long (c.deref_mut.ensures.value ∙ stands);
  brought = λ before bytes long stands is. ap symbol_bytes (append-nil before) ∙ is;
  room = omega arith;
}

pub loop-i-preserved : goal.loop-i-preserved
loop-i-preserved c =
    let i = c.loop-i.i in
    let packets = c.args.packets.now in
    let symbols : List ℤ = take (832 * c.send.new.air.segments) c.send.new.air.symbols in
    let sent : List ℕ = map byte_of_symbol symbols in
    let coder = c.deref_mut-in-loop-i.result.now in
    let batch = c.loop-i.self.batch.bytes in
    let was : (before : List (List ℕ)) → length before ≡ c.args.first → StandsFor c.args.self.now.coder.value before
    → AreInterleaved coder batch before packets i =
    λ before long stands.
    subst (λ v. AreInterleaved v batch before packets i) (sym c.deref_mut-in-loop-i.ensures.value)
    (c.loop-i.invariant.sent before long stands) in
    record {
      sent = λ before long stands.
          c.send.ensures.coder before packets (omega (arith, long)) (omega (arith, c.loop-i-test.true))
          (was before long stands);
      brought = λ before bytes long stands is.
          ap (map byte_of_symbol)
          (c.send.ensures.symbols before packets (omega (arith, long)) (omega (arith, c.loop-i-test.true))
          (was before long stands))
          ∙ map-append byte_of_symbol (a53_symbols (before ++ take (4 * i) packets)) symbols
          ∙ ap (λ z. z ++ sent) (c.loop-i.invariant.brought before bytes long stands is)
          ∙ append_assoc bytes c.loop-i.self.symbols sent ∙ ap (λ z. bytes ++ z) (sym c.push.ensures);
      room = omega (
        arith,
        c.loop-i.invariant.room,
        c.send.ensures.few,
        ap length c.push.ensures,
        length-append c.loop-i.self.symbols sent,
        length-map symbols byte_of_symbol,
        length-take (832 * c.send.new.air.segments) c.send.new.air.symbols,
      );
    }

pub returns : goal.returns
returns c =
    let packets = c.args.packets.now in
    let whole = c.requires.whole in
    let all : length packets ≤ 4 * c.loop-i.i = omega (arith, whole, c.loop-i-test.false) in
    record {
      coder = λ before long stands.
          batch_sent before packets c.loop-i.self.batch.bytes c.loop-i.i c.loop-i.self.coder.value all
          (c.loop-i.invariant.sent before long stands);
      brought = λ before bytes long stands is.
          cc (take_all (4 * c.loop-i.i) packets all, c.loop-i.invariant.brought before bytes long stands is);
      long = omega (arith, whole, c.loop-i.invariant.room, c.loop-i-test.false, c.loop-i.auto.i-end);
    }
