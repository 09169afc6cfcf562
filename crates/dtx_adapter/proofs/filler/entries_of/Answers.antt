use Rattle.std.proofs.Common.{◌≡◌, ◌<◌, ◌∷◌, [], ◌++◌, pos, length, map, take, sym, ap, subst, ◌∙◌, arith, All}
use Rattle.std.proofs.Math.Seq.{take-length}
use Rattle.std.proofs.lemmas.List.{map_more}
use Rattle.std.proofs.lemmas.List.Elements.{All-more, All-nil}
use Rattle.dtx_ops.specs.Spelling.{IsEntry}
use Rattle.dtx_plan.specs.declared.transmitter.Transmitter.{Transmitter}
use Rattle.dtx_adapter.specs.Feed.{entry_of}
use Rattle.dtx_adapter.proofs.filler.entries_of.Goals as goal

pub loop-transmitter-init : goal.loop-transmitter-init
loop-transmitter-init c = record {
  entries = c.in_ok-entries.ensures.items;
  fit = All-nil (λ t. IsEntry (entry_of t));
}

pub loop-transmitter-preserved : goal.loop-transmitter-preserved
loop-transmitter-preserved c =
    let ts = c.args.transmitters.now in
    let i = c.loop-transmitter.transmitter-index in
    let none : Transmitter = record { address = 0; offset = pos 0; delay = 0 } in
    let within : i < length ts = omega (arith, c.loop-transmitter-test.true) in
    record {
      entries = c.in_ok-push.ensures.items
          ∙ ap (λ es. es ++ c.entry_of.result ∷ []) c.loop-transmitter.invariant.entries
          ∙ ap (λ e. map entry_of (take i ts) ++ e ∷ []) c.entry_of.ensures.entry
          ∙ sym (map_more entry_of ts i none within);
      fit = All-more (λ t. IsEntry (entry_of t)) ts i none within c.loop-transmitter.invariant.fit
          (subst IsEntry c.entry_of.ensures.entry c.entry_of.ensures.fits);
    }

pub returns-clause-fit : goal.returns-clause-fit
returns-clause-fit c =
    let ts = c.args.transmitters.now in
    let all : c.loop-transmitter.transmitter-index ≡ length ts =
    omega (arith, c.loop-transmitter-test.false, c.loop-transmitter.auto.transmitter-index-end) in
    subst (All (λ t. IsEntry (entry_of t))) (ap (λ n. take n ts) all ∙ take-length ts)
    c.loop-transmitter.invariant.fit

pub returns-clause-entries : goal.returns-clause-entries
returns-clause-entries c =
    let ts = c.args.transmitters.now in
    let all : c.loop-transmitter.transmitter-index ≡ length ts =
    omega (arith, c.loop-transmitter-test.false, c.loop-transmitter.auto.transmitter-index-end) in
    c.loop-transmitter.invariant.entries ∙ ap (map entry_of) (ap (λ n. take n ts) all ∙ take-length ts)
