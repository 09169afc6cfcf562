use Rattle.std.proofs.Common.{◌≡◌, ℕ, length, take, drop, replicate, refl, ◌-◌, ap₂, ◌∙◌, arith, rules}
use Rattle.std.specs.Int.{w8, cast_unsigned}
use Rattle.std.proofs.lemmas.List.{length-take-le, length-drop}
use Rattle.dtx_make.proofs.LaidBytesLemmas.{laid_part}
use Rattle.dtx_make.proofs.laying.lay_entry.Goals as goal

pub returns : goal.returns
returns c =
    let from = c.covered-from.result.0 - c.args.place in
    let k = c.covered-from.result.1 - c.args.place - from in
    let size : length (take k (drop from c.args.bytes.now)) ≡ k =
    length-take-le k (drop from c.args.bytes.now) (omega (
      arith,
      length-drop from c.args.bytes.now,
      c.covered-from.ensures.least,
      c.covered-from.ensures.order,
      c.covered-from.ensures.most,
    )) in
    let put : c.cast_unsigned.result ≡ cast_unsigned w8 c.args.entry.now.put = search rules in
    laid_part c.args.entry.now c.args.place c.covered-from.result.0 c.covered-from.result.1 k c.args.bytes.now
    c.fill.new.self c.covered-from.ensures refl
    (c.fill.ensures.after (λ y e. e) ∙ ap₂ (λ (n v : ℕ). replicate n v) size put)
