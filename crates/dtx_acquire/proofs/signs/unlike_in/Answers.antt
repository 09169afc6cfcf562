use Rattle.std.proofs.Common.{◌≡◌, ◌+◌, ◌*◌, ◌<◌, ◌^◌, ℕ, refl, sym, ap, ap₂, ◌∙◌, arith}
use Rattle.dtx_acquire.specs.Agreement.{unlike}
use Rattle.dtx_acquire.proofs.Windows.{last_unlike, unlike_parts, word_ones, word_unlike}
use Rattle.dtx_acquire.proofs.signs.unlike_in.Goals as goal

zero_add : (n : ℕ) → 0 + n ≡ n
zero_add n = omega arith

pub overflow_add-count : goal.overflow_add-count
overflow_add-count c =
    let small : c.shifted.result < 2 ^ 64 = omega (arith, c.shifted.ensures) in
    let most = word_ones c.shifted.result c.loop-k.k small (omega arith) in
    omega (arith, most, c.loop-k.invariant.few)

pub loop-k-init : goal.loop-k-init
unfolding unlike
loop-k-init c = record { few = omega arith; counted = λ symbols place l h. refl }

pub loop-k-preserved : goal.loop-k-preserved
loop-k-preserved c = record {
  few =
      let small : c.shifted.result < 2 ^ 64 = omega (arith, c.shifted.ensures) in
      let most = word_ones c.shifted.result c.loop-k.k small (omega arith) in
      omega (arith, most, c.loop-k.invariant.few);
  counted = λ symbols place l h.
      let next : 64 * c.loop-k.k + 64 ≡ 64 * (c.loop-k.k + 1) = omega arith in
      ap₂ ◌+◌ (c.loop-k.invariant.counted symbols place l h)
      (word_unlike c.args.words.now symbols place c.args.from c.loop-k.k c.shifted.result c.requires (omega arith) l h
      c.shifted.ensures)
      ∙ sym (unlike_parts symbols (place + c.args.from) 0 (64 * c.loop-k.k) 64 (64 * c.loop-k.k)
      (zero_add (64 * c.loop-k.k)))
      ∙ ap (unlike symbols (place + c.args.from) 0) next;
}

pub returns : goal.returns
returns c = λ symbols place l h.
    let all : c.loop-k.k ≡ 8 = omega arith in
    ap₂ ◌+◌
    (c.loop-k.invariant.counted symbols place l h ∙ ap (λ k. unlike symbols (place + c.args.from) 0 (64 * k)) all)
    (last_unlike c.args.words.now symbols place c.args.from c.shifted-last.result c.requires l h
    c.shifted-last.ensures)
    ∙ sym (unlike_parts symbols (place + c.args.from) 0 512 3 512 refl)
