use Rattle.std.proofs.Common.{◌≡◌, ◌+◌, ◌*◌, ◌-◌, ◌<◌, ◌≤◌, ◌^◌, ℕ, ℤ, pos, List, cond, get_or, length, refl}
use Rattle.std.proofs.Common.{ap, ◌∙◌, arith}
use Rattle.std.proofs.Common.{to_z, of_z, w8}
use Rattle.std.proofs.lemmas.Int.{to_z-of_z}
use Rattle.dtx_acquire.specs.Agreement.{is_plus, packed}
use Rattle.dtx_acquire.proofs.Windows.{packed_more, packed_room, part}
use Rattle.dtx_acquire.proofs.signs.pack.Goals as goal

room : (symbols : List ℤ) (place j word : ℕ) → 0 < j → j ≤ 64 → place + 64 ≤ length symbols
    → word ≡ packed (part symbols (place + j) (64 - j)) → word < 2 ^ 63
room symbols place j word l m n e =
    let back : j ≡ j - 1 + 1 = omega arith in
    packed_room symbols place (j - 1) word (omega arith) n
    (e ∙ ap (λ k. packed (part symbols (place + k) (64 - k))) back)

more : (symbols : List ℤ) (place j word bit : ℕ) (symbol : ℤ) → 0 < j → j ≤ 64 → place + 64 ≤ length symbols
    → word ≡ packed (part symbols (place + j) (64 - j)) → symbol ≡ get_or symbols (place + (j - 1)) (pos 0)
    → bit ≡ cond (is_plus symbol) 1 0 → 2 * word + bit ≡ packed (part symbols (place + (j - 1)) (64 - (j - 1)))
more symbols place j word bit symbol l m n e f g =
    let back : j ≡ j - 1 + 1 = omega arith in
    ap (λ x. 2 * word + x) (g ∙ ap (λ x. cond (is_plus x) 1 0) f)
    ∙ packed_more symbols place (j - 1) word (omega arith) n
    (e ∙ ap (λ k. packed (part symbols (place + k) (64 - k))) back)

pub loop-j-init : goal.loop-j-init
loop-j-init c = record { few = omega arith; packed_is = refl }

pub overflow_mul-word : goal.overflow_mul-word
overflow_mul-word c =
    let h = room c.args.symbols.now c.args.place c.loop-j.j c.loop-j.word c.loop-j-test.true c.loop-j.invariant.few
    c.requires c.loop-j.invariant.packed_is in
    omega arith

pub overflow_add-word : goal.overflow_add-word
overflow_add-word c =
    let h = room c.args.symbols.now c.args.place c.loop-j.j c.loop-j.word c.loop-j-test.true c.loop-j.invariant.few
    c.requires c.loop-j.invariant.packed_is in
    omega (arith, c.plus.ensures.small)

pub loop-j-preserved : goal.loop-j-preserved
loop-j-preserved c =
    let within : c.args.place + (c.loop-j.j - 1) < length c.args.symbols.now = omega (arith, c.requires) in
    let e : to_z w8 (of_z w8 (get_or c.args.symbols.now (c.args.place + (c.loop-j.j - 1)) (pos 0)))
    ≡ get_or c.args.symbols.now (c.args.place + (c.loop-j.j - 1)) (pos 0) = grind (arith, to_z-of_z) in
    record {
      few = omega arith;
      packed_is = more c.args.symbols.now c.args.place c.loop-j.j c.loop-j.word c.plus.result _ c.loop-j-test.true
          c.loop-j.invariant.few c.requires c.loop-j.invariant.packed_is e c.plus.ensures.plus;
    }
