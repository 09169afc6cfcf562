use Rattle.std.proofs.Common.{◌≡◌, ℕ, ◌+◌, ◌-◌, List, length, get_or, take, drop, ap, ap₂, ◌∙◌, arith}
use Rattle.std.proofs.lemmas.List.{get_or_append_left, get_or-append_right, get_or-take, get_or-drop, length-drop}
use Rattle.std.proofs.lemmas.List.{length-take-le}
use Rattle.std.specs.Int.RustNames.{bit_xor}
use Rattle.dtx_laws.proofs.WhiteningLemmas.{length-whitened, get_or-whitened}
use Rattle.dtx_lists.proofs.Written.{length-put_mid}
use Rattle.dtx_outer.proofs.whitening.whiten_piece.Goals as goal

pub returns-clause-piece : goal.returns-clause-piece
returns-clause-piece g c = λ j a b.
    let at : ℕ = c.args.at in
    let head : List ℕ = c.args.head.now in
    let white : List ℕ = g.W.Whitener.bytes c.args.whitener.now in
    let part : List ℕ = take (at + 16 - at) (drop at head) in
    let whole : length part ≡ 16 =
    length-take-le (at + 16 - at) (drop at head) (omega (arith, length-drop at head, c.requires.at))
    ∙ omega arith in
    let long : length c.copy_from_slice.new.self ≡ 16 =
    ap length (c.copy_from_slice.ensures.after ∙ c.whiten-piece.ensures)
    ∙ length-whitened white part (c.args.from + at) ∙ whole in
    let here : at + (j - at) ≡ j = omega (arith, a) in
    let there : c.args.from + at + (j - at) ≡ c.args.from + j = omega (arith, a) in
    get_or-append_right (take at c.args.out.now) _ at j 0
    (length-take-le at c.args.out.now (omega (arith, c.requires.at, c.requires.long))) a
    ∙ get_or_append_left c.copy_from_slice.new.self _ 0 (j - at) (omega (arith, long, a, b))
    ∙ ap (λ (xs : List ℕ). get_or xs (j - at) 0) (c.copy_from_slice.ensures.after ∙ c.whiten-piece.ensures)
    ∙ get_or-whitened white part (c.args.from + at) (j - at) (omega (arith, whole, a, b))
    ∙ ap₂ bit_xor
    (get_or-take (at + 16 - at) (drop at head) (j - at) 0 (omega (arith, a, b)) ∙ get_or-drop at head (j - at) 0
    ∙ ap (λ i. get_or head i 0) here)
    (ap (λ i. get_or white i 0) there)

pub returns-clause-same : goal.returns-clause-same
returns-clause-same g c =
    length-put_mid c.args.at (c.args.at + 16 - c.args.at) c.args.out.now c.copy_from_slice.new.self
    (omega (arith, c.requires.at, c.requires.long))
    (c.copy_from_slice.ensures.len
    ∙ length-take-le (c.args.at + 16 - c.args.at) (drop c.args.at c.args.out.now)
    (omega (arith, length-drop c.args.at c.args.out.now, c.requires.at, c.requires.long)))

pub returns-clause-before : goal.returns-clause-before
returns-clause-before g c = λ j l.
    get_or_append_left (take c.args.at c.args.out.now) _ 0 j
    (omega (arith, l, length-take-le c.args.at c.args.out.now (omega (arith, c.requires.at, c.requires.long))))
    ∙ get_or-take c.args.at c.args.out.now j 0 l
