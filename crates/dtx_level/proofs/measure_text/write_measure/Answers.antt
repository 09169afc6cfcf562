use Rattle.std.proofs.Common.{◌≡◌, ◌++◌, ℕ, ℤ, List, append_assoc, codes, decimal, ap, ◌∙◌, rules, to_z}
use Rattle.std.proofs.Common.{of_z, w64}
use Rattle.std.proofs.lemmas.Int.{to_z-of_z}
use Rattle.std.specs.Fmt.{signed_decimal}
use Rattle.dtx_level.specs.Measures.{measure_text}
use Rattle.dtx_level.proofs.measure_text.write_measure.Goals as goal

-- a text behind a space
abbrev spaced : List ℕ → List ℕ
spaced text = codes " " ++ text

in_order : (a b c d e f g : List ℕ)
    → (((((a ++ b) ++ c) ++ d) ++ e) ++ f) ++ g ≡ a ++ (b ++ (c ++ (d ++ (e ++ (f ++ g)))))
in_order a b c d e f g =
    append_assoc ((((a ++ b) ++ c) ++ d) ++ e) f g
    ∙ append_assoc (((a ++ b) ++ c) ++ d) e (f ++ g)
    ∙ append_assoc ((a ++ b) ++ c) d (e ++ (f ++ g))
    ∙ append_assoc (a ++ b) c (d ++ (e ++ (f ++ g)))
    ∙ append_assoc a b (c ++ (d ++ (e ++ (f ++ g))))

signed : (text : List ℕ) {n m : ℤ} → n ≡ m → text ++ spaced (signed_decimal n) ≡ text ++ spaced (signed_decimal m)
signed text e = ap (λ (n : ℤ). text ++ spaced (signed_decimal n)) e

pub returns : goal.returns
unfolding measure_text
returns c =
    let measure = c.args.measure.now in
    let place = spaced (decimal measure.place) in
    let field = spaced (decimal c.field_number.result) in
    let gain = spaced (signed_decimal measure.gain) in
    let constant = spaced (signed_decimal measure.constant) in
    let noise = spaced (decimal measure.noise) in
    let read_gain : to_z w64 (of_z w64 measure.gain) ≡ measure.gain =
    to_z-of_z w64 measure.gain (search rules) in
    let read_constant : to_z w64 (of_z w64 measure.constant) ≡ measure.constant =
    to_z-of_z w64 measure.constant (search rules) in
    let word = c.push_str.ensures.bytes ∙ ap (λ (t : List ℕ). t ++ codes "sync") c.clear.ensures in
    let one = c.push_number.ensures.text ∙ ap (λ (t : List ℕ). t ++ place) word in
    let two = c.push_number-2.ensures.text ∙ ap (λ (t : List ℕ). t ++ field) one in
    let three = c.push_signed.ensures.text ∙ signed c.push_number-2.new.text.bytes read_gain
    ∙ ap (λ (t : List ℕ). t ++ gain) two in
    let four = c.push_signed-2.ensures.text ∙ signed c.push_signed.new.text.bytes read_constant
    ∙ ap (λ (t : List ℕ). t ++ constant) three in
    let five = c.push_number-3.ensures.text ∙ ap (λ (t : List ℕ). t ++ noise) four in
    c.push_str-2.ensures.bytes ∙ ap (λ (t : List ℕ). t ++ codes "\n") five
    ∙ in_order (codes "sync") place field gain constant noise (codes "\n")
    ∙ ap (λ (n : ℕ). codes "sync" ++ (place ++ (spaced (decimal n) ++ (gain ++ (constant ++ (noise ++ codes "\n"))))))
    c.field_number.ensures
