use Rattle.std.proofs.Common.{◌≡◌, ℕ, ◌<◌, ◌+◌, ◌*◌, ◌/◌, ◌-◌, ◌≤◌, List, length, refl, arith, get_or}
use Rattle.dtx_galois.specs.Field.{pow, value}
use Rattle.dtx_laws.specs.Codeword.{distance}
use Rattle.dtx_fast.proofs.ConnectionLemmas.{least_of_word}
use Rattle.dtx_fast.specs.Recurrence.{inverse_at}
use Rattle.dtx_fast.proofs.RepairLemmas.{repaired_right}
use Rattle.dtx_fast.proofs.fast.repair.Goals as goal

pub patch-requires-clause-walk : goal.patch-requires-clause-walk
unfolding inverse_at
patch-requires-clause-walk c p l =
    c.walk-walk.ensures.values (length c.args.word.now - 1 - p) (omega (arith, l))

pub returns-in-Some : goal.returns-in-Some
returns-in-Some c right ic =
    let word : List ℕ = c.args.word.now in
    let n : ℕ = length word in
    let k : ℕ = c.args.k in
    let t : ℕ = (n - k) / 2 in
    let code = c.requires.code in
    let found = c.in-Some.found in
    let is = c.in-Some.ensures.some in
    let s : ℕ → ℕ = λ i. get_or c.args.syndromes.now i 0 in
    let cs : ℕ → ℕ = λ i. get_or c.in-Some.found.coefficients i 0 in
    let twice : n - k ≡ 2 * t = omega (arith, code.even) in
    let syndromes : (i : ℕ) → i < n - k → s i ≡ value word (pow 2 i) = c.requires.values in
    repaired_right n k t found.order word right c.patch.new.word s cs code.short twice c.requires.bytes refl ic
    is.1 (λ i l. syndromes i (omega (arith, l, twice)))
    (rw (← twice) is.2)
    (least_of_word n k (n - k) found.order word right s refl ic (omega arith) syndromes is.3)
    c.patch.ensures.long c.patch.ensures.repaired

pub returns-in_default : goal.returns-in_default
returns-in_default c right ic =
    let word : List ℕ = c.args.word.now in
    let n : ℕ = length word in
    let k : ℕ = c.args.k in
    let s : ℕ → ℕ = λ i. get_or c.args.syndromes.now i 0 in
    let syndromes : (i : ℕ) → i < n - k → s i ≡ value word (pow 2 i) = c.requires.values in
    let many : (n - k) / 2 + 1 ≤ distance word right =
    least_of_word n k (n - k) ((n - k) / 2 + 1) word right s refl ic (omega arith) syndromes
    c.in_default.ensures.none in
    absurd (omega (arith, many, ic.near))
