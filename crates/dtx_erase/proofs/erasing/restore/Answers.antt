use Rattle.std.proofs.Common.{◌≡◌, ℕ, ◌+◌, ◌-◌, ◌/◌, ◌*◌, ◌<◌, ◌≤◌, List, length, subst, arith, get_or}
use Rattle.dtx_laws.specs.Locator.{is_marked}
use Rattle.dtx_erase.proofs.Prepared.{are_marked}
use Rattle.dtx_erase.proofs.Restored.{is_suspect, none_to_find, restored_right}
use Rattle.dtx_erase.proofs.erasing.restore.Goals as goal

half_of_twice : (t : ℕ) → 2 * t / 2 ≡ t
half_of_twice t = omega arith

pub returns-in-Some : goal.returns-in-Some
returns-in-Some c right p =
    let marks = c.args.marks.now in
    let word : List ℕ = c.args.word.now in
    let n : ℕ = length word in
    let k : ℕ = c.args.k in
    let t : ℕ = (n - k - c.lost.result) / 2 in
    let s : ℕ → ℕ = λ i. get_or c.args.syndromes.now i 0 in
    let r : ℕ → ℕ = λ i. get_or c.first_left-rest.result i 0 in
    let found = c.in-Some.found in
    let is = c.in-Some.ensures.some in
    let same : length marks ≡ n = c.requires.marks in
    let half : found.order ≤ t = subst (λ m. c.in-Some.found.order ≤ m) (half_of_twice t) is.0 in
    restored_right n k t found.order marks word right c.patch.new.word found.coefficients s r
    (is_marked c.suspects-suspects.result)
    (are_marked k c.lost.result marks word s r c.requires.code c.requires.marks c.requires.bytes
    c.requires.few c.lost.ensures.count c.requires.syndromes c.first_left-rest.ensures.rest)
    (record {
      bytes = c.suspects-suspects.ensures.bytes;
      room = omega (arith, found.long, found.room);
      half = half;
      recurs = is.2;
    })
    (rw (← same) c.suspects-suspects.ensures.marks)
    c.patch.ensures.patched c.patch.ensures.long p

pub returns-in_default : goal.returns-in_default
returns-in_default c right p =
    let marks = c.args.marks.now in
    let word : List ℕ = c.args.word.now in
    let k : ℕ = c.args.k in
    let t : ℕ = (length word - k - c.lost.result) / 2 in
    let s : ℕ → ℕ = λ i. get_or c.args.syndromes.now i 0 in
    let r : ℕ → ℕ = λ i. get_or c.first_left-rest.result i 0 in
    absurd (none_to_find (length word) k ((length word - k - c.lost.result) / 2) marks word right s r
    (are_marked k c.lost.result marks word s r c.requires.code c.requires.marks c.requires.bytes
    c.requires.few c.lost.ensures.count c.requires.syndromes c.first_left-rest.ensures.rest)
    (λ j b h. subst (λ m. m + 1 ≤ j) (half_of_twice t) (c.in_default.ensures.none j b h)) p)
