-- Symbols that were moved to the front.
use Rattle.std.proofs.Common.{◌≡◌, ℕ, ℤ, pos, ◌-◌, ◌<◌, ◌≤◌, List, length, take, drop, get_or, sym, ap, ◌∙◌, arith}
use Rattle.std.specs.List.{CopiedTo}
use Rattle.std.proofs.lemmas.List.{ext_get_or, get_or-drop, get_or-take, length-drop, length-take-le}

pub moved_is : (old new : List ℤ) (filled count : ℕ) → filled ≤ length old → count ≤ filled → length new ≡ length old
    → CopiedTo old new count 0 (filled - count) → take (filled - count) new ≡ drop count (take filled old)
moved_is old new filled count l m e h =
    ext_get_or (pos 0) (take (filled - count) new) (drop count (take filled old)) (front ∙ sym behind)
    (λ k n. at k (omega (arith, front, n)))
  where
    front : length (take (filled - count) new) ≡ filled - count
    front = length-take-le (filled - count) new (omega arith)

    behind : length (drop count (take filled old)) ≡ filled - count
    behind = length-drop count (take filled old) ∙ ap (λ n. n - count) (length-take-le filled old l)

    at : (k : ℕ) → k < filled - count
        → get_or (take (filled - count) new) k (pos 0) ≡ get_or (drop count (take filled old)) k (pos 0)
    at k n = grind (arith, get_or-take, get_or-drop)
