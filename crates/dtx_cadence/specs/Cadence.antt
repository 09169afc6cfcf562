-- What lists of sync bytes have in common, as far as anchors depend on them (the profile's own).
use Rattle.std.specs.Prelude.{ℕ, ◌≡◌, ◌+◌, ◌-◌, ◌%◌, ◌≤◌, ◌<◌, ◌==◌, true, Some, List, length, take, ◌++◌}
use Rattle.dtx_cadence.specs.Anchor.{has_mark, anchor}

-- marks stand at each 624th packet and nowhere else
abbrev pub IsMarked : List ℕ → Type 0
IsMarked syncs = (i : ℕ) → i < length syncs → has_mark syncs i ≡ (i % 624 == 0)

-- Each of the first n packets is a mark in both lists or in neither.
abbrev pub AreAlike : List ℕ → List ℕ → ℕ → Type 0
AreAlike xs ys n = (i : ℕ) → i < n → has_mark xs i ≡ has_mark ys i

-- Each packet at which a mark is due, under an anchor at packet j, is a mark in both lists or in neither.
abbrev pub AreAlikeWhereDue : List ℕ → List ℕ → ℕ → Type 0
AreAlikeWhereDue xs ys j = (i : ℕ) → j < i → i < length xs → (i - j) % 624 ≡ 0 → has_mark xs i ≡ has_mark ys i

-- Behind each packet the anchor is the same in both lists.
abbrev pub HaveSameAnchors : List ℕ → List ℕ → Type 0
HaveSameAnchors xs ys = (n : ℕ) → n ≤ length xs → anchor (take n xs) ≡ anchor (take n ys)

-- The marks that are due next before and behind packet i came, the latter as far as the packets go.
pub record HasMarksRound (syncs : List ℕ) (i : ℕ) : Type 0 where
  pub before : has_mark syncs (i - 624) ≡ true
  pub behind : i + 624 < length syncs → has_mark syncs (i + 624) ≡ true

-- If there is an anchor, a mark is due with the next packet.
abbrev pub IsInStep : List ℕ → Type 0
IsInStep syncs = (j : ℕ) → anchor syncs ≡ Some j → (length syncs - j) % 624 ≡ 0

-- The sync bytes `syncs` are given behind `before`. From packet n of `syncs` on one anchor holds, in step with that
-- packet.
pub record IsAnchored (before syncs : List ℕ) (n : ℕ) : Type 0 where
  pub place : ℕ
  pub within : place ≤ length before + n
  pub steps : (length before + n - place) % 624 ≡ 0
  pub holds : (m : ℕ) → n ≤ m → m < length syncs → anchor (before ++ take (m + 1) syncs) ≡ Some place
