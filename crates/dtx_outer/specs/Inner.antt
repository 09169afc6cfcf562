-- Decoding the outer coding, block by block of a run.
use Rattle.std.specs.Prelude.{ℕ, ◌≡◌, ◌+◌, ◌-◌, ◌*◌, ◌/◌, ◌%◌, ◌<◌, ◌==◌, if◌then◌else◌, ◌++◌, List, map, length, take}
use Rattle.std.specs.Prelude.{drop, slice_index}
use Rattle.std.proofs.Common.{zero, suc}
use Rattle.std.specs.List.{range_with_len}
use Rattle.dtx_laws.specs.Branches.{Branching, HasWidths, gathering, leaving_all, after_all}
use Rattle.dtx_laws.specs.Codeword.{IsCorrection}
use Rattle.dtx_laws.specs.Words.{IsCorrected}
use Rattle.dtx_laws.specs.Whitening.{whitened}
use Rattle.dtx_outer.specs.declared.inner.Taken.{Taken}
use Rattle.dtx_outer.specs.declared.inner.Taken.TheVariants.{None, Good, Bad}

-- how many blocks of a run give no packet: the fewest blocks of n bytes that cover the delay of b * m * (b - 1) bytes
unfoldable pub waiting : ℕ → ℕ → ℕ → ℕ
waiting n b m = (b * m * (b - 1) + n - 1) / n

-- how many bytes of a block complete the word that began in the block before
unfoldable pub completing : ℕ → ℕ → ℕ → ℕ
completing n b m = b * m * (b - 1) - n * (waiting n b m - 1)

-- where byte p of the codewords stands among the bytes of a run
abbrev pub codeword_byte_place : ℕ → ℕ → ℕ → ℕ
codeword_byte_place b m p = p + b * m * (p % b)

-- word k of the bytes y of a run
unfoldable pub word_at : ℕ → ℕ → ℕ → List ℕ → ℕ → List ℕ
word_at n b m y k = map (λ p. slice_index y (codeword_byte_place b m p)) (range_with_len (n * k) n)

-- all bytes of word k are among the first `given` bytes of a run
abbrev pub IsComplete : (n b m given k : ℕ) → Type 0
IsComplete n b m given k = (j : ℕ) → j < n → codeword_byte_place b m (n * k + j) < given

-- What is kept between calls: the whitener's bytes and the gatherer's branches, and the last block that was gathered.
-- Also how many blocks more give no packet, and which packet of the whitener's period comes next.
pub record Kept : Type 0 where
  pub white : List ℕ
  pub branches : Branching
  pub before : List ℕ
  pub waits : ℕ
  pub place : ℕ

-- block p of n bytes each: block 0 is `before`, and the next ones are those of `bytes`
abbrev pub block_behind : ℕ → List ℕ → List ℕ → ℕ → List ℕ
block_behind n before bytes zero = before
block_behind n before bytes (suc p) = take n (drop (n * p) bytes)

-- This is kept of a run that has given the bytes y, in blocks of n. The run began at an align, where the branches held
-- any bytes. Before its first block any block may be kept.
pub record StandsFor (n k b m : ℕ) (inner : Kept) (y : List ℕ) : Type 0 where
  pub start : Branching
  pub widths : HasWidths b (gathering b m) start
  pub aligned : start.next ≡ 0
  pub blocks : ℕ
  pub given : length y ≡ n * blocks
  pub branches : inner.branches ≡ after_all b start y
  pub before : 0 < blocks → inner.before ≡ drop (n * (blocks - 1)) (leaving_all b start y)
  pub waits : inner.waits ≡ waiting n b m - blocks
  pub place : inner.place ≡ (blocks - waiting n b m) % (length inner.white / k)

-- The word has a correction, which differs from it in `fixed` bytes. `out` is the first k bytes of the correction,
-- unwhitened from place `from` on.
pub record IsGood (n k : ℕ) (white : List ℕ) (from : ℕ) (word out : List ℕ) (fixed : ℕ) : Type 0 where
  pub code : List ℕ
  pub corrected : IsCorrected n k word code fixed
  pub bytes : out ≡ whitened white from (take k code)

-- The word has no correction. `out` is the first k bytes of the word as it was gathered, unwhitened from place `from`
-- on.
pub record IsBad (n k : ℕ) (white : List ℕ) (from : ℕ) (word out : List ℕ) : Type 0 where
  pub none : (code : List ℕ) → IsCorrection n k word code → ⊥
  pub bytes : out ≡ whitened white from (take k word)

-- what a word gives
abbrev pub Gives : (n k : ℕ) (white : List ℕ) (from : ℕ) (word out : List ℕ) → Taken → Type 0
Gives n k white from word out None = ⊥
Gives n k white from word out (Good fixed) = IsGood n k white from word out fixed
Gives n k white from word out Bad = IsBad n k white from word out

-- What the block gives that follows the bytes y of a run, and what it writes over `old`. The first blocks give nothing.
-- After these and j more, a block gives packet j of the run, unwhitened as packet j of a stream.
pub record IsTaken (n k b m : ℕ) (white y block old new : List ℕ) (taken : Taken) : Type 0 where
  pub none : length y < n * waiting n b m → (taken ≡ None) × (new ≡ old)
  pub packet : (j : ℕ) → length y ≡ n * (waiting n b m + j)
      → Gives n k white (k * (j % (length white / k))) (word_at n b m (y ++ block) j) new taken

-- what is kept after a gathered block has given its packet, or none
pub record IsNext (k : ℕ) (old new : Kept) : Type 0 where
  pub white : new.white ≡ old.white
  pub branches : new.branches ≡ old.branches
  pub before : new.before ≡ old.before
  pub waits : new.waits ≡ old.waits - 1
  pub waiting : 0 < old.waits → new.place ≡ old.place
  pub given : old.waits ≡ 0 → new.place ≡ (if old.place + 1 == length old.white / k then 0 else old.place + 1)
