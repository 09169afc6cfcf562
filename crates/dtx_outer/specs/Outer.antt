-- The outer coding as contracts see it, and over whole lists.
use Rattle.std.specs.Prelude.{ℕ, ◌≡◌, ◌*◌, ◌/◌, ◌%◌, ◌≤◌, List, map, length}
use Rattle.dtx_laws.specs.Branches.{Branching}
use Rattle.dtx_laws.specs.Words.{codeword}
use Rattle.dtx_laws.specs.Whitening.{whitened}
use Rattle.std.specs.List.{enumerate_from}

-- A whitener's period is a whole number of packets of k bytes, and their codewords of n bytes are a whole number of
-- turns over the b branches. So each period begins at branch 0.
pub record IsPeriod (n k b period : ℕ) : Type 0 where
  pub some : 1 ≤ period
  pub packets : period % k ≡ 0
  pub turns : n * (period / k) % b ≡ 0

-- the whitener's bytes, and the interleaver's branches
pub record Held : Type 0 where
  pub white : List ℕ
  pub branches : Branching

-- the codeword of data that are first whitened, by the bytes from place `from` on; its parity bytes aren't whitened
abbrev pub coded : (n k : ℕ) (white : List ℕ) (from : ℕ) (head : List ℕ) → List ℕ
coded n k white from head = codeword n k (whitened white from head)

-- the codeword of packet number p of a stream whose packet 0 begins a period of the whitener: it is whitened as packet
-- p mod (length / k) of the period
abbrev pub coded_as : (n k : ℕ) (white : List ℕ) (p : ℕ) (head : List ℕ) → List ℕ
coded_as n k white p head = coded n k white (k * (p % (length white / k))) head

-- the codewords of the data of packets s, s + 1, s + 2, .. of such a stream
unfoldable pub codewords : (n k : ℕ) (white : List ℕ) (s : ℕ) (heads : List (List ℕ)) → List (List ℕ)
codewords n k white s heads = map (λ p. coded_as n k white p.0 p.1) (enumerate_from s heads)
