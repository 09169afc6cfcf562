-- A packet that is written in two parts.
use Rattle.std.proofs.Common.{◌≡◌, ℕ, List, ◌++◌, length, arith}
use Rattle.std.proofs.Math.Seq.{take-append_seam, drop-append_seam, drop-length}
use Rattle.std.proofs.lemmas.List.{append-nil}
use borrow.Rule.Slice.PartMut.{put_mid}

parts : (a k : ℕ) (header payload rest : List ℕ) → length header ≡ a → length rest ≡ k
    → put_mid a k (header ++ rest) payload ≡ header ++ payload
parts a k header payload rest long behind = grind (arith, take-append_seam, drop-append_seam, drop-length, append-nil)

-- a header and a payload of these lengths, copied to the parts of a packet
pub joined_parts : (header payload first second rest : List ℕ) → first ≡ header → second ≡ payload → length header ≡ 4
    → length rest ≡ 184 → put_mid 4 184 (first ++ rest) second ≡ header ++ payload
joined_parts header payload first second rest at_first at_second long behind = simp (at_first, at_second, parts)
