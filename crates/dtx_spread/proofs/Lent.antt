-- What a vector holds after its slice was lent whole, and a pass that goes on behind another.
use Rattle.std.proofs.Common.{◌≡◌, ℕ, ◌+◌, ◌%◌, ◌≤◌, List, ◌++◌, length, take, drop, map, replicate, ap₂, ◌∙◌, arith}
use Rattle.std.specs.List.{range_with_len}
use Rattle.std.proofs.lemmas.List.{take_at, drop_at, drop-drop, length-take-le, append_assoc}
use Rattle.std.proofs.Math.Seq.{take-add}
use Rattle.circular_buffer.specs.Buffer.{Buffer}
use Rattle.dtx_laws.specs.Branches.{Branching, HasWidths, zeroed, leaving_all, after_all}
use Rattle.dtx_laws.proofs.PlacesLemmas.{leaving_append, after_append, length_leaving}
use Rattle.dtx_spread.specs.Rings.{lists_of, branches_of, ArePassed}
use Rattle.dtx_spread.proofs.Left.{passed_bytes, passed_branches}
use borrow.Rule.Slice.PartMut.{put_mid}

-- rings of zeros
pub zeroed_rings : (b n : ℕ) (w : ℕ → ℕ) (rings : List (Buffer ℕ)) → n ≡ b
    → lists_of rings ≡ map (λ i. replicate (w i) 0) (range_with_len 0 n) → branches_of 0 rings ≡ zeroed b w
unfolding zeroed
zeroed_rings b n w rings e h = grind arith

-- the branches after a pass, and what left
pub branches_after : (b : ℕ) (w : ℕ → ℕ) (next turn n : ℕ) (rings lent new : List (Buffer ℕ)) (bytes out : List ℕ)
    → HasWidths b w (branches_of next rings) → lent ≡ rings → n ≡ length rings → length new ≡ length lent
    → ArePassed b next 0 b (lists_of lent) (lists_of new) bytes out → turn ≡ (next + length bytes) % b
    → branches_of turn (take n (new ++ drop (length new) rings)) ≡ after_all b (branches_of next rings) bytes
branches_after b w next turn n rings lent new bytes out h e k l a t = ap₂ branches_of t (grind (arith, take_at))
    ∙ passed_branches b w (branches_of next rings) (lists_of new) bytes out h (rw (← e) a)

pub bytes_after : (b : ℕ) (w : ℕ → ℕ) (next : ℕ) (rings lent new : List (Buffer ℕ)) (bytes out : List ℕ)
    → HasWidths b w (branches_of next rings) → lent ≡ rings
    → ArePassed b next 0 b (lists_of lent) (lists_of new) bytes out → out ≡ leaving_all b (branches_of next rings) bytes
bytes_after b w next rings lent new bytes out h e a =
    passed_bytes b w (branches_of next rings) (lists_of new) bytes out h (rw (← e) a)

-- the bytes from place `done` on, replaced by those that leave
pub passed_more : (b done count : ℕ) (v now : Branching) (old cur part new : List ℕ) → done + count ≤ length old
    → cur ≡ leaving_all b v (take done old) ++ drop done old → now ≡ after_all b v (take done old)
    → part ≡ take count (drop done cur) → new ≡ leaving_all b now part
    → put_mid done count cur new ≡ leaving_all b v (take (done + count) old) ++ drop (done + count) old
passed_more b done count v now old cur part new l e n p f =
    grind (arith, drop-drop, append_assoc, take-add, leaving_append, length_leaving, length-take-le, take_at, drop_at)

pub branches_more : (b done count : ℕ) (v now new : Branching) (old cur part : List ℕ) → done + count ≤ length old
    → cur ≡ leaving_all b v (take done old) ++ drop done old → now ≡ after_all b v (take done old)
    → part ≡ take count (drop done cur) → new ≡ after_all b now part → new ≡ after_all b v (take (done + count) old)
branches_more b done count v now new old cur part l e n p f =
    grind (arith, take-add, after_append, length_leaving, length-take-le, drop_at)
