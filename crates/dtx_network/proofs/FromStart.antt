-- An exciter that is given a feed from its first packet on: nothing before its first listing, and from there on the
-- feed's own segments.
use Rattle.std.proofs.Common.{◌≡◌, ℕ, ◌+◌, ◌≤◌, List, [], ◌++◌, length, take, sym, ap, ◌∙◌, arith, slice_range}
use Rattle.dtx_plan.specs.declared.plan.Plan.{Plan}
use Rattle.dtx_plan.specs.declared.transmitter.Transmitter.{Transmitter}
use Rattle.dtx_adapter.specs.Feed.{feed}
use Rattle.dtx_exciter.specs.Emission.{emission}
use Rattle.dtx_exciter.specs.Log.{life_lines}
use Rattle.dtx_network.specs.Plans.{IsPlan, IsStream, IsListed, IsInTime}
use Rattle.dtx_network.specs.Orders.{presets}
use Rattle.dtx_network.specs.Headline.{IsFirstListing, HasNoListing, IsFedAnew, stretch_of}
use Rattle.dtx_network.proofs.FromMark as behind
use Rattle.dtx_network.proofs.FromMark.{from_mark}

fed_anew : (plan : Plan) (stream : List (List ℕ)) (t : Transmitter) (n : ℕ) → IsPlan plan → IsStream stream
    → IsListed plan t → IsInTime plan t → n ≤ length (feed plan stream) → IsFedAnew plan stream t t.delay [] 0 n
fed_anew plan stream t n p u listed time l = grind arith

zero : (n : ℕ) → 0 + n ≡ n
zero n = omega arith

from_start : (feed : List (List ℕ)) (n : ℕ) → take n feed ≡ [] ++ slice_range feed 0 (0 + n)
from_start feed n = sym (from_mark feed 0 n)

pub no_segments : (plan : Plan) (stream : List (List ℕ)) (t : Transmitter) (n : ℕ) → IsPlan plan → IsStream stream
    → IsListed plan t → IsInTime plan t → n ≤ length (feed plan stream) → HasNoListing t.address (feed plan stream) 0 n
    → emission t.address t.delay (take n (feed plan stream)) ≡ []
no_segments plan stream t n p u listed time l none = ap (emission t.address t.delay) (from_start (feed plan stream) n)
    ∙ behind.no_segments plan stream t t.delay [] 0 n (fed_anew plan stream t n p u listed time l)
    (λ g whole far h. none g whole far (omega (arith, h)))

pub no_lines : (plan : Plan) (stream : List (List ℕ)) (t : Transmitter) (n : ℕ) → IsPlan plan → IsStream stream
    → IsListed plan t → IsInTime plan t → n ≤ length (feed plan stream) → HasNoListing t.address (feed plan stream) 0 n
    → life_lines t.address t.delay 0 (take n (feed plan stream)) ≡ []
no_lines plan stream t n p u listed time l none = ap (life_lines t.address t.delay 0) (from_start (feed plan stream) n)
    ∙ behind.no_lines plan stream t t.delay [] 0 n (fed_anew plan stream t n p u listed time l)
    (λ g whole far h. none g whole far (omega (arith, h)))

pub segments_from : (plan : Plan) (stream : List (List ℕ)) (t : Transmitter) (n k : ℕ) → IsPlan plan → IsStream stream
    → IsListed plan t → IsInTime plan t → n ≤ length (feed plan stream)
    → IsFirstListing t.address (feed plan stream) 0 n k → emission t.address t.delay (take n (feed plan stream))
    ≡ stretch_of (feed plan stream) k n
segments_from plan stream t n k p u listed time l first =
    ap (emission t.address t.delay) (from_start (feed plan stream) n)
    ∙ behind.segments_from plan stream t t.delay [] 0 n k (fed_anew plan stream t n p u listed time l)
    (grind (arith, zero)) ∙ ap (stretch_of (feed plan stream) k) (zero n)

pub lines_from : (plan : Plan) (stream : List (List ℕ)) (t : Transmitter) (n k : ℕ) → IsPlan plan → IsStream stream
    → IsListed plan t → IsInTime plan t → n ≤ length (feed plan stream)
    → IsFirstListing t.address (feed plan stream) 0 n k → life_lines t.address t.delay 0 (take n (feed plan stream))
    ≡ presets plan t.offset 0 (feed plan stream) k n
lines_from plan stream t n k p u listed time l first =
    ap (life_lines t.address t.delay 0) (from_start (feed plan stream) n)
    ∙ behind.lines_from plan stream t t.delay [] 0 n k (fed_anew plan stream t n p u listed time l)
    (grind (arith, zero)) ∙ ap (presets plan t.offset 0 (feed plan stream) k) (zero n)
