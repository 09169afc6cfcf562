-- A burst, or a gap, of some symbols is one of more symbols, too.
use Rattle.std.proofs.Common.{ℕ, ℤ, ◌≤◌, List, arith}
use Rattle.dtx_bursts.specs.Burst.{IsBurst, IsGap}

pub longer_burst : (count most from : ℕ) (sent got : List (List ℤ)) → count ≤ most → IsBurst count from sent got
    → IsBurst most from sent got
longer_burst count most from sent got few burst = grind arith

pub longer_gap : (count most from : ℕ) (sent got : List (List ℤ)) → count ≤ most → IsGap count from sent got
    → IsGap most from sent got
longer_gap count most from sent got few gap = grind arith
