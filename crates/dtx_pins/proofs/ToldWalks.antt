-- Walks along the paths of known pairs, in parts.
use Rattle.std.proofs.Common.{◌≡◌, ℕ, zero, suc, ℤ, pos, ◌+◌, ◌*◌, ◌<◌, ◌≤◌, ◌+ℤ◌, ◌≤ℤ◌, List, length, drop, refl, sym}
use Rattle.std.proofs.Common.{ap, ap₂, ◌∙◌, get_or, arith}
use Rattle.std.proofs.lemmas.Int.{ints}
use Rattle.std.proofs.lemmas.List.{drop_more}
use Rattle.dtx_pins.specs.declared.told.Excess.{Excess}
use Rattle.dtx_pins.specs.declared.told.Lane.{Lane}
use Rattle.dtx_pins.specs.Pins.{pin_at}
use Rattle.dtx_pins.specs.Told.{IsLane, emptied, excess_with, lane_after, lane_behind}
use Rattle.dtx_pins.proofs.PinnedWalks.{pin_here, pins_behind}
use Rattle.dtx_pins.proofs.ToldLanes.{same_excess, same_lane}
use Rattle.dtx_pins.proofs.ToldSums.{lane_at_end}

pub behind_none : (scale : ℕ) (pins : ℕ → ℕ) (symbols : ℕ → ℤ) (lane : Lane)
    → lane_behind scale pins symbols 0 lane ≡ lane
unfolding lane_behind
behind_none scale pins symbols lane = refl

-- one step more
behind_next : (scale : ℕ) (pins : ℕ → ℕ) (symbols : ℕ → ℤ) (r : ℕ) (lane : Lane)
    → lane_behind scale pins symbols (suc r) lane
    ≡ lane_after scale (pins r) (symbols r) (lane_behind scale pins symbols r lane)
unfolding lane_behind
behind_next scale pins symbols r lane = refl

pub behind_more : (scale : ℕ) (pins : ℕ → ℕ) (symbols : ℕ → ℤ) (r : ℕ) (old now new : Lane) (pin : ℕ) (v : ℤ)
    → now ≡ lane_behind scale pins symbols r old → pin ≡ pins r → v ≡ symbols r → new ≡ lane_after scale pin v now
    → new ≡ lane_behind scale pins symbols (r + 1) old
behind_more scale pins symbols r old now new pin v h e f g = grind arith ∙ sym (behind_next scale pins symbols r old)
    ∙ ap (λ r. lane_behind scale pins symbols r old) (omega arith)

-- the same pins and symbols
pub behind_alike : (scale : ℕ) (pins others : ℕ → ℕ) (symbols voices : ℕ → ℤ) (r : ℕ) (lane : Lane)
    → ((k : ℕ) → k < r → pins k ≡ others k) → ((k : ℕ) → k < r → symbols k ≡ voices k)
    → lane_behind scale pins symbols r lane ≡ lane_behind scale others voices r lane
behind_alike scale pins others symbols voices zero lane e f = grind (arith, behind_none)
behind_alike scale pins others symbols voices (suc r) lane e f = behind_next scale pins symbols r lane
    ∙ ap (λ pin. lane_after scale pin (symbols r) (lane_behind scale pins symbols r lane)) (e r (omega arith))
    ∙ ap₂ (lane_after scale (others r)) (f r (omega arith))
    (behind_alike scale pins others symbols voices r lane (λ k l. e k (omega arith)) (λ k l. f k (omega arith)))
    ∙ sym (behind_next scale others voices r lane)

-- the path along lists, one step further
end_next : (scale : ℕ) (pins : List ℕ) (symbols : List ℤ) (t u : ℕ) (lane : Lane) → u ≡ t + 1 → t < length symbols
    → lane_at_end scale (drop u pins) (drop u symbols)
    (lane_after scale (pin_at pins t) (get_or symbols t (pos 0)) lane)
    ≡ lane_at_end scale (drop t pins) (drop t symbols) lane
end_next scale pins symbols t u lane e l = grind (arith, lane_at_end, pins_behind, pin_here, drop_more)

-- the path along lists, in two parts
pub end_from : (scale : ℕ) (pins : List ℕ) (symbols : List ℤ) (t r : ℕ) (lane : Lane) → t + r ≤ length symbols
    → lane_at_end scale (drop (t + r) pins) (drop (t + r) symbols)
    (lane_behind scale (λ k. pin_at pins (t + k)) (λ k. get_or symbols (t + k) (pos 0)) r lane)
    ≡ lane_at_end scale (drop t pins) (drop t symbols) lane
end_from scale pins symbols t zero lane l = grind (arith, lane_at_end, behind_none)
end_from scale pins symbols t (suc r) lane l =
    let here = lane_behind scale (λ k. pin_at pins (t + k)) (λ k. get_or symbols (t + k) (pos 0)) r lane in
    ap (lane_at_end scale (drop (t + suc r) pins) (drop (t + suc r) symbols))
    (behind_next scale (λ k. pin_at pins (t + k)) (λ k. get_or symbols (t + k) (pos 0)) r lane)
    ∙ end_next scale pins symbols (t + r) (t + suc r) here (omega arith) (omega arith)
    ∙ end_from scale pins symbols t r lane (omega arith)

-- ---- sums of the segments before

-- the path with the sums of earlier steps
abbrev pub whole : Excess ℤ → Lane → Lane
whole total lane = record {
  former = lane.former;
  q1 = lane.q1;
  q0 = lane.q0;
  more = record {
    far = total.far +ℤ lane.more.far;
    near = total.near +ℤ lane.more.near;
    other_near = total.other_near +ℤ lane.more.other_near;
    both = total.both +ℤ lane.more.both;
    other_both = total.other_both +ℤ lane.more.other_both;
  };
}

-- sums, one step further
abbrev pub turned : Excess ℤ → Excess ℤ
turned total = record {
  far = total.far;
  near = total.other_near;
  other_near = total.near;
  both = total.other_both;
  other_both = total.both;
}

abbrev pub turned_by : ℕ → Excess ℤ → Excess ℤ
turned_by zero total = total
turned_by (suc r) total = turned (turned_by r total)

after_whole : (scale pin : ℕ) (v : ℤ) (total : Excess ℤ) (lane : Lane)
    → lane_after scale pin v (whole total lane) ≡ whole (turned total) (lane_after scale pin v lane)
after_whole scale pin v total lane = same_lane _ _ refl refl refl (grind (arith, same_excess, moved))
  where
    moved : (x y z : ℤ) → (x +ℤ y) +ℤ z ≡ x +ℤ (y +ℤ z)
    moved x y z = omega (arith, ints)

pub behind_whole : (scale : ℕ) (pins : ℕ → ℕ) (symbols : ℕ → ℤ) (r : ℕ) (total : Excess ℤ) (lane : Lane)
    → lane_behind scale pins symbols r (whole total lane)
    ≡ whole (turned_by r total) (lane_behind scale pins symbols r lane)
behind_whole scale pins symbols zero total lane = grind (arith, behind_none)
behind_whole scale pins symbols (suc r) total lane = behind_next scale pins symbols r (whole total lane)
    ∙ ap (lane_after scale (pins r) (symbols r)) (behind_whole scale pins symbols r total lane)
    ∙ after_whole scale (pins r) (symbols r) (turned_by r total) (lane_behind scale pins symbols r lane)
    ∙ ap (whole (turned (turned_by r total))) (sym (behind_next scale pins symbols r lane))

-- sums that begin anew
nothing_more : (x : ℤ) → (x +ℤ pos 0) ≡ x
nothing_more x = omega (arith, ints)

whole_emptied : (total : Excess ℤ) (lane : Lane)
    → whole (excess_with total lane.more) (emptied lane) ≡ whole (turned total) lane
whole_emptied total lane = grind (arith, same_lane, same_excess, nothing_more)

nothing_small : (x y : ℤ) → pos 0 ≤ℤ (y +ℤ pos (240 * 0)) → y ≤ℤ pos (240 * 0) → (x +ℤ y) ≡ x
nothing_small x y from to = omega (arith, ints, from, to)

pub whole_fresh : (total : Excess ℤ) (lane : Lane) → IsLane 0 lane → (whole total lane).more ≡ total
whole_fresh total lane h = grind (arith, same_excess, nothing_small)

-- the path along lists, one segment further
pub segment_more : (scale : ℕ) (pins : List ℕ) (symbols : List ℤ) (t u : ℕ) (total sum : Excess ℤ) (old now new : Lane)
    (f : ℕ → ℕ) (g : ℕ → ℤ) → u ≡ t + 69 → u ≤ length symbols → ((k : ℕ) → k < 69 → f k ≡ pin_at pins (t + k))
    → ((k : ℕ) → k < 69 → g k ≡ get_or symbols (t + k) (pos 0)) → now ≡ lane_behind scale f g 69 old
    → sum ≡ excess_with total now.more → new ≡ emptied now
    → lane_at_end scale (drop u pins) (drop u symbols) (whole sum new)
    ≡ lane_at_end scale (drop t pins) (drop t symbols) (whole total old)
segment_more scale pins symbols t u total sum old now new f g e l same heard h s n =
    ap₂ (λ k lane. lane_at_end scale (drop k pins) (drop k symbols) lane) e start
    ∙ end_from scale pins symbols t 69 (whole total old) (omega arith)
  where
    start : whole sum new ≡ lane_behind scale (λ k. pin_at pins (t + k)) (λ k. get_or symbols (t + k) (pos 0)) 69
        (whole total old)
    start = grind (arith, whole_emptied, behind_alike, behind_whole)
