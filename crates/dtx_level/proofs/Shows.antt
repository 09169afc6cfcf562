-- What places show of symbols behind others, and in front of others.
use Rattle.std.proofs.Common.{◌≡◌, ℕ, ℤ, pos, ◌+◌, ◌<◌, ◌≤◌, ◌&&◌, Bool, true, false, option_map, List, ◌++◌, length}
use Rattle.std.proofs.Common.{sum, take, drop, sym, ap, ap₂, ◌∙◌, arith, length-append}
use Rattle.std.proofs.lemmas.Bool.{le-leb, lt-leb, true≢false}
use Rattle.std.proofs.lemmas.List.{get_or_append_left, length-take-le, take-append-drop}
use Rattle.dtx_lists.proofs.Range.{map-range_same}
use Rattle.dtx_acquire.specs.Agreement.{unlike, unlike_at, NeedsSegment}
use Rattle.dtx_acquire.proofs.PlacesLemmas.{least_behind, whole_there}
use Rattle.dtx_acquire.proofs.SyncsLemmas.{order_behind, symbol_behind, unlike_behind}
use Rattle.dtx_level.specs.Shown.{are_shown, constant, counted_at, gain, least_shown, shows, sum_where}

-- ---- a place and the segment there

pub shows_by : (symbols : List ℤ) (place n : ℕ) (g : ℤ) → place + 832 ≤ length symbols → n ≡ unlike symbols place 0 515
    → g ≡ gain symbols place → are_shown n g ≡ shows symbols place
unfolding shows
shows_by symbols place n g l e f = grind (arith, le-leb)

-- no place shows a sync at which there is no segment
pub past_end : NeedsSegment shows
unfolding shows
past_end symbols place l =
    ap (λ b. b && are_shown (unlike symbols place 0 515) (gain symbols place)) (lt-leb (place + 832) (length symbols) l)

-- ---- in front of more

unlike_front : (h more : List ℤ) (p : ℕ) → p + 515 ≤ length h → unlike (h ++ more) p 0 515 ≡ unlike h p 0 515
unfolding unlike unlike_at
unlike_front h more p l = ap sum (map-range_same (unlike_at (h ++ more) p) (unlike_at h p) 0 515
    (λ i a b. (grind (arith, get_or_append_left))))

sum_front : (plus : Bool) (h more : List ℤ) (p n : ℕ) → p + n ≤ length h
    → sum_where plus (h ++ more) p n ≡ sum_where plus h p n
unfolding sum_where counted_at
sum_front plus h more p n l = grind (arith, map-range_same, get_or_append_left)

pub gain_front : (h more : List ℤ) (p : ℕ) → p + 515 ≤ length h → gain (h ++ more) p ≡ gain h p
unfolding gain
gain_front h more p l = grind (arith, sum_front)

pub constant_front : (h more : List ℤ) (p : ℕ) → p + 515 ≤ length h → constant (h ++ more) p ≡ constant h p
unfolding constant
constant_front h more p l = grind (arith, sum_front)

pub shows_front : (h more : List ℤ) (p : ℕ) → p + 832 ≤ length h → shows (h ++ more) p ≡ shows h p
unfolding shows
shows_front h more p l = grind (arith, le-leb, length-append, unlike_front, gain_front)

-- ---- behind others

sum_behind : (plus : Bool) (front v : List ℤ) (p n : ℕ)
    → sum_where plus (front ++ v) (length front + p) n ≡ sum_where plus v p n
unfolding sum_where counted_at
sum_behind plus front v p n = grind (arith, map-range_same, symbol_behind)

pub gain_behind : (front v : List ℤ) (p : ℕ) → gain (front ++ v) (length front + p) ≡ gain v p
unfolding gain
gain_behind front v p = grind (arith, sum_behind)

pub constant_behind : (front v : List ℤ) (p : ℕ) → constant (front ++ v) (length front + p) ≡ constant v p
unfolding constant
constant_behind front v p = grind (arith, sum_behind)

pub shows_behind : (front v : List ℤ) (p : ℕ) → shows (front ++ v) (length front + p) ≡ shows v p
unfolding shows
shows_behind front v p = grind (arith, order_behind, length-append, unlike_behind, gain_behind)

pub least_shown_behind : (front v : List ℤ) (p : ℕ)
    → least_shown (front ++ v) (length front + p) ≡ option_map (λ i. length front + i) (least_shown v p)
least_shown_behind front v p = least_behind shows front v p (shows_behind front v)

pub shows_dropped : (h : List ℤ) (k p : ℕ) → k ≤ length h → shows (drop k h) p ≡ shows h (k + p)
shows_dropped h k p l = sym (shows_behind (take k h) (drop k h) p)
    ∙ ap₂ shows (take-append-drop k h) (ap (λ n. n + p) (length-take-le k h l))

-- between the bounds none is shown
pub between : (n : ℕ) (g : ℤ) → 128 < n → n < 387 → are_shown n g ≡ false
between n g l m = grind (arith, lt-leb n 128 l, lt-leb 387 n m)

pub gain_some : (symbols : List ℤ) (place : ℕ) → shows symbols place ≡ true → gain symbols place ≡ pos 0 → ⊥
unfolding shows
gain_some symbols place h e = grind (arith, whole_there, true≢false, le-leb)
