-- A round of the coders side by side, by the definitions.
use Rattle.std.proofs.Common.{◌≡◌, ◌≢◌, Bool, inl, inr, ℕ, ◌-◌, ◌+◌, ◌*◌, ◌/◌, ◌%◌, ◌<◌, ◌≤◌, ◌↔◌, IsTrue, ℤ, pos, List}
use Rattle.std.proofs.Common.{length, get_or, sym, ap, ap₂, ◌∙◌, subst, arith}
use Rattle.std.proofs.lemmas.Bool.{cases_lt, cond-true, cond_both, false≢true, lt-ltb}
use Rattle.dtx_trellis.specs.Trellis.{AreBits, level_of, next_of, number_of, state_of, symbol_of, byte_place, pair_in}
use Rattle.dtx_trellis.specs.Trellis.{coder_at}
use Rattle.dtx_trellis.specs.Groups.{AreSent, coder_after, level_at, sent_place}
use Rattle.dtx_trellis.specs.Lanes.{coder_turned, turn, AreNibbles, AreReady, HoldsPairs, HoldsStates, IsMovedOn}
use Rattle.dtx_trellis.specs.Lanes.{StandsAt, behind_both, came_from, lane_behind, level_told, pair_taken, place_behind}
use Rattle.dtx_trellis.specs.Lanes.{turned_place}
use Rattle.dtx_trellis.proofs.CodersLemmas.{coder_is, one_group, pair_0, pair_1, pair_2, pair_3}
use Rattle.dtx_trellis.proofs.RoundsLemmas.{IsGroup, coder_next, level_next, coder_bits}
use Rattle.dtx_trellis.proofs.LaneStepsLemmas.{level_behind, lower_both, state_behind, state_eq, turned_small}
use Rattle.dtx_trellis.proofs.LaneStepsLemmas.{upper_both}

-- the states behind round r, and the levels given in it
pub record HoldsRound (s : ℕ) (states bytes : List ℕ) (r x : ℕ) (lanes : List ℕ) : Type 0 where
  pub behind : HoldsStates s states bytes (r + 1) x lanes
  pub levels : (p : ℕ) → p < 12 → level_told (get_or lanes p 0)
      ≡ level_of (coder_after s states bytes r (coder_turned x p)) (pair_taken s bytes r (coder_turned x p) / 2)
      (pair_taken s bytes r (coder_turned x p) % 2)

pub place_coder : (s r p : ℕ) → p < 12 → coder_turned (turn s r) p ≡ coder_at s (12 * r + p)
unfolding coder_turned turn
place_coder s r p l = sym (coder_is s r p l)

bits_after : (s r e : ℕ) (states bytes : List ℕ) → IsGroup s bytes → r < 276 → AreBits (coder_after s states bytes r e)
bits_after s r e states bytes g l = coder_bits s e r states bytes (omega (arith, one_group bytes g.long))

-- lanes that stand behind a round
pub behind_round : (s r x : ℕ) (states bytes lanes : List ℕ) → IsGroup s bytes → r < 276 → AreNibbles lanes
    → ((p : ℕ) → p < 12 → get_or lanes p 0
    ≡ lane_behind (coder_after s states bytes r (coder_turned x p)) (pair_taken s bytes r (coder_turned x p)))
    → HoldsRound s states bytes r x lanes
behind_round s r x states bytes lanes g l n f = record {
  behind = record {
    nibbles = n;
    at = λ p m. ap state_of (f p m) ∙ state_behind (coder_after s states bytes r (coder_turned x p))
        (pair_taken s bytes r (coder_turned x p)) (bits p)
        ∙ sym (coder_next s r (coder_turned x p) states bytes g l);
  };
  levels = λ p m. ap level_told (f p m) ∙ level_behind (coder_after s states bytes r (coder_turned x p))
      (pair_taken s bytes r (coder_turned x p)) (bits p);
}
  where
    bits : (p : ℕ) → AreBits (coder_after s states bytes r (coder_turned x p))
    bits p = bits_after s r (coder_turned x p) states bytes g l

-- nibbles of which each is this one
abbrev pub IsHalf : List ℕ → (ℕ → ℕ) → Type 0
IsHalf lanes half = AreNibbles lanes × ((p : ℕ) → p < 16 → get_or lanes p 0 ≡ half p)

-- the levels of lanes stand from `place` on, and before it all is as it was
abbrev pub IsStored : ℕ → List ℕ → List ℤ → List ℤ → Type 0
IsStored place lanes before symbols =
    ((p : ℕ) → p < 12 → get_or symbols (place + p) (pos 0) ≡ symbol_of (level_told (get_or lanes p 0)))
    × ((i : ℕ) → i < place → get_or symbols i (pos 0) ≡ get_or before i (pos 0))

-- what two rounds take, and what two look-ups give
pub record TwoRounds (s r x : ℕ) (states bytes lanes pairs both : List ℕ) : Type 0 where
  pub group : IsGroup s bytes
  pub round : r + 1 < 276
  pub held : HoldsStates s states bytes r x lanes
  pub taken : HoldsPairs s bytes r x pairs
  pub give : (p : ℕ) → p < 16 → get_or both p 0 ≡ behind_both (get_or lanes p 0) (get_or pairs p 0)

pub first_round : (s r x : ℕ) (states bytes lanes pairs both upper : List ℕ)
    → TwoRounds s r x states bytes lanes pairs both → AreNibbles upper
    → ((p : ℕ) → p < 16 → get_or upper p 0 ≡ get_or both p 0 / 16) → HoldsRound s states bytes r x upper
first_round s r x states bytes lanes pairs both upper h n f =
    behind_round s r x states bytes upper h.group (omega (arith, h.round)) n
    (λ p l. f p (omega arith) ∙ ap (λ y. y / 16) (h.give p (omega arith))
    ∙ upper_both (get_or lanes p 0) (get_or pairs p 0) ∙ ap₂ lane_behind (h.held.at p l) (h.taken.first p l))

pub second_round : (s r x : ℕ) (states bytes lanes pairs both lower : List ℕ)
    → TwoRounds s r x states bytes lanes pairs both → AreNibbles lower
    → ((p : ℕ) → p < 16 → get_or lower p 0 ≡ get_or both p 0 % 16) → HoldsRound s states bytes (r + 1) x lower
second_round s r x states bytes lanes pairs both lower h n f =
    behind_round s (r + 1) x states bytes lower h.group h.round n
    (λ p l. f p (omega arith) ∙ ap (λ y. y % 16) (h.give p (omega arith))
    ∙ lower_both (get_or lanes p 0) (get_or pairs p 0)
    ∙ ap₂ (λ q y. lane_behind (next_of q (y / 2) (y % 2)) (get_or pairs p 0 % 4)) (h.held.at p l) (h.taken.first p l)
    ∙ ap₂ lane_behind (sym (coder_next s r (coder_turned x p) states bytes h.group (omega (arith, h.round))))
    (h.taken.second p l))

-- the level of each lane is that of its data symbol
pub round_level : (s r p : ℕ) (states bytes lanes : List ℕ) → IsGroup s bytes → r < 276 → p < 12
    → HoldsRound s states bytes r (turn s r) lanes
    → level_told (get_or lanes p 0) ≡ level_at s states bytes (12 * r + p)
round_level s r p states bytes lanes g l m h = grind (arith, place_coder, level_next)

-- where round t begins a segment, each place has the coder of the place four further on
turned_coder : (s t p : ℕ) → t % 69 ≡ 0 → 0 < t → p < 12
    → coder_turned (turn s t) p ≡ coder_turned (turn s (t - 1)) ((p + 4) % 12)
unfolding coder_turned turn
turned_coder s t p e z l = grind arith

pub same_turn : (s t : ℕ) → t % 69 ≢ 0 → turn s t ≡ turn s (t - 1)
unfolding turn
same_turn s t m = ap (λ i. (s + i) % 3) (omega arith)

-- the first round of a byte group begins no segment but the first
pub first_turn : (s h : ℕ) → h < 69 → turn s (4 * h) ≡ turn s (4 * h - 1)
unfolding turn
first_turn s h l = ap (λ i. (s + i) % 3) (omega arith)

-- the bytes on which the coders work in round r
pub record HoldsBytes (s : ℕ) (bytes : List ℕ) (r x : ℕ) (lanes : List ℕ) : Type 0 where
  pub long : length lanes ≡ 16
  pub at : (p : ℕ) → p < 12 → get_or lanes p 0 ≡ get_or bytes (byte_place s r (coder_turned x p)) 0

-- the twelve bytes of byte group h
pub loaded_bytes : (s h : ℕ) (bytes v : List ℕ) → length v ≡ 16
    → ((p : ℕ) → p < 12 → get_or v p 0 ≡ get_or bytes (12 * h + p) 0) → HoldsBytes s bytes (4 * h) (turn s (4 * h)) v
unfolding byte_place coder_turned turn
loaded_bytes s h bytes v k f = record {
  long = k;
  at = λ p l. f p l ∙ ap (λ i. get_or bytes i 0) (place p l);
}
  where
    place : (p : ℕ) → p < 12 → 12 * h + p ≡ 12 * (4 * h / 4) + ((p + 4 * ((s + 4 * h / 69) % 3)) % 12 + 12 - 4 *
        ((s + 4 * (4 * h / 4) / 69) % 3)) % 12
    place p l = grind arith

-- round t isn't the first, and `b` says whether it begins a segment
abbrev pub Begins : ℕ → Bool → Type 0
Begins t b = (0 < t) × (IsTrue b ↔ (t % 69 ≡ 0))

-- place p has its coder from place q
abbrev Comes : ℕ → ℕ → ℕ → ℕ → Type 0
Comes s t p q = (q < 12) × (coder_turned (turn s t) p ≡ coder_turned (turn s (t - 1)) q)

-- lanes that are moved on before round t: each place has the lane of its coder
came_small : (b : Bool) (p : ℕ) → p < 16 → came_from b p < 16
came_small b p l = cond_both b (turned_place p) p (λ y. y < 16) (λ _. turned_small p l) (λ _. l)

came_coder : (s t p : ℕ) (b : Bool) → Begins t b → p < 12
    → (came_from b p < 12) × (coder_turned (turn s t) p ≡ coder_turned (turn s (t - 1)) (came_from b p))
came_coder s t p b z l = grind (arith, cond_both, cond-true, lt-ltb, turned_coder, same_turn, false≢true)

pub moved_nibbles : (b : Bool) (v w : List ℕ) → IsMovedOn b v w → AreNibbles v → AreNibbles w
moved_nibbles b v w m n = grind (arith, came_small)

pub moved_states : (s t u : ℕ) (states bytes v w : List ℕ) (b : Bool) → Begins t b → IsMovedOn b v w
    → HoldsStates s states bytes u (turn s (t - 1)) v → HoldsStates s states bytes u (turn s t) w
moved_states s t u states bytes v w b z m h = record {
  nibbles = moved_nibbles b v w m h.nibbles;
  at = λ p l.
      let c = came_coder s t p b z l in
      ap state_of (m.at p (omega arith)) ∙ h.at (came_from b p) c.0 ∙ ap (coder_after s states bytes u) (sym c.1);
}

moved_round : (s t r : ℕ) (states bytes v w : List ℕ) (b : Bool) → Begins t b → IsMovedOn b v w
    → HoldsRound s states bytes r (turn s (t - 1)) v → HoldsRound s states bytes r (turn s t) w
moved_round s t r states bytes v w b z m h = record {
  behind = moved_states s t (r + 1) states bytes v w b z m h.behind;
  levels = λ p l.
      let c = came_coder s t p b z l in
      ap level_told (m.at p (omega arith)) ∙ h.levels (came_from b p) c.0
      ∙ ap (λ e. level_of (coder_after s states bytes r e) (pair_taken s bytes r e / 2) (pair_taken s bytes r e % 2))
      (sym c.1);
}

pub moved_bytes : (s t r : ℕ) (bytes v w : List ℕ) (b : Bool) → Begins t b → IsMovedOn b v w
    → HoldsBytes s bytes r (turn s (t - 1)) v → HoldsBytes s bytes r (turn s t) w
moved_bytes s t r bytes v w b z m h = record {
  long = m.long;
  at = λ p l.
      let c = came_coder s t p b z l in
      m.at p (omega arith) ∙ h.at (came_from b p) c.0 ∙ ap (λ e. get_or bytes (byte_place s r e) 0) (sym c.1);
}

-- the second of two rounds, which may begin a segment
second_moved : (s r : ℕ) (states bytes lanes pairs both lower behind : List ℕ) (b : Bool)
    → TwoRounds s r (turn s r) states bytes lanes pairs both → AreNibbles lower
    → ((p : ℕ) → p < 16 → get_or lower p 0 ≡ get_or both p 0 % 16) → (IsTrue b ↔ ((r + 1) % 69 ≡ 0))
    → IsMovedOn b lower behind → HoldsRound s states bytes (r + 1) (turn s (r + 1)) behind
second_moved s r states bytes lanes pairs both lower behind b h n f between m =
    let e : r ≡ r + 1 - 1 = omega arith in
    moved_round s (r + 1) (r + 1) states bytes lower behind b (omega arith, between) m
    (rw (← e) (second_round s r (turn s r) states bytes lanes pairs both lower h n f))

-- the pairs of the four rounds of byte group h
byte_later : (s h r e : ℕ) → r / 4 ≡ h → byte_place s (4 * h) e ≡ byte_place s r e
unfolding byte_place
byte_later s h r e f = ap (λ k. 12 * k + (e + 12 - 4 * ((s + 4 * k / 69) % 3)) % 12) (omega arith ∙ sym f)

pub upper_pairs : (s h x : ℕ) (bytes v w : List ℕ) → HoldsBytes s bytes (4 * h) x v
    → AreNibbles w → ((p : ℕ) → p < 16 → get_or w p 0 ≡ get_or v p 0 / 16) → HoldsPairs s bytes (4 * h) x w
upper_pairs s h x bytes v w held n f = record {
  nibbles = n;
  first = λ p l. ap (λ y. y / 4) (f p (omega arith))
      ∙ high (get_or v p 0) (subst (λ y. y < 16) (f p (omega arith)) (n.small p (omega arith)))
      ∙ ap (λ y. y / 64 % 4) (held.at p l) ∙ pair_0 (byte p) (4 * h) (omega arith);
  second = λ p l. ap (λ y. y % 4) (f p (omega arith)) ∙ ap (λ y. y / 16 % 4) (held.at p l)
      ∙ pair_1 (byte p) (4 * h + 1) (omega arith)
      ∙ ap (λ i. pair_in (get_or bytes i 0) (4 * h + 1)) (byte_later s h (4 * h + 1) (coder_turned x p) (omega arith));
}
  where
    byte : ℕ → ℕ
    byte p = get_or bytes (byte_place s (4 * h) (coder_turned x p)) 0

    high : (b : ℕ) → b / 16 < 16 → b / 16 / 4 ≡ b / 64 % 4
    high b l = omega arith

pub lower_pairs : (s h x : ℕ) (bytes v w : List ℕ) → HoldsBytes s bytes (4 * h) x v → AreNibbles w
    → ((p : ℕ) → p < 16 → get_or w p 0 ≡ get_or v p 0 % 16) → HoldsPairs s bytes (4 * h + 2) x w
lower_pairs s h x bytes v w held n f = record {
  nibbles = n;
  first = λ p l. ap (λ y. y / 4) (f p (omega arith)) ∙ middle (get_or v p 0) ∙ ap (λ y. y / 4 % 4) (held.at p l)
      ∙ pair_2 (byte p) (4 * h + 2) (omega arith)
      ∙ ap (λ i. pair_in (get_or bytes i 0) (4 * h + 2)) (byte_later s h (4 * h + 2) (coder_turned x p) (omega arith));
  second = λ p l. ap (λ y. y % 4) (f p (omega arith)) ∙ low (get_or v p 0) ∙ ap (λ y. y % 4) (held.at p l)
      ∙ pair_3 (byte p) (4 * h + 2 + 1) (omega arith)
      ∙ ap (λ i. pair_in (get_or bytes i 0) (4 * h + 2 + 1))
      (byte_later s h (4 * h + 2 + 1) (coder_turned x p) (omega arith));
}
  where
    byte : ℕ → ℕ
    byte p = get_or bytes (byte_place s (4 * h) (coder_turned x p)) 0

    middle : (b : ℕ) → b % 16 / 4 ≡ b / 4 % 4
    middle b = omega arith

    low : (b : ℕ) → b % 16 % 4 ≡ b % 4
    low b = omega arith

-- the coder at place p in the first segment of a group, and in the last
pub first_coder : (s p : ℕ) → coder_turned (turn s 0) p ≡ (p + 4 * (s % 3)) % 12
unfolding coder_turned turn
first_coder s p = omega arith

pub last_place : (s e : ℕ) → e < 12 → coder_turned (turn s 275) ((e + 12 - 4 * (s % 3)) % 12) ≡ e
unfolding coder_turned turn
last_place s e l = omega arith

pub state_low : (n : ℕ) → state_of (n % 8) ≡ state_of n
state_low n = state_eq (state_of (n % 8)) (state_of n) (omega arith) (omega arith) (omega arith)

-- the number of coder e's state behind the last round
pub number_end : (s e : ℕ) (states bytes lanes : List ℕ) → e < 12 → HoldsStates s states bytes 276 (turn s 275) lanes
    → get_or lanes ((e + 12 - 4 * (s % 3)) % 12) 0 % 8 ≡ number_of (coder_after s states bytes 276 e)
number_end s e states bytes lanes l h = grind (arith, last_place)

-- where a round is sent
pub round_place : (r : ℕ) → 12 * r + 4 * (r / 69 + 1) ≡ sent_place (12 * r)
unfolding sent_place
round_place r = omega arith

-- the symbols of one more round
pub sent_more : (s r : ℕ) (states bytes : List ℕ) (before symbols : List ℤ) → AreSent s states bytes (12 * r) before
    → ((i : ℕ) → i < sent_place (12 * r) → get_or symbols i (pos 0) ≡ get_or before i (pos 0)) → ((p : ℕ) → p < 12
    → get_or symbols (sent_place (12 * r) + p) (pos 0) ≡ symbol_of (level_at s states bytes (12 * r + p)))
    → AreSent s states bytes (12 * (r + 1)) symbols
unfolding AreSent sent_place
sent_more s r states bytes before symbols h kept given d l = elim (cases_lt d (12 * r)) [
  | inl k ↦ kept (d + 4 * (d / 828 + 1)) (omega arith) ∙ h d k
  | inr k ↦ subst (λ i. get_or symbols i (pos 0) ≡ symbol_of (level_at s states bytes d)) (omega arith)
      (subst (λ n. get_or symbols (12 * r + 4 * (12 * r / 828 + 1) + (d - 12 * r)) (pos 0)
      ≡ symbol_of (level_at s states bytes n)) (omega arith) (given (d - 12 * r) (omega arith)))
]

pub none_sent : (s : ℕ) (states bytes : List ℕ) (symbols : List ℤ) → AreSent s states bytes 0 symbols
unfolding AreSent
none_sent s states bytes symbols d l = absurd (omega arith)

-- where the next round is sent
pub next_sent : (r place : ℕ) (b : Bool) → (IsTrue b ↔ ((r + 1) % 69 ≡ 0)) → place ≡ sent_place (12 * r)
    → place_behind place b ≡ sent_place (12 * (r + 1))
unfolding sent_place
next_sent r place b z e = grind (arith, cond_both, false≢true)

-- the symbols of a round have room
pub round_within : (r : ℕ) → r < 276 → sent_place (12 * r) + 12 ≤ 3328
unfolding sent_place
round_within r l = omega arith

-- the symbols of one more round, from `place` on
sent_next : (s r place : ℕ) (states bytes lanes : List ℕ) (before symbols : List ℤ) → IsGroup s bytes → r < 276
    → HoldsRound s states bytes r (turn s r) lanes → place ≡ sent_place (12 * r)
    → AreSent s states bytes (12 * r) before → IsStored place lanes before symbols
    → AreSent s states bytes (12 * (r + 1)) symbols
sent_next s r place states bytes lanes before symbols g l held e sent stored = grind (arith, sent_more, round_level)

-- what two rounds make
pub rounds_coded : (s r place later : ℕ) (b : Bool) (states bytes lanes pairs both upper lower behind : List ℕ)
    (before between symbols : List ℤ) → AreReady s states bytes r b place lanes pairs before
    → ((p : ℕ) → p < 16 → get_or both p 0 ≡ behind_both (get_or lanes p 0) (get_or pairs p 0))
    → IsHalf upper (λ p. get_or both p 0 / 16) → IsHalf lower (λ p. get_or both p 0 % 16) → IsMovedOn b lower behind
    → IsStored place upper before between → later ≡ place_behind place b → IsStored later behind between symbols
    → HoldsStates s states bytes (r + 2) (turn s (r + 1)) behind × AreSent s states bytes (12 * (r + 2)) symbols
rounds_coded s r place later b states bytes lanes pairs both upper lower behind before between symbols h give up low m
    one e two =
    let group : IsGroup s bytes = record { place = h.first; long = h.long } in
    let rounds : TwoRounds s r (turn s r) states bytes lanes pairs both =
    record { group = group; round = h.round; held = h.held; taken = h.taken; give = give } in
    let first = first_round s r (turn s r) states bytes lanes pairs both upper rounds up.0 up.1 in
    let second = second_moved s r states bytes lanes pairs both lower behind b rounds low.0 low.1 h.between m in
    let sent = sent_next s r place states bytes upper before between group (omega (arith, h.round)) first h.at h.sent
    one in
    let last = sent_next s (r + 1) later states bytes behind between symbols group h.round second
    (e ∙ next_sent r place b h.between h.at) sent two in
    let f : r + 1 + 1 ≡ r + 2 = omega arith in
    (rw (← f) second.behind, rw (← f) last)

-- behind the four rounds of byte h
pub stands_next : (s h : ℕ) (states bytes lanes : List ℕ) (symbols : List ℤ)
    → HoldsStates s states bytes (4 * h + 2 + 2) (turn s (4 * h + 2 + 1)) lanes
    × AreSent s states bytes (12 * (4 * h + 2 + 2)) symbols → StandsAt s states bytes (h + 1) lanes symbols
stands_next s h states bytes lanes symbols coded = grind arith

-- the rounds of byte h of each coder, where it stands within segment g and doesn't begin it
pub inside : (h g k : ℕ) → g < 4 → 17 * g < h → h < 17 * (g + 1) → k < 4
    → ((4 * h + k) / 69 ≡ g) × ((4 * h + k) % 69 ≢ 0)
inside h g k l m n o = (omega arith, λ e. omega arith)

pub inside_turn : (s h g k : ℕ) → g < 4 → 17 * g < h → h < 17 * (g + 1) → k < 4 → turn s (4 * h) ≡ turn s (4 * h + k)
unfolding turn
inside_turn s h g k l m n o = ap (λ i. (s + i) % 3) (omega arith ∙ sym (inside h g k l m n o).0)
