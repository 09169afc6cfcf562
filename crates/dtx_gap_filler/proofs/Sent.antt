-- What a repeater sends and logs of a feed that it hears.
use Rattle.std.proofs.Common.{◌≡◌, ◌≢◌, ◌⊎◌, inl, inr, ℕ, ℤ, ◌+◌, ◌-◌, ◌%◌, ◌<◌, ◌≤◌, ◌==◌, cond, List, [], ◌∷◌, ◌++◌}
use Rattle.std.proofs.Common.{length, take, drop, refl, sym, ap, ◌∙◌, arith}
use Rattle.std.specs.Prelude.{slice_range}
use Rattle.std.proofs.lemmas.Bool.{cases_eq, cases_lt, ne_eqb}
use Rattle.std.proofs.lemmas.List.{append-nil, drop-drop, get_or-drop, get_or-map, get_or-take, length-drop}
use Rattle.std.proofs.lemmas.List.{length-take-le}
use Rattle.dtx_packets.specs.Packets.{sync_of}
use Rattle.dtx_plan.specs.declared.plan.Plan.{Plan}
use Rattle.dtx_plan.specs.declared.transmitter.Transmitter.{Transmitter}
use Rattle.dtx_adapter.specs.Feed.{feed}
use Rattle.dtx_exciter.specs.Packets.{syncs}
use Rattle.dtx_exciter.specs.Emission.{emission}
use Rattle.dtx_exciter.specs.Log.{life_lines, log, emission_over}
use Rattle.dtx_exciter.proofs.SinceMarkLemmas.{take_parts}
use Rattle.dtx_chain.specs.Damage.{ArePackets, packet_behind}
use Rattle.dtx_chain.proofs.SlightLemmas.{field_begins}
use Rattle.dtx_network.specs.Headline.{IsFirstListing, HasNoListing, HaveNoMark, IsFedAnew, stretch_of}
use Rattle.dtx_network.specs.Orders.{presets}
use Rattle.dtx_repeat.specs.Lives.{lives, repeated, repeated_log}
use Rattle.dtx_repeat.specs.Marks.{HasSyncs}
use Rattle.dtx_gap_filler.specs.Heard.{Hears, mark_from, heard_to}
use Rattle.dtx_gap_filler.proofs.Given.{has_syncs, inside}

-- ---- a part of a feed that begins a field, cut at its first mark

-- The packets from m to end are packets without a mark, and then those from a mark on; the mark is the first one at
-- packet m or behind it, or all of them stand before that one.
pub record IsCut (ps : List (List ℕ)) (m end : ℕ) : Type 0 where
  pub earlier : List (List ℕ)
  pub mark : ℕ
  pub count : ℕ
  pub unmarked : HaveNoMark earlier
  pub at_mark : mark % 624 ≡ 0
  pub inside : mark + count ≤ length ps
  pub holds : slice_range ps m end ≡ earlier ++ slice_range ps mark (mark + count)
  pub place : ((mark ≡ mark_from m) × (mark + count ≡ end)) ⊎ ((mark + count ≡ 0) × (end ≤ mark_from m))

-- the packets of a second field have no mark
no_mark : (ps : List (List ℕ)) (m c : ℕ) → HasSyncs ps → m % 624 ≡ 312 → c ≤ 312 → m + c ≤ length ps
    → HaveNoMark (take c (drop m ps))
unfolding syncs
no_mark ps m c syncs_are e small l = λ i h.
    let s : i < c = omega (arith, h, length-take-le c (drop m ps) (omega (arith, l, length-drop m ps))) in
    ap (λ x. x == 0xB8) (get_or-map sync_of (take c (drop m ps)) i [] 0 h
    ∙ ap sync_of (get_or-take c (drop m ps) i [] s ∙ get_or-drop m ps i []
    ∙ syncs_are (m + i) (omega (arith, s, l))))
    ∙ ap (λ b. cond b 0xB8 0x47 == 0xB8) (ne_eqb ((m + i) % 624) 0 (unmarked i s))
  where
    unmarked : (i : ℕ) → i < c → (m + i) % 624 ≢ 0
    unmarked i s z = omega (arith, z, e, s, small)

nothing_unmarked : HaveNoMark []
nothing_unmarked = λ i l. absurd (omega (arith, l))

slice_is : (ps : List (List ℕ)) (m c : ℕ) → slice_range ps m (m + c) ≡ take c (drop m ps)
slice_is ps m c = let e : m + c - m ≡ c = omega arith in ap (λ k. take k (drop m ps)) e

slice_parts : (ps : List (List ℕ)) (m a b : ℕ)
    → take (a + b) (drop m ps) ≡ take a (drop m ps) ++ slice_range ps (m + a) (m + a + b)
slice_parts ps m a b = grind (arith, take_parts, drop-drop, slice_is)

cut : (ps : List (List ℕ)) (m n : ℕ) → HasSyncs ps → m % 312 ≡ 0 → m + n ≤ length ps → IsCut ps m (m + n)
cut ps m n syncs_are f l = by_field (cases_eq (m % 624) 0) (cases_lt n 312)
  where
    first : m % 624 ≡ 0 → mark_from m ≡ m
    first e = omega (arith, e)

    second : m % 624 ≢ 0 → m % 624 ≡ 312
    second e = omega (arith, f, e)

    behind : m % 624 ≡ 312 → mark_from m ≡ m + 312
    behind e = omega (arith, e)

    by_field : (m % 624 ≡ 0) ⊎ (m % 624 ≢ 0) → (n < 312) ⊎ (312 ≤ n) → IsCut ps m (m + n)
    by_field (inl e) s = record {
      earlier = [];
      mark = m;
      count = n;
      unmarked = nothing_unmarked;
      at_mark = e;
      inside = l;
      holds = refl;
      place = inl (sym (first e), refl);
    }
    by_field (inr e) (inl s) = record {
      earlier = take n (drop m ps);
      mark = 0;
      count = 0;
      unmarked = no_mark ps m n syncs_are (second e) (omega (arith, s)) l;
      at_mark = omega arith;
      inside = omega arith;
      holds = slice_is ps m n ∙ sym (append-nil (take n (drop m ps)));
      place = inr (omega arith, omega (arith, s, behind (second e)));
    }
    by_field (inr e) (inr s) =
        let parts : 312 + (n - 312) ≡ n = omega (arith, s) in
        record {
          earlier = take 312 (drop m ps);
          mark = m + 312;
          count = n - 312;
          unmarked = no_mark ps m 312 syncs_are (second e) (omega arith) (omega (arith, s, l));
          at_mark = omega arith;
          inside = omega (arith, l);
          holds = slice_is ps m n ∙ ap (λ k. take k (drop m ps)) (sym parts) ∙ slice_parts ps m 312 (n - 312);
          place = inl (sym (behind (second e)), (omega (arith, s)));
        }

pub cut_heard : (plan : Plan) (stream : List (List ℕ)) (t : Transmitter) (delay first : ℕ) (sent got : List (List ℤ))
    → ArePackets (feed plan stream) → Hears plan stream t delay first sent got
    → IsCut (feed plan stream) (packet_behind first) (heard_to first got)
unfolding heard_to
cut_heard plan stream t delay first sent got p h = grind (arith, cut, has_syncs, field_begins, inside)

-- the exciter is fed anew with these parts
pub fed_anew : (plan : Plan) (stream : List (List ℕ)) (t : Transmitter) (delay first : ℕ) (sent got : List (List ℤ))
    → Hears plan stream t delay first sent got
    → (w : IsCut (feed plan stream) (packet_behind first) (heard_to first got))
    → IsFedAnew plan stream t delay w.earlier w.mark w.count
fed_anew plan stream t delay first sent got h w = grind (arith, inside)

-- ---- the life

-- the one life's segments and lines
all_sent : (address delay : ℕ) (got : List (List ℤ)) (life : List (List ℕ)) → lives got ≡ life ∷ []
    → repeated address delay got ≡ emission address delay life
all_sent address delay got life e = ap (emission_over address delay) e ∙ append-nil (emission address delay life)

all_logged : (address delay : ℕ) (got : List (List ℤ)) (life : List (List ℕ)) → lives got ≡ life ∷ []
    → repeated_log address delay got ≡ life_lines address delay 0 life
unfolding log
all_logged address delay got life e = ap (log address delay 0) e

-- a first listing stands where it did
moved : (address : ℕ) (ps : List (List ℕ)) (z y end to k : ℕ) → z ≡ y → end ≡ to
    → IsFirstListing address ps y to k → IsFirstListing address ps z end k
moved address ps z y end to k e f first = grind arith

none_moved : (address : ℕ) (ps : List (List ℕ)) (z y end to : ℕ) → z ≡ y → end ≡ to
    → HasNoListing address ps y to → HasNoListing address ps z end
none_moved address ps z y end to e f none = λ g whole far l. none g whole (omega (arith, e, far)) (omega (arith, f, l))

-- what is sent and logged of one life that is a part of a feed
pub sends : (plan : Plan) (stream : List (List ℕ)) (t : Transmitter) (delay m end k : ℕ) (got : List (List ℤ))
    → lives got ≡ slice_range (feed plan stream) m end ∷ [] → (w : IsCut (feed plan stream) m end)
    → (IsFirstListing t.address (feed plan stream) w.mark (w.mark + w.count) k
    → emission t.address delay (w.earlier ++ slice_range (feed plan stream) w.mark (w.mark + w.count))
    ≡ stretch_of (feed plan stream) k (w.mark + w.count))
    → IsFirstListing t.address (feed plan stream) (mark_from m) end k
    → repeated t.address delay got ≡ stretch_of (feed plan stream) k end
sends plan stream t delay m end k got e w known first = grind (arith, all_sent, moved)

pub logs : (plan : Plan) (stream : List (List ℕ)) (t : Transmitter) (delay m end k : ℕ) (got : List (List ℤ))
    → lives got ≡ slice_range (feed plan stream) m end ∷ [] → (w : IsCut (feed plan stream) m end)
    → (IsFirstListing t.address (feed plan stream) w.mark (w.mark + w.count) k
    → life_lines t.address delay 0 (w.earlier ++ slice_range (feed plan stream) w.mark (w.mark + w.count))
    ≡ presets plan t.offset 0 (feed plan stream) k (w.mark + w.count))
    → IsFirstListing t.address (feed plan stream) (mark_from m) end k
    → repeated_log t.address delay got ≡ presets plan t.offset 0 (feed plan stream) k end
logs plan stream t delay m end k got e w known first = grind (arith, all_logged, moved)

none_there : (address : ℕ) (ps : List (List ℕ)) (m end : ℕ) → (w : IsCut ps m end)
    → HasNoListing address ps (mark_from m) end → HasNoListing address ps w.mark (w.mark + w.count)
none_there address ps m end w none = grind (arith, none_moved)

pub sends_nothing : (plan : Plan) (stream : List (List ℕ)) (t : Transmitter) (delay m end : ℕ) (got : List (List ℤ))
    → lives got ≡ slice_range (feed plan stream) m end ∷ [] → (w : IsCut (feed plan stream) m end)
    → (HasNoListing t.address (feed plan stream) w.mark (w.mark + w.count)
    → emission t.address delay (w.earlier ++ slice_range (feed plan stream) w.mark (w.mark + w.count)) ≡ [])
    → HasNoListing t.address (feed plan stream) (mark_from m) end → repeated t.address delay got ≡ []
sends_nothing plan stream t delay m end got e w known none = grind (arith, all_sent, none_there)

pub logs_nothing : (plan : Plan) (stream : List (List ℕ)) (t : Transmitter) (delay m end : ℕ) (got : List (List ℤ))
    → lives got ≡ slice_range (feed plan stream) m end ∷ [] → (w : IsCut (feed plan stream) m end)
    → (HasNoListing t.address (feed plan stream) w.mark (w.mark + w.count)
    → life_lines t.address delay 0 (w.earlier ++ slice_range (feed plan stream) w.mark (w.mark + w.count)) ≡ [])
    → HasNoListing t.address (feed plan stream) (mark_from m) end → repeated_log t.address delay got ≡ []
logs_nothing plan stream t delay m end got e w known none = grind (arith, all_logged, none_there)
