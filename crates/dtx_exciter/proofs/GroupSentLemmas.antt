-- What the coder makes of a whole group.
use Rattle.std.proofs.Common.{◌≡◌, ℕ, ℤ, ◌+◌, ◌-◌, ◌*◌, ◌/◌, ◌%◌, ◌<◌, ◌≤◌, ◌==◌, ◌&&◌, Bool, true, false, cond, Option}
use Rattle.std.proofs.Common.{Some, None, option_map, List, [], ◌∷◌, ◌++◌, length, drop, refl, sym, ap, ap₂, subst, ◌∙◌}
use Rattle.std.proofs.Common.{arith}
use Rattle.std.specs.Prelude.{nat_le, is_ok}
use Rattle.std.specs.List.{cons_option}
use Rattle.std.specs.Option.{unwrap_or}
use Rattle.std.proofs.lemmas.Bool.{cond-true, cond-false}
use Rattle.std.proofs.lemmas.List.{length-drop, drop-append-le}
use Rattle.dtx_frame.specs.Segments.{field_sync}
use Rattle.dtx_trellis.specs.Trellis.{group_place}
use Rattle.dtx_trellis.specs.Groups.{levels_of, states_after}
use Rattle.dtx_trellis.proofs.JoinsLemmas.{levels_append}
use Rattle.dtx_coder.specs.Stream.{whole_groups, segment, four_segments, last_of}
use Rattle.dtx_coder.specs.Groups.{Coding, Group, air_segments, after_group}
use Rattle.dtx_coder.specs.Along.{IsNext, RunsAlong, levels_since}
use Rattle.dtx_coder.proofs.AlongLemmas.{along_goes_on, along_preset, sent_group, sent_preset, last_along}
use Rattle.dtx_coder.proofs.BytesLemmas.{length-whole, whole_append}
use Rattle.dtx_coder.proofs.LevelsLemmas.{length-levels_of}
use Rattle.dtx_coder.proofs.SegmentsLemmas.{segment_front}
use Rattle.dtx_ops.specs.declared.fields.Ops.{Ops}
use Rattle.dtx_exciter.specs.Order.{Order, placed}
use Rattle.dtx_exciter.specs.Told.{served}
use Rattle.dtx_exciter.specs.Emission.{segments_since, sent_by, behind_field_sync}
use Rattle.dtx_exciter.specs.Kept.{is_served, RunsUnder}
use Rattle.dtx_exciter.proofs.EndsLemmas.{IsOlder}

-- ---- levels go on

-- a segment of the front stays
pub since_front : (w qs : List (List ℕ)) (u g k : ℕ) (q : List ℕ) → length w ≡ 4 * u → g ≤ u → k < 4 * (u - g)
    → segment (levels_since g q (w ++ qs)) k ≡ segment (levels_since g q w) k
unfolding levels_since
since_front w qs u g k q e l m =
    let bytes : List ℕ = drop (828 * g) (whole_groups w) in
    let more : List ℕ = drop (828 * u) (whole_groups (w ++ qs)) in
    let long : length bytes ≡ 828 * (u - g) = grind (arith, length-drop, length-whole) in
    ap (λ y. segment (levels_of (4 * g % 312) q y) k) (ap (drop (828 * g)) (whole_append w qs u e)
    ∙ drop-append-le (828 * g) (whole_groups w) more (omega (arith, l, e, length-whole w)))
    ∙ ap (λ zs. segment zs k) (grind (arith, levels_append)) ∙ segment_front (levels_of (4 * g % 312) q bytes)
    (levels_of (group_place (4 * g % 312) (u - g)) (states_after (4 * g % 312) q bytes) more) k
    (omega (arith, m, length-levels_of (4 * g % 312) q bytes (u - g) long))

-- ---- the coder goes on

-- the coder was given the groups w under the order r, and is given the group g, of the packets q, from i on
pub record IsGiven (w q : List (List ℕ)) (i : ℕ) (own : Option Ops) (r : List Order) (coder : Coding)
    (g : Group) : Type 0 where
  pub runs : RunsUnder w r coder
  pub next : IsNext w (unwrap_or (option_map (λ o. o.states) own) coder.states) g
  pub packets : g.packets ≡ q
  pub long : length w ≡ i
  pub whole : i % 4 ≡ 0

-- since some group
pub record RunsSince (w : List (List ℕ)) (coder : Coding) : Type 0 where
  pub group : ℕ
  pub states : List ℕ
  pub runs : RunsAlong w group states coder

since : (w : List (List ℕ)) (r : List Order) (coder : Coding) → RunsUnder w r coder → RunsSince w coder
since w [] coder h = record { group = 0; states = h.0; runs = h.1 }
since w (order ∷ older) coder h = record { group = order.place / 4; states = order.ops.states; runs = h }

pub runs_more : (w q : List (List ℕ)) (i : ℕ) (own : Option Ops) (r : List Order) (coder : Coding) (g : Group)
    → IsGiven w q i own r coder g → RunsUnder (w ++ q) (cons_option (placed i own) r) (after_group coder g)
runs_more w q i (Some ops) r coder g n =
    let s : RunsSince w coder = since w r coder n.runs in
    subst (λ k. RunsAlong (w ++ q) k ops.states (after_group coder g)) (ap (λ (k : ℕ). k / 4) n.long)
    (subst (λ x. RunsAlong (w ++ x) (length w / 4) ops.states (after_group coder g)) n.packets
    (along_preset w s.group s.states ops.states coder g s.runs n.next))
runs_more w q i None [] coder g n = (
  n.runs.0,
  subst (λ x. RunsAlong (w ++ x) 0 n.runs.0 (after_group coder g)) n.packets
      (along_goes_on w 0 n.runs.0 coder g n.runs.1 n.next),
)
runs_more w q i None (order ∷ older) coder g n =
    subst (λ x. RunsAlong (w ++ x) (order.place / 4) order.ops.states (after_group coder g)) n.packets
    (along_goes_on w (order.place / 4) order.ops.states coder g n.runs n.next)

-- ---- the data segments

abbrev sync_of_group : Coding → Group → List (List ℤ)
sync_of_group coder g = cond g.sync (field_sync g.second coder.last ∷ []) []

data_own : (address delay : ℕ) (w q : List (List ℕ)) (i : ℕ) (ops : Ops) (r : List Order) (coder : Coding) (g : Group)
    → IsGiven w q i (Some ops) r coder g → 52 ≤ i
    → is_ok (served address delay (record { place = i; ops = ops } ∷ r)) ≡ true
    → air_segments coder g ≡ sync_of_group coder g
    ++ sent_by address delay (w ++ q) i (record { place = i; ops = ops } ∷ r)
unfolding segments_since
data_own address delay w q i ops r coder g n l s =
    let x : RunsSince w coder = since w r coder n.runs in
    sent_preset w x.group x.states ops.states coder g x.runs (subst (λ (k : ℕ). 52 ≤ k) (sym n.long) l) n.next
    ∙ ap (λ ss. sync_of_group coder g ++ ss) (grind (arith, cond-true))

data_old : (address delay : ℕ) (w q : List (List ℕ)) (i : ℕ) (order : Order) (older : List Order) (coder : Coding)
    (g : Group)
    → IsGiven w q i None (order ∷ older) coder g → IsOlder i order → is_ok (served address delay (order ∷ older)) ≡ true
    → air_segments coder g ≡ sync_of_group coder g ++ sent_by address delay (w ++ q) i (order ∷ older)
unfolding segments_since
data_old address delay w q i order older coder g n o s =
    let a : 52 ≤ 4 * (order.place / 4) = let x = o.flushed in let y = o.whole in omega (arith, x, y) in
    let e : length w - 4 * (order.place / 4) ≡ 4 * (i / 4 - order.place / 4) = let x = n.long in let y = n.whole in
    let z = o.before in omega (arith, x, y, z) in
    sent_group w (order.place / 4) order.ops.states coder g n.runs a n.next ∙ ap (λ ss. sync_of_group coder g ++ ss)
    (grind (arith, cond-true))

data_is : (address delay : ℕ) (w q : List (List ℕ)) (i : ℕ) (own : Option Ops) (r : List Order) (coder : Coding)
    (g : Group) → IsGiven w q i own r coder g → ((ops : Ops) → own ≡ Some ops → 52 ≤ i)
    → ((order : Order) (older : List Order) → r ≡ order ∷ older → IsOlder i order)
    → is_served address delay (cons_option (placed i own) r) ≡ true
    → air_segments coder g ≡ sync_of_group coder g ++ sent_by address delay (w ++ q) i (cons_option (placed i own) r)
data_is address delay w q i (Some ops) r coder g n f h s = data_own address delay w q i ops r coder g n (f ops refl) s
data_is address delay w q i None [] coder g n f h s = cc
data_is address delay w q i None (order ∷ older) coder g n f h s =
    data_old address delay w q i order older coder g n (h order older refl) s

-- ---- the field sync

none_before : (i : ℕ) (ss : List (List ℤ)) → behind_field_sync i [] ss ≡ ss
none_before i [] = refl
none_before i (s ∷ ss) = refl

pub some_before : (i n m : ℕ) (ys zs : List ℕ) → behind_field_sync i (four_segments ys n) (four_segments zs m)
    ≡ cond (i % 312 == 0) (field_sync (nat_le 312 (i % 624)) (last_of (segment ys (n + 3))) ∷ []) []
    ++ four_segments zs m
unfolding four_segments
some_before i n m ys zs = grind arith

-- what a served order sends is four segments
pub record AreFour (ss : List (List ℤ)) : Type 0 where
  pub zs : List ℕ
  pub n : ℕ
  pub are : ss ≡ four_segments zs n

pub none_by : (address delay : ℕ) (packets : List (List ℕ)) (i : ℕ) (r : List Order)
    → is_served address delay r ≡ false → sent_by address delay packets i r ≡ []
none_by address delay packets i [] s = refl
none_by address delay packets i (order ∷ older) s = grind (arith, cond-false)

-- the last twelve symbols that were sent are those that the coder holds
last_held : (w q : List (List ℕ)) (i : ℕ) (order : Order) (coder : Coding) (n : ℕ) → length w ≡ i → i % 4 ≡ 0
    → RunsAlong w (order.place / 4) order.ops.states coder → IsOlder i order
    → n ≡ 4 * ((i - 4) / 4 - order.place / 4) + 3
    → coder.last ≡ last_of (segment (levels_since (order.place / 4) order.ops.states (w ++ q)) n)
last_held w q i order coder n long whole runs o e =
    let k : length w - 4 * (order.place / 4) - 1 ≡ n = omega (arith, long, whole, e) in
    last_along w (order.place / 4) order.ops.states coder runs (omega arith) (omega (arith, long))
    ∙ ap last_of (ap (segment (levels_since (order.place / 4) order.ops.states w)) k
    ∙ sym (since_front w q (i / 4) (order.place / 4) n order.ops.states (omega (arith, long, whole)) (omega arith)
    (omega (arith, whole, e))))

-- whether a field sync stands before the group
pub record HasSync (i : ℕ) (before : Bool) (g : Group) : Type 0 where
  pub sync : g.sync ≡ (before && (i % 312 == 0))
  pub second : g.second ≡ nat_le 312 (i % 624)

no_sync : (coder : Coding) (g : Group) (b : Bool) → g.sync ≡ (false && b) → sync_of_group coder g ≡ []
no_sync coder g b e = ap (λ t. cond t (field_sync g.second coder.last ∷ []) []) e

sync_old : (address delay : ℕ) (w q : List (List ℕ)) (i : ℕ) (order : Order) (older : List Order) (coder : Coding)
    (g : Group) (ss : List (List ℤ)) → length w ≡ i → i % 4 ≡ 0 → RunsAlong w (order.place / 4) order.ops.states coder
    → IsOlder i order → HasSync i true g → is_ok (served address delay (order ∷ older)) ≡ true → AreFour ss
    → sync_of_group coder g ++ ss ≡ behind_field_sync i (sent_by address delay (w ++ q) (i - 4) (order ∷ older)) ss
unfolding segments_since
sync_old address delay w q i order older coder g ss long whole runs o h s four =
    let zs : List ℕ = levels_since (order.place / 4) order.ops.states (w ++ q) in
    let n : ℕ = 4 * ((i - 4) / 4 - order.place / 4) in
    ap (λ x. sync_of_group coder g ++ x) four.are ∙ ap (λ x. x ++ four_segments four.zs four.n)
    (ap (λ t. cond t (field_sync g.second coder.last ∷ []) []) h.sync
    ∙ ap₂ (λ second last. cond (i % 312 == 0) (field_sync second last ∷ []) []) h.second
    (last_held w q i order coder (n + 3) long whole runs o refl)) ∙ grind (arith, some_before, cond-true)

sync_by_service : (address delay : ℕ) (w q : List (List ℕ)) (i : ℕ) (order : Order) (older : List Order)
    (coder : Coding) (g : Group) (ss : List (List ℤ)) (before t : Bool) → length w ≡ i → i % 4 ≡ 0
    → RunsAlong w (order.place / 4) order.ops.states coder
    → IsOlder i order → HasSync i before g → before ≡ t → is_ok (served address delay (order ∷ older)) ≡ t → AreFour ss
    → sync_of_group coder g ++ ss ≡ behind_field_sync i (sent_by address delay (w ++ q) (i - 4) (order ∷ older)) ss
sync_by_service address delay w q i order older coder g ss before true long whole runs o h b s four =
    sync_old address delay w q i order older coder g ss long whole runs o (subst (λ x. HasSync i x g) b h) s four
sync_by_service address delay w q i order older coder g ss before false long whole runs o h b s four =
    grind (arith, no_sync, none_before, none_by)

sync_is : (address delay : ℕ) (w q : List (List ℕ)) (i : ℕ) (own : Option Ops) (r : List Order) (coder : Coding)
    (g : Group) (ss : List (List ℤ)) (before : Bool) → IsGiven w q i own r coder g
    → ((order : Order) (older : List Order) → r ≡ order ∷ older → IsOlder i order) → HasSync i before g
    → before ≡ is_served address delay r → AreFour ss
    → sync_of_group coder g ++ ss ≡ behind_field_sync i (sent_by address delay (w ++ q) (i - 4) r) ss
sync_is address delay w q i own [] coder g ss before n h y b four = grind (arith, no_sync, none_before)
sync_is address delay w q i own (order ∷ older) coder g ss before n h y b four =
    sync_by_service address delay w q i order older coder g ss before
    (is_ok (served address delay (order ∷ older))) n.long n.whole n.runs (h order older refl) y b refl four

-- ---- the group's segments, where it is sent
pub group_sent : (address delay : ℕ) (w q : List (List ℕ)) (i : ℕ) (own : Option Ops) (r : List Order)
    (coder : Coding) (g : Group) (before : Bool) → IsGiven w q i own r coder g → ((ops : Ops) → own ≡ Some ops → 52 ≤ i)
    → ((order : Order) (older : List Order) → r ≡ order ∷ older → IsOlder i order)
    → HasSync i before g → before ≡ is_served address delay r
    → is_served address delay (cons_option (placed i own) r) ≡ true
    → air_segments coder g ≡ behind_field_sync i (sent_by address delay (w ++ q) (i - 4) r)
    (sent_by address delay (w ++ q) i (cons_option (placed i own) r))
unfolding segments_since
group_sent address delay w q i own r coder g before n f h y b s = data_is address delay w q i own r coder g n f h s
    ∙ sync_is address delay w q i own r coder g
    (sent_by address delay (w ++ q) i (cons_option (placed i own) r)) before n h y b (grind (arith, cond-true))
