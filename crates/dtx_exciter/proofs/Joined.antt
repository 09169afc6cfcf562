-- A packet joins those under the anchor.
use Rattle.std.proofs.Common.{◌≡◌, ◌≢◌, ℕ, ℤ, ◌+◌, ◌-◌, ◌%◌, ◌==◌, ◌||◌, Bool, true, false, cond, Some, option_map}
use Rattle.std.proofs.Common.{List, [], ◌∷◌, ◌++◌, length, take, drop, set, sym, ap, ap₂, subst, ◌∙◌, arith, inl, inr}
use Rattle.std.specs.Prelude.{nat_le}
use Rattle.std.specs.List.{cons_option}
use Rattle.std.specs.Option.{unwrap_or}
use Rattle.std.proofs.lemmas.Bool.{cases_lt, cond-true, cond-false, eq-eqb, ne_eqb, le-leb, lt-leb}
use Rattle.std.proofs.lemmas.List.{length_push, drop-append-le, take_all}
use Rattle.dtx_packets.specs.declared.packet.Packet.{Packet}
use Rattle.dtx_coder.specs.Groups.{Coding, air_segments, after_group}
use Rattle.dtx_ops.specs.declared.fields.Ops.{Ops}
use Rattle.dtx_exciter.specs.declared.exciter.Exciter.{Exciter}
use Rattle.dtx_exciter.specs.declared.answers.Told.{Told}
use Rattle.dtx_exciter.specs.declared.answers.Told.TheVariants.{Quiet}
use Rattle.dtx_exciter.specs.Order.{Order, counting_order, placed}
use Rattle.dtx_exciter.specs.declared.pages.Pages.{Pages}
use Rattle.dtx_exciter.specs.Pages.{HoldsPages, HoldsMore}
use Rattle.dtx_exciter.specs.Told.{told_at, told_under, is_sent}
use Rattle.dtx_exciter.specs.Packets.{readings}
use Rattle.dtx_exciter.specs.Emission.{Holds, sent_by, sent_at, sent_before, behind_field_sync, given_under}
use Rattle.dtx_exciter.specs.Step.{bytes_of, own_order, told_group, own_of, group_of, IsSent}
use Rattle.dtx_exciter.specs.Kept.{whole, last_orders, is_served, RunsUnder, KeepsUnder, IsJoined}
use Rattle.dtx_exciter.proofs.ForceLemmas.{counted_behind}
use Rattle.dtx_exciter.proofs.UnderLemmas.{length-said}
use Rattle.dtx_exciter.proofs.EndsLemmas as Ends
use Rattle.dtx_exciter.proofs.JoinedLemmas.{last_same, settled_same, held_more, front_same, group_bytes, settled_more}
use Rattle.dtx_exciter.proofs.JoinedLemmas.{partial_full}
use Rattle.dtx_exciter.proofs.AnswerLemmas.{told_group_is, sent_is_served}
use Rattle.dtx_exciter.proofs.GroupSentLemmas.{IsGiven, group_sent, runs_more, none_by}

-- ---- a packet that ends no group

pub joined_partial : (a d : ℕ) (l : List (List ℕ)) (old : Exciter) (place : ℕ) (packet : Packet) (count : ℕ)
    (symbols : List ℤ) → KeepsUnder a d old l → place ≡ length l % 624 → place % 4 ≢ 3 → length old.packets ≡ 4
    → count ≡ 0
    → IsJoined a d (l ++ packet.0 ∷ []) (record old { packets = set old.packets (place % 4) packet }) Quiet count
    symbols
joined_partial a d l old place packet count symbols k e h four z =
    let n : length l % 4 ≢ 3 = λ x. h ((omega (arith, e)) ∙ x) in
    let w : whole (l ++ packet.0 ∷ []) ≡ whole l = omega (arith, n, length_push l packet.0) in
    let s : length (l ++ packet.0 ∷ []) % 4 ≡ length l % 4 + 1 = omega (arith, n, length_push l packet.0) in
    record {
      answer = (grind (arith, cond-false, ne_eqb, length-said, length_push));
      air = grind (arith, cond-false, ne_eqb, length_push);
      keeps = record {
        flushed = grind (arith, settled_same, cases_lt, length_push);
        partial = ap₂ (λ (x y : ℕ). take x (bytes_of (set old.packets y packet))) s (omega (arith, e))
            ∙ held_more old.packets packet (length l % 4) (omega (arith, four)) ∙ ap (λ x. x ++ packet.0 ∷ []) k.partial
            ∙ sym (ap (λ (y : ℕ). drop y (l ++ packet.0 ∷ [])) w
            ∙ drop-append-le (whole l) l (packet.0 ∷ []) (omega arith));
        sent = k.sent ∙ ap (is_served a d) (sym (last_same l packet.0 n));
        pages = subst (λ r. HoldsPages a r old.pages) (sym (last_same l packet.0 n)) k.pages;
        coder = subst (λ x. RunsUnder x (last_orders (l ++ packet.0 ∷ [])) old.coder) (sym (front_same l packet.0 n))
            (subst (λ o. RunsUnder (take (whole l) l) o old.coder) (sym (last_same l packet.0 n)) k.coder);
      };
    }

-- ---- a packet that ends a group

-- the exciter with the whole group
abbrev pub full : Exciter → Packet → Exciter
full old packet = record old { packets = set old.packets 3 packet }

pub record Joining (a d : ℕ) (l : List (List ℕ)) (old : Exciter) (packet : Packet) (i j : ℕ) : Type 0 where
  pub keeps : KeepsUnder a d old l
  pub ends : Ends.Ends l i
  pub place : j ≡ i % 624
  pub four : length old.packets ≡ 4

abbrev orders_now : List (List ℕ) → ℕ → List ℕ → List Order
orders_now l i p = cons_option (placed i (counting_order (readings (l ++ p ∷ [])) i)) (last_orders l)

bytes_full : (a d : ℕ) (l : List (List ℕ)) (old : Exciter) (packet : Packet) (i j : ℕ) → Joining a d l old packet i j
    → bytes_of (full old packet).packets ≡ Ends.group l i packet.0
bytes_full a d l old packet i j c = group_bytes l old.packets packet i c.ends c.four c.keeps.partial

own_full : (a d : ℕ) (l : List (List ℕ)) (old : Exciter) (packet : Packet) (i j : ℕ) → Joining a d l old packet i j
    → own_of (full old packet) j ≡ counting_order (readings (l ++ packet.0 ∷ [])) i
unfolding own_of
own_full a d l old packet i j c = ap₂ (λ s x. own_order s j x) c.keeps.flushed (bytes_full a d l old packet i j c)
    ∙ Ends.own_is l i j packet.0 c.ends c.place

-- what is kept of the pages with the group's order, if it has one
pages_full : (a d : ℕ) (l : List (List ℕ)) (old : Exciter) (packet : Packet) (i j : ℕ) (pages : Pages)
    → Joining a d l old packet i j → HoldsMore a (own_of (full old packet) j) old.pages pages
    → HoldsPages a (orders_now l i packet.0) pages
pages_full a d l old packet i j pages c h =
    subst (λ o. HoldsPages a (cons_option (placed i o) (last_orders l)) pages) (own_full a d l old packet i j c)
    (h (last_orders l) i c.keeps.pages)

told_full : (a d : ℕ) (l : List (List ℕ)) (old : Exciter) (packet : Packet) (i j : ℕ) (pages : Pages)
    → Joining a d l old packet i j → HoldsPages a (orders_now l i packet.0) pages
    → told_group d j (own_of (full old packet) j) pages old.sent ≡ told_at a d i (orders_now l i packet.0)
told_full a d l old packet i j pages c h = ap (λ o. told_group d j o pages old.sent) (own_full a d l old packet i j c)
    ∙ told_group_is a d i j (counting_order (readings (l ++ packet.0 ∷ [])) i)
    (last_orders l) pages old.sent c.place h c.keeps.sent (λ order older e. Ends.last_older l i order older c.ends e)

told_now : (a d : ℕ) (l : List (List ℕ)) (p : List ℕ) (i : ℕ) → Ends.Ends l i
    → told_at a d i (orders_now l i p) ≡ told_under a d (Some (readings (l ++ p ∷ [])))
told_now a d l p i e =
    let n : length (readings (l ++ p ∷ [])) ≡ i + 4 = length-said (l ++ p ∷ []) ∙ Ends.length-all l i p e in
    let w = e.whole in
    ap (told_at a d i) (sym (Ends.force_is l i p e)) ∙ sym (grind (arith, cond-true, eq-eqb))

-- ---- what is given

before_now : (a d : ℕ) (l : List (List ℕ)) (p : List ℕ) (i : ℕ) → Ends.Ends l i
    → sent_before a d (l ++ p ∷ []) i ≡ sent_by a d (l ++ p ∷ []) (i - 4) (last_orders l)
unfolding sent_at
before_now a d l p i e = elim (cases_lt i 4) [
  | inl m ↦
      let w = e.whole in
      let z : i ≡ 0 = omega (arith, m, w) in
      cond-false (nat_le 4 i) _ _ (lt-leb 4 i m) ∙ sym (ap (sent_by a d (l ++ p ∷ []) (i - 4)) (Ends.last_none l i e z))
  | inr m ↦ rw (cond-true (nat_le 4 i) _ _ (le-leb 4 i m), Ends.before_is l i p e m)
]

sent_now : (a d : ℕ) (l : List (List ℕ)) (p : List ℕ) (i : ℕ) → Ends.Ends l i
    → sent_at a d (l ++ p ∷ []) i ≡ sent_by a d (l ++ p ∷ []) i (orders_now l i p)
unfolding sent_at
sent_now a d l p i e = ap (sent_by a d (l ++ p ∷ []) i) (Ends.force_is l i p e)

given_now : (a d : ℕ) (l : List (List ℕ)) (p : List ℕ) (i : ℕ) → Ends.Ends l i
    → given_under a d (Some (l ++ p ∷ [])) ≡ behind_field_sync i (sent_by a d (l ++ p ∷ []) (i - 4) (last_orders l))
    (sent_by a d (l ++ p ∷ []) i (orders_now l i p))
given_now a d l p i e =
    let n : length (l ++ p ∷ []) ≡ i + 4 = Ends.length-all l i p e in
    let w = e.whole in
    grind (arith, cond-true, eq-eqb) ∙ ap₂ (behind_field_sync i) (before_now a d l p i e) (sent_now a d l p i e)

-- ---- the coder

given_full : (a d : ℕ) (l : List (List ℕ)) (old : Exciter) (packet : Packet) (i j : ℕ) (answered : Told)
    → Joining a d l old packet i j
    → IsGiven (Ends.front l i) (Ends.group l i packet.0) i (counting_order (readings (l ++ packet.0 ∷ [])) i)
    (last_orders l) old.coder (group_of (full old packet) j answered)
unfolding group_of
given_full a d l old packet i j answered c = record {
  runs = subst (λ (n : ℕ). RunsUnder (take n l) (last_orders l) old.coder) (Ends.whole-front l i c.ends) c.keeps.coder;
  next = record {
    place = let x = c.place in let e : j % 312 ≡ i % 312 = omega (arith, x) in
        e ∙ ap (λ (n : ℕ). n % 312) (sym (Ends.length-front l i c.ends));
    four = ap length (bytes_full a d l old packet i j c) ∙ Ends.length-group l i packet.0 c.ends;
    states = ap (λ o. unwrap_or (option_map (λ (x : Ops). x.states) o) old.coder.states)
        (own_full a d l old packet i j c);
  };
  packets = bytes_full a d l old packet i j c;
  long = Ends.length-front l i c.ends;
  whole = c.ends.whole;
}

served_now : (a d : ℕ) (l : List (List ℕ)) (p : List ℕ) (i : ℕ) (answered : Told)
    → answered ≡ told_at a d i (orders_now l i p) → is_sent answered ≡ is_served a d (orders_now l i p)
served_now a d l p i answered h = ap is_sent h ∙ sent_is_served a d i (orders_now l i p)

segments_full : (a d : ℕ) (l : List (List ℕ)) (old : Exciter) (packet : Packet) (i j : ℕ) (answered : Told)
    → Joining a d l old packet i j → answered ≡ told_at a d i (orders_now l i packet.0)
    → (t : Bool) → is_sent answered ≡ t → cond t (air_segments old.coder (group_of (full old packet) j answered)) []
    ≡ given_under a d (Some (l ++ packet.0 ∷ []))
unfolding group_of
segments_full a d l old packet i j answered c h true s =
    group_sent a d (Ends.front l i) (Ends.group l i packet.0) i (counting_order (readings (l ++ packet.0 ∷ [])) i)
    (last_orders l) old.coder (group_of (full old packet) j answered) old.sent
    (given_full a d l old packet i j answered c) (λ ops e. grind (arith, counted_behind))
    (λ order older e. Ends.last_older l i order older c.ends e)
    (grind arith) c.keeps.sent (sym (served_now a d l packet.0 i answered h) ∙ s)
    ∙ ap (λ x. behind_field_sync i (sent_by a d x (i - 4) (last_orders l)) (sent_by a d x i (orders_now l i packet.0)))
    (Ends.parts l i packet.0) ∙ sym (given_now a d l packet.0 i c.ends)
segments_full a d l old packet i j answered c h false s = sym (given_now a d l packet.0 i c.ends
    ∙ ap (behind_field_sync i (sent_by a d (l ++ packet.0 ∷ []) (i - 4) (last_orders l)))
    (none_by a d (l ++ packet.0 ∷ []) i (orders_now l i packet.0) (sym (served_now a d l packet.0 i answered h) ∙ s)))

-- ---- what is kept

coder_full : (a d : ℕ) (l : List (List ℕ)) (old : Exciter) (packet : Packet) (i j : ℕ) (answered : Told)
    → Joining a d l old packet i j
    → RunsUnder (take (whole (l ++ packet.0 ∷ [])) (l ++ packet.0 ∷ [])) (last_orders (l ++ packet.0 ∷ []))
    (after_group old.coder (group_of (full old packet) j answered))
coder_full a d l old packet i j answered c =
    let all : List (List ℕ) = l ++ packet.0 ∷ [] in
    let coder : Coding = after_group old.coder (group_of (full old packet) j answered) in
    subst (λ x. RunsUnder x (last_orders all) coder) (sym (take_all (whole all) all (let w = c.ends.whole in
    omega (arith, w, Ends.whole-all l i packet.0 c.ends, Ends.length-all l i packet.0 c.ends))))
    (subst (λ o. RunsUnder all o coder) (sym (Ends.last_all l i packet.0 c.ends ∙ Ends.force_is l i packet.0 c.ends))
    (subst (λ x. RunsUnder x (orders_now l i packet.0) coder) (Ends.parts l i packet.0)
    (runs_more (Ends.front l i) (Ends.group l i packet.0) i (counting_order (readings all) i) (last_orders l) old.coder
    (group_of (full old packet) j answered) (given_full a d l old packet i j answered c))))

keeps_full : (a d : ℕ) (l : List (List ℕ)) (old made e : Exciter) (packet : Packet) (i j place : ℕ) (answered : Told)
    → Joining a d l old packet i j → place ≡ length l % 624 → answered ≡ told_at a d i (orders_now l i packet.0)
    → made ≡ record (full old packet) {
      sent = is_sent answered;
      pages = made.pages;
      coder = after_group old.coder (group_of (full old packet) j answered);
    } → HoldsPages a (orders_now l i packet.0) made.pages
    → e.flushed ≡ (made.flushed || (place == 51)) → e.sent ≡ made.sent → e.pages ≡ made.pages → e.coder ≡ made.coder
    → KeepsUnder a d e (l ++ packet.0 ∷ [])
keeps_full a d l old made e packet i j place answered c p h m holds flushed sent pages coder = record {
  flushed = flushed ∙ ap (λ (x : Exciter). x.flushed || (place == 51)) m ∙ ap (λ b. b || (place == 51)) c.keeps.flushed
      ∙ settled_more (length l) place p (cases_lt (length l) 52) ∙ ap (nat_le 52) (sym (length_push l packet.0));
  partial = partial_full l packet.0 i (bytes_of e.packets) c.ends;
  sent = sent ∙ ap (λ (x : Exciter). x.sent) m ∙ served_now a d l packet.0 i answered h
      ∙ ap (is_served a d) (sym (Ends.last_all l i packet.0 c.ends ∙ Ends.force_is l i packet.0 c.ends));
  pages = subst (HoldsPages a (last_orders (l ++ packet.0 ∷ []))) (sym pages) (subst (λ r. HoldsPages a r made.pages)
      (sym (Ends.last_all l i packet.0 c.ends ∙ Ends.force_is l i packet.0 c.ends)) holds);
  coder = subst (λ x. RunsUnder (take (whole (l ++ packet.0 ∷ [])) (l ++ packet.0 ∷ []))
      (last_orders (l ++ packet.0 ∷ [])) x)
      (sym (coder ∙ ap (λ (x : Exciter). x.coder) m)) (coder_full a d l old packet i j answered c);
}

pub joined_full : (a d : ℕ) (l : List (List ℕ)) (old made e : Exciter) (packet : Packet) (i j place : ℕ)
    (answered : Told) (count : ℕ) (symbols : List ℤ) → Joining a d l old packet i j → place ≡ length l % 624
    → old.address ≡ a → old.delay ≡ d → IsSent j (full old packet) made answered count symbols
    → e.flushed ≡ (made.flushed || (place == 51)) → e.sent ≡ made.sent → e.pages ≡ made.pages → e.coder ≡ made.coder
    → IsJoined a d (l ++ packet.0 ∷ []) e answered count symbols
joined_full a d l old made e packet i j place answered count symbols c p x y s flushed sent pages coder =
    let holds : HoldsPages a (orders_now l i packet.0) made.pages = pages_full a d l old packet i j made.pages c
    (subst (λ (u : ℕ). HoldsMore u (own_of (full old packet) j) old.pages made.pages) x s.pages) in
    let h : answered ≡ told_at a d i (orders_now l i packet.0) = grind (arith, told_full) in
    record {
      answer = h ∙ told_now a d l packet.0 i c.ends;
      air = subst (λ ss. Holds ss count symbols) (grind (arith, segments_full)) s.air;
      keeps = keeps_full a d l old made e packet i j place answered c p h s.new holds flushed sent pages coder;
    }
