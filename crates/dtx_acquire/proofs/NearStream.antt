-- Symbols that lie near those of a stream, field by field: what is acquired is what was sent.
use Rattle.std.proofs.Common.{◌≡◌, ℕ, ℤ, pos, zero, suc, ◌+◌, ◌*◌, ◌/◌, ◌%◌, ◌<◌, ◌≤◌, ◌⊎◌, inl, inr, Bool, true, false}
use Rattle.std.proofs.Common.{min, List, [], ◌∷◌, ◌++◌, length, take, drop, get_or, refl, sym, ap, ap₂, ◌∙◌, subst}
use Rattle.std.proofs.Common.{arith}
use Rattle.std.proofs.lemmas.Bool.{cases_lt}
use Rattle.std.proofs.lemmas.List.{append-nil, drop-drop, drop-take, get_or-drop, get_or-take}
use Rattle.std.proofs.lemmas.List.{length-drop, length-take-le, take-append-drop, take-take, take_all}
use Rattle.std.proofs.lemmas.List.FromFn.{get_or-map-range_with_len, length-map-range_with_len}
use Rattle.dtx_soft.specs.Coders.{coder_symbols}
use Rattle.dtx_soft.specs.Softened.{IsOwn}
use Rattle.dtx_acquire.specs.Acquired.{Field, acquired, fields_where, in_groups, restored, restored_of, segments_from}
use Rattle.dtx_acquire.specs.Acquirer.{field_of}
use Rattle.dtx_acquire.specs.Agreement.{agrees}
use Rattle.dtx_acquire.proofs.AgreementLemmas.{past_end}
use Rattle.dtx_acquire.proofs.PlacesLemmas.{least_none}
use Rattle.dtx_acquire.proofs.FieldsLemmas.{fields_last, fields_none}
use Rattle.dtx_acquire.specs.Sent.{AreNear, AreInFields, AreSent, IsData, IsNear, IsSync, groups_behind}
use Rattle.dtx_acquire.proofs.StepsLemmas.{step_due}
use Rattle.dtx_acquire.proofs.NearGroups.{field_restored}
use Rattle.dtx_acquire.proofs.NearRows.{AreNearRows, near_drop, sync_restored}
use Rattle.dtx_acquire.proofs.NearSyncs.{agrees_near}
use Rattle.dtx_acquire.proofs.SentLemmas.{all_symbols, length_sent, row_long, symbol_there}

-- ---- segments and symbols

-- each symbol near its own, segment by segment
record AreReceived (scale : ℕ) (sent : List (List ℤ)) (symbols : List ℤ) : Type 0 where
  long : length symbols ≡ 832 * length sent
  near : (i k : ℕ) → i < length sent → k < 832
      → IsNear scale (get_or (get_or sent i []) k (pos 0)) (get_or symbols (832 * i + k) (pos 0))

received_by : (scale : ℕ) (sent : List (List ℤ)) (symbols : List ℤ) → AreInFields sent
    → AreNear scale (all_symbols sent) symbols → AreReceived scale sent symbols
received_by scale sent symbols h near = grind (arith, length_sent, symbol_there)

-- ---- without the first field

sent_behind : (sent : List (List ℤ)) → AreSent sent → AreSent (drop 313 sent)
unfolding groups_behind
sent_behind sent h = record {
  segments_are = record {
    syncs = λ i l e.
        subst IsSync (sym (get_or-drop 313 sent i []))
        (h.segments_are.syncs (313 + i) (omega (arith, l, length-drop 313 sent)) (omega (arith, e)));
    others = λ i l e.
        subst IsData (sym (get_or-drop 313 sent i []))
        (h.segments_are.others (313 + i) (omega (arith, l, length-drop 313 sent)) (λ z. e (omega (arith, z))));
  };
  paths = λ f e l m.
      let there : 313 + (313 * f + 1) ≡ 313 * (f + 1) + 1 = omega arith in
      subst (λ (s : List (List ℤ)). IsOwn 1 (coder_symbols (in_groups (take 312 s)) e))
      (rw (← there, ← drop-drop (313 * f + 1) 313 sent)) (h.paths (f + 1) e (omega (arith, l, length-drop 313 sent)) m);
}

received_behind : (scale : ℕ) (sent : List (List ℤ)) (symbols : List ℤ) → AreReceived scale sent symbols
    → AreReceived scale (drop 313 sent) (drop 260416 symbols)
received_behind scale sent symbols h = record {
  long = length-drop 260416 symbols ∙ omega (arith, h.long, length-drop 313 sent);
  near = λ i k l m.
      subst (λ (s : List ℤ). IsNear scale (get_or s k (pos 0)) (get_or (drop 260416 symbols) (832 * i + k) (pos 0)))
      (sym (get_or-drop 313 sent i [])) (subst (IsNear scale (get_or (get_or sent (313 + i) []) k (pos 0)))
      (ap (λ n. get_or symbols n (pos 0)) (omega arith) ∙ sym (get_or-drop 260416 symbols (832 * i + k) (pos 0)))
      (h.near (313 + i) k (omega (arith, l, length-drop 313 sent)) m));
}

-- the first symbols, as far as a segment behind the first field
received_front : (scale n : ℕ) (sent : List (List ℤ)) (symbols : List ℤ) → n ≤ length sent
    → AreReceived scale sent symbols → AreReceived scale (take n sent) (take (832 * n) symbols)
received_front scale n sent symbols l h = grind (arith, length-take-le, get_or-take)

-- ---- a field

rows_near : (scale : ℕ) (sent : List (List ℤ)) (symbols : List ℤ) (n : ℕ) → AreInFields sent
    → AreReceived scale sent symbols → n ≤ length sent → AreNearRows scale (take n sent) (segments_from symbols 0 n)
unfolding segments_from
rows_near scale sent symbols n h near l = record {
  long = length-map-range_with_len (λ i. take 832 (drop (0 + 832 * i) symbols)) 0 n ∙ sym (length-take-le n sent l);
  each = λ i m. (grind (arith, length-take-le, get_or-take, get_or-map-range_with_len, row));
}
  where
    there : (i k : ℕ) → 0 + 832 * i + k ≡ 832 * i + k
    there i k = omega arith

    row : (i : ℕ) → i < length sent → AreNear scale (get_or sent i []) (take 832 (drop (0 + 832 * i) symbols))
    row i m = record {
      long = length-take-le 832 (drop (0 + 832 * i) symbols) (omega (
        arith,
        length-drop (0 + 832 * i) symbols,
        near.long,
        m,
      )) ∙ sym (row_long sent h i m);
      near = λ k o.
          let q : k < 832 = omega (arith, o, row_long sent h i m) in
          subst (IsNear scale (get_or (get_or sent i []) k (pos 0)))
          (sym (get_or-take 832 (drop (0 + 832 * i) symbols) k (pos 0) q ∙ get_or-drop (0 + 832 * i) symbols k (pos 0)
          ∙ ap (λ n. get_or symbols n (pos 0)) (there i k))) (near.near i k m q);
    }

field_near : (scale : ℕ) (sent rows : List (List ℤ)) → 0 < scale → 0 < length sent → IsSync (get_or sent 0 [])
    → ((i : ℕ) → 0 < i → i < length sent → IsData (get_or sent i []))
    → ((e : ℕ) → e < 12 → IsOwn 1 (coder_symbols (in_groups (drop 1 sent)) e)) → AreNearRows scale sent rows
    → restored scale rows ≡ sent
field_near scale [] rows some l sync others owns near = absurd (omega arith)
field_near scale (s ∷ sent) [] some l sync others owns near = absurd (omega (arith, near.long))
field_near scale (s ∷ sent) (r ∷ rows) some l sync others owns near =
    ap₂ ◌∷◌ (sync_restored scale s r sync (near.each 0 (omega arith)))
    (field_restored scale sent rows some (λ i m. others (suc i) (omega arith) (omega arith)) owns
    (near_drop scale 1 (s ∷ sent) (r ∷ rows) near))

first_near : (scale : ℕ) (sent : List (List ℤ)) (symbols : List ℤ) (n : ℕ) → 0 < scale → 0 < length sent → AreSent sent
    → n ≡ min 313 (length sent) → (rows : List (List ℤ)) → AreNearRows scale (take n sent) rows
    → restored scale rows ≡ take n sent
unfolding groups_behind
first_near scale sent symbols n some l h e rows near =
    let long : length (take n sent) ≡ n = length-take-le n sent (omega arith) in
    field_near scale (take n sent) rows some (omega (arith, long))
    (subst IsSync (sym (get_or-take n sent 0 [] (omega arith))) (h.segments_are.syncs 0 l refl))
    (λ i m k. subst IsData (sym (get_or-take n sent i [] (omega (arith, k, long))))
    (h.segments_are.others i (omega (arith, k, long)) (λ z. omega (arith, z, m, k, long, e))))
    (λ c m. subst (λ (s : List (List ℤ)). IsOwn 1 (coder_symbols (in_groups s) c)) (sym (groups_are n e))
    (h.paths 0 c l m)) near
  where
    groups_are : (n : ℕ) → n ≡ min 313 (length sent) → drop 1 (take n sent) ≡ take 312 (drop 1 sent)
    groups_are n e = by_length (cases_lt 313 (length sent))
      where
        by_length : (313 < length sent) ⊎ (length sent ≤ 313) → drop 1 (take n sent) ≡ take 312 (drop 1 sent)
        by_length (inl k) = grind (arith, drop-take)
        by_length (inr k) = ap (drop 1) (take_all n sent (omega arith))
            ∙ sym (take_all 312 (drop 1 sent) (omega (arith, length-drop 1 sent)))

-- ---- all fields

restored_cons : (scale : ℕ) (field : Field) (fields : List Field)
    → restored_of scale (field ∷ fields) ≡ restored scale field.segments ++ restored_of scale fields
unfolding restored_of
restored_cons scale field fields = refl

sync_agrees : (scale : ℕ) (sent : List (List ℤ)) (symbols : List ℤ) (i : ℕ) → AreInFields sent
    → AreReceived scale sent symbols → i < length sent → i % 313 ≡ 0 → agrees symbols (832 * i) ≡ true
sync_agrees scale sent symbols i h near l e =
    agrees_near scale symbols (832 * i) (get_or sent i []) (h.syncs i l e) (omega (arith, near.long, l))
    (λ k m. near.near i k l m)

last_near : (scale : ℕ) (begins : Bool) (sent : List (List ℤ)) (symbols : List ℤ) → 0 < scale → 0 < length sent
    → length sent ≤ 313 → AreSent sent → AreReceived scale sent symbols
    → restored_of scale (fields_where (λ met. true) begins symbols) ≡ sent
unfolding restored_of
last_near scale begins sent symbols some l few h near =
    let all : take (length sent) sent ≡ sent = take_all (length sent) sent (omega arith) in
    ap (restored_of scale) (fields_last (λ met. true) begins symbols (omega (arith, near.long, few))
    (sync_agrees scale sent symbols 0 h.segments_are near l refl))
    ∙ append-nil (restored scale (segments_from symbols 0 (length symbols / 832)))
    ∙ ap (λ n. restored scale (segments_from symbols 0 n)) (omega (arith, near.long))
    ∙ first_near scale sent symbols (length sent) some l h (omega arith) (segments_from symbols 0 (length sent))
    (rows_near scale sent symbols (length sent) h.segments_are near (omega arith)) ∙ all

next_near : (scale : ℕ) (begins : Bool) (sent : List (List ℤ)) (symbols : List ℤ) → 0 < scale → 313 < length sent
    → AreSent sent → AreReceived scale sent symbols
    → restored_of scale (fields_where (λ met. true) false (drop 260416 symbols)) ≡ drop 313 sent
    → restored_of scale (fields_where (λ met. true) begins symbols) ≡ sent
next_near scale begins sent symbols some l h near rest =
    let first : take 313 (take 314 sent) ≡ take 313 sent = take-take 313 314 sent (omega arith) in
    let n : length (take 261248 symbols) ≡ 261248 = length-take-le 261248 symbols (omega (arith, near.long, l)) in
    let front = received_front scale 314 sent symbols l near in
    let segments : AreInFields (take 314 sent) = front_segments in
    let some_sent : 0 < length (take 314 sent) = omega (arith, length-take-le 314 sent l) in
    let due : 313 < length (take 314 sent) = omega (arith, length-take-le 314 sent l) in
    ap (λ (xs : List ℤ). restored_of scale (fields_where (λ met. true) begins xs))
    (sym (take-append-drop 261248 symbols))
    ∙ ap (restored_of scale) (step_due (λ met. true) begins (take 261248 symbols) (drop 261248 symbols) n
    (sync_agrees scale (take 314 sent) (take 261248 symbols) 0 segments front some_sent refl)
    (sync_agrees scale (take 314 sent) (take 261248 symbols) 313 segments front due refl))
    ∙ restored_cons scale (field_of 313 begins (take 261248 symbols)) _
    ∙ ap₂ ◌++◌ (first_near scale sent symbols 313 some (omega arith) h (omega arith)
    (segments_from (take 261248 symbols) 0 313)
    (subst (λ (s : List (List ℤ)). AreNearRows scale s (segments_from (take 261248 symbols) 0 313)) first
    (rows_near scale (take 314 sent) (take 261248 symbols) 313 segments front
    (omega (arith, length-take-le 314 sent l)))))
    (ap (λ (xs : List ℤ). restored_of scale (fields_where (λ met. true) false xs)) behind ∙ rest)
    ∙ take-append-drop 313 sent
  where
    front_segments : AreInFields (take 314 sent)
    front_segments = record {
      syncs = λ i m e. (let k : i < 314 = omega (arith, m, length-take-le 314 sent l) in
          subst IsSync (sym (get_or-take 314 sent i [] k)) (h.segments_are.syncs i (omega arith) e));
      others = λ i m e. (let k : i < 314 = omega (arith, m, length-take-le 314 sent l) in
          subst IsData (sym (get_or-take 314 sent i [] k)) (h.segments_are.others i (omega arith) e));
    }

    behind : drop 260416 (take 261248 symbols) ++ drop 261248 symbols ≡ drop 260416 symbols
    behind = ap₂ ◌++◌ (drop-take 260416 832 symbols) (sym (drop-drop 832 260416 symbols))
        ∙ take-append-drop 832 (drop 260416 symbols)

fields_near : (fuel scale : ℕ) (begins : Bool) (sent : List (List ℤ)) (symbols : List ℤ) → length sent ≤ fuel
    → 0 < scale → 0 < length sent → AreSent sent → AreReceived scale sent symbols
    → restored_of scale (fields_where (λ met. true) begins symbols) ≡ sent
fields_near zero scale begins sent symbols few some l h near = absurd (omega arith)
fields_near (suc fuel) scale begins sent symbols few some l h near = by_length (cases_lt 313 (length sent))
    (λ m. fields_near fuel scale false (drop 313 sent) (drop 260416 symbols) (omega (arith, length-drop 313 sent)) some
    (omega (arith, length-drop 313 sent, m)) (sent_behind sent h) (received_behind scale sent symbols near))
  where
    by_length : (313 < length sent) ⊎ (length sent ≤ 313) → (313 < length sent
        → restored_of scale (fields_where (λ met. true) false (drop 260416 symbols)) ≡ drop 313 sent)
        → restored_of scale (fields_where (λ met. true) begins symbols) ≡ sent
    by_length (inl m) on = next_near scale begins sent symbols some m h near (on m)
    by_length (inr m) on = last_near scale begins sent symbols some l m h near

pub sent_acquired : (scale : ℕ) (sent : List (List ℤ)) (symbols : List ℤ) → 0 < scale → AreSent sent
    → AreNear scale (all_symbols sent) symbols → acquired scale symbols ≡ sent
unfolding acquired restored_of
sent_acquired scale sent symbols some h near = by_length (cases_lt 0 (length sent))
  where
    received : AreReceived scale sent symbols
    received = received_by scale sent symbols h.segments_are near

    by_length : (0 < length sent) ⊎ (length sent ≤ 0) → acquired scale symbols ≡ sent
    by_length (inl l) = fields_near (length sent) scale true sent symbols (omega arith) some l h received
    by_length (inr l) = none sent symbols (omega arith) (omega (arith, received.long, l))
      where
        none : (sent : List (List ℤ)) (symbols : List ℤ) → length sent ≡ 0 → length symbols ≡ 0
            → restored_of scale (fields_where (λ met. true) true symbols) ≡ sent
        none [] [] e f = ap (restored_of scale) (fields_none (λ met. true) true [] (least_none agrees past_end [] 0
            (λ i a b. absurd (omega arith))))
        none (s ∷ sent) symbols e f = absurd (omega arith)
        none [] (x ∷ symbols) e f = absurd (omega arith)
