-- The runs of a list are its intervals: the search, segment by segment, and the one list of intervals that are runs.
use Rattle.std.proofs.Common.{◌≡◌, ◌≢◌, ℕ, ℤ, zero, suc, ◌+◌, ◌-◌, ◌%◌, ◌<◌, ◌≤◌, ◌⊎◌, ◌↔◌, ◌==◌, Bool, true, false}
use Rattle.std.proofs.Common.{cond, All, Option, Some, None, List, [], ◌∷◌, ◌++◌, length, map, take, drop, get_or, refl}
use Rattle.std.proofs.Common.{sym, ap, ap₂, ◌∙◌, subst, inl, inr, arith}
use Rattle.std.specs.List.{slice_range, Contains}
use Rattle.std.specs.Prelude.{option_to_list}
use Rattle.std.proofs.lemmas.Bool.{cases_eq, cases_lt, cases_order, false≢true}
use Rattle.std.proofs.lemmas.List.{append-nil, take_more, take_all, length-take-le, length-drop, get_or-drop}
use Rattle.std.proofs.lemmas.List.{length-map, map_push}
use Rattle.std.proofs.lemmas.List.Elements.{All-nil, All-cons, All-weaker, All-contains, Contains-push}
use Rattle.std.proofs.lemmas.List.Elements.{Contains-push_cases}
use Rattle.dtx_frame.specs.Detection.{looks_like}
use Rattle.dtx_receiver.specs.Runs.{Tracked, tracked, runs, sync_due, tracking_of, tracking}
use Rattle.dtx_receiver.specs.declared.tracking.Tracking.TheVariants.{Searching, Began, Sync, Data, Ended}
use Rattle.dtx_receiver.specs.Intervals.{looks_at, NoneLooks, IsRun, AreRuns, segments_in}
use Rattle.dtx_receiver.proofs.FollowingLemmas.{searching, began, sync_came, ended_there, data_came}

-- ---- one list of intervals

-- the first segment of a run looks like a field sync, so it isn't where none does
first_looks : (s : List (List ℤ)) (a b : ℕ) (p : ℕ × ℕ) → NoneLooks s a b → a ≤ p.0 → p.0 < b → IsRun s p.0 p.1 → ⊥
first_looks s a b p h l m r = false≢true (sym (h p.0 l m) ∙ ap (looks_at s) (sym (omega arith)) ∙ r.syncs 0 r.some refl)

-- of two runs that begin at one place the one isn't shorter than the other
not_shorter : (s : List (List ℤ)) (first m n : ℕ) → IsRun s first m → IsRun s first n → m < n → ⊥
not_shorter s first m n a b l = grind (arith, false≢true)

same_pair : (a b c d : ℕ) → a ≡ c → b ≡ d → ◌≡◌ {A = ℕ × ℕ} (a, b) (c, d)
same_pair a b c d e f = ap₂ (λ (x y : ℕ). (x, y)) e f

pub only_runs : (s : List (List ℤ)) (from : ℕ) (a b : List (ℕ × ℕ)) → AreRuns s from a → AreRuns s from b → a ≡ b
only_runs s from [] [] h g = refl
only_runs s from [] (q ∷ qs) h g =
    absurd (first_looks s from (length s) q h g.0 (omega (arith, g.2.some, g.2.within)) g.2)
only_runs s from (p ∷ ps) [] h g =
    absurd (first_looks s from (length s) p g h.0 (omega (arith, h.2.some, h.2.within)) h.2)
only_runs s from (p ∷ ps) (q ∷ qs) h g =
    let here : p.0 ≡ q.0 = by_first (cases_order p.0 q.0) in
    let long : p.1 ≡ q.1 = by_long here (cases_order p.1 q.1) in
    let rest : ps ≡ qs = only_runs s (p.0 + p.1 + 1) ps qs h.3 (subst (λ n. AreRuns s (n + 1) qs) (grind arith) g.3) in
    ap₂ (λ (x : ℕ × ℕ) (xs : List (ℕ × ℕ)). x ∷ xs) (same_pair p.0 p.1 q.0 q.1 here long) rest
  where
    by_first : (p.0 ≡ q.0) ⊎ ((p.0 < q.0) ⊎ (q.0 < p.0)) → p.0 ≡ q.0
    by_first (inl e) = e
    by_first (inr (inl l)) = absurd (first_looks s from q.0 p g.1 h.0 l h.2)
    by_first (inr (inr l)) = absurd (first_looks s from p.0 q h.1 g.0 l g.2)

    by_long : p.0 ≡ q.0 → (p.1 ≡ q.1) ⊎ ((p.1 < q.1) ⊎ (q.1 < p.1)) → p.1 ≡ q.1
    by_long e (inl f) = f
    by_long e (inr (inl l)) = absurd (not_shorter s p.0 p.1 q.1 h.2 (subst (λ n. IsRun s n q.1) (sym e) g.2) l)
    by_long e (inr (inr l)) = absurd (not_shorter s p.0 q.1 p.1 (subst (λ n. IsRun s n q.1) (sym e) g.2) h.2 l)

-- ---- the search

-- the runs that have ended, and the place from which on the search goes on
abbrev Closed : List (List ℤ) → ℕ → List (ℕ × ℕ) → ℕ → Type 0
Closed s from [] to = from ≡ to
Closed s from (p ∷ ps) to = (from ≤ p.0) × NoneLooks s from p.0 × IsRun s p.0 p.1 × Closed s (p.0 + p.1 + 1) ps to

closed_more : (s : List (List ℤ)) (from to : ℕ) (ps : List (ℕ × ℕ)) (p : ℕ × ℕ) → Closed s from ps to → to ≤ p.0
    → NoneLooks s to p.0 → IsRun s p.0 p.1 → Closed s from (ps ++ p ∷ []) (p.0 + p.1 + 1)
closed_more s from to [] p c l h r = (omega (arith, c, l), λ i a b. h i (omega (arith, c, a)) b, r, refl)
closed_more s from to (q ∷ qs) p c l h r = (c.0, c.1, c.2, closed_more s (q.0 + q.1 + 1) to qs p c.3 l h r)

closed_all : (s : List (List ℤ)) (from to : ℕ) (ps qs : List (ℕ × ℕ)) → Closed s from ps to → AreRuns s to qs
    → AreRuns s from (ps ++ qs)
closed_all s from to [] qs c a = subst (λ n. AreRuns s n qs) (sym c) a
closed_all s from to (p ∷ ps) qs c a = (c.0, c.1, c.2, closed_all s (p.0 + p.1 + 1) to ps qs c.3 a)

-- the run that is on before segment n
record Going (s : List (List ℤ)) (from n : ℕ) (run : List (List ℤ)) : Type 0 where
  first : ℕ
  behind : from ≤ first
  some : first < n
  none : NoneLooks s from first
  is : run ≡ slice_range s first n
  syncs : (j : ℕ) → first + j < n → j % 313 ≡ 0 → looks_at s (first + j) ≡ true

abbrev At : List (List ℤ) → ℕ → ℕ → Option (List (List ℤ)) → Type 0
At s from n None = (from ≤ n) × NoneLooks s from n
At s from n (Some run) = Going s from n run

record Searched (s : List (List ℤ)) (n : ℕ) (t : Tracked) : Type 0 where
  places : List (ℕ × ℕ)
  from : ℕ
  ended : t.ended ≡ map (segments_in s) places
  closed : Closed s 0 places from
  at : At s from n t.run

slice_more : (s : List (List ℤ)) (a n : ℕ) → a ≤ n → n < length s
    → slice_range s a n ++ get_or s n [] ∷ [] ≡ slice_range s a (n + 1)
slice_more s a n m l =
    let f : n - a + 1 ≡ n + 1 - a = omega arith in
    ap (λ x. slice_range s a n ++ x ∷ []) (sym (get_or-drop a s (n - a) [] ∙ ap (λ i. get_or s i []) (omega arith)))
    ∙ sym (take_more (drop a s) (n - a) [] (omega (arith, length-drop a s, m, l))) ∙ ap (λ i. take i (drop a s)) f

slice_one : (s : List (List ℤ)) (n : ℕ) → n < length s → get_or s n [] ∷ [] ≡ slice_range s n (n + 1)
slice_one s n l =
    let z : 0 ≡ n - n = omega arith in
    ap (λ i. take i (drop n s) ++ get_or s n [] ∷ []) z ∙ slice_more s n n (omega arith) l

slice_long : (s : List (List ℤ)) (a n : ℕ) → a ≤ n → n ≤ length s → length (slice_range s a n) ≡ n - a
slice_long s a n m l = length-take-le (n - a) (drop a s) (omega (arith, length-drop a s, m, l))

none_more : (s : List (List ℤ)) (a n : ℕ) → NoneLooks s a n → looks_at s n ≡ false → NoneLooks s a (n + 1)
none_more s a n h e = grind (arith, cases_lt)

-- one segment more of the run that is on
going_more : (s : List (List ℤ)) (from n : ℕ) (run : List (List ℤ)) (g : Going s from n run) → n < length s
    → ((n - g.first) % 313 ≡ 0 → looks_at s n ≡ true) → Going s from (n + 1) (run ++ get_or s n [] ∷ [])
going_more s from n run g l e = record {
  first = g.first;
  behind = g.behind;
  some = omega (arith, g.some);
  none = g.none;
  is = ap (λ xs. xs ++ get_or s n [] ∷ []) g.is ∙ slice_more s g.first n (omega (arith, g.some)) l;
  syncs = λ j m d. by_place j (cases_lt (g.first + j) n) m d;
}
  where
    by_place : (j : ℕ) → (g.first + j < n) ⊎ (n ≤ g.first + j) → g.first + j < n + 1 → j % 313 ≡ 0
        → looks_at s (g.first + j) ≡ true
    by_place j (inl f) m d = g.syncs j f d
    by_place j (inr f) m d = grind arith

going_long : (s : List (List ℤ)) (from n : ℕ) (run : List (List ℤ)) (g : Going s from n run) → n ≤ length s
    → length run ≡ n - g.first
going_long s from n run g l = ap length g.is ∙ slice_long s g.first n (omega (arith, g.some)) l

step : (s : List (List ℤ)) (n : ℕ) (q : List (List ℤ)) → n < length s
    → (h : Searched s n (tracked q)) (o : Option (List (List ℤ))) → (tracked q).run ≡ o → At s h.from n o
    → (b : Bool) → looks_at s n ≡ b → Searched s (n + 1) (tracked (q ++ get_or s n [] ∷ []))
step s n q l h None e a false f = subst (Searched s (n + 1)) (sym (searching q (get_or s n []) e f).0) (record {
  places = h.places;
  from = h.from;
  ended = h.ended;
  closed = h.closed;
  at = (omega (arith, a.0), none_more s h.from n a.1 f);
})
step s n q l h None e a true f = subst (Searched s (n + 1)) (sym (began q (get_or s n []) e f).0) (record {
  places = h.places;
  from = h.from;
  ended = h.ended;
  closed = h.closed;
  at = record {
    first = n;
    behind = a.0;
    some = omega arith;
    none = a.1;
    is = slice_one s n l;
    syncs = λ j m d. let k : n + j ≡ n = omega arith in ap (looks_at s) k ∙ f;
  };
})
step s n q l h (Some run) e a b f = by_due (cases_eq (length run % 313) 0) b f
  where
    long : length run ≡ n - a.first
    long = going_long s h.from n run a (omega arith)

    goes : ((n - a.first) % 313 ≡ 0 → looks_at s n ≡ true) → tracked (q ++ get_or s n [] ∷ []) ≡ record {
      ended = (tracked q).ended;
      run = Some (run ++ get_or s n [] ∷ []);
    } → Searched s (n + 1) (tracked (q ++ get_or s n [] ∷ []))
    goes d t = subst (Searched s (n + 1)) (sym t) (record {
      places = h.places;
      from = h.from;
      ended = h.ended;
      closed = h.closed;
      at = going_more s h.from n run a l d;
    })

    ends : length run % 313 ≡ 0 → looks_at s n ≡ false
        → tracked (q ++ get_or s n [] ∷ []) ≡ record { ended = (tracked q).ended ++ run ∷ []; run = None }
        → Searched s (n + 1) (tracked (q ++ get_or s n [] ∷ []))
    ends z w t =
        let back : a.first + (n - a.first) ≡ n = omega (arith, a.some) in
        let r : IsRun s a.first (n - a.first) = record {
          some = omega (arith, a.some);
          within = omega (arith, back, l);
          syncs = λ j m d. a.syncs j (omega (arith, m)) d;
          ends = inr (omega (arith, back, l), ap (λ i. i % 313) (sym long) ∙ z, ap (looks_at s) back ∙ w);
        } in
        subst (Searched s (n + 1)) (sym t) (record {
          places = h.places ++ (a.first, n - a.first) ∷ [];
          from = n + 1;
          ended = ap₂ (λ xs x. xs ++ x ∷ []) h.ended (a.is ∙ ap (slice_range s a.first) (sym back))
              ∙ sym (map_push (segments_in s) h.places (a.first, n - a.first));
          closed = subst (λ i. Closed s 0 (h.places ++ (a.first, n - a.first) ∷ []) (i + 1)) back
              (closed_more s 0 h.from h.places (a.first, n - a.first) h.closed a.behind a.none r);
          at = (omega arith, λ i x y. absurd (omega arith));
        })

    by_due : (length run % 313 ≡ 0) ⊎ (length run % 313 ≢ 0) → (b : Bool) → looks_at s n ≡ b
        → Searched s (n + 1) (tracked (q ++ get_or s n [] ∷ []))
    by_due (inr d) b f = goes (λ z. absurd (d (ap (λ i. i % 313) long ∙ z))) (data_came q (get_or s n []) run e d).0
    by_due (inl d) true f = goes (λ _. f) (sync_came q (get_or s n []) run e d f).0
    by_due (inl d) false f = ends d f (ended_there q (get_or s n []) run e d f).0

nothing_searched : (s : List (List ℤ)) → Searched s 0 (tracked [])
unfolding tracked
nothing_searched s = record {
  places = [];
  from = 0;
  ended = refl;
  closed = refl;
  at = (omega arith, λ i a b. absurd (omega arith));
}

searched : (s : List (List ℤ)) (n : ℕ) → n ≤ length s → Searched s n (tracked (take n s))
searched s zero l = nothing_searched s
searched s (suc n) l =
    let h : Searched s n (tracked (take n s)) = searched s n (omega arith) in
    let next : n + 1 ≡ suc n = omega arith in
    let more : take n s ++ get_or s n [] ∷ [] ≡ take (suc n) s = sym (take_more s n [] (omega arith))
    ∙ ap (λ i. take i s) next in
    subst (λ i. Searched s i (tracked (take (suc n) s))) next (subst (λ q. Searched s (n + 1) (tracked q)) more
    (step s n (take n s) (omega arith) h (tracked (take n s)).run refl h.at (looks_at s n) refl))

abbrev Intervals : List (List ℤ) → List (List (List ℤ)) → Type 0
Intervals s rs = (places : List (ℕ × ℕ)) × AreRuns s 0 places × (rs ≡ map (segments_in s) places)

all_searched : (s : List (List ℤ)) → Searched s (length s) (tracked s)
all_searched s = subst (λ q. Searched s (length s) (tracked q)) (take_all (length s) s (omega arith))
    (searched s (length s) (omega arith))

closed_up : (s : List (List ℤ)) (from to : ℕ) (ps : List (ℕ × ℕ)) → Closed s from ps to → from ≤ to
closed_up s from to [] c = omega (arith, c)
closed_up s from to (p ∷ ps) c = omega (arith, c.0, closed_up s (p.0 + p.1 + 1) to ps c.3)

-- the runs that have ended end before the place from which on the search goes on
closed_before : (s : List (List ℤ)) (from to : ℕ) (ps : List (ℕ × ℕ)) → Closed s from ps to
    → All (λ p. p.0 + p.1 < to) ps
closed_before s from to [] c = All-nil (λ p. p.0 + p.1 < to)
closed_before s from to (p ∷ ps) c = All-cons (λ p. p.0 + p.1 < to) p ps (grind (arith, closed_up))
    (closed_before s (p.0 + p.1 + 1) to ps c.3)

-- The run that is on reaches the end of the list, and is the last of the runs there.
record Lasts (s : List (List ℤ)) (run : List (List ℤ)) : Type 0 where
  places : List (ℕ × ℕ)
  first : ℕ
  n : ℕ
  are : AreRuns s 0 (places ++ (first, n) ∷ [])
  all : (tracked s).ended ++ run ∷ [] ≡ map (segments_in s) (places ++ (first, n) ∷ [])
  ended : All (λ p. p.0 + p.1 < length s) places
  reaches : first + n ≡ length s
  long : length run ≡ n

lasts : (s : List (List ℤ)) (run : List (List ℤ)) (h : Searched s (length s) (tracked s))
    → Going s h.from (length s) run → Lasts s run
lasts s run h g =
    let back : g.first + (length s - g.first) ≡ length s = omega (arith, g.some) in
    record {
      places = h.places;
      first = g.first;
      n = length s - g.first;
      are = closed_all s 0 h.from h.places ((g.first, length s - g.first) ∷ []) h.closed (
        g.behind,
        g.none,
        record {
          some = omega (arith, g.some);
          within = omega (arith, back);
          syncs = λ j m d. g.syncs j (omega (arith, m)) d;
          ends = inl back;
        },
        λ i x y. absurd (omega (arith, back, x, y)),
      );
      all = ap₂ (λ xs x. xs ++ x ∷ []) h.ended (g.is ∙ ap (slice_range s g.first) (sym back))
          ∙ sym (map_push (segments_in s) h.places (g.first, length s - g.first));
      ended = All-weaker (λ p. p.0 + p.1 < h.from) (λ p. p.0 + p.1 < length s)
          (λ p m. omega (arith, m, g.behind, g.some)) h.places (closed_before s 0 h.from h.places h.closed);
      reaches = back;
      long = going_long s h.from (length s) run g (omega arith);
    }

pub are_runs : (s : List (List ℤ)) → Intervals s (runs s)
unfolding runs
are_runs s = let h : Searched s (length s) (tracked s) = all_searched s in by_run h (tracked s).run refl h.at
  where
    by_run : (h : Searched s (length s) (tracked s)) (o : Option (List (List ℤ))) → (tracked s).run ≡ o
        → At s h.from (length s) o → Intervals s ((tracked s).ended ++ option_to_list (tracked s).run)
    by_run h None e a = (
      h.places,
      subst (AreRuns s 0) (append-nil h.places) (closed_all s 0 h.from h.places [] h.closed a.1),
      ap (λ o. (tracked s).ended ++ option_to_list o) e ∙ append-nil (tracked s).ended ∙ h.ended,
    )
    by_run h (Some run) e a =
        let l : Lasts s run = lasts s run h a in
        (l.places ++ (l.first, l.n) ∷ [], l.are, ap (λ o. (tracked s).ended ++ option_to_list o) e ∙ l.all)

-- the run that is on has a segment
pub some_segment : (s : List (List ℤ)) (run : List (List ℤ)) → (tracked s).run ≡ Some run → 0 < length run
some_segment s run e =
    let h : Searched s (length s) (tracked s) = all_searched s in
    let g : Going s h.from (length s) run = subst (At s h.from (length s)) e h.at in
    omega (arith, going_long s h.from (length s) run g (omega arith), g.some)

-- no run is where no segment looks like a field sync
pub no_runs : (s : List (List ℤ)) → (length (runs s) ≡ 0) ↔ NoneLooks s 0 (length s)
no_runs s = (there, back)
  where
    count : length (runs s) ≡ length (are_runs s).0
    count = ap length (are_runs s).2 ∙ length-map (are_runs s).0 (segments_in s)

    empty : (ps : List (ℕ × ℕ)) → length ps ≡ 0 → ps ≡ []
    empty [] e = refl
    empty (p ∷ ps) e = absurd (omega (arith, e))

    there : length (runs s) ≡ 0 → NoneLooks s 0 (length s)
    there z = subst (AreRuns s 0) (empty (are_runs s).0 (sym count ∙ z)) (are_runs s).1

    back : NoneLooks s 0 (length s) → length (runs s) ≡ 0
    back h = count ∙ ap length (only_runs s 0 (are_runs s).0 [] (are_runs s).1 h)

-- ---- what the segment behind them is told to be

-- where the last of the runs reaches the end of the list, it is on
on_there : (s : List (List ℤ)) (places : List (ℕ × ℕ)) (first n : ℕ) → AreRuns s 0 (places ++ (first, n) ∷ [])
    → first + n ≡ length s → (run : List (List ℤ)) × ((tracked s).run ≡ Some run) × (length run ≡ n)
on_there s places first n a e =
    let h : Searched s (length s) (tracked s) = all_searched s in by_run h (tracked s).run refl h.at
  where
    within : Contains (places ++ (first, n) ∷ []) (first, n)
    within = Contains-push places (first, n)

    by_run : (h : Searched s (length s) (tracked s)) (o : Option (List (List ℤ))) → (tracked s).run ≡ o
        → At s h.from (length s) o → (run : List (List ℤ)) × ((tracked s).run ≡ Some run) × (length run ≡ n)
    by_run h None f at =
        let own : AreRuns s 0 h.places = subst (AreRuns s 0) (append-nil h.places) (grind (arith, closed_all)) in
        let same : places ++ (first, n) ∷ [] ≡ h.places = only_runs s 0 (places ++ (first, n) ∷ []) h.places a own in
        let before = All-contains (λ p. p.0 + p.1 < h.from) h.places (first, n)
        (closed_before s 0 h.from h.places h.closed) (subst (λ x. Contains x (first, n)) same within) in
        absurd (omega (arith, before, e, at.0))
    by_run h (Some run) f at =
        let l : Lasts s run = lasts s run h at in
        let same : places ++ (first, n) ∷ [] ≡ l.places ++ (l.first, l.n) ∷ [] =
        only_runs s 0 (places ++ (first, n) ∷ []) (l.places ++ (l.first, l.n) ∷ []) a l.are in (
          run,
          f,
          l.long ∙ by_place l
              (Contains-push_cases l.places (l.first, l.n) (first, n) (subst (λ x. Contains x (first, n)) same within)),
        )
      where
        by_place : (l : Lasts s run) → Contains l.places (first, n)
            ⊎ ◌≡◌ {A = ℕ × ℕ} (l.first, l.n) (first, n) → l.n ≡ n
        by_place l (inl c) = grind (arith, All-contains)
        by_place l (inr d) = ap (λ (p : ℕ × ℕ). p.1) d

pub told_on : (s : List (List ℤ)) (x : List ℤ) (places : List (ℕ × ℕ)) (first n : ℕ)
    → AreRuns s 0 (places ++ (first, n) ∷ []) → first + n ≡ length s
    → tracking s x ≡ cond (n % 313 == 0) (cond (looks_like x) Sync Ended) Data
unfolding tracking sync_due
told_on s x places first n a e = grind (arith, on_there)

-- where none does, none is on
pub none_on : (s : List (List ℤ)) (places : List (ℕ × ℕ)) → AreRuns s 0 places → All (λ p. p.0 + p.1 < length s) places
    → (tracked s).run ≡ None
none_on s places a b = let h : Searched s (length s) (tracked s) = all_searched s in by_run h (tracked s).run refl h.at
  where
    by_run : (h : Searched s (length s) (tracked s)) (o : Option (List (List ℤ))) → (tracked s).run ≡ o
        → At s h.from (length s) o → (tracked s).run ≡ None
    by_run h None f at = f
    by_run h (Some run) f at =
        let l : Lasts s run = lasts s run h at in
        let m = All-contains (λ p. p.0 + p.1 < length s) places (l.first, l.n) b
        (subst (λ x. Contains x (l.first, l.n)) (grind (arith, only_runs)) (Contains-push l.places (l.first, l.n))) in
        absurd (omega (arith, m, l.reaches))

pub told_off : (s : List (List ℤ)) (x : List ℤ) (places : List (ℕ × ℕ)) → AreRuns s 0 places
    → All (λ p. p.0 + p.1 < length s) places → tracking s x ≡ cond (looks_like x) Began Searching
unfolding tracking
told_off s x places a b = ap (λ r. tracking_of r (looks_like x)) (none_on s places a b)
