-- What a leveller gives of the symbols that it takes.
use Rattle.std.proofs.Common.{◌≡◌, ℕ, ℤ, pos, ◌+◌, ◌-◌, ◌<◌, ◌≤◌, refl, ap, ◌∙◌, arith, List, map, length, sym, subst}
use Rattle.std.proofs.Common.{Bool, [], ◌∷◌, ◌++◌, true, false, ◌||◌, cond, take, drop, ap₂, length-append, Option}
use Rattle.std.proofs.Common.{Some, None, append_assoc, replicate}
use Rattle.std.proofs.lemmas.Bool.{cond-false, true≢false, cases_eq}
use Rattle.std.proofs.lemmas.List.{length-take-le, append-nil, length-drop, replicate-append-replicate}
use Rattle.dtx_acquire.proofs.PlacesLemmas.{whole_there, least_gives, least_misses}
use Rattle.dtx_level.proofs.Ending.{measures_known, known_are}
use Rattle.dtx_level.proofs.Leaving.{IsSought, leaves_settled, leaves_sought, leaves_fed}
use Rattle.dtx_level.proofs.Shows.{shows_dropped, shows_front}
use Rattle.dtx_level.proofs.Steps.{step_is, settled_same, sought_same, by_sought, by_settled}
use Rattle.dtx_level.specs.Levelled.{levelled_so_far, By, by_sync, level}
use Rattle.dtx_level.specs.Leveller.{Holding, StandsFor, all_given, as_list, taken, Leaves, shown, cleared, stretched}
use Rattle.dtx_level.specs.Leveller.{fed, found, passed, settled, sought, sought_at, step_at}
use Rattle.dtx_level.specs.Measures.{measures_so_far}
use Rattle.dtx_level.specs.Shown.{least_shown, shows}
use Rattle.dtx_level.proofs.Shows.{past_end}
use Rattle.dtx_level.specs.declared.measure.Measure.{Measure}

-- What a part of a call does. It lets more symbols go, and measures no sync or one. Let earlier calls (`before`) and
-- this one have given all that may be given of `done`. Then the same holds afterwards.
record IsMoved (old new : Holding) (symbols done : List ℤ) (told : List Measure) : Type 0 where
  more : List ℤ
  leaves : Leaves new symbols (done ++ more) (told ++ as_list new.measured)
  given : (before : List ℤ) → shown old done ≡ before ++ all_given old
      → shown new (done ++ more) ≡ before ++ all_given new

abbrev Moves : Holding → Holding → Type 0
Moves old new = (symbols done : List ℤ) (told : List Measure) → Leaves old symbols done told
    → IsMoved old new symbols done told

-- A call has given nothing yet.
record IsClear (h : Holding) : Type 0 where
  zeros : h.zeros ≡ 0
  given : h.given ≡ []
  measured : h.measured ≡ None

none_given : (h : Holding) → IsClear h → all_given h ≡ []
none_given h c = ap₂ (λ n (xs : List ℤ). replicate n (pos 0) ++ xs) c.zeros c.given

told_more : (new : Holding) (symbols done : List ℤ) (told : List Measure) → new.measured ≡ None
    → Leaves new symbols done told → Leaves new symbols done (told ++ as_list new.measured)
told_more new symbols done told e h =
    subst (Leaves new symbols done) (sym (ap (λ o. told ++ as_list o) e ∙ append-nil told)) h

pub silent_level : (by : By) (xs : List ℤ) → by.begun ≡ false → map (level by) xs ≡ replicate (length xs) (pos 0)
silent_level by [] e = refl
silent_level by (x ∷ xs) e = ap₂ ◌∷◌ (grind arith) (silent_level by xs e)

-- ---- a sync is found

find_moves : (h : Holding) (count : ℕ) → IsClear h → h.on ≡ false → IsSought h.held count → Moves h (found h count)
find_moves h count clear off s symbols done told l = record {
  more = map (level h.by) (take count h.held);
  leaves = told_more (found h count) symbols (done ++ map (level h.by) (take count h.held)) told clear.measured
      (leaves_sought h count true h.silent _ _ symbols done told l s (λ e. absurd (true≢false e)));
  given = λ before e.
      by_begun before h.by.begun refl (sym (ap (λ b. cond (b || h.by.begun) done []) off) ∙ e
      ∙ ap (λ xs. before ++ xs) (none_given h clear) ∙ append-nil before);
}
  where
    by_begun : (before : List ℤ) (b : Bool) → h.by.begun ≡ b → cond b done [] ≡ before
        → done ++ map (level h.by) (take count h.held)
        ≡ before ++ (replicate (cond b 0 h.silent) (pos 0) ++ map (level h.by) (take count h.held))
    by_begun before true f e = ap (λ xs. xs ++ map (level h.by) (take count h.held)) e
    by_begun before false f e = grind arith

-- ---- none is found

pass_moves : (h : Holding) (count : ℕ) → IsClear h → h.on ≡ false → IsSought h.held count → Moves h (passed h count)
pass_moves h count clear off s symbols done told l = record {
  more = map (level h.by) (take count h.held);
  leaves = told_more (passed h count) symbols (done ++ map (level h.by) (take count h.held)) told clear.measured
      (leaves_sought h count h.on _ _ _ symbols done told l s (λ e f. ap₂ ◌++◌ (l.silence off f)
      (silent_level h.by (take count h.held) f
      ∙ ap (λ n. replicate n (pos 0)) (length-take-le count h.held s.within))
      ∙ replicate-append-replicate h.silent count (pos 0)
      ∙ ap (λ n. replicate n (pos 0)) (sym (cond-false h.by.begun h.silent (h.silent + count) f))));
  given = λ before e.
      ap (λ a. cond (a || h.by.begun) (done ++ map (level h.by) (take count h.held)) []) off
      ∙ by_begun before h.by.begun (sym (ap (λ b. cond (b || h.by.begun) done []) off) ∙ e
      ∙ ap (λ xs. before ++ xs) (none_given h clear) ∙ append-nil before)
      ∙ ap₂ (λ n (xs : List ℤ). before ++ (replicate n (pos 0) ++ cond h.by.begun (map (level h.by) (take count h.held))
      xs)) (sym clear.zeros) (sym clear.given);
}
  where
    by_begun : (before : List ℤ) (b : Bool) → cond b done [] ≡ before
        → cond b (done ++ map (level h.by) (take count h.held)) []
        ≡ before ++ (replicate 0 (pos 0) ++ cond b (map (level h.by) (take count h.held)) [])
    by_begun before true e = ap (λ xs. xs ++ map (level h.by) (take count h.held)) e
    by_begun before false e = e ∙ sym (append-nil before)

-- nothing changes
stay_moves : (h : Holding) → h.measured ≡ None → Moves h h
stay_moves h e symbols done told l = record {
  more = [];
  leaves = told_more h symbols (done ++ []) told e (subst (λ xs. Leaves h symbols xs told) (sym (append-nil done)) l);
  given = λ before f. ap (λ (xs : List ℤ). shown h xs) (append-nil done) ∙ f;
}

-- ---- a sync is sought

record Seeks (old new : Holding) : Type 0 where
  moves : Moves old new
  off : new.on ≡ false → length new.held < 832
  rest : new.on ≡ false → 831 ≤ length old.held → length new.held ≡ 831
  kept : new.on ≡ false → (old.on ≡ false) × (new.by.begun ≡ old.by.begun)
  zeros : 0 < new.zeros → (old.on ≡ false) × (old.by.begun ≡ false)
  front : new.on ≡ true → shows new.held 0 ≡ true
  most : length new.held ≤ 261248
  whole : length new.held ≡ 261248 → new.given ≡ []

seeks : (h : Holding) → IsClear h → length h.held ≤ 261248 → (h.on ≡ true → shows h.held 0 ≡ true) → Seeks h (sought h)
seeks h clear most front = by_sought (Seeks h) h on by_least
  where
    on : h.on ≡ true → Seeks h h
    on e = record {
      moves = stay_moves h clear.measured;
      off = λ f. absurd (true≢false (sym e ∙ f));
      rest = λ f l. absurd (true≢false (sym e ∙ f));
      kept = λ f. absurd (true≢false (sym e ∙ f));
      zeros = λ some. absurd (omega (arith, some, clear.zeros));
      front = front;
      most = most;
      whole = λ full. clear.given;
    }

    owed : (b : Bool) → 0 < cond b 0 h.silent → b ≡ false
    owed true some = absurd (omega (arith, some))
    owed false some = refl

    by_least : h.on ≡ false → (o : Option ℕ) → least_shown h.held 0 ≡ o → Seeks h (sought_at h o)
    by_least e None g =
        let count : ℕ = length h.held - 831 in
        let short : length (drop count h.held) < 832 = omega (arith, length-drop count h.held) in
        record {
          moves = pass_moves h count clear e (record {
            within = omega arith;
            none = λ p l. (omega arith, least_misses shows past_end h.held 0 p g (omega arith));
          });
          off = λ f. short;
          rest = λ f l. omega (arith, length-drop count h.held, l);
          kept = λ f. (e, refl);
          zeros = λ some. absurd (omega (arith, some, clear.zeros));
          front = λ f. absurd (true≢false (sym f ∙ e));
          most = omega (arith, short);
          whole = λ full. absurd (omega (arith, short, full));
        }
    by_least e (Some p) g =
        let is = least_gives shows h.held 0 p g in
        let there = whole_there shows past_end h.held p is.passes in
        let all : p + 0 ≡ p = omega arith in
        record {
          moves = find_moves h p clear e (record {
            within = omega (arith, there);
            none = λ q l. (omega (arith, there, l), is.before q (omega arith) l);
          });
          off = λ f. absurd (true≢false f);
          rest = λ f l. absurd (true≢false f);
          kept = λ f. absurd (true≢false f);
          zeros = λ some. (e, owed h.by.begun some);
          front = λ f. shows_dropped h.held p 0 (omega (arith, there)) ∙ ap (shows h.held) all ∙ is.passes;
          most = omega (arith, length-drop p h.held, most);
          whole = λ full. (let zero : p ≡ 0 = omega (arith, length-drop p h.held, there, most, full) in
              ap (λ n. map (level h.by) (take n h.held)) zero);
        }

-- ---- the sync in front is settled

settle_moves : (h : Holding) → h.on ≡ true → h.given ≡ [] → length h.held ≡ 261248 → shows h.held 0 ≡ true
    → Moves h (stretched h (step_at h.held))
settle_moves h on none full front symbols done told l =
    let more : List ℤ = map (level (by_sync h.held 0)) (take (step_at h.held).count h.held) in
    record {
      more = more;
      leaves = leaves_settled h symbols done told l full front;
      given = λ before e.
          begun (step_at h.held).on more
          ∙ ap (λ xs. xs ++ more) (sym (ap (λ b. cond (b || h.by.begun) done []) on) ∙ e
          ∙ ap (λ (xs : List ℤ). before ++ (replicate h.zeros (pos 0) ++ xs)) none
          ∙ ap (λ xs. before ++ xs) (append-nil (replicate h.zeros (pos 0))))
          ∙ append_assoc before (replicate h.zeros (pos 0)) more;
    }
  where
    begun : (a : Bool) (more : List ℤ) → cond (a || true) (done ++ more) [] ≡ done ++ more
    begun true more = refl
    begun false more = refl

record Settles (old new : Holding) : Type 0 where
  moves : Moves old new
  few : length new.held < 261248
  off : new.on ≡ false → length new.held < 832
  rest : (old.on ≡ false → old.by.begun ≡ true → length old.held ≡ 831) → new.on ≡ false → new.by.begun ≡ true
      → length new.held ≡ 831
  front : new.on ≡ true → shows new.held 0 ≡ true

settles : (h : Holding) → h.measured ≡ None → length h.held ≤ 261248 → (h.on ≡ false → length h.held < 832)
    → (length h.held ≡ 261248 → h.given ≡ []) → (h.on ≡ true → shows h.held 0 ≡ true) → Settles h (settled h)
settles h none most off whole front = by_settled (Settles h) h stays steps
  where
    few : (b : Bool) → h.on ≡ b → (h.on ≡ true → length h.held ≡ 261248 → ⊥) → length h.held < 261248
    few true e short = grind (arith, cases_eq)
    few false e short = omega (arith, off e)

    stays : (h.on ≡ true → length h.held ≡ 261248 → ⊥) → Settles h h
    stays short = record {
      moves = stay_moves h none;
      few = few h.on refl short;
      off = off;
      rest = λ p. p;
      front = front;
    }

    steps : h.on ≡ true → length h.held ≡ 261248 → Settles h (stretched h (step_at h.held))
    steps e full =
        let is = step_is h.held full in
        let left = length-drop (step_at h.held).count h.held in
        record {
          moves = settle_moves h e (whole full) full (front e);
          few = omega (arith, left, full, is.some);
          off = λ f. omega (arith, left, full, is.off f);
          rest = λ p f b. omega (arith, left, full, is.off f);
          front = is.next;
        }

-- ---- all that a call takes

pub record IsTaken (old new : Holding) (symbols more : List ℤ) : Type 0 where
  pub stands : StandsFor new (symbols ++ more)
  pub given : levelled_so_far (symbols ++ more) ≡ levelled_so_far symbols ++ all_given new
  pub measured : measures_so_far (symbols ++ more) ≡ measures_so_far symbols ++ as_list new.measured
  pub zeros : 0 < new.zeros → levelled_so_far symbols ≡ []

pub taken_is : (h : Holding) (symbols more : List ℤ) → StandsFor h symbols → length (h.held ++ more) ≤ 261248
    → IsTaken h (taken h more) symbols more
taken_is h symbols more st most =
    let f : Holding = fed (cleared h) more in
    let s : Holding = sought f in
    let t : Holding = settled s in
    let front = λ (e : h.on ≡ true). shows_front h.held more 0 (whole_there shows past_end h.held 0 (st.front e))
    ∙ st.front e in
    let a = seeks f (record { zeros = refl; given = refl; measured = refl }) most front in
    let none : s.measured ≡ None = (sought_same f).0 in
    let b = settles s none a.most a.off a.whole a.front in
    let m1 = a.moves (symbols ++ more) st.done st.told (leaves_fed h symbols more st.done st.told st.leaves) in
    let m2 = b.moves (symbols ++ more) (st.done ++ m1.more) (st.told ++ as_list s.measured) m1.leaves in
    let before = known_are h symbols st in
    let stands : StandsFor t (symbols ++ more) = grind (arith, length-append) in
    record {
      stands = stands;
      given = (known_are t (symbols ++ more) stands).so_far ∙ m2.given (shown h st.done) (grind (arith, append-nil))
          ∙ ap (λ xs. xs ++ all_given t) (sym before.so_far);
      measured = measures_known t (symbols ++ more) stands ∙ ap (λ o. (st.told ++ as_list o) ++ as_list t.measured) none
          ∙ ap (λ xs. xs ++ as_list t.measured) (append-nil st.told ∙ sym (measures_known h symbols st));
      zeros = λ some. (let off = a.zeros (subst (λ (n : ℕ). 0 < n) (settled_same s).0 some) in
          before.so_far ∙ ap₂ (λ x y. cond (x || y) st.done []) off.0 off.1);
    }
