-- Bytes of a run that have gone through the gatherer before their words are given.
use Rattle.std.proofs.Common.{◌≡◌, ℕ, ◌+◌, ◌-◌, ◌*◌, ◌<◌, ◌≤◌, List, ◌++◌, length, take, drop, sym, ap, ◌∙◌, subst}
use Rattle.std.proofs.Common.{arith, mul-le-mul_left, append_assoc}
use Rattle.std.proofs.lemmas.List.{append-nil, drop-drop, drop-take, take-take, take_all}
use Rattle.std.proofs.Math.Seq.{take-add}
use Rattle.dtx_laws.specs.Branches.{Branching, leaving_all, after_all}
use Rattle.dtx_laws.proofs.PlacesLemmas.{after_append}
use Rattle.dtx_outer.specs.Inner.{Kept, StandsFor, IsTaken}
use Rattle.dtx_outer.specs.declared.inner.Taken.{Taken}
use Rattle.dtx_outer.proofs.Runs.{take_leaving, drop_leaving}

-- the gatherer is no further than the words
caught_up : (n k b m : ℕ) (e : Kept) (v : Branching) (y : List ℕ) → e.branches ≡ v
    → StandsFor n k b m (record e { branches = v }) y → StandsFor n k b m e y
caught_up n k b m e v y eb s = grind arith

-- before it took bytes, all but its branches was what it is now
pub was_before : (n k b m : ℕ) (d e : Kept) (y : List ℕ) → e.white ≡ d.white → e.before ≡ d.before → e.waits ≡ d.waits
    → e.place ≡ d.place → StandsFor n k b m d y → StandsFor n k b m (record e { branches = d.branches }) y
was_before n k b m d e y ew ev et ep s = grind arith

-- ---- the bytes from a place on

-- what left for some of the bytes
pub part_leaving : (b a c : ℕ) (v : Branching) (ys : List ℕ) → take c (drop a (leaving_all b v ys))
    ≡ leaving_all b (after_all b v (take a ys)) (take c (drop a ys))
part_leaving b a c v ys = ap (take c) (drop_leaving b a v ys) ∙ take_leaving b c (after_all b v (take a ys)) (drop a ys)

-- none of them has given its words yet
pub none_given : (n k b m : ℕ) (e : Kept) (v : Branching) (y ys : List ℕ) (a : ℕ) → a ≡ 0
    → StandsFor n k b m (record e { branches = v }) y
    → StandsFor n k b m (record e { branches = after_all b v (take a ys) }) (y ++ take a ys)
unfolding after_all
none_given n k b m e v y ys a z s = rw z (subst (StandsFor n k b m (record e { branches = v })) (sym (append-nil y)) s)

-- those up to a place have, and then those up to another
pub more_given : (n k b m : ℕ) (e : Kept) (v : Branching) (y ys : List ℕ) (a c d : ℕ) → a + c ≡ d
    → StandsFor n k b m (record e { branches = after_all b (after_all b v (take a ys)) (take c (drop a ys)) })
    ((y ++ take a ys) ++ take c (drop a ys))
    → StandsFor n k b m (record e { branches = after_all b v (take d ys) }) (y ++ take d ys)
more_given n k b m e v y ys a c d p s =
    let more : take a ys ++ take c (drop a ys) ≡ take d ys = sym (take-add a c ys) ∙ ap (λ i. take i ys) p in
    rw (← more) (rw (after_append b v (take a ys) (take c (drop a ys)))
    (subst (StandsFor n k b m (record e { branches = after_all b (after_all b v (take a ys)) (take c (drop a ys)) }))
    (append_assoc y (take a ys) (take c (drop a ys))) s))

-- all of them have
pub all_given : (n k b m : ℕ) (e : Kept) (v : Branching) (y ys : List ℕ) (a : ℕ) → length ys ≤ a
    → e.branches ≡ after_all b v ys
    → StandsFor n k b m (record e { branches = after_all b v (take a ys) }) (y ++ take a ys)
    → StandsFor n k b m e (y ++ ys)
all_given n k b m e v y ys a l eb s = caught_up n k b m e (after_all b v ys) (y ++ ys) eb (rw (← take_all a ys l) s)

-- ---- four blocks of more

-- block p of the four
pub taken_of_four : (n k b m : ℕ) (white y ys old new : List ℕ) (taken : Taken) (q p : ℕ) → p < 4
    → IsTaken n k b m white ((y ++ take (n * 4 * q) ys) ++ take (n * p) (take (n * 4) (drop (n * 4 * q) ys)))
    (take n (drop (n * p) (take (n * 4) (drop (n * 4 * q) ys)))) old new taken
    → IsTaken n k b m white (y ++ take (n * (4 * q + p)) ys) (take n (drop (n * (4 * q + p)) ys)) old new taken
taken_of_four n k b m white y ys old new taken q p l t = rw (← block) (rw (← before) t)
  where
    at : n * (4 * q + p) ≡ n * 4 * q + n * p
    at = grind arith

    within : n * p + n ≤ n * 4
    within = grind (arith, mul-le-mul_left)

    before : (y ++ take (n * 4 * q) ys) ++ take (n * p) (take (n * 4) (drop (n * 4 * q) ys))
        ≡ y ++ take (n * (4 * q + p)) ys
    before = append_assoc y (take (n * 4 * q) ys) (take (n * p) (take (n * 4) (drop (n * 4 * q) ys)))
        ∙ ap (λ zs. y ++ zs)
        (ap (λ zs. take (n * 4 * q) ys ++ zs) (take-take (n * p) (n * 4) (drop (n * 4 * q) ys) (omega (arith, within)))
        ∙ sym (take-add (n * 4 * q) (n * p) ys) ∙ ap (λ i. take i ys) (sym at))

    block : take n (drop (n * p) (take (n * 4) (drop (n * 4 * q) ys))) ≡ take n (drop (n * (4 * q + p)) ys)
    block = ap (λ i. take n (drop (n * p) (take i (drop (n * 4 * q) ys)))) (omega (arith, within))
        ∙ ap (take n) (drop-take (n * p) (n * 4 - n * p) (drop (n * 4 * q) ys))
        ∙ take-take n (n * 4 - n * p) (drop (n * p) (drop (n * 4 * q) ys)) (omega (arith, within))
        ∙ ap (take n) (drop-drop (n * p) (n * 4 * q) ys ∙ ap (λ i. drop i ys) (sym at))
