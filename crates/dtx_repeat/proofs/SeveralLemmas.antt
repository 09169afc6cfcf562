-- Several segments, of which none begins a run, and one alone that does.
use Rattle.std.proofs.Common.{◌≡◌, ◌≢◌, ◌⊎◌, ℕ, ℤ, ◌+◌, ◌%◌, ◌≤◌, ◌<◌, ◌==◌, if◌then◌else◌, Option, Some, None, IfSome}
use Rattle.std.proofs.Common.{List, [], ◌∷◌, ◌++◌, length, take, get_or, refl, sym, ap, ap₂, ◌∙◌, subst, inl, inr}
use Rattle.std.proofs.Common.{append_assoc, arith}
use Rattle.std.proofs.lemmas.Bool.{cases_eq}
use Rattle.std.proofs.lemmas.List.{append-nil, append_cancel_left, length-append}
use Rattle.dtx_receiver.proofs.CountingLemmas.{More, given_more, runs_more}
use Rattle.dtx_receiver.specs.Packets.{packets_so_far}
use Rattle.dtx_receiver.specs.Runs.{tracked, tracking, runs, begun}
use Rattle.dtx_receiver.specs.Bytes.{symbols_in, symbols_of}
use Rattle.dtx_receiver.specs.declared.batch.Received.{Received}
use Rattle.dtx_repeat.specs.GoingOn.{longer, with_begun, AreGiven}
use Rattle.dtx_repeat.proofs.GoingOnLemmas.{GoesOn, Begins, Steps, begins_one, goes_on, one_more, nothing_more}
use Rattle.dtx_repeat.proofs.GoingOnLemmas.{longer_none, longer_longer}
use Rattle.dtx_repeat.proofs.LivesLemmas.{lives_more, given_on, place_by, at_place}
use Rattle.dtx_repeat.specs.Lives.{packets_in, lives_so_far}
use Rattle.dtx_repeat.specs.Repeater.{next_place}
use Rattle.dtx_repeat.specs.Restored.{restored, restored_so_far}
use Rattle.dtx_repeat.proofs.RestoredLemmas.{restored_none, restored_behind, packets_in-append}

-- these lives, and an empty one more if runs began, so many of them
abbrev pub with_runs : ℕ → List (List (List ℕ)) → List (List (List ℕ))
with_runs begins lives = if begins == 0 then lives else lives ++ [] ∷ []

-- what holds where none begins, and where one does
pub one_or_none : (P : ℕ → Type 0) (begins : ℕ) → begins ≤ 1 → P 0 → P 1 → P begins
one_or_none P begins most none one = by_some (cases_eq begins 0)
  where
    by_some : (begins ≡ 0) ⊎ (begins ≢ 0) → P begins
    by_some (inl zero) = subst P (sym zero) none
    by_some (inr some) = let e : 1 ≡ begins = omega (arith, most, some) in subst P e one

-- a longer list has no fewer runs
runs_grow : (xs s : List (List ℤ)) → length (runs s) ≤ length (runs (s ++ xs))
runs_grow [] s = omega (arith, ap (λ z. length (runs z)) (append-nil s))
runs_grow (x ∷ xs) s =
    omega (
      arith,
      runs_more s x,
      runs_grow xs (s ++ x ∷ []),
      ap (λ z. length (runs z)) (append_assoc s (x ∷ []) xs),
    )

-- the first of several segments begins no run, where none of them does
none_first : (xs s : List (List ℤ)) (x : List ℤ) → length (runs (s ++ x ∷ xs)) ≡ length (runs s)
    → begun (tracking s x) ≡ 0
none_first xs s x few =
    omega (
      arith,
      few,
      runs_more s x,
      runs_grow xs (s ++ x ∷ []),
      ap (λ z. length (runs z)) (append_assoc s (x ∷ []) xs),
    )

-- ---- several segments, one after another

-- the packets that they bring
given_all : (xs s : List (List ℤ)) → More (packets_so_far (s ++ xs)) (packets_so_far s)
given_all [] s = ([], ap packets_so_far (append-nil s) ∙ sym (append-nil (packets_so_far s)))
given_all (x ∷ xs) s =
    let one = given_more s x in
    let rest = given_all xs (s ++ x ∷ []) in (
      one.0 ++ rest.0,
      ap packets_so_far (sym (append_assoc s (x ∷ []) xs)) ∙ grind (arith, rest.1, one.1, append_assoc),
    )

same_place : (p : ℕ) (o : Option (List (List ℤ))) → IfSome o (λ run. p ≡ next_place run)
    → IfSome o (λ run. (p + 0) % 624 ≡ next_place run)
same_place p None h = tt
same_place p (Some run) h = omega (arith, h)

-- no segment
stays : (s : List (List ℤ)) (p : ℕ) → IfSome (tracked s).run (λ run. p ≡ next_place run) → GoesOn s s p []
stays s p place = record {
  behind = grind (arith, append-nil, restored_none);
  place = same_place p (tracked s).run place;
  lives = grind (arith, longer_none, restored_none);
  none = λ e. refl;
}

-- some segments and then others
goes_on_twice : (s mid next : List (List ℤ)) (p : ℕ) (a b : List Received) → GoesOn s mid p a
    → GoesOn mid next ((p + length a) % 624) b → GoesOn s next p (a ++ b)
goes_on_twice s mid next p a b f g =
    let q : ℕ = (p + length a) % 624 in
    let both : restored p (a ++ b) ≡ restored p a ++ restored q b = restored_behind p q a b refl in
    let long : length (a ++ b) ≡ length a + length b = length-append a b in
    record {
      behind = grind (arith, f.behind, g.behind, append_assoc, both);
      place = subst (λ (n : ℕ). IfSome (tracked next).run (λ run. n ≡ next_place run)) (omega (arith, long)) g.place;
      lives = grind (arith, f.lives, g.lives, longer_longer, packets_in-append, both);
      none = λ e.
          ap₂ (λ (x y : List Received). x ++ y) (f.none e)
          (g.none (f.lives ∙ ap (λ z. longer z (packets_in (restored p a))) e));
    }

-- none of which begins a run
pub goes_on_all : (xs s : List (List ℤ)) (p : ℕ) (packets : List Received)
    → IfSome (tracked s).run (λ run. p ≡ next_place run) → length (runs (s ++ xs)) ≡ length (runs s)
    → packets_so_far (s ++ xs) ≡ packets_so_far s ++ packets → GoesOn s (s ++ xs) p packets
goes_on_all [] s p packets place few h =
    let none : packets ≡ [] =
    nothing_more (packets_so_far s) packets (sym (ap packets_so_far (append-nil s)) ∙ h) in
    subst (λ z. GoesOn s z p packets) (sym (append-nil s)) (subst (GoesOn s s p) (sym none) (stays s p place))
goes_on_all (x ∷ xs) s p packets place few h =
    let mid : List (List ℤ) = s ++ x ∷ [] in
    let one = given_more s x in
    let rest = given_all xs mid in
    let all : mid ++ xs ≡ s ++ x ∷ xs = append_assoc s (x ∷ []) xs in
    let both : packets ≡ one.0 ++ rest.0 =
    append_cancel_left (packets_so_far s) packets (one.0 ++ rest.0)
    (sym h ∙ ap packets_so_far (sym all) ∙ grind (arith, rest.1, one.1, append_assoc)) in
    let none : begun (tracking s x) ≡ 0 = none_first xs s x few in
    let first : GoesOn s mid p one.0 =
    goes_on s x p one.0 (tracking s x) none (one_more s x p one.0 place one.1) in
    let few_more : length (runs (mid ++ xs)) ≡ length (runs mid) =
    omega (arith, ap (λ z. length (runs z)) all, few, runs_more s x, none) in
    subst (λ z. GoesOn s z p packets) all
    (subst (GoesOn s (mid ++ xs) p) (sym both)
    (goes_on_twice s mid (mid ++ xs) p one.0 rest.0 first
    (goes_on_all xs mid ((p + length one.0) % 624) rest.0 first.place few_more rest.1)))

-- one that begins a run
begins_alone : (s : List (List ℤ)) (x : List ℤ) (p : ℕ) (packets : List Received)
    → IfSome (tracked s).run (λ run. p ≡ next_place run) → length (runs (s ++ x ∷ [])) ≡ length (runs s) + 1
    → packets_so_far (s ++ x ∷ []) ≡ packets_so_far s ++ packets → Begins s (s ++ x ∷ []) x packets
begins_alone s x p packets place one h =
    subst (Steps s x p packets) (begins_one (tracking s x) (omega (arith, one, runs_more s x)))
    (one_more s x p packets place h)

first_alone : (segments : List (List ℕ)) (n : ℕ) → 0 < length segments → n ≡ 1
    → symbols_in (take n segments) ≡ symbols_of (get_or segments 0 []) ∷ []
first_alone [] n some one = absurd (omega (arith, some))
first_alone (x ∷ xs) n some one = ap (λ (k : ℕ). symbols_in (take k (x ∷ xs))) one

-- the first of some segments does, where it is taken alone
pub begins_first : (s : List (List ℤ)) (segments : List (List ℕ)) (n begins p : ℕ) (packets : List Received)
    → 0 < length segments → n ≡ 1 → begins ≡ 1 → IfSome (tracked s).run (λ run. p ≡ next_place run)
    → length (runs (s ++ symbols_in (take n segments))) ≡ length (runs s) + begins
    → packets_so_far (s ++ symbols_in (take n segments)) ≡ packets_so_far s ++ packets
    → Begins s (s ++ symbols_in (take n segments)) (symbols_of (get_or segments 0 [])) packets
begins_first s segments n begins p packets some one begun place more h =
    let x : List ℤ = symbols_of (get_or segments 0 []) in
    let first : symbols_in (take n segments) ≡ x ∷ [] = first_alone segments n some one in
    subst (λ xs. Begins s (s ++ xs) x packets) (sym first)
    (begins_alone s x p packets place
    (sym (ap (λ xs. length (runs (s ++ xs))) first) ∙ more ∙ ap (λ (k : ℕ). length (runs s) + k) begun)
    (sym (ap (λ xs. packets_so_far (s ++ xs)) first) ∙ h))

-- ---- the lives

by_one : (s xs : List (List ℤ)) (packets : List Received) → length xs ≡ 1
    → length (runs (s ++ xs)) ≡ length (runs s) + 1 → restored_so_far (s ++ xs) ≡ restored_so_far s ++ packets
    → AreGiven (lives_so_far s ++ [] ∷ []) (lives_so_far (s ++ xs)) packets
by_one s [] packets one more is = absurd (omega (arith, one))
by_one s (x ∷ []) packets one more is =
    subst (λ t. AreGiven (with_begun t (lives_so_far s)) (lives_so_far (s ++ x ∷ [])) packets)
    (begins_one (tracking s x) (omega (arith, more, runs_more s x))) (lives_more s x packets is)
by_one s (x ∷ (y ∷ xs)) packets one more is = absurd (omega (arith, one))

pub lives_several : (s xs : List (List ℤ)) (packets : List Received) (begins : ℕ) → begins ≤ 1
    → (0 < begins → length xs ≡ 1) → length (runs (s ++ xs)) ≡ length (runs s) + begins
    → restored_so_far (s ++ xs) ≡ restored_so_far s ++ packets
    → AreGiven (with_runs begins (lives_so_far s)) (lives_so_far (s ++ xs)) packets
lives_several s xs packets begins most alone more is = one_or_none Given begins most none one alone more
  where
    Given : ℕ → Type 0
    Given n =
        (0 < n → length xs ≡ 1) → length (runs (s ++ xs)) ≡ length (runs s) + n
        → AreGiven (with_runs n (lives_so_far s)) (lives_so_far (s ++ xs)) packets

    none : Given 0
    none alone more =
        let all = given_all xs s in
        let p : ℕ = place_by (tracked s).run in
        given_on s (s ++ xs) p all.0 packets
        (goes_on_all xs s p all.0 (at_place (tracked s).run) (omega (arith, more)) all.1) is

    one : Given 1
    one alone more = by_one s xs packets (alone (omega arith)) more is
