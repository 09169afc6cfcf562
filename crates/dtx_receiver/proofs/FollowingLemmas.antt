-- Runs with one segment more.
use Rattle.std.proofs.Common.{◌≡◌, ◌≢◌, ℤ, ◌+◌, ◌%◌, ◌<◌, ◌≤◌, Bool, true, false, cond, Option, Some, None, List, []}
use Rattle.std.proofs.Common.{◌∷◌, ◌++◌, length, refl, sym, ap, ap₂, ◌∙◌, append_assoc, arith}
use Rattle.std.proofs.lemmas.List.{append-nil, length_push}
use Rattle.std.proofs.lemmas.Bool.{ne_eqb, eq-eqb}
use Rattle.std.proofs.lemmas.List.Sums.{fold_push}
use Rattle.dtx_frame.specs.Detection.{looks_like}
use Rattle.dtx_receiver.specs.declared.tracking.Tracking.TheVariants.{Searching, Began, Sync, Data, Ended}
use Rattle.dtx_receiver.specs.Runs.{sync_due, Tracked, followed, tracked, tracking_of, tracking}

pub tracked_push : (s : List (List ℤ)) (x : List ℤ)
    → tracked (s ++ x ∷ []) ≡ followed (tracked s).ended (tracked s).run x
unfolding tracked
tracked_push s x = grind (arith, fold_push)

pub next_is : (s : List (List ℤ)) (x : List ℤ) (o : Option (List (List ℤ))) → (tracked s).run ≡ o
    → tracked (s ++ x ∷ []) ≡ followed (tracked s).ended o x
next_is s x o e = tracked_push s x ∙ ap (λ (p : Option (List (List ℤ))). followed (tracked s).ended p x) e

not_due : (run : List (List ℤ)) → length run % 313 ≢ 0 → sync_due run ≡ false
unfolding sync_due
not_due run n = ne_eqb (length run % 313) 0 n

due : (run : List (List ℤ)) → length run % 313 ≡ 0 → sync_due run ≡ true
unfolding sync_due
due run e = eq-eqb (length run % 313) 0 e

abbrev ends : List (List (List ℤ)) → List (List ℤ) → Tracked
ends ended run = record { ended = ended ++ run ∷ []; run = None }

abbrev goes_on : List (List (List ℤ)) → List (List ℤ) → List ℤ → Tracked
goes_on ended run x = record { ended = ended; run = Some (run ++ x ∷ []) }

abbrev searches : List (List (List ℤ)) → Tracked
searches ended = record { ended = ended; run = None }

abbrev begins : List (List (List ℤ)) → List ℤ → Tracked
begins ended x = record { ended = ended; run = Some (x ∷ []) }

-- ---- the five answers, each with the runs behind it

pub searching : (s : List (List ℤ)) (x : List ℤ) → (tracked s).run ≡ None → looks_like x ≡ false
    → (tracked (s ++ x ∷ []) ≡ searches (tracked s).ended) × (Searching ≡ tracking s x)
unfolding tracking
searching s x e l = (
  next_is s x None e ∙ ap (λ (b : Bool). record { ended = (tracked s).ended; run = cond b (Some (x ∷ [])) None }) l,
  sym (ap₂ tracking_of e l),
)

pub began : (s : List (List ℤ)) (x : List ℤ) → (tracked s).run ≡ None → looks_like x ≡ true
    → (tracked (s ++ x ∷ []) ≡ begins (tracked s).ended x) × (Began ≡ tracking s x)
unfolding tracking
began s x e l = (
  next_is s x None e ∙ ap (λ (b : Bool). record { ended = (tracked s).ended; run = cond b (Some (x ∷ [])) None }) l,
  sym (ap₂ tracking_of e l),
)

by_tests : (s : List (List ℤ)) (x : List ℤ) (run : List (List ℤ)) (d l : Bool) → (tracked s).run ≡ Some run
    → sync_due run ≡ d → looks_like x ≡ l
    → tracked (s ++ x ∷ []) ≡ cond d (cond l (goes_on (tracked s).ended run x) (ends (tracked s).ended run))
    (goes_on (tracked s).ended run x)
by_tests s x run d l e f g = next_is s x (Some run) e
    ∙ ap₂ (λ (a b : Bool). cond a (cond b (goes_on (tracked s).ended run x) (ends (tracked s).ended run))
    (goes_on (tracked s).ended run x)) f g

answer_by : (s : List (List ℤ)) (x : List ℤ) (run : List (List ℤ)) (d l : Bool) → (tracked s).run ≡ Some run
    → sync_due run ≡ d → looks_like x ≡ l → tracking s x ≡ cond d (cond l Sync Ended) Data
unfolding tracking
answer_by s x run d l e f g = ap₂ tracking_of e g ∙ ap (λ (b : Bool). cond b (cond l Sync Ended) Data) f

pub sync_came : (s : List (List ℤ)) (x : List ℤ) (run : List (List ℤ)) → (tracked s).run ≡ Some run
    → length run % 313 ≡ 0 → looks_like x ≡ true
    → (tracked (s ++ x ∷ []) ≡ goes_on (tracked s).ended run x) × (Sync ≡ tracking s x)
sync_came s x run e z l =
    (by_tests s x run true true e (due run z) l, sym (answer_by s x run true true e (due run z) l))

pub ended_there : (s : List (List ℤ)) (x : List ℤ) (run : List (List ℤ)) → (tracked s).run ≡ Some run
    → length run % 313 ≡ 0 → looks_like x ≡ false
    → (tracked (s ++ x ∷ []) ≡ ends (tracked s).ended run) × (Ended ≡ tracking s x)
ended_there s x run e z l =
    (by_tests s x run true false e (due run z) l, sym (answer_by s x run true false e (due run z) l))

pub data_came : (s : List (List ℤ)) (x : List ℤ) (run : List (List ℤ)) → (tracked s).run ≡ Some run
    → length run % 313 ≢ 0 → (tracked (s ++ x ∷ []) ≡ goes_on (tracked s).ended run x) × (Data ≡ tracking s x)
data_came s x run e n = (by_looks (looks_like x) refl, by_looks_too (looks_like x) refl)
  where
    by_looks : (l : Bool) → looks_like x ≡ l → tracked (s ++ x ∷ []) ≡ goes_on (tracked s).ended run x
    by_looks l g = by_tests s x run false l e (not_due run n) g

    by_looks_too : (l : Bool) → looks_like x ≡ l → Data ≡ tracking s x
    by_looks_too l g = sym (answer_by s x run false l e (not_due run n) g)

-- ---- data segments, one behind the other

-- up to the next place where a field sync is due
pub data_all : (xs s run : List (List ℤ)) → (tracked s).run ≡ Some run → (0 < length xs → length run % 313 ≢ 0)
    → length run % 313 + length xs ≤ 313
    → tracked (s ++ xs) ≡ record { ended = (tracked s).ended; run = Some (run ++ xs) }
data_all [] s run e n l = grind (arith, append-nil)
data_all (x ∷ xs) s run e n l =
    let t = (data_came s x run e (n (omega arith))).0 in
    ap tracked (sym (append_assoc s (x ∷ []) xs))
    ∙ data_all xs (s ++ x ∷ []) (run ++ x ∷ []) (ap (λ (u : Tracked). u.run) t)
    (λ some due. omega (arith, some, due, l, length_push run x)) (omega (arith, l, length_push run x, n))
    ∙ ap (λ (u : Tracked). record { ended = u.ended; run = Some ((run ++ x ∷ []) ++ xs) }) t
    ∙ ap (λ r. record { ended = (tracked s).ended; run = Some r }) (append_assoc run (x ∷ []) xs)
