-- Laws of what `repeat` makes of symbols: what the first segments give is a prefix of what more give.
use Rattle.std.proofs.Common.{◌≡◌, ℕ, ℤ, ◌%◌, ◌<◌, List, [], ◌∷◌, ◌++◌, length, refl, sym, ap, ◌∙◌, subst, arith}
use Rattle.std.proofs.Common.{append_assoc}
use Rattle.std.proofs.lemmas.List.{append-nil}
use Rattle.dtx_engine.specs.Made.{only, AreFrontsOf}
use Rattle.dtx_exciter.specs.Log.{log}
use Rattle.dtx_receiver.specs.Runs.{tracking}
use Rattle.dtx_receiver.specs.declared.batch.Received.{Received}
use Rattle.dtx_receiver.specs.declared.tracking.Tracking.{Tracking}
use Rattle.dtx_receiver.specs.declared.tracking.Tracking.TheVariants.{Searching, Began, Sync, Data, Ended}
use Rattle.dtx_repeat.specs.GoingOn.{longer, with_begun}
use Rattle.dtx_repeat.proofs.GoingOnLemmas.{longer_none, longer_longer, length-longer}
use Rattle.dtx_repeat.specs.Lives.{lives, lives_so_far, packets_in}
use Rattle.dtx_repeat.specs.GoingOn.{AreGiven}
use Rattle.dtx_repeat.proofs.LivesLemmas.{lives_more, some_more, no_lives}
use Rattle.dtx_recipes.specs.Life.{sent_over, logged_over}
use Rattle.dtx_recipes.proofs.LivesLemmas.{sent_longer, logged_longer, sent_begun, logged_begun}
use Rattle.dtx_recipes.specs.Repeat.{sent_in, repeating}
use Rattle.dtx_recipes.specs.SymbolFile.{file_segments}
use Rattle.dtx_recipes.proofs.SymbolFileLemmas.{file_segments-append}

-- what is sent and logged in the lives `before` is a prefix of what is sent and logged in the lives `after`
abbrev pub Fronts : ℕ → ℕ → List (List (List ℕ)) → List (List (List ℕ)) → Type 0
Fronts a d before after = AreFrontsOf (sent_in a d before) (sent_in a d after)

fronts_same : (a d : ℕ) (before after : List (List (List ℕ))) → after ≡ before → Fronts a d before after
fronts_same a d before after e = (
  ([], append-nil (sent_over a d before) ∙ ap (sent_over a d) (sym e)),
  ([], append-nil (logged_over a d before) ∙ ap (logged_over a d) (sym e)),
)

pub fronts_on : (a d : ℕ) (before between after : List (List (List ℕ))) → Fronts a d before between
    → Fronts a d between after → Fronts a d before after
fronts_on a d before between after f g = (
  (f.0.0 ++ g.0.0, sym (append_assoc (sent_over a d before) f.0.0 g.0.0) ∙ ap (λ z. z ++ g.0.0) f.0.1 ∙ g.0.1),
  (f.1.0 ++ g.1.0, sym (append_assoc (logged_over a d before) f.1.0 g.1.0) ∙ ap (λ z. z ++ g.1.0) f.1.1 ∙ g.1.1),
)

-- for one packet more
fronts_one : (a d : ℕ) (lives : List (List (List ℕ))) (p : List ℕ) → 0 < length lives
    → Fronts a d lives (longer lives (p ∷ []))
fronts_one a d lives p some = ((_, sym (sent_longer a d lives p some)), (_, sym (logged_longer a d lives p some)))

-- for any packets more
fronts_all : (a d : ℕ) (lives : List (List (List ℕ))) (packets : List (List ℕ)) → 0 < length lives
    → Fronts a d lives (longer lives packets)
fronts_all a d lives [] some = fronts_same a d lives (longer lives []) (longer_none lives)
fronts_all a d lives (p ∷ packets) some =
    let one : List (List (List ℕ)) = longer lives (p ∷ []) in
    fronts_on a d lives one (longer lives (p ∷ packets)) (fronts_one a d lives p some)
    (subst (Fronts a d one) (longer_longer lives (p ∷ []) packets)
    (fronts_all a d one packets (omega (arith, some, length-longer lives (p ∷ [])))))

pub fronts_given : (a d : ℕ) (before after : List (List (List ℕ))) (packets : List Received)
    → AreGiven before after packets → Fronts a d before after
fronts_given a d [] after packets g = fronts_same a d [] after (g.0 ∙ ap (λ z. longer [] (packets_in z)) (g.1 refl))
fronts_given a d (x ∷ more) after packets g =
    subst (Fronts a d (x ∷ more)) (sym g.0) (fronts_all a d (x ∷ more) (packets_in packets) (omega arith))

-- for one life more
fronts_begun : (a d : ℕ) (lives : List (List (List ℕ))) (t : Tracking) → Fronts a d lives (with_begun t lives)
fronts_begun a d lives Searching = fronts_same a d lives lives refl
fronts_begun a d lives Sync = fronts_same a d lives lives refl
fronts_begun a d lives Data = fronts_same a d lives lives refl
fronts_begun a d lives Ended = fronts_same a d lives lives refl
fronts_begun a d lives Began = (
  ([], append-nil (sent_over a d lives) ∙ sym (sent_begun a d lives)),
  (_, sym (logged_begun a d lives)),
)

-- for one segment more
fronts_segment : (a d : ℕ) (s : List (List ℤ)) (x : List ℤ) → Fronts a d (lives_so_far s) (lives_so_far (s ++ x ∷ []))
fronts_segment a d s x =
    let more = some_more s x in
    let begun : List (List (List ℕ)) = with_begun (tracking s x) (lives_so_far s) in
    fronts_on a d (lives_so_far s) begun (lives_so_far (s ++ x ∷ [])) (fronts_begun a d (lives_so_far s) (tracking s x))
    (fronts_given a d begun (lives_so_far (s ++ x ∷ [])) more.0 (lives_more s x more.0 more.1))

-- for any segments more
pub fronts_segments : (a d : ℕ) (s more : List (List ℤ)) → Fronts a d (lives_so_far s) (lives_so_far (s ++ more))
fronts_segments a d s [] = fronts_same a d (lives_so_far s) (lives_so_far (s ++ [])) (ap lives_so_far (append-nil s))
fronts_segments a d s (x ∷ more) =
    fronts_on a d (lives_so_far s) (lives_so_far (s ++ x ∷ [])) (lives_so_far (s ++ x ∷ more)) (fronts_segment a d s x)
    (subst (λ z. Fronts a d (lives_so_far (s ++ x ∷ [])) (lives_so_far z)) (append_assoc s (x ∷ []) more)
    (fronts_segments a d (s ++ x ∷ []) more))

-- ---- what is made

pub repeats_none : (a d : ℕ) → (repeating a d).made [] ≡ only []
unfolding log
repeats_none a d = ap (sent_in a d) no_lives

pub repeats_more : (a d : ℕ) (x y : List ℕ) → length x % 832 ≡ 0
    → AreFrontsOf ((repeating a d).made x) ((repeating a d).made (x ++ y))
repeats_more a d x y whole =
    subst (λ s. Fronts a d (lives_so_far (file_segments x)) (lives_so_far s)) (sym (file_segments-append x y whole))
    (fronts_segments a d (file_segments x) (file_segments y))
