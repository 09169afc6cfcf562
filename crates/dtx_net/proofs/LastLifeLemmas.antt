-- The lives of a transmitter, one step further.
use Rattle.std.proofs.Common.{◌≡◌, ◌≢◌, ℕ, ◌-◌, Option, Some, None, List, [], ◌∷◌, ◌++◌, length, map, take, refl, sym}
use Rattle.std.proofs.Common.{ap, ap₂, ◌∙◌, arith, get_or}
use Rattle.std.proofs.Math.Seq.{get_or-append_seam, take-append_seam}
use Rattle.std.proofs.lemmas.List.{append-nil, append_assoc, length_push, map-append}
use Rattle.dtx_net.specs.Steps.{Step, packet_step, restart_step}
use Rattle.dtx_net.specs.Lives.{own_steps, lives_from, joined_steps, lives_of, last_life, ended_lives}
use Rattle.dtx_net.proofs.OwnLemmas.{own_push, own_push_elsewhere, own_without}

-- how lives that are cut from these steps, behind these packets, end
record Ends (life : List (List ℕ)) (steps : List (Option (List ℕ))) : Type 0 where
  pub ended : List (List (List ℕ))
  pub last : List (List ℕ)
  pub lives : lives_from life steps ≡ ended ++ last ∷ []
  pub packet : (packet : List ℕ) → lives_from life (steps ++ Some packet ∷ []) ≡ ended ++ (last ++ packet ∷ []) ∷ []
  pub restart : lives_from life (steps ++ None ∷ []) ≡ ended ++ last ∷ [] ∷ []

ends : (life : List (List ℕ)) (steps : List (Option (List ℕ))) → Ends life steps
ends life [] = record { ended = []; last = life; lives = refl; packet = λ p. refl; restart = refl }
ends life (Some p ∷ steps) =
    let e : Ends (life ++ p ∷ []) steps = ends (life ++ p ∷ []) steps in
    record { ended = e.ended; last = e.last; lives = e.lives; packet = e.packet; restart = e.restart }
ends life (None ∷ steps) =
    let e : Ends [] steps = ends [] steps in
    record {
      ended = life ∷ e.ended;
      last = e.last;
      lives = ap (λ x. life ∷ x) e.lives;
      packet = λ p. ap (λ x. life ∷ x) (e.packet p);
      restart = ap (λ x. life ∷ x) e.restart;
    }

-- ---- the last of some lives, and those before it

length_last : {X : Type 0} (xs : List X) (x : X) → length (xs ++ x ∷ []) - 1 ≡ length xs
length_last xs x = omega (arith, length_push xs x)

last_is : (lives : List (List (List ℕ))) (ended : List (List (List ℕ))) (last : List (List ℕ))
    → lives ≡ ended ++ last ∷ [] → get_or lives (length lives - 1) [] ≡ last
last_is lives ended last e = grind (arith, length_last, get_or-append_seam)

ended_are : (lives : List (List (List ℕ))) (ended : List (List (List ℕ))) (last : List (List ℕ))
    → lives ≡ ended ++ last ∷ [] → take (length lives - 1) lives ≡ ended
ended_are lives ended last e = grind (arith, length_last, take-append_seam)

pub last_life_is : (who : ℕ) (steps : List Step) (ended : List (List (List ℕ))) (last : List (List ℕ))
    → lives_of who steps ≡ ended ++ last ∷ [] → last_life who steps ≡ last
unfolding last_life
last_life_is who steps ended last e = last_is (lives_of who steps) ended last e

pub ended_lives_are : (who : ℕ) (steps : List Step) (ended : List (List (List ℕ))) (last : List (List ℕ))
    → lives_of who steps ≡ ended ++ last ∷ [] → ended_lives who steps ≡ ended
unfolding ended_lives
ended_lives_are who steps ended last e = ended_are (lives_of who steps) ended last e

-- ---- the lives of a transmitter

pub record Lives (who : ℕ) (steps : List Step) : Type 0 where
  pub are : lives_of who steps ≡ ended_lives who steps ++ last_life who steps ∷ []
  pub given : (packet : List ℕ) → lives_of who (steps ++ packet_step who packet ∷ []) ≡ ended_lives who steps
      ++ (last_life who steps ++ packet ∷ []) ∷ []
  pub restarted : lives_of who (steps ++ restart_step who ∷ []) ≡ lives_of who steps ++ [] ∷ []

pub lives : (who : ℕ) (steps : List Step) → Lives who steps
unfolding lives_of
lives who steps =
    let e : Ends [] (own_steps who steps) = ends [] (own_steps who steps) in
    let last : last_life who steps ≡ e.last = last_life_is who steps e.ended e.last e.lives in
    let ended : ended_lives who steps ≡ e.ended = ended_lives_are who steps e.ended e.last e.lives in
    record {
      are = e.lives ∙ sym (ap₂ (λ x y. x ++ y ∷ []) ended last);
      given = λ p. ap (lives_from []) (own_push who steps (packet_step who p) refl) ∙ e.packet p
          ∙ sym (ap₂ (λ x y. x ++ (y ++ p ∷ []) ∷ []) ended last);
      restarted = ap (lives_from []) (own_push who steps (restart_step who) refl) ∙ e.restart
          ∙ sym (append_assoc e.ended (e.last ∷ []) ([] ∷ []))
          ∙ sym (ap (λ x. x ++ [] ∷ []) e.lives);
    }

-- a step of another anywhere among the steps
pub lives_without : (who : ℕ) (before after : List Step) (step : Step) → step.who ≢ who
    → lives_of who (before ++ step ∷ after) ≡ lives_of who (before ++ after)
unfolding lives_of
lives_without who before after step n = ap (lives_from []) (own_without who before after step n)

pub lives_elsewhere : (who : ℕ) (steps : List Step) (step : Step) → step.who ≢ who
    → lives_of who (steps ++ step ∷ []) ≡ lives_of who steps
unfolding lives_of
lives_elsewhere who steps step n = ap (lives_from []) (own_push_elsewhere who steps step n)

-- ---- the last one

pub last_nothing : (who : ℕ) → last_life who [] ≡ []
unfolding last_life lives_of
last_nothing who = refl

pub last_given : (who : ℕ) (steps : List Step) (packet : List ℕ)
    → last_life who (steps ++ packet_step who packet ∷ []) ≡ last_life who steps ++ packet ∷ []
last_given who steps packet =
    last_life_is who (steps ++ packet_step who packet ∷ []) (ended_lives who steps) (last_life who steps
    ++ packet ∷ []) ((lives who steps).given packet)

pub last_restarted : (who : ℕ) (steps : List Step) → last_life who (steps ++ restart_step who ∷ []) ≡ []
last_restarted who steps =
    last_life_is who (steps ++ restart_step who ∷ []) (lives_of who steps) [] (lives who steps).restarted

pub last_elsewhere : (who : ℕ) (steps : List Step) (step : Step) → step.who ≢ who
    → last_life who (steps ++ step ∷ []) ≡ last_life who steps
unfolding last_life
last_elsewhere who steps step n = grind (arith, lives_elsewhere)

-- ---- what the lives are cut from

joined_cut : (life : List (List ℕ)) (steps : List (Option (List ℕ)))
    → joined_steps (lives_from life steps) ≡ map Some life ++ steps
joined_cut life [] = sym (append-nil (map Some life))
joined_cut life (Some p ∷ steps) =
    joined_cut (life ++ p ∷ []) steps ∙ ap (λ x. x ++ steps) (map-append Some life (p ∷ []))
    ∙ append_assoc (map Some life) (Some p ∷ []) steps
joined_cut life (None ∷ steps) =
    joined_more life (lives_from [] steps) (ends [] steps).ended (ends [] steps).last (ends [] steps).lives
    ∙ ap (λ x. map Some life ++ None ∷ x) (joined_cut [] steps)
  where
    joined_more : (life : List (List ℕ)) (lives ended : List (List (List ℕ))) (last : List (List ℕ))
        → lives ≡ ended ++ last ∷ [] → joined_steps (life ∷ lives) ≡ map Some life ++ None ∷ joined_steps lives
    joined_more life [] ended last e =
        absurd (omega (arith, length_push ended last, ap (λ (x : List (List (List ℕ))). length x) e))
    joined_more life (next ∷ more) ended last e = refl

pub joined_lives : (who : ℕ) (steps : List Step) → joined_steps (lives_of who steps) ≡ own_steps who steps
unfolding lives_of
joined_lives who steps = joined_cut [] (own_steps who steps)
