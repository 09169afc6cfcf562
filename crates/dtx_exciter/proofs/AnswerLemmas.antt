-- The answer at a whole group, from its own order and whether the group before it was sent.
use Rattle.std.proofs.Common.{◌≡◌, ℕ, ℤ, ◌%◌, ◌==◌, Bool, cond, Option, Some, None, option_map, Result, Ok, Err, List}
use Rattle.std.proofs.Common.{[], ◌∷◌, refl, sym, ap, ap₂, ◌∙◌, arith}
use Rattle.std.specs.Prelude.{is_ok}
use Rattle.std.specs.List.{cons_option}
use Rattle.std.proofs.lemmas.Bool.{cond-true, cond-false, eq-eqb, ne_eqb}
use Rattle.dtx_ops.specs.declared.fields.Ops.{Ops}
use Rattle.dtx_exciter.specs.declared.answers.Why.{Why}
use Rattle.dtx_exciter.specs.declared.answers.Told.TheVariants.{Quiet, Sent}
use Rattle.dtx_exciter.specs.declared.pages.Pages.{Pages}
use Rattle.dtx_exciter.specs.Order.{Order, placed}
use Rattle.dtx_exciter.specs.Pages.{entry_in_force, offset_of, HoldsPages}
use Rattle.dtx_exciter.specs.Told.{served, told_why, told_by, told_at, is_sent}
use Rattle.dtx_exciter.proofs.HeldPagesLemmas.{held_entry, held_served}
use Rattle.dtx_exciter.specs.Step.{served_by, told_own, told_group}
use Rattle.dtx_exciter.specs.Kept.{is_served}
use Rattle.dtx_exciter.proofs.EndsLemmas.{IsOlder}

pub own_told : (i j : ℕ) (ops : Ops) (z : ℤ) (r : Result ℕ (Option Why)) → j ≡ i % 624
    → told_own j ops z r ≡ told_by i (record { place = i; ops = ops }) z r
own_told i j ops z (Ok hold) e = grind (arith, cond-true, eq-eqb)
own_told i j ops z (Err why) e = sym (cond-true (i == i) (told_why why) Quiet (eq-eqb i i refl))

old_told : (i : ℕ) (order : Order) (z : ℤ) (r : Result ℕ (Option Why)) → IsOlder i order
    → cond (is_ok r) (Sent None) Quiet ≡ told_by i order z r
old_told i order z (Ok hold) o = grind (arith, cond-false, ne_eqb)
old_told i order z (Err why) o = grind (arith, cond-false, ne_eqb)

-- with what is kept of the pages
own_group : (address delay i j : ℕ) (ops : Ops) (r : List Order) (p : Pages) → j ≡ i % 624
    → HoldsPages address (record { place = i; ops = ops } ∷ r) p
    → told_own j ops (offset_of (option_map (λ h. h.entry) p.held)) (served_by delay ops.max_delay p)
    ≡ told_at address delay i (record { place = i; ops = ops } ∷ r)
own_group address delay i j ops r p e k =
    ap₂ (λ x y. told_own j ops (offset_of x) y) (held_entry address (record { place = i; ops = ops } ∷ r) p k)
    (held_served address delay (record { place = i; ops = ops }) r p k)
    ∙ own_told i j ops (offset_of (entry_in_force address (record { place = i; ops = ops } ∷ r)))
    (served address delay (record { place = i; ops = ops } ∷ r)) e

pub told_group_is : (address delay i j : ℕ) (own : Option Ops) (r : List Order) (p : Pages) (sent : Bool) → j ≡ i % 624
    → HoldsPages address (cons_option (placed i own) r) p → sent ≡ is_served address delay r
    → ((order : Order) (older : List Order) → r ≡ order ∷ older → IsOlder i order)
    → told_group delay j own p sent ≡ told_at address delay i (cons_option (placed i own) r)
told_group_is address delay i j (Some ops) r p sent e k s h = own_group address delay i j ops r p e k
told_group_is address delay i j None [] p sent e k s h = ap (λ b. cond b (Sent None) Quiet) s
told_group_is address delay i j None (order ∷ older) p sent e k s h = ap (λ b. cond b (Sent None) Quiet) s
    ∙ old_told i order (offset_of (entry_in_force address (order ∷ older))) (served address delay (order ∷ older))
    (h order older refl)

-- a group is sent exactly where the order in force serves
pub sent_is_served : (address delay i : ℕ) (r : List Order)
    → is_sent (told_at address delay i r) ≡ is_served address delay r
sent_is_served address delay i [] = refl
sent_is_served address delay i (order ∷ older) = grind arith
