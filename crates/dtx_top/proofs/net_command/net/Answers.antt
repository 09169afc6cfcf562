use Rattle.std.proofs.Common.{◌≡◌, ℕ, ◌<◌, ◌≤◌, List, [], ◌∷◌, length, get_or, sym, ap, subst, arith}
use Rattle.std.specs.Prelude.{Option, Some, None, IfSome}
use Rattle.std.specs.FinMap.{get}
use Rattle.dtx_forms.specs.PlanFile.{under_plan}
use Rattle.dtx_meaning.specs.Meaning.{IsCarriedOut}
use Rattle.dtx_meaning.specs.declared.status.Outcome.{Outcome}
use Rattle.dtx_meaning.specs.declared.status.Status.TheVariants.{Done}
use Rattle.dtx_outside.specs.Shelf.{ConsistOfBytes, Files}
use Rattle.dtx_top.specs.HeadlineOfFiles.{HasHeadline}
use Rattle.dtx_top.specs.NetMeaning.{net_meaning, planned_meaning}
use Rattle.dtx_top.proofs.HeadlineLaw.{HeadlineLaw}
use Rattle.dtx_top.proofs.Headlines.{headline_done}
use Rattle.dtx_top.proofs.net_command.net.Goals as goal

-- two words
two_words : (words : List (List ℕ)) (name : List ℕ) → 2 ≤ length words → length words < 3 → name ≡ get_or words 1 name
    → (verb : List ℕ) × (words ≡ verb ∷ name ∷ [])
two_words [] name least most is = absurd (omega (arith, least))
two_words (verb ∷ []) name least most is = absurd (omega (arith, least))
two_words (verb ∷ other ∷ []) name least most is = (verb, ap (λ n. verb ∷ n ∷ []) (sym is))
two_words (verb ∷ other ∷ more ∷ rest) name least most is = absurd (omega (arith, most))

abbrev CarriedUnder : Option Files → Option Files → Outcome → List ℕ → Type 0
CarriedUnder told now outcome name =
    IfSome told (λ held. IsCarriedOut (under_plan 0 (get held name) (λ said. planned_meaning name held said said.net))
    (Some held) outcome now)

headlines : HeadlineLaw → (told now : Option Files) (outcome : Outcome) (verb name : List ℕ)
    → IfSome told ConsistOfBytes → CarriedUnder told now outcome name
    → IfSome told (λ held. outcome.status ≡ Done → HasHeadline (verb ∷ name ∷ []) held now)
headlines law None now outcome verb name bytes carried = tt
headlines law (Some held) now outcome verb name bytes carried = headline_done law name held bytes now outcome carried

pub returns-in-len2-clause-carried : goal.returns-in-len2-clause-carried
returns-in-len2-clause-carried g c =
    let told = g.S.Shelf.files c.args.shelf.now in
    let now = g.S.Shelf.files c.net_file.new.shelf in
    let outcome = c.net_file.result.outcome in
    let two = two_words c.args.words.now c.plan-item.result c.in-len2.len_at_least c.in-len2.len_below c.plan-item.is in
    subst (λ (ws : List (List ℕ)). IfSome told (λ held. IsCarriedOut (net_meaning ws held) (Some held) outcome now))
    (sym two.1)
    (subst (CarriedUnder told now outcome) c.as_str.ensures c.net_file.ensures.carried)

pub returns-in-len2-clause-headline : goal.returns-in-len2-clause-headline
returns-in-len2-clause-headline g c =
    let told = g.S.Shelf.files c.args.shelf.now in
    let now = g.S.Shelf.files c.net_file.new.shelf in
    let outcome = c.net_file.result.outcome in
    let two = two_words c.args.words.now c.plan-item.result c.in-len2.len_at_least c.in-len2.len_below c.plan-item.is in
    subst (λ (ws : List (List ℕ)). IfSome told (λ held. outcome.status ≡ Done → HasHeadline ws held now)) (sym two.1)
    (headlines c.headline.ensures told now outcome two.0 c.plan-item.result c.known.ensures
    (subst (CarriedUnder told now outcome) c.as_str.ensures c.net_file.ensures.carried))
