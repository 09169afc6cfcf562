-- An order tells a page.
use Rattle.std.proofs.Common.{◌≡◌, ℕ, Option, Some, sym, subst}
use Rattle.std.specs.List.{cons_option}
use Rattle.dtx_ops.specs.declared.fields.Ops.{Ops}
use Rattle.dtx_ops.specs.Spelling.{IsValid}
use Rattle.dtx_exciter.specs.declared.pages.Pages.{Pages}
use Rattle.dtx_exciter.specs.Order.{placed}
use Rattle.dtx_exciter.specs.Pages.{HoldsPages, HoldsMore, with_order}
use Rattle.dtx_exciter.proofs.HeldPagesLemmas.{order_holds}

pub turned : (a : ℕ) (order : Option Ops) (ops : Ops) (before now : Pages) → order ≡ Some ops → IsValid ops
    → now ≡ with_order a ops before → HoldsMore a order before now
turned a order ops before now e v n = λ r i k.
    subst (λ o. HoldsPages a (cons_option (placed i o) r) now) (sym e)
    (subst (HoldsPages a (cons_option (placed i (Some ops)) r)) (sym n)
    (order_holds a i ops r before v.paged.page v.paged.pages k))
