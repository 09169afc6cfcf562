-- The entries of an array, one after another: the next one, one that is refused, and the end.
use Rattle.std.proofs.Common.{◌≡◌, ℕ, ◌+◌, ◌<◌, ◌≤◌, List, [], ◌∷◌, ◌++◌, length, drop, get_or, refl}
use Rattle.std.specs.Prelude.{Result, Ok, Err}
use Rattle.std.proofs.lemmas.List.{at_drop_more, at_drop_all}
use Rattle.toml.specs.Data.{Data}
use Rattle.toml.specs.View.{view, items_view}
use Rattle.toml.specs.declared.value.Value.{Value}
use Rattle.dtx_plan.specs.declared.refusal.PlanNo.{PlanNo}
use Rattle.dtx_plan.specs.Rows.{entries}

-- one entry is read, and the others follow behind it
pub entries_next : {A : Type 0} (entry : List A → Data → Result A PlanNo) (done : List A) (values : List Value) (i : ℕ)
    (value : Value) (next : A) → i < length values → value ≡ get_or values i value → entry done (view value) ≡ Ok next
    → entries entry (done ++ next ∷ []) (items_view (drop (i + 1) values))
    ≡ entries entry done (items_view (drop i values))
entries_next entry done values i value next h e read =
    rw (at_drop_more (λ vs. entries entry done (items_view vs)) values i value h, ← e, read) refl

-- one entry is refused, and so are all
pub entries_refused : {A : Type 0} (entry : List A → Data → Result A PlanNo) (done : List A) (values : List Value)
    (i : ℕ) (value : Value) (refusal : PlanNo) → i < length values → value ≡ get_or values i value
    → entry done (view value) ≡ Err refusal → entries entry done (items_view (drop i values)) ≡ Err refusal
entries_refused entry done values i value refusal h e refused =
    rw (at_drop_more (λ vs. entries entry done (items_view vs)) values i value h, ← e, refused) refl

-- behind the last entry nothing follows
pub entries_end : {A : Type 0} (entry : List A → Data → Result A PlanNo) (done : List A) (values : List Value) (i : ℕ)
    → length values ≤ i → entries entry done (items_view (drop i values)) ≡ Ok done
entries_end entry done values i h = at_drop_all (λ vs. entries entry done (items_view vs)) values i h
