-- The checks that all tables of a plan share. They are made key by key, and for a key rule by rule. The first rule that
-- is broken ends them. The comment on a definition names the rules that it checks, in their order.
use Rattle.std.specs.Prelude.{◌≡◌, ℕ, ◌+◌, ℤ, pos, negsuc, Bool, ◌&&◌, nat_le, int_le, if◌then◌else◌, List, [], ◌∷◌}
use Rattle.std.specs.Prelude.{◌++◌, Option, Some, None, Result, Ok, Err}
use Rattle.std.specs.List.{list_any}
use Rattle.std.specs.Str.{bytes_eq}
use Rattle.toml.specs.Data.{Data, Items, no_items, item as item_of, Members, no_members, member, as_integer, as_array}
use Rattle.toml.specs.Data.{as_str, as_table}
use Rattle.dtx_plan.specs.declared.key.PlanKey.{PlanKey}
use Rattle.dtx_plan.specs.declared.rule.PlanRule.{PlanRule}
use Rattle.dtx_plan.specs.declared.rule.PlanRule.TheVariants.{Unknown, Missing, Kind, Range}
use Rattle.dtx_plan.specs.declared.refusal.PlanNo.{PlanNo}
use Rattle.dtx_plan.specs.declared.refusal.PlanFault.{PlanFault}
use Rattle.dtx_plan.specs.declared.refusal.PlanFault.TheVariants.{No, Memory}

-- one check and then the next, unless the first is a refusal
infixl 10 ◌>>=◌
abbrev pub ◌>>=◌ : {A B : Type 0} → Result A PlanNo → (A → Result B PlanNo) → Result B PlanNo
Ok x >>= f = f x
Err refusal >>= f = Err refusal

-- a key of entry number `item` breaks a rule
abbrev pub refused : {A : Type 0} → PlanKey → ℕ → PlanRule → Result A PlanNo
refused key item rule = Err (record { key = key; item = item; rule = rule })

-- the code answers what the checks give, unless memory runs out
abbrev pub IsAnswer : {A : Type 0} → Result A PlanNo → Result A PlanFault → Type 0
IsAnswer walked (Ok x) = walked ≡ Ok x
IsAnswer walked (Err (No refusal)) = walked ≡ Err refusal
IsAnswer walked (Err Memory) = Unit {0}

-- an answer, whose value is seen through f
abbrev pub seen_by : {A B E : Type 0} → (A → B) → Result A E → Result B E
seen_by f (Ok x) = Ok (f x)
seen_by f (Err e) = Err e

-- missing: the value is there
abbrev pub present : Option Data → PlanKey → ℕ → Result Data PlanNo
present None key item = refused key item Missing
present (Some d) key item = Ok d

-- kind: the value has the type that its key needs
abbrev pub of_kind : {A : Type 0} → Option A → PlanKey → ℕ → Result A PlanNo
of_kind None key item = refused key item Kind
of_kind (Some a) key item = Ok a

-- range: a whole number from least to most
abbrev pub whole_of : ℤ → PlanKey → ℕ → ℕ → ℕ → Result ℕ PlanNo
whole_of (pos n) key item least most = if nat_le least n && nat_le n most then Ok n else refused key item Range
whole_of (negsuc n) key item least most = refused key item Range

-- kind integer; range
abbrev pub whole_value : Data → PlanKey → ℕ → ℕ → ℕ → Result ℕ PlanNo
whole_value d key item least most = of_kind (as_integer d) key item >>= λ z. whole_of z key item least most

-- missing; kind integer; range from least to most
abbrev pub whole : Option Data → PlanKey → ℕ → ℕ → ℕ → Result ℕ PlanNo
whole found key item least most = present found key item >>= λ d. whole_value d key item least most

-- a default where absent; kind integer; range from least to most
abbrev pub whole_or : ℕ → Option Data → PlanKey → ℕ → ℕ → ℕ → Result ℕ PlanNo
whole_or absent None key item least most = Ok absent
whole_or absent (Some d) key item least most = whole_value d key item least most

-- range: a number of either sign from least to most
abbrev pub signed_of : ℤ → PlanKey → ℕ → ℤ → ℤ → Result ℤ PlanNo
signed_of z key item least most = if int_le least z && int_le z most then Ok z else refused key item Range

-- kind integer; range
abbrev pub signed_value : Data → PlanKey → ℕ → ℤ → ℤ → Result ℤ PlanNo
signed_value d key item least most = of_kind (as_integer d) key item >>= λ z. signed_of z key item least most

-- missing; kind integer; range from least to most, of either sign
abbrev pub signed : Option Data → PlanKey → ℕ → ℤ → ℤ → Result ℤ PlanNo
signed found key item least most = present found key item >>= λ d. signed_value d key item least most

-- kind string
abbrev pub text_value : Data → PlanKey → ℕ → Result (List ℕ) PlanNo
text_value d key item = of_kind (as_str d) key item

-- missing; kind string
abbrev pub text : Option Data → PlanKey → ℕ → Result (List ℕ) PlanNo
text found key item = present found key item >>= λ d. text_value d key item

-- how many entries an array has
abbrev pub count_of : Items → ℕ
count_of no_items = 0
count_of (item_of d ds) = count_of ds + 1

-- range: least to most entries
abbrev pub numbered : Items → PlanKey → ℕ → ℕ → ℕ → Result Items PlanNo
numbered ds key item least most =
    if nat_le least (count_of ds) && nat_le (count_of ds) most then Ok ds else refused key item Range

-- kind array; range
abbrev pub array_value : Data → PlanKey → ℕ → ℕ → ℕ → Result Items PlanNo
array_value d key item least most = of_kind (as_array d) key item >>= λ ds. numbered ds key item least most

-- missing; kind array; range from least to most entries
abbrev pub array : Option Data → PlanKey → ℕ → ℕ → ℕ → Result Items PlanNo
array found key item least most = present found key item >>= λ d. array_value d key item least most

-- no entries where absent; kind array; range up to most entries
abbrev pub array_or_none : Option Data → PlanKey → ℕ → ℕ → Result Items PlanNo
array_or_none None key item most = Ok no_items
array_or_none (Some d) key item most = array_value d key item 0 most

-- kind table
abbrev pub table : Data → PlanKey → ℕ → Result Members PlanNo
table d key item = of_kind (as_table d) key item

-- nothing where the value is absent, and else what `read` makes of it
abbrev pub optional : {A : Type 0} → (Data → Result A PlanNo) → Option Data → Result (Option A) PlanNo
optional read None = Ok None
optional read (Some d) = read d >>= λ a. Ok (Some a)

-- the name is one of these
abbrev pub is_listed : List ℕ → List (List ℕ) → Bool
is_listed name names = list_any (λ listed. bytes_eq listed name) names

-- unknown: each key of the table is one of these names
abbrev pub known : List (List ℕ) → Members → PlanKey → ℕ → Result (Unit {0}) PlanNo
known names no_members key item = Ok tt
known names (member name d ms) key item =
    if is_listed name names then known names ms key item else refused key item Unknown

-- the entries of an array, read in order and appended to those that are done
abbrev pub entries : {A : Type 0} → (List A → Data → Result A PlanNo) → List A → Items → Result (List A) PlanNo
entries entry done no_items = Ok done
entries entry done (item_of d ds) = entry done d >>= λ next. entries entry (done ++ next ∷ []) ds
