-- What an acquirer holds, step by step.
use Rattle.std.proofs.Common.{◌≡◌, ℕ, ℤ, ◌+◌, ◌/◌, ◌<◌, ◌⊎◌, inl, inr, Bool, true, false, not, List, [], ◌∷◌, ◌++◌}
use Rattle.std.proofs.Common.{length, map, sum, drop, append_assoc, refl, sym, ap, ap₂, ◌∙◌, subst, arith}
use Rattle.std.proofs.Common.{length-append}
use Rattle.std.proofs.lemmas.List.{append-nil, length-drop, map-append}
use Rattle.std.proofs.lemmas.List.Sums.{sum_by-append, sum_by-cons}
use Rattle.dtx_acquire.specs.Agreement.{agrees}
use Rattle.dtx_acquire.proofs.AgreementLemmas.{past_end}
use Rattle.dtx_acquire.specs.Acquired.{Field, acquired, acquired_cost, acquired_rest, acquired_runs, acquired_so_far}
use Rattle.dtx_acquire.specs.Acquired.{begun, all_fields, cost_of, fields_where, heard_in, heard_rest, heard_so_far}
use Rattle.dtx_acquire.specs.Acquired.{last_fields, path_cost, restored, restored_of, runs_of, segments_from}
use Rattle.dtx_acquire.specs.Acquired.{settled_fields}
use Rattle.dtx_acquire.specs.Acquirer.{Holding, IsSought, Leaves, StandsFor, field_of, where_wanted}
use Rattle.dtx_acquire.proofs.PlacesLemmas.{least_none}
use Rattle.dtx_acquire.proofs.AcquiredLemmas.{heard_append, restored_append, settled_by}
use Rattle.dtx_acquire.proofs.WholeLemmas.{length-restored, length-segments_from}
use Rattle.dtx_acquire.proofs.FieldsLemmas.{fields_last, fields_none, wanted_both}
use Rattle.dtx_acquire.proofs.StepsLemmas.{sought_fields}

-- ---- sums

runs_append : (xs ys : List Field) → runs_of (xs ++ ys) ≡ runs_of xs + runs_of ys
unfolding runs_of
runs_append xs ys = ap sum (map-append begun xs ys) ∙ sum_by-append (λ x. x) (map begun xs) (map begun ys)

cost_append : (scale : ℕ) (xs ys : List Field) → cost_of scale (xs ++ ys) ≡ cost_of scale xs + cost_of scale ys
unfolding cost_of
cost_append scale xs ys = grind (arith, map-append, sum_by-append)

pub heard_one : (field : Field) → heard_in (field ∷ []) ≡ field.segments
heard_one field = append-nil field.segments

pub restored_one : (scale : ℕ) (field : Field) → restored_of scale (field ∷ []) ≡ restored scale field.segments
unfolding restored_of
restored_one scale field = append-nil (restored scale field.segments)

runs_one : (field : Field) → runs_of (field ∷ []) ≡ begun field
unfolding runs_of
runs_one field = grind (arith, sum_by-cons)

cost_one : (scale : ℕ) (field : Field) → cost_of scale (field ∷ []) ≡ path_cost scale field.segments
unfolding cost_of
cost_one scale field = grind (arith, sum_by-cons)

-- ---- fields

-- more symbols
pub leaves_more : (old new : Holding) (symbols more : List ℤ) (done : List Field) → Leaves old symbols done
    → new.held ≡ old.held ++ more → new.begins ≡ old.begins → new.symbols ≡ old.symbols + length more
    → new.scale ≡ old.scale → new.runs ≡ old.runs → new.segments ≡ old.segments → new.cost ≡ old.cost
    → Leaves new (symbols ++ more) done
leaves_more old new symbols more done h held begins count scale runs segments cost = record {
  fields = λ wanted rest.
      ap (fields_where wanted true) (append_assoc symbols more rest) ∙ h.fields wanted (more ++ rest)
      ∙ ap₂ (λ b (xs : List ℤ). where_wanted (wanted true) done ++ fields_where wanted b xs) (sym begins)
      (sym (append_assoc old.held more rest) ∙ ap (λ xs. xs ++ rest) (sym held));
  symbols_are = count ∙ ap (λ n. n + length more) h.symbols_are ∙ sym (length-append symbols more);
  runs_are = runs ∙ h.runs_are;
  segments_are = segments ∙ h.segments_are ∙ ap (λ s. length (restored_of s done)) (sym scale);
  cost_is = cost ∙ h.cost_is ∙ ap (λ s. cost_of s done) (sym scale);
}

-- more fields
pub leaves_step : (old new : Holding) (symbols : List ℤ) (done fields : List Field) → Leaves old symbols done
    → ((wanted : Bool → Bool) (more : List ℤ) → fields_where wanted old.begins (old.held ++ more)
    ≡ where_wanted (wanted true) fields ++ fields_where wanted new.begins (new.held ++ more))
    → new.symbols ≡ old.symbols → new.scale ≡ old.scale → new.runs ≡ old.runs + runs_of fields
    → new.segments ≡ old.segments + length (restored_of old.scale fields)
    → new.cost ≡ old.cost + cost_of old.scale fields → Leaves new symbols (done ++ fields)
leaves_step old new symbols done fields h step count scale runs segments cost = record {
  fields = λ wanted more.
      h.fields wanted more ∙ ap (λ xs. where_wanted (wanted true) done ++ xs) (step wanted more)
      ∙ wanted_both (wanted true) done fields (fields_where wanted new.begins (new.held ++ more));
  symbols_are = count ∙ h.symbols_are;
  runs_are = runs ∙ ap (λ n. n + runs_of fields) h.runs_are ∙ sym (runs_append done fields);
  segments_are = segments ∙ ap (λ n. n + length (restored_of old.scale fields)) h.segments_are
      ∙ sym (length-append (restored_of old.scale done) (restored_of old.scale fields))
      ∙ ap length (sym (restored_append old.scale done fields))
      ∙ ap (λ s. length (restored_of s (done ++ fields))) (sym scale);
  cost_is = cost ∙ ap (λ n. n + cost_of old.scale fields) h.cost_is ∙ sym (cost_append old.scale done fields)
      ∙ ap (λ s. cost_of s (done ++ fields)) (sym scale);
}

-- no field, where the symbols that were let go are in none
pub leaves_sought : (old new : Holding) (symbols : List ℤ) (done : List Field) → Leaves old symbols done
    → IsSought old.held new.held → new.begins ≡ old.begins → new.symbols ≡ old.symbols → new.scale ≡ old.scale
    → new.runs ≡ old.runs → new.segments ≡ old.segments → new.cost ≡ old.cost → Leaves new symbols done
leaves_sought old new symbols done h sought begins count scale runs segments cost = record {
  fields = λ wanted more.
      h.fields wanted more
      ∙ ap (λ xs. where_wanted (wanted true) done ++ xs) (sought_fields old.held new.held sought wanted old.begins more
      ∙ ap (λ b. fields_where wanted b (new.held ++ more)) (sym begins));
  symbols_are = count ∙ h.symbols_are;
  runs_are = runs ∙ h.runs_are;
  segments_are = segments ∙ h.segments_are ∙ ap (λ s. length (restored_of s done)) (sym scale);
  cost_is = cost ∙ h.cost_is ∙ ap (λ s. cost_of s done) (sym scale);
}

-- a field whose segments were given
pub leaves_settled : (old new : Holding) (held : List ℤ) (count given : ℕ) (symbols : List ℤ) (done : List Field)
    → Leaves old symbols done → held ≡ old.held
    → ((wanted : Bool → Bool) (begins : Bool) (more : List ℤ) → fields_where wanted begins (held ++ more)
    ≡ where_wanted (wanted true) (field_of given begins held ∷ []) ++ fields_where wanted new.begins
    (drop count held ++ more)) → new.held ≡ drop count held → new.symbols ≡ old.symbols → new.scale ≡ old.scale
    → new.runs ≡ old.runs + begun (field_of given old.begins held) → new.segments ≡ old.segments + given
    → new.cost ≡ old.cost + path_cost old.scale (segments_from held 0 given)
    → Leaves new symbols (done ++ field_of given old.begins held ∷ [])
leaves_settled old new held count given symbols done h same step left counted scale runs segments cost =
    let field = field_of given old.begins held in
    leaves_step old new symbols done (field ∷ []) h
    (λ wanted more. ap (λ (xs : List ℤ). fields_where wanted old.begins (xs ++ more)) (sym same)
    ∙ step wanted old.begins more
    ∙ ap (λ (xs : List ℤ). where_wanted (wanted true) (field ∷ []) ++ fields_where wanted new.begins (xs ++ more))
    (sym left)) counted scale (runs ∙ ap (λ n. old.runs + n) (sym (runs_one field)))
    (segments ∙ ap (λ n. old.segments + n) (sym (length-segments_from held 0 given)
    ∙ sym (length-restored old.scale (segments_from held 0 given))
    ∙ ap length (sym (restored_one old.scale field)))) (cost ∙ ap (λ n. old.cost + n) (sym (cost_one old.scale field)))

-- ---- all that it stands for

pub settled_are : (holding : Holding) (symbols : List ℤ) (done : List Field) → Leaves holding symbols done
    → length holding.held < 261248 → settled_fields symbols ≡ done
settled_are holding symbols done h few = settled_by holding.begins symbols holding.held done h.fields few

pub stands_by : (holding : Holding) (symbols : List ℤ) (done : List Field) → Leaves holding symbols done
    → length holding.held < 261248 → StandsFor holding symbols
stands_by holding symbols done h few = grind (arith, settled_are)

pub so_far_by : (holding : Holding) (before symbols : List ℤ) (fields : List Field) (scale : ℕ)
    → Leaves holding symbols (settled_fields before ++ fields) → length holding.held < 261248
    → acquired_so_far scale symbols ≡ acquired_so_far scale before ++ restored_of scale fields
unfolding acquired_so_far
so_far_by holding before symbols fields scale h few = grind (arith, settled_are, restored_append)

pub heard_by : (holding : Holding) (before symbols : List ℤ) (fields : List Field)
    → Leaves holding symbols (settled_fields before ++ fields) → length holding.held < 261248
    → heard_so_far symbols ≡ heard_so_far before ++ heard_in fields
unfolding heard_so_far
heard_by holding before symbols fields h few = grind (arith, settled_are, heard_append)

-- nothing was given
pub stands_first : (holding : Holding) → holding.held ≡ [] → holding.begins ≡ true → holding.symbols ≡ 0
    → holding.runs ≡ 0 → holding.segments ≡ 0 → holding.cost ≡ 0 → StandsFor holding []
unfolding runs_of restored_of cost_of
stands_first holding held begins count runs segments cost = stands_by holding [] []
    (grind (arith, none)) (subst (λ (xs : List ℤ). length xs < 261248) (sym held) (omega arith))
  where
    none : (b : Bool) (xs : List Field) → xs ≡ where_wanted b [] ++ xs
    none true xs = refl
    none false xs = refl

-- ---- the end

-- the last field
pub record IsLast (on begins : Bool) (held : List ℤ) (count : ℕ) (last : List Field) : Type 0 where
  pub fields : (wanted : Bool → Bool) → fields_where wanted begins held ≡ where_wanted (wanted false) last
  pub gives : (scale : ℕ) → restored_of scale last ≡ restored scale (segments_from held 0 count)
  pub hears : heard_in last ≡ segments_from held 0 count
  pub runs : runs_of last ≡ begun (field_of count begins held)
  pub costs : (scale : ℕ) → cost_of scale last ≡ path_cost scale (segments_from held 0 count)

pub last_is : (on begins : Bool) (held : List ℤ) (count : ℕ) → length held < 261248
    → (on ≡ true → agrees held 0 ≡ true) → (on ≡ true) ⊎ (length held < 832)
    → (on ≡ true → length held < 261248 → count ≡ length held / 832) → (on ≡ false → count ≡ 0)
    → (last : List Field) × IsLast on begins held count last
unfolding restored_of runs_of cost_of segments_from
last_is true begins held count few front short whole none = (
  field_of count begins held ∷ [],
  record {
    fields = λ wanted.
        fields_last wanted begins held few (front refl)
        ∙ ap (λ n. where_wanted (wanted false) (field_of n begins held ∷ [])) (sym (whole refl few));
    gives = λ scale. restored_one scale (field_of count begins held);
    hears = heard_one (field_of count begins held);
    runs = runs_one (field_of count begins held);
    costs = λ scale. cost_one scale (field_of count begins held);
  },
)
last_is false begins held count few front short whole none = (
  [],
  record {
    fields = λ wanted.
        fields_none wanted begins held (least_none agrees past_end held 0 (λ i l m. absurd (by_short short i m)))
        ∙ empty (wanted false);
    gives = λ scale. ap (λ n. restored scale (segments_from held 0 n)) (sym (none refl));
    hears = ap (segments_from held 0) (sym (none refl));
    runs = not_begun begins ∙ ap (λ n. begun (field_of n begins held)) (sym (none refl));
    costs = λ scale. ap (λ n. path_cost scale (segments_from held 0 n)) (sym (none refl));
  },
)
  where
    by_short : (false ≡ true) ⊎ (length held < 832) → (i : ℕ) → i + 831 < length held → ⊥
    by_short (inl e) i m = grind arith
    by_short (inr l) i m = omega arith

    empty : (b : Bool) → ◌≡◌ {A = List Field} [] (where_wanted b [])
    empty true = refl
    empty false = refl

    not_begun : (b : Bool) → 0 ≡ begun (field_of 0 b held)
    not_begun true = refl
    not_begun false = refl

-- all fields, and the last ones
record AreAll (holding : Holding) (symbols : List ℤ) (last : List Field) : Type 0 where
  all : all_fields symbols ≡ settled_fields symbols ++ last
  rest : last_fields symbols ≡ last

all_are : (holding : Holding) (symbols sought : List ℤ) (on : Bool) (count : ℕ) (last : List Field)
    → StandsFor holding symbols → IsSought holding.held sought → IsLast on holding.begins sought count last
    → AreAll holding symbols last
all_are holding symbols left on count last h sought is = record {
  all = each (λ met. true);
  rest = each not;
}
  where
    each : (wanted : Bool → Bool) → fields_where wanted true symbols
        ≡ where_wanted (wanted true) (settled_fields symbols) ++ where_wanted (wanted false) last
    each wanted = ap (fields_where wanted true) (sym (append-nil symbols)) ∙ h.leaves.fields wanted []
        ∙ ap (λ xs. where_wanted (wanted true) (settled_fields symbols) ++ xs)
        (rw (sought_fields holding.held left sought wanted holding.begins [], append-nil left, is.fields wanted))

pub record IsEnd (symbols : List ℤ) (scale : ℕ) (given heard : List (List ℤ)) (runs segments cost : ℕ) : Type 0 where
  pub gives : given ≡ acquired_rest scale symbols
  pub hears : heard ≡ heard_rest symbols
  pub runs_are : runs ≡ acquired_runs symbols
  pub segments_are : segments ≡ length (acquired scale symbols)
  pub cost_is : cost ≡ acquired_cost scale symbols

pub ends : (holding : Holding) (symbols left : List ℤ) (on : Bool) (count runs segments cost : ℕ)
    (given heard : List (List ℤ)) → StandsFor holding symbols → IsSought holding.held left
    → (on ≡ true → agrees left 0 ≡ true) → (on ≡ true) ⊎ (length left < 832)
    → (on ≡ true → length left < 261248 → count ≡ length left / 832) → (on ≡ false → count ≡ 0)
    → given ≡ restored holding.scale (segments_from left 0 count) → heard ≡ segments_from left 0 count
    → runs ≡ holding.runs + begun (field_of count holding.begins left) → segments ≡ holding.segments + count
    → cost ≡ holding.cost + path_cost holding.scale (segments_from left 0 count)
    → IsEnd symbols holding.scale given heard runs segments cost
unfolding acquired_rest acquired_runs acquired acquired_cost heard_rest
ends holding symbols left on count runs segments cost given heard h sought front short whole none gives hears
    begun_are counted costs =
    let few : length left < 261248 = omega
    (arith, h.few, ap length sought.left, length-drop sought.count holding.held) in
    let last = last_is on holding.begins left count few front short whole none in
    let is = last.1 in
    let are = all_are holding symbols left on count last.0 h sought is in
    record {
      gives = gives ∙ sym (is.gives holding.scale) ∙ ap (restored_of holding.scale) (sym are.rest);
      hears = hears ∙ sym is.hears ∙ ap heard_in (sym are.rest);
      runs_are = begun_are
          ∙ ap₂ (λ a b. a + b) h.leaves.runs_are (sym is.runs)
          ∙ sym (runs_append (settled_fields symbols) last.0) ∙ ap runs_of (sym are.all);
      segments_are = counted
          ∙ ap₂ (λ a b. a + b) h.leaves.segments_are (sym (length-segments_from left 0 count)
          ∙ sym (length-restored holding.scale (segments_from left 0 count)) ∙ ap length (sym (is.gives holding.scale)))
          ∙ sym (length-append (restored_of holding.scale (settled_fields symbols)) (restored_of holding.scale last.0))
          ∙ ap length (sym (restored_append holding.scale (settled_fields symbols) last.0)
          ∙ ap (restored_of holding.scale) (sym are.all));
      cost_is = costs
          ∙ ap₂ (λ a b. a + b) h.leaves.cost_is (sym (is.costs holding.scale))
          ∙ sym (cost_append holding.scale (settled_fields symbols) last.0)
          ∙ ap (cost_of holding.scale) (sym are.all);
    }
