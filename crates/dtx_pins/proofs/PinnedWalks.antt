-- The walk back, one symbol further to the front.
use Rattle.std.proofs.Common.{◌≢◌, ◌⊎◌, inl, inr, ◌*◌, ◌%◌, ◌+ℤ◌, ◌≤ℤ◌}
use Rattle.std.proofs.Common.{◌≡◌, ℕ, zero, suc, ℤ, pos, ◌+◌, ◌/◌, ◌<◌, ◌≤◌, List, [], ◌∷◌, length, drop, get_or, refl}
use Rattle.std.proofs.Common.{sym, ap, ◌∙◌, slice_set, subst, take, arith, ◌-◌}
use Rattle.std.proofs.lemmas.Bool.{cases_eq}
use Rattle.std.proofs.lemmas.List.{drop_all, drop_more, drop-drop, get_or-drop, get_or-set_same, get_or-set_other}
use Rattle.std.proofs.lemmas.List.{length-set}
use borrow.Rule.Slice.PartMut.{put_mid}
use Rattle.dtx_soft.specs.Coders.{coder_symbols}
use Rattle.dtx_soft.specs.Gaps.{unit}
use Rattle.dtx_soft.specs.Paths.{next_state}
use Rattle.dtx_soft.proofs.SoftenedLemmas.{length-coder}
use Rattle.dtx_soft.proofs.WritesLemmas.{by_entry}
use Rattle.dtx_pins.specs.Pins.{coder_pins, pin_at}
use Rattle.dtx_pins.specs.Steps.{AreBounded, IsStep, cost_at, level_by, number_of, AreMultiples, weight}
use Rattle.dtx_pins.specs.Walks.{AreLeastCosts, AreLeastSums, AreWalked, IsLeastCost, IsMark, LeadsOn, StandAt}
use Rattle.dtx_soft.proofs.LeastPathLemmas.{next_small}
use Rattle.dtx_pins.proofs.PinnedPaths.{IsBestLevel, best_level, cost_more, nothing_cost, onto, onto_through}
use Rattle.dtx_pins.proofs.PinnedUnits.{AreStepUnits, IsStepAt, step_units}
use Rattle.dtx_pins.proofs.SegmentRows.{part_row, row_behind, row_within, symbol_in_segment}
use Rattle.dtx_pins.proofs.WeightTests.{is_weighed}

-- the pins of a coder
pub pin_in_column : (pins : List (List ℕ)) (e t : ℕ) → pin_at (coder_pins pins e) t ≡ pin_at (get_or pins t []) e
unfolding coder_pins
pin_in_column [] e t = refl
pin_in_column (entry ∷ pins) e zero = refl
pin_in_column (entry ∷ pins) e (suc t) = pin_in_column pins e t

pub pins_behind : (pins : List ℕ) (t u : ℕ) → u ≡ t + 1 → drop 1 (drop t pins) ≡ drop u pins
pins_behind pins t u e = drop-drop 1 t pins ∙ ap (λ n. drop n pins) (omega arith)

pub pin_here : (pins : List ℕ) (t : ℕ) → pin_at (drop t pins) 0 ≡ pin_at pins t
pin_here pins t = get_or-drop t pins 0 4 ∙ ap (λ n. pin_at pins n) (omega arith)

pub costs_more : (scale t u pin : ℕ) (pins : List ℕ) (symbols : List ℤ) (old new : List (List ℕ)) (mark : ℕ)
    → u ≡ t + 1 → t < length symbols → pin_at pins t ≡ pin → IsStepAt scale (get_or symbols t (pos 0)) pin old new mark
    → AreLeastCosts scale (drop u pins) (drop u symbols) old → AreLeastCosts scale (drop t pins) (drop t symbols) new
costs_more scale t u pin pins symbols old new mark e l same h below p s f m =
    let v : ℤ = get_or symbols t (pos 0) in
    let k : ℕ = number_of mark p s in
    let opened : drop t symbols ≡ get_or symbols t (pos 0) ∷ drop u symbols =
    drop_more symbols t (pos 0) l ∙ ap (λ n. get_or symbols t (pos 0) ∷ drop n symbols) (sym e) in
    let value : cost_at new p s ≡ onto scale (get_or symbols t (pos 0)) old s (level_by s (number_of mark p s)) =
    h.costs p s f m ∙ sym (onto_through scale (get_or symbols t (pos 0)) old s (number_of mark p s) m
    (h.best p s f m).small) in
    subst (λ symbols. IsLeastCost scale (drop t pins) symbols p s (cost_at new p s)) (sym opened)
    (subst (IsLeastCost scale (drop t pins) (v ∷ drop u symbols) p s) (sym value)
    (cost_more scale v (drop t pins) (drop u symbols) old p s (level_by s k)
    (subst (λ pins. AreLeastCosts scale pins (drop u symbols) old) (sym (pins_behind pins t u e)) below) m
    (subst (λ pin. IsBestLevel scale pin v old p s (level_by s k)) (sym (pin_here pins t ∙ same))
    (best_level scale pin v old p s k f m (h.best p s f m)))))

pub mark_more : (scale t u pin : ℕ) (pins : List ℕ) (symbols : List ℤ) (old new : List (List ℕ)) (mark : ℕ)
    → u ≡ t + 1 → pin_at pins t ≡ pin → IsStepAt scale (get_or symbols t (pos 0)) pin old new mark
    → AreLeastCosts scale (drop u pins) (drop u symbols) old → IsMark scale pins symbols t mark
mark_more scale t u pin pins symbols old new mark e same h below = record {
  behind = old;
  least = subst (λ n. AreLeastCosts scale (drop n pins) (drop n symbols) old) e below;
  best = λ p s f m. grind arith;
}

pub bounded_more : (scale : ℕ) (v : ℤ) (pin bound : ℕ) (old new : List (List ℕ)) (mark : ℕ) → scale ≤ 18
    → pos 0 ≤ℤ (v +ℤ pos 128) → v ≤ℤ pos 127 → IsStep (weight scale v) pin old new mark → AreBounded bound old
    → AreBounded (7168 + bound) new
bounded_more scale v pin bound old new mark l from to h below p s f m =
    let a = (h.best p s f m).small in
    let b = (is_weighed scale v (level_by s (number_of mark p s)) l from to (omega arith)).small in
    let d = below (number_of mark p s / 2) (next_state s (level_by s (number_of mark p s))) (omega arith)
    (next_small s (level_by s (number_of mark p s)) m) in
    let e = h.costs p s f m in
    omega (arith, b, d, e)

pub none_walked : (scale : ℕ) (pins : List (List ℕ)) (heard : List (List ℤ)) (sums : ℕ → List (List ℕ))
    (marks : List (List ℕ)) → ((e p s : ℕ) → e < 12 → p < 2 → s < 4 → cost_at (sums e) p s ≡ 0)
    → AreWalked scale (69 * length heard) pins heard sums marks
none_walked scale pins heard sums marks zeros = record {
  sums_are = λ e l. record {
    costs = sums e;
    least = λ p s f m. subst (λ symbols. IsLeastCost scale (drop (69 * length heard) (coder_pins pins e)) symbols p s
        (cost_at (sums e) p s)) (sym (grind (arith, drop_all, length-coder)))
        (subst (IsLeastCost scale (drop (69 * length heard) (coder_pins pins e)) [] p s) (sym (zeros e p s l f m))
        (nothing_cost scale (drop (69 * length heard) (coder_pins pins e)) p s));
    units = record {
      base = 0;
      lift = 0;
      each = λ p s f m. nothing (unit scale) _ (zeros e p s l f m);
    };
  };
  marks_are = λ k e l m o. absurd (omega arith);
}
  where
    nothing : (k x : ℕ) → x ≡ 0 → 4 * x + k * 0 ≡ 0 + k * x
    nothing k x e = subst (λ x. 4 * x + k * 0 ≡ 0 + k * x) (sym e) refl

-- the sums of a coder, one symbol further to the front
pub record AreMore (scale t u : ℕ) (pins : List ℕ) (symbols : List ℤ) (new : List (List ℕ)) (mark : ℕ) : Type 0 where
  pub sums_are : AreLeastSums scale (drop t pins) (drop t symbols) new
  pub mark_is : IsMark scale pins symbols t mark

sums_more : (scale t u pin : ℕ) (pins : List ℕ) (symbols : List ℤ) (old new : List (List ℕ)) (mark : ℕ)
    → scale ≤ 18 → pos 0 ≤ℤ (get_or symbols t (pos 0) +ℤ pos 128) → get_or symbols t (pos 0) ≤ℤ pos 127 → u ≡ t + 1
    → t < length symbols → pin_at pins t ≡ pin → IsStep (weight scale (get_or symbols t (pos 0))) pin old new mark
    → AreLeastSums scale (drop u pins) (drop u symbols) old → AreMore scale t u pins symbols new mark
sums_more scale t u pin pins symbols old new mark small from to e l same h below = record {
  sums_are = record {
    costs = units.after;
    least = costs_more scale t u pin pins symbols below.costs units.after mark e l same units.step below.least;
    units = units.units;
  };
  mark_is = mark_more scale t u pin pins symbols below.costs units.after mark e same units.step below.least;
}
  where
    units : AreStepUnits scale (get_or symbols t (pos 0)) pin below.costs new mark
    units = step_units scale (get_or symbols t (pos 0)) pin below.costs old new mark small from to below.units h

-- all coders, one symbol further to the front: their symbols and pins there, and their marks
pub one_walked : (scale t u : ℕ) (pins marks : List (List ℕ)) (heard : List (List ℤ)) (old new : ℕ → List (List ℕ))
    (symbols : List ℤ) (pin mark : List ℕ) → scale ≤ 18 → u ≡ t + 1 → u ≤ 69 * length heard
    → ((e : ℕ) → e < 12 → get_or (coder_symbols heard e) t (pos 0) ≡ get_or symbols e (pos 0))
    → get_or pins t [] ≡ pin → get_or marks t [] ≡ mark
    → ((e : ℕ) → e < 12 → pos 0 ≤ℤ (get_or symbols e (pos 0) +ℤ pos 128))
    → ((e : ℕ) → e < 12 → get_or symbols e (pos 0) ≤ℤ pos 127)
    → ((e : ℕ) → e < 12 → IsStep (weight scale (get_or symbols e (pos 0))) (pin_at pin e) (old e) (new e)
    (get_or mark e 0)) → AreWalked scale u pins heard old marks → AreWalked scale t pins heard new marks
one_walked scale t u pins marks heard old new symbols pin mark small e l symbol pin_is mark_is from to step h = record {
  sums_are = λ n m. (more n m).sums_are;
  marks_are = λ k n m o p. elim (cases_eq k t) [
    | inl d ↦ subst (λ k. IsMark scale (coder_pins pins n) (coder_symbols heard n) k (get_or (get_or marks k []) n 0))
        (sym d) (subst (λ mark. IsMark scale (coder_pins pins n) (coder_symbols heard n) t (get_or mark n 0))
        (sym mark_is)
        (more n p).mark_is)
    | inr d ↦ h.marks_are k n (omega arith) o p
  ];
}
  where
    more : (n : ℕ) → n < 12 → AreMore scale t u (coder_pins pins n) (coder_symbols heard n) (new n) (get_or mark n 0)
    more n m = sums_more scale t u (pin_at pin n) (coder_pins pins n) (coder_symbols heard n) (old n) (new n)
        (get_or mark n 0) small (subst (λ v. pos 0 ≤ℤ (v +ℤ pos 128)) (sym (symbol n m)) (from n m))
        (subst (λ v. v ≤ℤ pos 127) (sym (symbol n m)) (to n m)) e (omega (arith, length-coder heard n))
        (pin_in_column pins n t ∙ ap (λ pin. pin_at pin n) pin_is)
        (subst (λ v. IsStep (weight scale v) (pin_at pin n) (old n) (new n) (get_or mark n 0))
        (sym (symbol n m)) (step n m)) (h.sums_are n m)

-- the same, where the marks are kept elsewhere
pub marks_alike : (scale t : ℕ) (pins : List (List ℕ)) (heard : List (List ℤ)) (sums : ℕ → List (List ℕ))
    (marks others : List (List ℕ)) → ((k : ℕ) → t ≤ k → get_or others k [] ≡ get_or marks k [])
    → AreWalked scale t pins heard sums marks → AreWalked scale t pins heard sums others
marks_alike scale t pins heard sums marks others same h = grind arith

-- a symbol is a signed byte
abbrev pub IsByte : ℤ → Type 0
IsByte symbol = (pos 0 ≤ℤ (symbol +ℤ pos 128)) × (symbol ≤ℤ pos 127)

-- the first n coders have stepped, and the others have not
pub record AreStepped (scale : ℕ) (symbols : List ℤ) (pins : List ℕ) (n : ℕ) (old new : ℕ → List (List ℕ))
    (marks : List ℕ) : Type 0 where
  pub long : length marks ≡ 12
  pub done : (e : ℕ) → e < n → IsStep (weight scale (get_or symbols e (pos 0))) (pin_at pins e) (old e) (new e)
      (get_or marks e 0)
  pub multiples : (e : ℕ) → e < n → AreMultiples (new e)
  pub bytes : (e : ℕ) → e < n → IsByte (get_or symbols e (pos 0))
  pub left : (e : ℕ) → n ≤ e → new e ≡ old e

-- a step, where its sums are written elsewhere
pub step_written : (level_cost : ℕ → ℕ) (pin : ℕ) (old new put : List (List ℕ)) (mark : ℕ)
    → ((p s : ℕ) → p < 2 → s < 4 → cost_at put p s ≡ cost_at new p s) → IsStep level_cost pin old new mark
    → IsStep level_cost pin old put mark
step_written level_cost pin old new put mark e h = grind arith

pub multiples_written : (new put : List (List ℕ))
    → ((p s : ℕ) → p < 2 → s < 4 → cost_at put p s ≡ cost_at new p s) → AreMultiples new → AreMultiples put
multiples_written new put e h p s f m = ap (λ n. n % 4) (e p s f m) ∙ h p s f m

pub coder_stepped : (scale : ℕ) (symbols : List ℤ) (pins : List ℕ) (n : ℕ) (old now put : ℕ → List (List ℕ))
    (marks : List ℕ) (mark : ℕ) → n < 12
    → IsStep (weight scale (get_or symbols n (pos 0))) (pin_at pins n) (old n) (put n) mark → AreMultiples (put n)
    → IsByte (get_or symbols n (pos 0)) → ((k : ℕ) → k ≢ n → put k ≡ now k)
    → AreStepped scale symbols pins n old now marks
    → AreStepped scale symbols pins (n + 1) old put (slice_set marks n mark)
coder_stepped scale symbols pins n old now put marks mark l step multiples byte others h = record {
  long = length-set marks n mark ∙ h.long;
  done = λ e m. by_entry (λ e mark. IsStep (weight scale (get_or symbols e (pos 0))) (pin_at pins e) (old e) (put e)
      mark) marks n mark (omega (arith, h.long)) step e 0 (λ d. grind arith);
  multiples = λ e m. by_place e (cases_eq e n) m;
  bytes = λ e m. byte_by_place e (cases_eq e n) m;
  left = λ e m. others e (λ d. absurd (omega arith)) ∙ h.left e (omega arith);
}
  where
    by_place : (e : ℕ) → (e ≡ n) ⊎ (e ≢ n) → e < n + 1 → AreMultiples (put e)
    by_place e (inl d) m = subst (λ e. AreMultiples (put e)) (sym d) multiples
    by_place e (inr d) m = subst AreMultiples (sym (others e d)) (h.multiples e (omega arith))

    byte_by_place : (e : ℕ) → (e ≡ n) ⊎ (e ≢ n) → e < n + 1 → IsByte (get_or symbols e (pos 0))
    byte_by_place e (inl d) m = subst (λ e. IsByte (get_or symbols e (pos 0))) (sym d) byte
    byte_by_place e (inr d) m = h.bytes e (omega arith)

-- ---- a segment

-- the steps of a segment from step r on
abbrev pub LeadsTo : ℕ → ℕ → List ℤ → List (List ℕ) → ℕ → List (List ℕ) → (ℕ → List (List ℕ)) → (ℕ → List (List ℕ))
    → Type 0
LeadsTo scale turn segment pins r marks old new =
    (i : ℕ) (all_pins all_marks : List (List ℕ)) (heard : List (List ℤ)) → i < length heard → turn ≡ i % 3
    → segment ≡ get_or heard i [] → StandAt (69 * i) pins all_pins
    → ((k : ℕ) → r ≤ k → k < 69 → get_or all_marks (69 * i + k) [] ≡ get_or marks k [])
    → AreWalked scale (69 * (i + 1)) all_pins heard old all_marks
    → AreWalked scale (69 * i + r) all_pins heard new all_marks

pub one_led : (scale turn : ℕ) (segment : List ℤ) (pins marks : List (List ℕ)) (r u : ℕ)
    (start old new : ℕ → List (List ℕ)) (symbols : List ℤ) (pin mark : List ℕ) → scale ≤ 18 → u ≡ r + 1 → u ≤ 69
    → length marks ≡ 69 → ((e : ℕ) → e < 12 → get_or symbols e (pos 0)
    ≡ get_or segment (4 + 12 * r + (e + 12 - 4 * turn) % 12) (pos 0)) → pin ≡ get_or pins r []
    → ((e : ℕ) → e < 12 → pos 0 ≤ℤ (get_or symbols e (pos 0) +ℤ pos 128))
    → ((e : ℕ) → e < 12 → get_or symbols e (pos 0) ≤ℤ pos 127)
    → ((e : ℕ) → e < 12 → IsStep (weight scale (get_or symbols e (pos 0))) (pin_at pin e) (old e) (new e)
    (get_or mark e 0)) → LeadsTo scale turn segment pins u marks start old
    → LeadsTo scale turn segment pins r (slice_set marks r mark) start new
one_led scale turn segment pins marks r u start old new symbols pin mark small next l long symbol pin_is from to step h
    i all_pins all_marks heard f t at stand marks_are walked =
    one_walked scale (69 * i + r) (69 * i + u) all_pins all_marks heard old new symbols pin mark small (omega arith)
    (omega arith) here (stand r (omega arith) ∙ sym pin_is)
    (marks_are r (omega arith) (omega arith) ∙ get_or-set_same marks r mark [] (omega arith)) from to step
    (h i all_pins all_marks heard f t at stand behind walked)
  where
    here : (e : ℕ) → e < 12 → get_or (coder_symbols heard e) (69 * i + r) (pos 0) ≡ get_or symbols e (pos 0)
    here e m = symbol_in_segment heard turn i r e f (omega arith) t
        ∙ ap (λ segment. get_or segment (4 + 12 * r + (e + 12 - 4 * turn) % 12) (pos 0)) (sym at) ∙ sym (symbol e m)

    behind : (k : ℕ) → u ≤ k → k < 69 → get_or all_marks (69 * i + k) [] ≡ get_or marks k []
    behind k m o = marks_are k (omega arith) o ∙ get_or-set_other marks r k mark [] (λ d. absurd (omega arith))

-- all steps of segment i, where its rows have its pins before, and its marks behind it
pub segment_led : (scale turn i u k : ℕ) (pins rows marks : List (List ℕ)) (heard : List (List ℤ))
    (old new : ℕ → List (List ℕ)) → u ≡ i + 1 → i < length heard → turn ≡ i % 3 → k ≡ 69
    → length rows ≡ 69 * length heard → length marks ≡ k → ((t : ℕ) → t < 69 * u → get_or rows t [] ≡ get_or pins t [])
    → LeadsOn scale turn (get_or heard i []) (take k (drop (69 * i) rows)) marks old new
    → AreWalked scale (69 * u) pins heard old rows
    → AreWalked scale (69 * i) pins heard new (put_mid (69 * i) k rows marks)
segment_led scale turn i u k pins rows marks heard old new next l t size long few before leads h =
    leads i pins (put_mid (69 * i) k rows marks) heard l t refl
    (λ r m. sym (before (69 * i + r) (omega arith)) ∙ sym (part_row (69 * i) k r rows (omega arith)))
    (λ r m. row_within (69 * i) k r rows marks (omega arith) (omega arith)) (grind (arith, marks_alike, row_behind))
