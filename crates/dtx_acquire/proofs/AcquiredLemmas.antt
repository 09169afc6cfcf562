-- Lemmas of what is acquired: of first symbols, of more behind them, and of their end.
use Rattle.std.proofs.Common.{◌≡◌, ℕ, ℤ, zero, suc, ◌+◌, ◌<◌, ◌≤◌, ◌⊎◌, inl, inr, Bool, true, false, not, Option, Some}
use Rattle.std.proofs.Common.{None, List, [], ◌∷◌, ◌++◌, length, take, drop, append_assoc, refl, sym, ap, ap₂, ◌∙◌}
use Rattle.std.proofs.Common.{arith, length-append}
use Rattle.std.proofs.lemmas.Bool.{cond-true, cases_lt}
use Rattle.std.proofs.lemmas.List.{append-nil, length-drop, length-take-le, take-append-drop}
use Rattle.std.proofs.lemmas.Grind.{flat_map-append}
use Rattle.dtx_acquire.specs.Agreement.{agrees, least_from}
use Rattle.dtx_acquire.specs.Acquired.{Field, acquired, acquired_cost, acquired_rest, acquired_runs, acquired_so_far}
use Rattle.dtx_acquire.specs.Acquired.{fields_where, restored, restored_of, IsSame, all_fields, heard_in, heard_rest}
use Rattle.dtx_acquire.specs.Acquired.{heard_so_far, last_fields, settled_fields}
use Rattle.dtx_acquire.specs.Acquirer.{field_of, where_wanted}
use Rattle.dtx_acquire.proofs.PlacesLemmas.{least_gives}
use Rattle.dtx_acquire.proofs.FieldsLemmas.{fields_short, fields_skip, unmet, wanted_both}
use Rattle.dtx_acquire.proofs.StepsLemmas.{sought_fields, step_due, step_kept, step_lost}
use Rattle.dtx_acquire.proofs.WholeLemmas.{length-restored}

pub restored_append : (scale : ℕ) (xs ys : List Field)
    → restored_of scale (xs ++ ys) ≡ restored_of scale xs ++ restored_of scale ys
unfolding restored_of
restored_append scale xs ys = flat_map-append (λ (field : Field). restored scale field.segments) xs ys

pub heard_append : (xs ys : List Field) → heard_in (xs ++ ys) ≡ heard_in xs ++ heard_in ys
heard_append xs ys = flat_map-append (λ (field : Field). field.segments) xs ys

-- ---- lengths

-- As many segments are restored as were received.
pub length-heard_in : (scale : ℕ) (fields : List Field) → length (heard_in fields) ≡ length (restored_of scale fields)
unfolding restored_of
length-heard_in scale [] = refl
length-heard_in scale (x ∷ xs) = length-append x.segments (heard_in xs)
    ∙ ap₂ (λ a b. a + b) (sym (length-restored scale x.segments)) (length-heard_in scale xs)
    ∙ sym (length-append (restored scale x.segments) (restored_of scale xs))

pub length-heard_so_far : (scale : ℕ) (symbols : List ℤ)
    → length (heard_so_far symbols) ≡ length (acquired_so_far scale symbols)
unfolding heard_so_far acquired_so_far
length-heard_so_far scale symbols = length-heard_in scale (settled_fields symbols)

-- ---- symbols in front

pub same_behind : (scale : ℕ) (front symbols : List ℤ)
    → ((p : ℕ) → p < length front → agrees (front ++ symbols) p ≡ false) → IsSame scale (front ++ symbols) symbols
unfolding acquired acquired_runs acquired_cost
same_behind scale front symbols h = grind (arith, fields_skip)

-- ---- first symbols

-- These fields are settled, whatever follows. The others are those of the symbols that are held, with what follows.
abbrev pub AreSettled : Bool → List ℤ → List Field → Bool → List ℤ → Type 0
AreSettled begins symbols done next held = (wanted : Bool → Bool) (more : List ℤ)
    → fields_where wanted begins (symbols ++ more)
    ≡ where_wanted (wanted true) done ++ fields_where wanted next (held ++ more)

-- with nothing behind the symbols
fields_now : (begins next : Bool) (symbols held : List ℤ) (done : List Field)
    → AreSettled begins symbols done next held → (wanted : Bool → Bool)
    → fields_where wanted begins symbols ≡ where_wanted (wanted true) done ++ fields_where wanted next held
fields_now begins next symbols held done h wanted = rw (← append-nil symbols, h wanted [], append-nil held)

pub settled_by : (next : Bool) (symbols held : List ℤ) (done : List Field) → AreSettled true symbols done next held
    → length held < 261248 → settled_fields symbols ≡ done
settled_by next symbols held done h few = fields_now true next symbols held done h (λ met. met)
    ∙ ap (λ xs. done ++ xs) (fields_short next held few) ∙ append-nil done

-- settled fields, and fewer than so many symbols behind them
record Parting (begins : Bool) (symbols : List ℤ) (most : ℕ) : Type 0 where
  done : List Field
  next : Bool
  held : List ℤ
  few : length held < most
  fields : AreSettled begins symbols done next held

none_more : (b : Bool) (xs : List Field) → xs ≡ where_wanted b [] ++ xs
none_more true xs = refl
none_more false xs = refl

-- the first field of many symbols, or their first symbol where no sync is in front
first_parted : (begins : Bool) (h v : List ℤ) → length h ≡ 261248 → Parting begins (h ++ v) (length (h ++ v))
first_parted begins h v full = by_front (agrees h 0) refl
  where
    field : (next : Bool) (count given : ℕ) → 0 < count
        → AreSettled begins h (field_of given begins h ∷ []) next (drop count h)
        → Parting begins (h ++ v) (length (h ++ v))
    field next count given some fields = record {
      done = field_of given begins h ∷ [];
      next = next;
      held = drop count h ++ v;
      few = omega (arith, some, full, length-append h v, length-append (drop count h) v, length-drop count h);
      fields = λ wanted more. simp append_assoc (fields wanted (v ++ more));
    }

    by_least : agrees h 0 ≡ true → agrees h 260416 ≡ false → (o : Option ℕ) → least_from h 1 ≡ o
        → Parting begins (h ++ v) (length (h ++ v))
    by_least a d None e = field true 260417 313 (omega arith) (λ wanted more. step_kept wanted begins h more full a d e)
    by_least a d (Some r) e =
        field true r 0 (least_gives agrees h 1 r e).least (λ wanted more. step_lost wanted begins r h more full a d e)

    by_due : agrees h 0 ≡ true → (d : Bool) → agrees h 260416 ≡ d → Parting begins (h ++ v) (length (h ++ v))
    by_due a true d = field false 260416 313 (omega arith) (λ wanted more. step_due wanted begins h more full a d)
    by_due a false d = by_least a d (least_from h 1) refl

    by_front : (a : Bool) → agrees h 0 ≡ a → Parting begins (h ++ v) (length (h ++ v))
    by_front true a = by_due a (agrees h 260416) refl
    by_front false a = record {
      done = [];
      next = begins;
      held = drop 1 h ++ v;
      few = omega (arith, full, length-append h v, length-append (drop 1 h) v, length-drop 1 h);
      fields = λ wanted more. simp append_assoc (sought_fields h (drop 1 h) (record {
        count = 1;
        within = omega (arith, full);
        left = refl;
        none = λ p l. (let zero : p ≡ 0 = omega arith in (omega (arith, full), ap (agrees h) zero ∙ a));
      }) wanted begins (v ++ more) ∙ none_more (wanted true) _);
    }

parted : (n : ℕ) (begins : Bool) (symbols : List ℤ) → length symbols ≤ n
    → (length symbols < 261248) ⊎ (261248 ≤ length symbols) → Parting begins symbols 261248
parted n begins symbols l (inl few) = record {
  done = [];
  next = begins;
  held = symbols;
  few = few;
  fields = λ wanted more. none_more (wanted true) _;
}
parted zero begins symbols l (inr many) = absurd (omega arith)
parted (suc n) begins symbols l (inr many) =
    let all : take 261248 symbols ++ drop 261248 symbols ≡ symbols = take-append-drop 261248 symbols in
    let a = first_parted begins (take 261248 symbols) (drop 261248 symbols) (length-take-le 261248 symbols many) in
    let b = parted n a.next a.held (omega (arith, a.few, ap length all)) (cases_lt (length a.held) 261248) in
    record {
      done = a.done ++ b.done;
      next = b.next;
      held = b.held;
      few = b.few;
      fields = λ wanted more.
          ap (λ (xs : List ℤ). fields_where wanted begins (xs ++ more)) (sym all) ∙ a.fields wanted more
          ∙ ap (λ xs. where_wanted (wanted true) a.done ++ xs) (b.fields wanted more)
          ∙ wanted_both (wanted true) a.done b.done (fields_where wanted b.next (b.held ++ more));
    }

-- all symbols, and what is settled of them
record AreParted (symbols : List ℤ) : Type 0 where
  parts : Parting true symbols 261248
  settled : settled_fields symbols ≡ parts.done

all_parted : (symbols : List ℤ) → AreParted symbols
all_parted symbols =
    let p = parted (length symbols) true symbols (omega arith) (cases_lt (length symbols) 261248) in
    record { parts = p; settled = settled_by p.next symbols p.held p.done p.fields p.few }

-- none of few symbols is settled
few_unmet : (begins : Bool) (v : List ℤ) → length v < 261248
    → fields_where (λ met. true) begins v ≡ fields_where not begins v
unfolding fields_where
few_unmet begins v few = grind (arith, cond-true, unmet)

parted_fields : (symbols : List ℤ) → all_fields symbols ≡ settled_fields symbols ++ last_fields symbols
parted_fields symbols =
    let all = all_parted symbols in
    let p = all.parts in
    let now = fields_now true p.next symbols p.held p.done p.fields in
    now (λ met. true) ∙ ap₂ ◌++◌ (sym all.settled) (few_unmet p.next p.held p.few ∙ sym (now not))

-- What is acquired of symbols, whatever follows, and what their end adds are all.
pub all_is_acquired : (scale : ℕ) (symbols : List ℤ)
    → acquired_so_far scale symbols ++ acquired_rest scale symbols ≡ acquired scale symbols
unfolding acquired acquired_so_far acquired_rest
all_is_acquired scale symbols = grind (arith, parted_fields, restored_append)

-- The same is true of the segments as they were received.
pub all_is_heard : (symbols : List ℤ) → heard_so_far symbols ++ heard_rest symbols ≡ heard_in (all_fields symbols)
unfolding heard_so_far heard_rest
all_is_heard symbols = grind (arith, parted_fields, heard_append)

-- ---- more symbols

pub none_so_far : (scale : ℕ) → acquired_so_far scale [] ≡ []
unfolding acquired_so_far restored_of
none_so_far scale = ap (restored_of scale) (fields_short true [] (omega arith))

pub none_heard : heard_so_far [] ≡ []
unfolding heard_so_far
none_heard = ap heard_in (fields_short true [] (omega arith))

settled_grow : (s t : List ℤ) → (others : List Field) × (settled_fields (s ++ t) ≡ settled_fields s ++ others)
settled_grow s t =
    let all = all_parted s in
    let others = fields_where (λ met. met) all.parts.next (all.parts.held ++ t) in
    (others, all.parts.fields (λ met. met) t ∙ ap (λ xs. xs ++ others) (sym all.settled))

-- What is acquired of first symbols is a front part of what is acquired of more.
pub so_far_grows : (scale : ℕ) (s t : List ℤ)
    → (more : List (List ℤ)) × (acquired_so_far scale (s ++ t) ≡ acquired_so_far scale s ++ more)
unfolding acquired_so_far
so_far_grows scale s t =
    let found = settled_grow s t in (
      restored_of scale found.0,
      ap (restored_of scale) found.1 ∙ restored_append scale (settled_fields s) found.0,
    )

-- The same is true of the segments as they were received.
pub heard_grows : (s t : List ℤ) → (more : List (List ℤ)) × (heard_so_far (s ++ t) ≡ heard_so_far s ++ more)
unfolding heard_so_far
heard_grows s t =
    let found = settled_grow s t in
    (heard_in found.0, ap heard_in found.1 ∙ heard_append (settled_fields s) found.0)
